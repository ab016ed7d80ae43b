use Rattle.top_refusals.proofs.tell.tell_count.Goals as goal

pub returns : goal.returns
returns g c = rw (← c.count_word.ensures) c.write_line.ensures
