use Rattle.top_refusals.proofs.tell.tell_rule.Goals as goal

pub returns : goal.returns
returns g c = rw (← c.from.ensures) c.write_line.ensures
