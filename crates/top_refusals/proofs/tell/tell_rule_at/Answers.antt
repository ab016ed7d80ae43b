use Rattle.top_refusals.proofs.tell.tell_rule_at.Goals as goal

pub returns : goal.returns
returns g c = rw (← c.from.ensures, ← c.from-2.ensures) c.write_line.ensures
