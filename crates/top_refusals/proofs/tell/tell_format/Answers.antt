use Rattle.top_refusals.proofs.tell.tell_format.Goals as goal

pub returns-in-None : goal.returns-in-None
returns-in-None g c = rw (← c.rule_told-line.ensures, c.in-None.is) c.tell_rule.ensures

pub returns-in-Some : goal.returns-in-Some
returns-in-Some g c = rw (← c.rule_told-line.ensures, c.in-Some.is) c.tell_rule_at.ensures
