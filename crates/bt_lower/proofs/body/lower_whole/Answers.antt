use Rattle.bt_lower.proofs.Bodies.{Tree-steps}
use Rattle.bt_lower.proofs.body.lower_whole.Goals as goal

pub returns : goal.returns
returns c = λ empty. Tree-steps _ _ _ _ _ _ empty c.in_ok-end.ensures.closed c.in_ok-end.ensures.number c.in_ok-lower_guarded.ensures c.in_ok-close.ensures.closed
