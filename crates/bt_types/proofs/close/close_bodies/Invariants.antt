use Rattle.std.specs.List.{AllZip}
use Rattle.bt_types.specs.Open.{IsClosed}
use Rattle.bt_types.proofs.close.close_bodies.Given as goal

-- what was seen so far
abbrev pub invariant-loop-body : goal.invariant-loop-body
invariant-loop-body l = AllZip (IsClosed l.maps l.formats) l.yielded l.all
