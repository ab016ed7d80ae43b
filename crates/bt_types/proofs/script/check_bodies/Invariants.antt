use Rattle.std.proofs.Common.{take}
use Rattle.bt_types.specs.Open.{BodiesDone}
use Rattle.bt_types.proofs.script.check_bodies.Given as goal

-- what was seen so far is done
abbrev pub invariant-loop-id : goal.invariant-loop-id
invariant-loop-id l = BodiesDone l.script l.formats (take l.id-index l.bodies) l.fn.known l.known l.all
