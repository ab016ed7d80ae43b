use Rattle.std.proofs.Common.{◌≡◌, drop}
use Rattle.walk_meaning.specs.Maps.{kind_in_body}
use Rattle.bt_walk.proofs.view.kind_in_body.Given as goal

abbrev pub invariant-loop-declared : goal.invariant-loop-declared
invariant-loop-declared l = kind_in_body l.map (drop l.declared-index l.maps) ≡ kind_in_body l.map l.maps
