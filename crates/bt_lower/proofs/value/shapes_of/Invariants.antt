use Rattle.std.proofs.Common.{◌≡◌, take}
use Rattle.typed_tree.specs.Parts.{key_shapes}
use Rattle.bt_lower.specs.Lowers.{all_made}
use Rattle.bt_lower.proofs.value.shapes_of.Given as goal

abbrev pub invariant-loop-key : goal.invariant-loop-key
invariant-loop-key l = l.shapes ≡ key_shapes (all_made (take l.key-index l.keys))
