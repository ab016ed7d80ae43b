use Rattle.std.proofs.Common.{◌≡◌, ◌++◌, map, drop}
use Rattle.typed_tree.specs.Parts.{made_of, key_shapes}
use Rattle.expr_types.proofs.maps.shapes.Given as goal

-- what there is, with what is to come, is all
abbrev pub invariant-loop-key : goal.invariant-loop-key
invariant-loop-key l = l.shapes ++ key_shapes (map made_of (drop l.key-index l.keys)) ≡ key_shapes (map made_of l.keys)
