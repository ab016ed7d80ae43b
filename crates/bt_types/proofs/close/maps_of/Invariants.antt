use Rattle.std.proofs.Common.{◌≡◌, map, take}
use Rattle.expr_types.specs.Known.{decl_in}
use Rattle.bt_types.specs.Script.{decl_or_none}
use Rattle.bt_types.proofs.close.maps_of.Given as goal

-- what was seen so far
abbrev pub invariant-loop-name : goal.invariant-loop-name
invariant-loop-name l = l.maps ≡ map (λ name. decl_or_none name (decl_in name l.known.decided)) (take l.name-index l.name-items)
