-- The parts of a body, and what it may name.
use Rattle.std.specs.Prelude.{ℕ, false, List, [], ◌∷◌, ◌++◌, Option, Some, None}
use Rattle.bt_core.specs.declared.map.MapDecl.{MapDecl}
use Rattle.bt_core.specs.declared.map.MapId.{MapId}
use Rattle.bt_core.specs.declared.map.Shape.{Shape}
use Rattle.fmt_text.specs.declared.piece.Piece.{Piece}
use Rattle.event_layout.specs.declared.layout.Layout.{Layout}
use Rattle.typed_tree.specs.declared.body.TypedTree.{TypedTree}
use Rattle.typed_tree.specs.declared.expr.NumExpr.{NumExpr}
use Rattle.typed_tree.specs.Parts.{TreePart, Otherwise, NoOtherwise, num_parts, block_parts}
use Rattle.typed_tree.specs.Scope.{Scope}

abbrev pub predicate_parts : Option NumExpr → List TreePart
predicate_parts None = NoOtherwise ∷ []
predicate_parts (Some e) = Otherwise ∷ num_parts e

-- the predicate, and the block outside of loops
abbrev pub tree_parts : TypedTree → List TreePart
tree_parts tree = predicate_parts tree.predicate ++ block_parts tree.block false

abbrev pub scope_of : List (MapId × MapDecl) → List (ℕ × List Piece) → Option Layout → List Shape → Scope
scope_of maps formats layout variables = record { maps = maps; formats = formats; layout = layout; variables = variables }
