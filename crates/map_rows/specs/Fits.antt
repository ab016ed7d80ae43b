-- Rows that a map can hold.
use Rattle.std.specs.Prelude.{List, ◌∷◌}
use Rattle.std.specs.List.{All}
use Rattle.bt_core.specs.declared.item.Cell.{Cell}
use Rattle.bt_core.specs.declared.item.Cell.TheVariants as cells
use Rattle.bt_core.specs.declared.map.MapDecl.{MapDecl}
use Rattle.bt_core.specs.declared.map.MapKind.{MapKind}
use Rattle.bt_core.specs.declared.step.Reply.{Reply}
use Rattle.bt_core.specs.declared.step.Reply.TheVariants as replies
use Rattle.bt_core.specs.declared.value.Value.{Value}
use Rattle.bt_core.specs.Kinds.{HasShape, IsOfKind, IsAggOf}

-- a map of this kind can hold it
abbrev pub IsCellOf : MapKind → Cell → Type 0
IsCellOf kind (cells.Value v) = IsOfKind kind v
IsCellOf kind (cells.Agg a) = IsAggOf kind a

-- the key has the map's shape, and the map can hold what stands under it
abbrev pub IsRowOf : MapDecl → (List Value × Cell) → Type 0
IsRowOf decl row = HasShape decl.key_shape row.0 × IsCellOf decl.kind row.1

-- a reply to who reads the map: rows of its shape and kind
abbrev pub IsReadReply : MapDecl → Reply → Type 0
IsReadReply decl (replies.Pairs rows) = All (λ row. HasShape decl.key_shape row.0 × IsOfKind decl.kind row.1) rows
IsReadReply decl (replies.Aggs rows) = All (λ row. HasShape decl.key_shape row.0 × IsAggOf decl.kind row.1) rows
IsReadReply decl reply = ⊥

-- each map's rows are rows that it can hold
abbrev pub AllRowsFit : List MapDecl → List (List (List Value × Cell)) → Type 0
AllRowsFit (m ∷ ms) (rows ∷ more) = All (IsRowOf m) rows × AllRowsFit ms more
AllRowsFit ms more = Unit {0}
