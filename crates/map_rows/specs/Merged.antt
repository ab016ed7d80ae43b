-- The rows of a map as one list, from the replies of the objects that hold parts of it.
use Rattle.std.specs.Prelude.{pos, List, [], ◌∷◌, map, fold}
use Rattle.std.specs.List.{All, filter, flat_map}
use Rattle.bt_core.specs.declared.agg.Agg.{Agg}
use Rattle.bt_core.specs.declared.item.Cell.{Cell}
use Rattle.bt_core.specs.declared.item.Cell.TheVariants as cells
use Rattle.bt_core.specs.declared.map.MapKind.{MapKind}
use Rattle.bt_core.specs.declared.map.MapKind.TheVariants.{Aggs}
use Rattle.bt_core.specs.declared.step.Reply.{Reply}
use Rattle.bt_core.specs.declared.step.Reply.TheVariants as replies
use Rattle.bt_core.specs.declared.value.Value.{Value}
use Rattle.bt_core.specs.declared.value.Value.TheVariants.{Int}
use Rattle.bt_core.specs.Kinds.{IsOfKind, IsAggOf}
use Rattle.agg_core.specs.Aggregates.{agg_merged}
use Rattle.agg_core.specs.Changes.{is_key, with_key}

abbrev pub value_row : (List Value × Value) → (List Value × Cell)
value_row row = (row.0, cells.Value row.1)

abbrev pub agg_row : (List Value × Agg) → (List Value × Cell)
agg_row row = (row.0, cells.Agg row.1)

-- the rows of a reply to who reads a map of this kind: aggregates for an aggregation, and values for any other map
abbrev pub rows_in : MapKind → Reply → List (List Value × Cell)
rows_in (Aggs kind) (replies.Aggs rows) = map agg_row rows
rows_in (Aggs kind) reply = []
rows_in kind (replies.Pairs rows) = map value_row rows
rows_in kind reply = []

-- the rows of aggregates of a reply
abbrev pub agg_rows : Reply → List (List Value × Cell)
agg_rows (replies.Aggs rows) = map agg_row rows
agg_rows reply = []

-- those of all replies, one reply after the other
abbrev pub all_rows : MapKind → List Reply → List (List Value × Cell)
all_rows kind replies = flat_map (rows_in kind) replies

-- the keys of the rows, in key order, each once
abbrev pub ordered_keys : List (List Value × Cell) → List (List Value)
ordered_keys [] = []
ordered_keys (row ∷ rows) = with_key row.0 (ordered_keys rows)

-- what stands under the key in these rows, in their order
abbrev pub cells_at : List Value → List (List Value × Cell) → List Cell
cells_at key rows = map (λ row. row.1) (filter (λ row. is_key key row.0) rows)

-- aggregates are merged, and of values the first stays
abbrev pub both_cells : Cell → Cell → Cell
both_cells (cells.Agg a) (cells.Agg b) = cells.Agg (agg_merged a b)
both_cells cell later = cell

-- all of them, one after the other; a key of some row has at least one
abbrev pub joined_cells : List Cell → Cell
joined_cells [] = cells.Value (Int (pos 0))
joined_cells (cell ∷ later) = fold both_cells cell later

-- each key of the rows with what they hold under it
abbrev pub merged_rows : List (List Value × Cell) → List (List Value × Cell)
merged_rows rows = map (λ key. (key, joined_cells (cells_at key rows))) (ordered_keys rows)

-- the rows of a map of this kind: all keys of the replies in key order, each once, under each the merged aggregate of its
-- aggregates, or the value of the first reply that holds it
unfoldable pub merged : MapKind → List Reply → List (List Value × Cell)
merged kind replies = merged_rows (all_rows kind replies)

-- the reply has rows, and each of them is one of a map of this kind
abbrev pub HasRowsOf : MapKind → Reply → Type 0
HasRowsOf kind (replies.Pairs rows) = All (λ row. IsOfKind kind row.1) rows
HasRowsOf kind (replies.Aggs rows) = All (λ row. IsAggOf kind row.1) rows
HasRowsOf kind reply = ⊥
