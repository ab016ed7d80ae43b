-- What the merged rows of replies are, told of all rows of the replies.
use Rattle.std.specs.Prelude.{◌≡◌, ◌↔◌, List, ◌∷◌, map, fold, Contains}
use Rattle.std.specs.List.{All}
use Rattle.std.specs.List.Sorted.{IsStrictlySortedBy}
use Rattle.std.specs.Map.{keys_of}
use Rattle.bt_core.specs.declared.agg.Agg.{Agg}
use Rattle.bt_core.specs.declared.item.Cell.{Cell}
use Rattle.bt_core.specs.declared.item.Cell.TheVariants as cells
use Rattle.bt_core.specs.declared.map.MapKind.{MapKind}
use Rattle.bt_core.specs.declared.map.MapKind.TheVariants.{Aggs}
use Rattle.bt_core.specs.declared.step.Reply.{Reply}
use Rattle.bt_core.specs.declared.value.Value.{Value}
use Rattle.bt_core.specs.Order.{key_order}
use Rattle.agg_core.specs.Aggregates.{agg_merged}
use Rattle.map_rows.specs.Merged.{all_rows, cells_at}

-- the cell is the first of these
pub record IsFirst (held : List Cell) (cell : Cell) : Type 0 where
  pub later : List Cell
  pub is : held ≡ cell ∷ later

-- the cell is the merged aggregate of these, of which there is one at least
pub record IsMergedOf (held : List Cell) (cell : Cell) : Type 0 where
  pub first : Agg
  pub later : List Agg
  pub aggregates : held ≡ map cells.Agg (first ∷ later)
  pub is : cell ≡ cells.Agg (fold agg_merged first later)

-- what stands under a key whose rows hold these
abbrev pub StandsFor : MapKind → List Cell → Cell → Type 0
StandsFor (Aggs kind) held cell = IsMergedOf held cell
StandsFor kind held cell = IsFirst held cell

-- rows of all keys of the replies, in key order, each once, and under each what the replies hold at it
pub record AreMergedRows (kind : MapKind) (replies : List Reply) (rows : List (List Value × Cell)) : Type 0 where
  pub in_order : IsStrictlySortedBy key_order (keys_of rows)
  pub keys : (key : List Value) → Contains (keys_of rows) key ↔ Contains (keys_of (all_rows kind replies)) key
  pub cells : All (λ row. StandsFor kind (cells_at row.0 (all_rows kind replies)) row.1) rows
