-- Only for proofs: rows that are merged one after the other.
use Rattle.std.specs.Prelude.{◌≡◌, List, Option, None, Some}
use Rattle.std.specs.BTreeMap.{insert_entry}
use Rattle.std.specs.List.{All}
use Rattle.std.specs.Map.{lookup, set_value, values_of}
use Rattle.bt_core.specs.declared.item.Cell.{Cell}
use Rattle.bt_core.specs.declared.item.Cell.TheVariants as cells
use Rattle.bt_core.specs.declared.map.AggKind.{AggKind}
use Rattle.bt_core.specs.declared.map.MapKind.{MapKind}
use Rattle.bt_core.specs.declared.map.MapKind.TheVariants.{Aggs}
use Rattle.bt_core.specs.declared.value.Value.{Value}
use Rattle.bt_core.specs.Order.{key_order}
use Rattle.agg_core.specs.Changes.{is_key}
use Rattle.map_rows.specs.Merged.{both_cells}

-- a row among rows that hold this under its key
abbrev pub row_beside : Option Cell → List (List Value × Cell) → (List Value × Cell) → List (List Value × Cell)
row_beside None rows row = insert_entry key_order rows row.0 row.1
row_beside (Some cell) rows row = set_value (is_key row.0) rows (both_cells cell row.1)

-- one row more
abbrev pub with_row : List (List Value × Cell) → (List Value × Cell) → List (List Value × Cell)
with_row rows row = row_beside (lookup (is_key row.0) rows) rows row

-- an aggregate here is of this kind
abbrev pub HasAggKind : AggKind → Cell → Type 0
HasAggKind kind (cells.Value v) = Unit {0}
HasAggKind kind (cells.Agg a) = a.kind ≡ kind

abbrev pub AllHaveAggKind : AggKind → List (List Value × Cell) → Type 0
AllHaveAggKind kind rows = All (HasAggKind kind) (values_of rows)

-- no aggregate here is of another kind than the map's
abbrev pub AllHaveKind : MapKind → List (List Value × Cell) → Type 0
AllHaveKind (Aggs kind) rows = AllHaveAggKind kind rows
AllHaveKind kind rows = Unit {0}
