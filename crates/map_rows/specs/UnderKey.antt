-- The number of an aggregation under a key.
use Rattle.std.specs.Prelude.{ℤ, pos, List, Option, Some, None}
use Rattle.std.specs.Map.{lookup}
use Rattle.bt_core.specs.declared.item.Cell.{Cell}
use Rattle.bt_core.specs.declared.item.Cell.TheVariants as cells
use Rattle.bt_core.specs.declared.value.Value.{Value}
use Rattle.agg_core.specs.Changes.{is_key}
use Rattle.map_rows.specs.Numbers.{number_of}

-- the number of an aggregate, where there is one
abbrev pub cell_number : Option Cell → ℤ
cell_number None = pos 0
cell_number (Some (cells.Value value)) = pos 0
cell_number (Some (cells.Agg agg)) = number_of agg

-- the number under a key of these rows, and 0 where they have no aggregate under it
abbrev pub number_under : List Value → List (List Value × Cell) → ℤ
number_under key rows = cell_number (lookup (is_key key) rows)
