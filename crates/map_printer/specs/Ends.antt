-- What is printed of all maps at the end of a run.
use Rattle.std.specs.Prelude.{ℕ, ℤ, pos, ◌++◌, nat_lt, List, [], ◌∷◌, codes, decimal, cond}
use Rattle.bt_core.specs.declared.item.Cell.{Cell}
use Rattle.bt_core.specs.declared.map.MapDecl.{MapDecl}
use Rattle.bt_core.specs.declared.value.Value.{Value}
use Rattle.map_printer.specs.Rows.{map_text}
use Rattle.map_printer.specs.RowOrder.{in_value_order, top_rows}

-- the text of a map: its last rows in the order of their values, as many as `top` says, each divided by `div`
abbrev pub printed_map : MapDecl → List (List Value × Cell) → ℕ → ℤ → List ℕ
printed_map decl rows top div = map_text decl.name div (top_rows top (in_value_order rows))

-- a line of its own
abbrev pub warning_text : ℕ → List ℕ → List ℕ
warning_text lost name = codes "WARNING: " ++ (decimal lost ++ (codes " updates lost in " ++ (name ++ codes "\n")))

-- the warning that so many updates of the map were lost, if any
abbrev pub lost_text : ℕ → List ℕ → List ℕ
lost_text lost name = cond (nat_lt 0 lost) (warning_text lost name) []

-- each map with its rows, in map order: all rows, and nothing divided
abbrev pub map_texts : List MapDecl → List (List (List Value × Cell)) → List ℕ
map_texts (m ∷ ms) (rows ∷ more) = printed_map m rows 0 (pos 1) ++ map_texts ms more
map_texts ms more = []

-- each map's warning, in map order
abbrev pub warnings : List MapDecl → List ℕ → List ℕ
warnings (m ∷ ms) (lost ∷ more) = lost_text lost m.name ++ warnings ms more
warnings ms more = []

-- the maps, and then the warnings
abbrev pub end_text : List MapDecl → List (List (List Value × Cell)) → List ℕ → List ℕ
end_text maps rows lost = map_texts maps rows ++ warnings maps lost
