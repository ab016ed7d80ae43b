-- The lines of items of output, and those of the end of a run.
use Rattle.std.specs.Prelude.{ℕ, ℤ, pos, ◌++◌, nat_lt, List, [], ◌∷◌, Option, None, Some, map, slice_get, cond, codes}
use Rattle.bt_core.specs.declared.item.Cell.{Cell}
use Rattle.bt_core.specs.declared.item.Item.{Item}
use Rattle.bt_core.specs.declared.item.Item.TheVariants.{Printf, Map, Cut, Lost}
use Rattle.bt_core.specs.declared.map.MapDecl.{MapDecl}
use Rattle.bt_core.specs.declared.value.Value.{Value}
use Rattle.fmt_text.specs.declared.piece.Piece.{Piece}
use Rattle.fmt_text.specs.Rendered.{rendered}
use Rattle.map_printer.specs.RowOrder.{in_value_order, top_rows}
use Rattle.serde_json.specs.Data.{Data, unsigned, number, string, object, no_members, member}
use Rattle.json_out.specs.Rows.{row_data}
use Rattle.json_out.specs.Texts.{text_data, list_data, json_line}

-- what a call printed
abbrev pub printf_data : List ℕ → Data
printf_data text = object (member (codes "data") (text_data text) (member (codes "type") (string (codes "printf")) no_members))

-- the rows of the map of this name
abbrev pub map_data : List ℕ → List Data → Data
map_data name rows =
    object (member (codes "data") (list_data rows) (member (codes "map") (text_data name) (member (codes "type") (string (codes "map")) no_members)))

-- a run was cut at the loop on this line
abbrev pub cut_data : ℕ → Data
cut_data line = object (member (codes "line") (number (unsigned line)) (member (codes "type") (string (codes "cut")) no_members))

-- so many events of the CPU of this number were lost
abbrev pub lost_events_data : ℕ → ℕ → Data
lost_events_data cpu count =
    object (member (codes "count") (number (unsigned count)) (member (codes "cpu") (number (unsigned cpu))
    (member (codes "type") (string (codes "lost_events")) no_members)))

-- so many updates of the map of this name were lost
abbrev pub lost_updates_data : ℕ → List ℕ → Data
lost_updates_data lost name =
    object (member (codes "count") (number (unsigned lost)) (member (codes "map") (text_data name)
    (member (codes "type") (string (codes "lost_updates")) no_members)))

-- so many instructions were executed
abbrev pub stats_data : ℕ → Data
stats_data instructions =
    object (member (codes "instructions") (number (unsigned instructions)) (member (codes "type") (string (codes "stats")) no_members))

-- of a call with this format, or nothing where there is none
abbrev pub call_lines : Option (List Piece) → List Value → List ℕ
call_lines None values = []
call_lines (Some pieces) values = json_line (printf_data (rendered pieces values))

-- a line for a map with rows, and none for a map without
abbrev pub rows_lines : List ℕ → ℤ → List (List Value × Cell) → List ℕ
rows_lines name div [] = []
rows_lines name div (r ∷ rs) = json_line (map_data name (map (row_data div) (r ∷ rs)))

-- of a map: its last rows in the order of their values, as many as `top` says, each divided by `div`
abbrev pub map_lines : MapDecl → List (List Value × Cell) → ℕ → ℤ → List ℕ
map_lines decl rows top div = rows_lines decl.name div (top_rows top (in_value_order rows))

-- of a map that is declared so, or nothing where it is not
abbrev pub declared_lines : Option MapDecl → List (List Value × Cell) → ℕ → ℤ → List ℕ
declared_lines None rows top div = []
declared_lines (Some decl) rows top div = map_lines decl rows top div

-- of an item, under the formats and the maps of a script, each by its number
abbrev pub item_lines : List (List Piece) → List MapDecl → Item → List ℕ
item_lines formats maps (Printf format values) = call_lines (slice_get formats format) values
item_lines formats maps (Map m rows top div) = declared_lines (slice_get maps m.0) rows top div
item_lines formats maps (Cut line) = json_line (cut_data line)
item_lines formats maps (Lost cpu count) = json_line (lost_events_data cpu count)

-- each map with its rows, in map order: all rows, and nothing divided
abbrev pub all_map_lines : List MapDecl → List (List (List Value × Cell)) → List ℕ
all_map_lines (m ∷ ms) (rows ∷ more) = map_lines m rows 0 (pos 1) ++ all_map_lines ms more
all_map_lines ms more = []

-- a line where updates of the map were lost
abbrev pub lost_lines : ℕ → List ℕ → List ℕ
lost_lines lost name = cond (nat_lt 0 lost) (json_line (lost_updates_data lost name)) []

-- of each map, in map order
abbrev pub all_lost_lines : List MapDecl → List ℕ → List ℕ
all_lost_lines (m ∷ ms) (lost ∷ more) = lost_lines lost m.name ++ all_lost_lines ms more
all_lost_lines ms more = []

-- the maps, and then their lost updates
abbrev pub end_lines : List MapDecl → List (List (List Value × Cell)) → List ℕ → List ℕ
end_lines maps rows lost = all_map_lines maps rows ++ all_lost_lines maps lost

-- the number of instructions
abbrev pub json_stats_line : ℕ → List ℕ
json_stats_line instructions = json_line (stats_data instructions)
