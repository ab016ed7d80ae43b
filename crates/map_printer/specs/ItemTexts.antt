-- The text of an item of output.
use Rattle.std.specs.Prelude.{ℕ, ℤ, ◌++◌, List, [], Option, None, Some, slice_get, codes, decimal}
use Rattle.bt_core.specs.declared.item.Cell.{Cell}
use Rattle.bt_core.specs.declared.item.Item.{Item}
use Rattle.bt_core.specs.declared.item.Item.TheVariants.{Printf, Map, Cut, Lost}
use Rattle.bt_core.specs.declared.map.MapDecl.{MapDecl}
use Rattle.bt_core.specs.declared.value.Value.{Value}
use Rattle.fmt_text.specs.declared.piece.Piece.{Piece}
use Rattle.fmt_text.specs.Rendered.{rendered}
use Rattle.map_printer.specs.Ends.{printed_map}

-- of a call with this format, or nothing where there is none
abbrev pub call_text : Option (List Piece) → List Value → List ℕ
call_text None values = []
call_text (Some pieces) values = rendered pieces values

-- of a map that is declared so, or nothing where it is not
abbrev pub declared_text : Option MapDecl → List (List Value × Cell) → ℕ → ℤ → List ℕ
declared_text None rows top div = []
declared_text (Some decl) rows top div = printed_map decl rows top div

-- the warning that a run was cut at the loop on this line
abbrev pub cut_text : ℕ → List ℕ
cut_text line = codes "WARNING: loop limit reached at line " ++ (decimal line ++ codes "\n")

-- the warning that so many events of the CPU of this number were lost
abbrev pub lost_events_text : ℕ → ℕ → List ℕ
lost_events_text cpu count = codes "WARNING: " ++ (decimal count ++ (codes " events lost on cpu " ++ (decimal cpu ++ codes "\n")))

-- under the formats and the maps of a script, each by its number
abbrev pub item_text : List (List Piece) → List MapDecl → Item → List ℕ
item_text formats maps (Printf format values) = call_text (slice_get formats format) values
item_text formats maps (Map map rows top div) = declared_text (slice_get maps map.0) rows top div
item_text formats maps (Cut line) = cut_text line
item_text formats maps (Lost cpu count) = lost_events_text cpu count
