-- Items of output that a script can print.
use Rattle.std.specs.Prelude.{ℤ, pos, ◌≤ℤ◌, List, IsSomeAnd, slice_get}
use Rattle.std.specs.List.{All}
use Rattle.bt_core.specs.declared.item.Cell.{Cell}
use Rattle.bt_core.specs.declared.item.Item.{Item}
use Rattle.bt_core.specs.declared.item.Item.TheVariants.{Printf, Map, Cut, Lost}
use Rattle.bt_core.specs.declared.map.MapDecl.{MapDecl}
use Rattle.bt_core.specs.declared.value.Value.{Value}
use Rattle.fmt_text.specs.declared.piece.Piece.{Piece}
use Rattle.fmt_text.specs.Arguments.{AreArgumentsOf}
use Rattle.map_rows.specs.Fits.{IsRowOf}

-- rows that the map can hold, divided by 1 at least
pub record CanPrint (rows : List (List Value × Cell)) (div : ℤ) (decl : MapDecl) : Type 0 where
  pub divides : pos 1 ≤ℤ div
  pub fit : All (IsRowOf decl) rows

-- an item of a script with these formats and maps
abbrev pub IsItemOf : List (List Piece) → List MapDecl → Item → Type 0
IsItemOf formats maps (Printf format values) = IsSomeAnd (slice_get formats format) (λ pieces. AreArgumentsOf pieces values)
IsItemOf formats maps (Map map rows top div) = IsSomeAnd (slice_get maps map.0) (CanPrint rows div)
IsItemOf formats maps (Cut line) = Unit {0}
IsItemOf formats maps (Lost cpu count) = Unit {0}
