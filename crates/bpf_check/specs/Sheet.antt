-- What code is checked against.
use Rattle.std.specs.Prelude.{ℕ, List}
use Rattle.bt_core.specs.declared.map.MapDecl.{MapDecl}
use Rattle.fmt_text.specs.declared.piece.Piece.{Piece}
use Rattle.typed_tree.specs.declared.script.Typed.{Typed}

-- the maps and formats of a script by their numbers, and the least length of a payload
pub record Sheet : Type 0 where
  pub maps : List MapDecl
  pub formats : List (List Piece)
  pub payload : ℕ

abbrev pub sheet_of : Typed → ℕ → Sheet
sheet_of typed payload = record { maps = typed.maps; formats = typed.formats; payload = payload }
