-- The maps and formats of bodies in their script.
use Rattle.std.specs.Prelude.{◌≡◌, ℕ, List, All, Some, slice_get}
use Rattle.bt_core.specs.declared.map.MapDecl.{MapDecl}
use Rattle.bt_core.specs.declared.map.MapId.{MapId}
use Rattle.fmt_text.specs.declared.piece.Piece.{Piece}
use Rattle.typed_tree.specs.declared.body.TypedBody.{TypedBody}

-- the maps and formats of a body stand in the script's at their numbers
pub record IsIn (maps : List MapDecl) (formats : List (List Piece)) (body : TypedBody) : Type 0 where
  pub maps_there : All (λ (m : MapId × MapDecl). slice_get maps m.0.0 ≡ Some m.1) body.maps
  pub formats_there : All (λ (f : ℕ × List Piece). slice_get formats f.0 ≡ Some f.1) body.formats

abbrev pub AreIn : List MapDecl → List (List Piece) → List TypedBody → Type 0
AreIn maps formats bodies = All (IsIn maps formats) bodies
