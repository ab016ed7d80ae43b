-- The maps of a script's body are those of the script.
use Rattle.std.proofs.Common.{◌≡◌, ℕ, List, Some, subst}
use Rattle.std.specs.Prelude.{All, slice_get}
use Rattle.std.proofs.lemmas.Option.{slice_get_within, get_or_from_slice_get}
use Rattle.std.proofs.Math.Logic.{∥∥₁_elim}
use Rattle.std.proofs.Props.{props}
use Rattle.bt_core.specs.declared.map.MapDecl.{MapDecl}
use Rattle.bt_core.specs.declared.map.MapId.{MapId}
use Rattle.fmt_text.specs.declared.piece.Piece.{Piece}
use Rattle.typed_tree.specs.declared.body.TypedBody.{TypedBody}
use Rattle.typed_tree.specs.Script.{IsIn, AreIn}

body_in : (maps : List MapDecl) (formats : List (List Piece)) (bodies : List TypedBody) (number : ℕ) (body : TypedBody) → AreIn maps formats bodies → slice_get bodies number ≡ Some body → IsIn maps formats body
body_in maps formats bodies number body are here = subst (λ (b : TypedBody). IsIn maps formats b) (get_or_from_slice_get bodies number body body here) (are number body (slice_get_within bodies number body here))

pub served : (maps : List MapDecl) (formats : List (List Piece)) (bodies : List TypedBody) (number : ℕ) (body : TypedBody) → ∥ AreIn maps formats bodies ∥₁ → slice_get bodies number ≡ Some body →
    All (λ (m : MapId × MapDecl). slice_get maps m.0.0 ≡ Some m.1) body.maps
served maps formats bodies number body placed here k m at = ∥∥₁_elim placed (Prim.hlevel props) (λ are. (body_in maps formats bodies number body are here).maps_there k m at)
