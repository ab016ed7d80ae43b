-- The maps and formats of bodies stand in their script: a script's type keeps that there is such a proof, and of such a fact there
-- is one proof at most, since declarations and pieces are data.
use Rattle.std.proofs.Common.{◌≡◌, ℕ, List, Some, All, slice_get, get_or, length, ◌<◌}
use Rattle.std.proofs.Math.Logic.{∥∥₁_elim}
use Rattle.std.specs.Coded.{Coded, Coded-set, coded_list, coded_option}
use Rattle.bt_core.specs.contracts.map.MapDecl as decl_c
use Rattle.bt_core.specs.declared.map.MapDecl.{MapDecl}
use Rattle.bt_core.specs.declared.map.MapId.{MapId}
use Rattle.fmt_text.specs.contracts.piece.Piece as piece_c
use Rattle.fmt_text.specs.declared.piece.Piece.{Piece}
use Rattle.typed_tree.specs.declared.body.TypedBody.{TypedBody}
use Rattle.typed_tree.specs.declared.script.Typed.{Typed}
use Rattle.typed_tree.specs.Script.{AreIn}

coded_decl : Coded MapDecl
coded_decl = decl_c.the_row.coded

coded_piece : Coded Piece
coded_piece = piece_c.the_row.coded

module _ (script : Typed) where
  pub maps_placed : (i : ℕ) (d : TypedBody) → i < length script.bodies
      → All (λ (m : MapId × MapDecl). slice_get script.maps m.0.0 ≡ Some m.1) (get_or script.bodies i d).maps
  maps_placed i d within k e low =
      ∥∥₁_elim script.placed (Coded-set (coded_option coded_decl) _ _) (λ (are : AreIn script.maps script.formats script.bodies). (are i d within).maps_there k e low)

  pub formats_placed : (i : ℕ) (d : TypedBody) → i < length script.bodies
      → All (λ (f : ℕ × List Piece). slice_get script.formats f.0 ≡ Some f.1) (get_or script.bodies i d).formats
  formats_placed i d within k e low =
      ∥∥₁_elim script.placed (Coded-set (coded_option (coded_list coded_piece)) _ _) (λ (are : AreIn script.maps script.formats script.bodies). (are i d within).formats_there k e low)
