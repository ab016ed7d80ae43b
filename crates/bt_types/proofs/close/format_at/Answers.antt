use Rattle.std.proofs.Common.{◌≡◌, ℕ, List, ap, sym, ◌∙◌}
use Rattle.std.specs.Prelude.{Option, Some, slice_get}
use Rattle.std.specs.Option.{option_map}
use Rattle.std.proofs.lemmas.Option.{slice_get-get_or, slice_get_past}
use Rattle.fmt_text.specs.declared.piece.Piece.{Piece}
use Rattle.bt_types.proofs.close.format_at.Goals as goal

pub returns-in_ok-pieces-in-Some : goal.returns-in_ok-pieces-in-Some
returns-in_ok-pieces-in-Some c =
    let n = c.args.number in
    let there : slice_get c.args.formats.now n ≡ Some c.in-Some.pieces.now =
    slice_get-get_or c.args.formats.now n c.in-Some.pieces.now c.in-Some.ensures.lookup.3.0 ∙ ap Some (sym c.in-Some.ensures.lookup.1) in
    ap (λ (pieces : List Piece). Some (let p : ℕ × List Piece = (n, pieces) in p)) c.in_ok-pieces-in-Some.ensures
    ∙ ap (λ (o : Option (List Piece)). option_map (λ (pieces : List Piece). (let p : ℕ × List Piece = (n, pieces) in p)) o) (sym there)

pub returns-in-None : goal.returns-in-None
returns-in-None c =
    let n = c.args.number in
    ap (λ (o : Option (List Piece)). option_map (λ (pieces : List Piece). (let p : ℕ × List Piece = (n, pieces) in p)) o)
    (sym (slice_get_past c.args.formats.now n c.in-None.ensures.lookup.3))
