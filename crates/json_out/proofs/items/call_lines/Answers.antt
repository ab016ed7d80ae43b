use Rattle.std.proofs.Common.{◌≡◌, List, ℕ, ap, sym, subst, ◌∙◌}
use Rattle.std.specs.Prelude.{Option, Some, slice_get, IsSomeAnd, IfOk}
use Rattle.std.proofs.lemmas.Option.{slice_get-get_or, slice_get_past}
use Rattle.fmt_text.specs.declared.piece.Piece.{Piece}
use Rattle.fmt_text.specs.Arguments.{AreArgumentsOf}
use Rattle.fmt_text.specs.Rendered.{rendered}
use Rattle.json_out.specs.Lines.{printf_data, call_lines}
use Rattle.json_out.specs.Texts.{json_line}
use Rattle.json_out.proofs.items.call_lines.Goals as goal

pub call_line-requires : goal.call_line-requires
call_line-requires c =
    let values = c.args.values.now in
    let there : slice_get c.args.formats.now c.args.format ≡ Some c.in-Some.pieces.now =
    slice_get-get_or c.args.formats.now c.args.format c.in-Some.pieces.now c.in-Some.ensures.lookup.3.0 ∙ ap Some (sym c.in-Some.ensures.lookup.1) in
    let fit : AreArgumentsOf c.in-Some.pieces.now values = subst (λ (o : Option (List Piece)). IsSomeAnd o (λ pieces. AreArgumentsOf pieces values)) there c.requires in
    subst (λ (pieces : List Piece). AreArgumentsOf pieces values) (sym c.as_slice.ensures) fit

pub returns-in-Some : goal.returns-in-Some
returns-in-Some c =
    let values = c.args.values.now in
    let there : slice_get c.args.formats.now c.args.format ≡ Some c.in-Some.pieces.now =
    slice_get-get_or c.args.formats.now c.args.format c.in-Some.pieces.now c.in-Some.ensures.lookup.3.0 ∙ ap Some (sym c.in-Some.ensures.lookup.1) in
    subst (λ (t : List ℕ). IfOk c.call_line.result (λ lines. lines.items ≡ t))
    (ap (λ (pieces : List Piece). json_line (printf_data (rendered pieces values))) c.as_slice.ensures ∙ ap (λ (o : Option (List Piece)). call_lines o values) (sym there))
    c.call_line.ensures

pub returns-in-None : goal.returns-in-None
returns-in-None c =
    c.new.ensures.items ∙ ap (λ (o : Option (List Piece)). call_lines o c.args.values.now) (sym (slice_get_past c.args.formats.now c.args.format c.in-None.ensures.lookup.3))
