use Rattle.std.proofs.Common.{◌≡◌, ◌++◌, List, ℕ, append-nil, ap, sym, subst, ◌∙◌}
use Rattle.std.specs.Prelude.{Option, Some, slice_get, IsSomeAnd, OnOk}
use Rattle.std.proofs.lemmas.Option.{slice_get-get_or, slice_get_past}
use Rattle.fmt_text.specs.declared.piece.Piece.{Piece}
use Rattle.fmt_text.specs.Arguments.{AreArgumentsOf}
use Rattle.fmt_text.specs.Rendered.{rendered}
use Rattle.map_printer.specs.ItemTexts.{call_text}
use Rattle.map_printer.proofs.item_text.write_call.Goals as goal

pub write_rendered-requires : goal.write_rendered-requires
write_rendered-requires c =
    let values = c.args.values.now in
    let there : slice_get c.args.formats.now c.args.format ≡ Some c.in-Some.pieces.now =
    slice_get-get_or c.args.formats.now c.args.format c.in-Some.pieces.now c.in-Some.ensures.lookup.3.0 ∙ ap Some (sym c.in-Some.ensures.lookup.1) in
    let fit : AreArgumentsOf c.in-Some.pieces.now values = subst (λ (o : Option (List Piece)). IsSomeAnd o (λ pieces. AreArgumentsOf pieces values)) there c.requires in
    subst (λ (pieces : List Piece). AreArgumentsOf pieces values) (sym c.as_slice.ensures) fit

pub returns-in-Some : goal.returns-in-Some
returns-in-Some c =
    let values = c.args.values.now in
    let there : slice_get c.args.formats.now c.args.format ≡ Some c.in-Some.pieces.now =
    slice_get-get_or c.args.formats.now c.args.format c.in-Some.pieces.now c.in-Some.ensures.lookup.3.0 ∙ ap Some (sym c.in-Some.ensures.lookup.1) in
    subst (λ (t : List ℕ). OnOk c.write_rendered.result (c.write_rendered.new.out.items ≡ c.args.out.now.items ++ t))
    (ap (λ (pieces : List Piece). rendered pieces values) c.as_slice.ensures ∙ ap (λ (o : Option (List Piece)). call_text o values) (sym there))
    c.write_rendered.ensures

pub returns-in-None : goal.returns-in-None
returns-in-None c =
    sym (append-nil c.args.out.now.items)
    ∙ ap (λ (o : Option (List Piece)). c.args.out.now.items ++ call_text o c.args.values.now) (sym (slice_get_past c.args.formats.now c.args.format c.in-None.ensures.lookup.3))
