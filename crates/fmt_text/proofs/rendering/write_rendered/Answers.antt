use Rattle.std.proofs.Common.{List, ◌+◌, ◌++◌, drop, sym, ap, ◌∙◌}
use Rattle.std.proofs.lemmas.List.{append-nil, at_drop_all}
use Rattle.fmt_text.specs.declared.piece.Piece.{Piece}
use Rattle.fmt_text.specs.Rendered.{rendered}
use Rattle.fmt_text.proofs.Written.{item_first}
use Rattle.fmt_text.proofs.rendering.write_rendered.Goals as goal

pub loop-piece-preserved : goal.loop-piece-preserved
loop-piece-preserved c =
    let at = item_first c.args.pieces.now c.loop-piece.piece-index c.piece-item.result c.loop-piece-test.true c.piece-item.is in
    c.in_ok-rest.ensures (drop (c.loop-piece.piece-index + 1) c.args.pieces.now)
    ∙ ap (λ (ps : List Piece). c.loop-piece.out.items ++ rendered ps c.loop-piece.rest.now) at ∙ c.loop-piece.invariant

pub returns : goal.returns
returns c =
    let out = c.loop-piece.out.items in
    sym (append-nil out) ∙ sym (at_drop_all (λ (ps : List Piece). out ++ rendered ps c.loop-piece.rest.now)
    c.args.pieces.now c.loop-piece.piece-index c.loop-piece-test.false)
    ∙ c.loop-piece.invariant
