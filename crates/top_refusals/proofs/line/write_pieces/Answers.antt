use Rattle.top_refusals.proofs.LineLaws.{on_err, on_err-map, stops, ends_early}
use Rattle.top_refusals.proofs.line.write_pieces.Goals as goal

pub returns-in_err-write_piece-clause-part : goal.returns-in_err-write_piece-clause-part
returns-in_err-write_piece-clause-part g c =
    on_err c.from_residual.result _
    (stops _ _ _ c.args.pieces.now c.loop-piece.piece-index _ c.loop-piece-test.true c.loop-piece.invariant.written c.in_err-write_piece.ensures.part)

pub returns-clause-part : goal.returns-clause-part
returns-clause-part g c =
    on_err-map c.write_all.result _ _
    (ends_early _ _ _ c.args.pieces.now c.loop-piece.piece-index c.loop-piece-test.false c.loop-piece.invariant.written) c.write_all.ensures.part
