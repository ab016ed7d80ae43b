use Rattle.std.proofs.Common.{List, ◌++◌, ap, ◌∙◌}
use Rattle.bt_core.specs.declared.map.Shape.{Shape}
use Rattle.fmt_text.specs.Arguments.{piece_shapes}
use Rattle.fmt_text.proofs.Written.{made_more}
use Rattle.fmt_text.proofs.arguments.argument_shapes.Goals as goal

pub loop-piece-preserved : goal.loop-piece-preserved
loop-piece-preserved c =
    c.in_ok-add_shape.ensures ∙ ap (λ (l : List Shape). l ++ piece_shapes c.piece-item.result) c.loop-piece.invariant
    ∙ made_more piece_shapes c.args.pieces.now c.loop-piece.piece-index c.piece-item.result c.loop-piece-test.true c.piece-item.is
