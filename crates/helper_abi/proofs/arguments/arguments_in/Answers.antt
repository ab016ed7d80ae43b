use Rattle.std.proofs.Common.{◌∙◌, ◌++◌, drop, ◌+◌, ap, sym}
use Rattle.fmt_text.specs.Arguments.{argument_shapes}
use Rattle.helper_abi.specs.Reading.{values_in, bytes_of_shapes}
use Rattle.helper_abi.proofs.ReadingLemmas.{wants_one, wants_none, wants_no_more, one_more, bytes_further, enough_bytes, no_more}
use Rattle.helper_abi.proofs.arguments.arguments_in.Goals as goal

pub loop-piece-preserved : goal.loop-piece-preserved
loop-piece-preserved c =
    let is = wants_one c.args.pieces.now c.loop-piece.piece-index c.piece-item.result c.in-Some.shape c.loop-piece-test.true c.piece-item.is c.in-Some.ensures in
    let parts = c.split_at-parts.ensures in
    record {
      same = ap (λ l. l ++ values_in (argument_shapes (drop (c.loop-piece.piece-index + 1) c.args.pieces.now)) c.split_at-parts.result.1.now) c.in_ok-push.ensures.ok
          ∙ one_more c.loop-piece.values _ (argument_shapes (drop c.loop-piece.piece-index c.args.pieces.now)) _ c.in-Some.shape c.shape_bytes.result c.split_at-parts.result.0.now c.loop-piece.rest.now _ c.value_in.result is c.shape_bytes.ensures.value parts.front parts.back c.value_in.ensures.value c.loop-piece.invariant.same;
      long = bytes_further (argument_shapes (drop c.loop-piece.piece-index c.args.pieces.now)) _ c.in-Some.shape c.shape_bytes.result _ _ is c.shape_bytes.ensures.value c.loop-piece.invariant.long parts.back_len;
    }

pub loop-piece-preserved-in_default : goal.loop-piece-preserved-in_default
loop-piece-preserved-in_default c =
    let is = wants_none c.args.pieces.now c.loop-piece.piece-index c.piece-item.result c.loop-piece-test.true c.piece-item.is c.in_default.ensures in
    record {
      same = ap (λ hs. c.loop-piece.values ++ values_in hs c.loop-piece.rest.now) (sym is) ∙ c.loop-piece.invariant.same;
      long = c.loop-piece.invariant.long ∙ ap bytes_of_shapes is;
    }

pub returns : goal.returns
returns c =
    no_more c.loop-piece.values _ _ c.loop-piece.rest.now (wants_no_more c.args.pieces.now c.loop-piece.piece-index c.loop-piece-test.false) c.loop-piece.invariant.same

pub split_at-parts-requires : goal.split_at-parts-requires
split_at-parts-requires c =
    let is = wants_one c.args.pieces.now c.loop-piece.piece-index c.piece-item.result c.in-Some.shape c.loop-piece-test.true c.piece-item.is c.in-Some.ensures in
    enough_bytes _ _ c.in-Some.shape c.shape_bytes.result _ is c.shape_bytes.ensures.value c.loop-piece.invariant.long
