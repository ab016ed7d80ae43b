use Rattle.std.proofs.Common.{arith, ap, length}
use Rattle.helper_abi.specs.Reading.{bytes_of_shapes}
use Rattle.helper_abi.proofs.ReadingLemmas.{wants_one, wants_none}
use Rattle.helper_abi.proofs.arguments.argument_room.Goals as goal

pub loop-piece-preserved : goal.loop-piece-preserved
loop-piece-preserved c =
    let is = wants_one c.args.pieces.now c.loop-piece.piece-index c.piece-item.result c.in-Some.shape c.loop-piece-test.true c.piece-item.is c.in-Some.ensures in
    let i = c.loop-piece.invariant in
    record {
      counted = omega (arith, i.counted, ap length is);
      same = omega (arith, i.same, ap bytes_of_shapes is, c.shape_bytes-bytes.ensures.value);
      few = omega (arith, i.few);
      within = c.if-bytes-most.false;
    }

pub loop-piece-preserved-in_default : goal.loop-piece-preserved-in_default
loop-piece-preserved-in_default c =
    let is = wants_none c.args.pieces.now c.loop-piece.piece-index c.piece-item.result c.loop-piece-test.true c.piece-item.is c.in_default.ensures in
    let i = c.loop-piece.invariant in
    record {
      counted = omega (arith, i.counted, ap length is);
      same = omega (arith, i.same, ap bytes_of_shapes is);
      few = omega (arith, i.few);
      within = i.within;
    }
