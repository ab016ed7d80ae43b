use Rattle.bt_core.proofs.ArithmeticLaws.{shifted_right_known}
use Rattle.bt_core.proofs.arithmetic.shifted_right.Goals as goal

pub returns : goal.returns
returns c =
    shifted_right_known c.args.a c.args.b c.cast_signed.result c.cast_unsigned-2.result c.cast_unsigned.result c.wrapping_shr.result c.ranges.a c.ranges.b
    (record { sfits = c.cast_signed.type_inv }) c.cast_unsigned-2.ensures c.cast_unsigned.ensures c.wrapping_shr.ensures c.cast_signed.ensures
