use Rattle.std.proofs.Common.{refl}
use Rattle.std.specs.Fmt.{digits}
use Rattle.std.specs.Int.{int_wrap}
use Rattle.printer_tests.proofs.worked.a_long_count_is_whole.Goals as goal

pub returns : goal.returns
unfolding int_wrap digits
returns c = refl
