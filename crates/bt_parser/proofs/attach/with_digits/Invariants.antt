use Rattle.std.proofs.Common.{◌≡◌, drop}
use Rattle.bt_parser.specs.Points.{with_digits}
use Rattle.bt_parser.proofs.attach.with_digits.Given as goal

abbrev pub invariant-loop-b : goal.invariant-loop-b
invariant-loop-b l = with_digits l.number (drop l.b-index l.digits) ≡ with_digits 0 l.digits
