use Rattle.std.proofs.Common.{◌≡◌, Some, drop}
use Rattle.bt_lexer.specs.Scan.{digits}
use Rattle.bt_lexer.proofs.numbers.leading_digits.Given as goal

abbrev pub invariant-loop-i : goal.invariant-loop-i
invariant-loop-i l = digits l.base l.value l.i (drop l.i l.bytes) ≡ digits l.base (Some 0) 0 l.bytes
