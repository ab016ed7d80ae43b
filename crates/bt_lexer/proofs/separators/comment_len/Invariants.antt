use Rattle.std.proofs.Common.{◌≡◌, drop}
use Rattle.bt_lexer.specs.Scan.{comment_len}
use Rattle.bt_lexer.proofs.separators.comment_len.Given as goal

abbrev pub invariant-loop-i : goal.invariant-loop-i
invariant-loop-i l = comment_len l.i (drop l.i l.bytes) ≡ comment_len 0 l.bytes
