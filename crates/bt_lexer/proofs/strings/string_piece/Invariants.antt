use Rattle.std.proofs.Common.{◌≡◌, drop}
use Rattle.bt_lexer.specs.Scan.{string_from, string_piece}
use Rattle.bt_lexer.proofs.strings.string_piece.Given as goal

abbrev pub invariant-loop-i : goal.invariant-loop-i
invariant-loop-i l = string_from l.offset l.escaped l.text.items l.i (drop l.i l.bytes) ≡ string_piece l.offset l.bytes
