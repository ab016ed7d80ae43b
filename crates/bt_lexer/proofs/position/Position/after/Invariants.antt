use Rattle.std.proofs.Common.{◌≡◌, ◌+◌, drop}
use Rattle.bt_lexer.specs.Scan.{after, IsPosition}
use Rattle.bt_lexer.proofs.position.Position.after.Given as goal

abbrev pub invariant-loop-b : goal.invariant-loop-b
invariant-loop-b l = (after l.position (drop l.b-index l.bytes) ≡ after l.fn.self l.bytes) × IsPosition l.position × (l.position.offset ≡ l.fn.self.offset + l.b-index)
