use Rattle.std.proofs.Common.{◌≡◌, ◌+◌, length}
use Rattle.bt_lexer.specs.Scan.{prepend, lexed_from, IsPosition}
use Rattle.bt_lexer.proofs.lexer.tokens_from.Given as goal

-- the tokens so far, and those of the rest, are those of the text
abbrev pub invariant-loop-rest : goal.invariant-loop-rest
invariant-loop-rest l = record {
  tokens : prepend l.tokens.items (lexed_from 0 l.position l.rest) ≡ lexed_from 0 l.fn.start l.fn.text;
  position : IsPosition l.position;
  room : l.position.offset + length l.rest ≡ l.fn.start.offset + length l.fn.text;
}

abbrev pub decreases-loop-rest : goal.decreases-loop-rest
decreases-loop-rest l = length l.rest
