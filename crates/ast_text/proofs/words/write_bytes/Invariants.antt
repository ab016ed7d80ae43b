use Rattle.std.proofs.Common.{◌≡◌, ◌++◌, drop}
use Rattle.ast_text.specs.Words.{quoted_bytes}
use Rattle.ast_text.proofs.words.write_bytes.Given as goal

-- what is written, with what is left to write, is the whole
abbrev pub invariant-loop-byte : goal.invariant-loop-byte
invariant-loop-byte l = l.out.items ++ quoted_bytes (drop l.byte-index l.text) ≡ l.fn.out.items ++ quoted_bytes l.fn.text
