use Rattle.std.proofs.Common.{◌≡◌, ◌++◌, drop}
use Rattle.fmt_text.specs.Rendered.{rendered}
use Rattle.fmt_text.proofs.rendering.write_rendered.Given as goal

-- what is written, with what is left to write, is the whole
abbrev pub invariant-loop-piece : goal.invariant-loop-piece
invariant-loop-piece l = l.out.items ++ rendered (drop l.piece-index l.pieces) l.rest ≡ l.fn.out.items ++ rendered l.pieces l.values
