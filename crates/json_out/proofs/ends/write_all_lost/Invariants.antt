use Rattle.std.proofs.Common.{◌≡◌, ◌++◌, drop}
use Rattle.json_out.specs.Lines.{all_lost_lines}
use Rattle.json_out.proofs.ends.write_all_lost.Given as goal

-- what is written, with what is left to write, is the whole
abbrev pub invariant-loop-at : goal.invariant-loop-at
invariant-loop-at l = l.out.items ++ all_lost_lines (drop l.at l.maps) (drop l.at l.lost) ≡ l.fn.out.items ++ all_lost_lines l.maps l.lost
