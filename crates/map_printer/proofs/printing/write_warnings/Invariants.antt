use Rattle.std.proofs.Common.{◌≡◌, ◌++◌, drop}
use Rattle.map_printer.specs.Ends.{warnings}
use Rattle.map_printer.proofs.printing.write_warnings.Given as goal

-- what is written, with what is left to write, is the whole
abbrev pub invariant-loop-at : goal.invariant-loop-at
invariant-loop-at l = l.out.items ++ warnings (drop l.at l.maps) (drop l.at l.lost) ≡ l.fn.out.items ++ warnings l.maps l.lost
