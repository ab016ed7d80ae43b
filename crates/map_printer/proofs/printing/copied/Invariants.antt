use Rattle.std.proofs.Common.{◌≡◌, take}
use Rattle.map_printer.proofs.printing.copied.Given as goal

-- the rows so far
abbrev pub invariant-loop-row : goal.invariant-loop-row
invariant-loop-row l = l.all.items ≡ take l.row-index l.rows
