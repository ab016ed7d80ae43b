use Rattle.std.proofs.Common.{◌≡◌, ◌≤◌, ◌+◌, ◌++◌, [], length}
use Rattle.event_layout.specs.Layouts.{lines_fault, read_lines, described}
use Rattle.tracefs_format.proofs.reading.read_fields.Given as goal

-- what is read, with what is read from here, is the whole
abbrev pub invariant-loop-line : goal.invariant-loop-line
invariant-loop-line l = record {
  fault : lines_fault l.number l.table (read_lines l.lines) ≡ lines_fault 4 [] (read_lines l.initial.lines);
  fields : l.table ++ described (read_lines l.lines) ≡ described (read_lines l.initial.lines);
  counted : l.number + length l.lines ≤ 4 + length l.initial.lines;
}

abbrev pub decreases-loop-line : goal.decreases-loop-line
decreases-loop-line l = length l.lines
