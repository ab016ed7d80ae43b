use Rattle.std.proofs.Common.{◌≡◌, ◌++◌, drop}
use Rattle.json_out.specs.Lines.{all_map_lines}
use Rattle.map_rows.specs.Fits.{AllRowsFit}
use Rattle.json_out.proofs.ends.write_maps.Given as goal

-- what is written, with what is left to write, is the whole
abbrev pub invariant-loop-at : goal.invariant-loop-at
invariant-loop-at l = record {
  written : l.out.items ++ all_map_lines (drop l.at l.maps) (drop l.at l.rows) ≡ l.fn.out.items ++ all_map_lines l.maps l.rows;
  fit : AllRowsFit (drop l.at l.maps) (drop l.at l.rows);
}
