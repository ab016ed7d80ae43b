use Rattle.std.proofs.Common.{◌≡◌, ◌++◌, drop}
use Rattle.map_printer.specs.Ends.{map_texts}
use Rattle.map_rows.specs.Fits.{AllRowsFit}
use Rattle.map_printer.proofs.printing.write_maps.Given as goal

-- what is written, with what is left to write, is the whole
abbrev pub invariant-loop-at : goal.invariant-loop-at
invariant-loop-at l = record {
  written : l.out.items ++ map_texts (drop l.at l.maps) (drop l.at l.rows) ≡ l.fn.out.items ++ map_texts l.maps l.rows;
  fit : AllRowsFit (drop l.at l.maps) (drop l.at l.rows);
}
