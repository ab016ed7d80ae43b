use Rattle.std.proofs.Common.{◌≡◌, drop, map}
use Rattle.std.specs.Prelude.{fold}
use Rattle.map_rows.specs.Merged.{value_row}
use Rattle.map_rows.specs.Merging.{with_row}
use Rattle.map_rows.proofs.merging.add_values.Given as goal

-- the rows so far, with what is left to add, are the whole
abbrev pub invariant-loop-value : goal.invariant-loop-value
invariant-loop-value l = fold with_row l.rows.entries (map value_row (drop l.value-index l.values)) ≡ fold with_row l.fn.rows.entries (map value_row l.values)
