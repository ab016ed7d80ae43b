use Rattle.std.proofs.Common.{◌≡◌, drop}
use Rattle.map_rows.specs.UnderKey.{number_under}
use Rattle.map_rows.proofs.numbers.number_under.Given as goal

abbrev pub invariant-loop-row : goal.invariant-loop-row
invariant-loop-row l = number_under l.key (drop l.row-index l.rows) ≡ number_under l.key l.rows
