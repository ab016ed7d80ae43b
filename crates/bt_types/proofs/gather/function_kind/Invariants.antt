use Rattle.std.proofs.Common.{◌≡◌, drop}
use Rattle.bt_types.specs.Told.{function_kind}
use Rattle.bt_types.proofs.gather.function_kind.Given as goal

-- the rows that are left give what all rows give
abbrev pub invariant-loop-row : goal.invariant-loop-row
invariant-loop-row l = function_kind (drop l.row-index l.rows) l.function ≡ function_kind l.rows l.function
