use Rattle.std.proofs.Common.{take}
use Rattle.std.specs.Prelude.{All}
use Rattle.bt_core.specs.Kinds.{HasShape, IsAggOf}
use Rattle.body_fixtures.proofs.replies.are_count_rows.Given as goal

-- the rows so far pass
abbrev pub invariant-loop-row : goal.invariant-loop-row
invariant-loop-row l = All (λ row. HasShape l.decl.key_shape row.0 × IsAggOf l.decl.kind row.1) (take l.row-index l.rows)
