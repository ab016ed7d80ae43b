use Rattle.step_list.proofs.HeldLemmas.{aggs_more, aggs_none}
use Rattle.step_list.proofs.held.aggs_are_held.Goals as goal

pub loop-row-init : goal.loop-row-init
loop-row-init c = λ h. h

pub loop-row-preserved : goal.loop-row-preserved
loop-row-preserved c = λ h. c.loop-row.invariant (aggs_more c.args.rows.now c.loop-row.row-index c.row-item.result c.loop-row-test.true c.row-item.is c.agg_is_held.ensures h)

pub returns : goal.returns
returns c = c.loop-row.invariant (aggs_none c.args.rows.now c.loop-row.row-index c.loop-row-test.false)
