use Rattle.json_out.specs.Rows.{value_data}
use Rattle.json_out.proofs.Steps.{next_value, last_value}
use Rattle.json_out.proofs.rows.parts_of.Goals as goal

pub loop-part-preserved : goal.loop-part-preserved
loop-part-preserved c =
    next_value value_data c.args.parts.now c.loop-part.part-index c.part-item.result c.loop-part.list.items c.push.new.list.items c.in_ok-value_of.field-0
    c.loop-part-test.true c.part-item.is c.loop-part.invariant c.in_ok-push.ensures.ok c.in_ok-value_of.ensures

pub returns : goal.returns
returns c = last_value value_data c.args.parts.now c.loop-part.part-index c.loop-part.list.items c.loop-part-test.false c.loop-part.invariant
