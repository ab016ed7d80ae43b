use Rattle.account_format.proofs.PushLaws.{value_pushed}
use Rattle.account_format.proofs.pushing.push_key.Goals as goal

pub loop-part-preserved : goal.loop-part-preserved
loop-part-preserved c =
    value_pushed c.parts-part-items.result.now c.loop-part.part-index c.part-item.result c.args.bytes.now.items c.loop-part.bytes.items c.push_value.new.bytes.items
    c.loop-part-test.true c.part-item.is c.loop-part.invariant c.in_ok-push_value.ensures
