use Rattle.bt_core.proofs.KeyBytesLaws.{key_fits_more}
use Rattle.account_format.proofs.held.key_is_held.Goals as goal

pub loop-part-preserved : goal.loop-part-preserved
loop-part-preserved c =
    key_fits_more c.parts-part-items.result.now c.loop-part.part-index c.part-item.result c.loop-part-test.true c.part-item.is c.loop-part.invariant c.value_is_held.ensures
