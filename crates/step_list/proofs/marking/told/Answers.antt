use Rattle.step_list.proofs.PlaceLemmas.{told_by_parts, none_told}
use Rattle.step_list.proofs.marking.told.Goals as goal

pub returns : goal.returns
returns c = told_by_parts c.args.keys.now c.args.whole.now c.args.prints.now c.args.mark _ _ _ _ c.in_default.not-Whole c.actor_of.ensures c.object_of.ensures c.in_ok-op.ensures c.reply_of.ensures

pub returns-in-None : goal.returns-in-None
returns-in-None c =
    none_told c.args.keys.now c.args.whole.now c.args.prints.now c.args.mark c.in-Whole.place c.in-Whole.is c.in-None.ensures.lookup.0
