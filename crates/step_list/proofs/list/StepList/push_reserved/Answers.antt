use Rattle.std.proofs.Common.{sym, ap, ◌∙◌, subst}
use Rattle.step_list.proofs.PlaceLemmas.{steps_snoc, within_snoc, last_told_snoc}
use Rattle.step_list.proofs.HeldLemmas.{held_snoc}
use Rattle.step_list.specs.Deeds.{deed}
use Rattle.step_list.specs.HeldReplies.{AreHeldReplies}
use Rattle.step_list.specs.Lists.{steps_in, step_of}
use Rattle.step_list.specs.Places.{last_told}
use Rattle.step_list.proofs.list.StepList.push_reserved.Goals as goal

pub invariant_of-self : goal.invariant_of-self
invariant_of-self c = let l = c.args.self.now in record {
  within = within_snoc l.keys.items c.keep-mark.new.keys.items l.whole.items c.keep-mark.new.whole.items l.prints c.keep-mark.new.prints
      l.places.items c.push_reserved.new.self.items _ (deed c.args.actor c.args.object c.args.op.now c.args.reply.now) c.keep-mark.ensures.keys c.keep-mark.ensures.whole c.keep-mark.ensures.prints l.within c.push_reserved.ensures.items c.keep-mark.ensures.within;
  held = subst AreHeldReplies (sym (steps_snoc l.keys.items c.keep-mark.new.keys.items l.whole.items c.keep-mark.new.whole.items l.prints c.keep-mark.new.prints
      l.places.items c.push_reserved.new.self.items _ (deed c.args.actor c.args.object c.args.op.now c.args.reply.now) c.keep-mark.ensures.keys c.keep-mark.ensures.whole c.keep-mark.ensures.prints l.within c.push_reserved.ensures.items c.keep-mark.ensures.deed))
      (held_snoc (steps_in l) (step_of c.args.actor c.args.stamp c.args.object c.args.op.now c.args.reply.now) l.held c.reply_is_held.ensures);
  last_is = c.note_last.ensures ∙ (sym (last_told_snoc l.places.items _) ∙ ap last_told (sym c.push_reserved.ensures.items));
}

pub returns : goal.returns
returns c = let l = c.args.self.now in record {
  steps = steps_snoc l.keys.items c.keep-mark.new.keys.items l.whole.items c.keep-mark.new.whole.items l.prints c.keep-mark.new.prints
      l.places.items c.push_reserved.new.self.items _ (deed c.args.actor c.args.object c.args.op.now c.args.reply.now) c.keep-mark.ensures.keys c.keep-mark.ensures.whole c.keep-mark.ensures.prints l.within c.push_reserved.ensures.items c.keep-mark.ensures.deed;
}
