use Rattle.std.proofs.Common.{length, sym, ap, ◌∙◌, subst}
use Rattle.step_list.specs.HeldReplies.{AreHeldReplies}
use Rattle.step_list.specs.Places.{expanded, is_all_within, last_told}
use Rattle.step_list.proofs.list.StepList.reserve.Goals as goal

pub invariant_of-self : goal.invariant_of-self
invariant_of-self c =
    let l = c.args.self.now in
    let same = c.reserve_one.ensures in
    record {
      within = (λ i. is_all_within (length (same.keys i)) (length (same.whole i)) (length l.prints) (same.places i)) ∙ l.within;
      held = subst AreHeldReplies (λ i. expanded (sym same.keys i) (sym same.whole i) l.prints (sym same.places i)) l.held;
      last_is = l.last_is ∙ ap last_told (sym same.places);
    }

pub returns : goal.returns
returns c =
    let l = c.args.self.now in
    let same = c.reserve_one.ensures in
    record {
      steps = λ i. expanded (same.keys i) (same.whole i) l.prints (same.places i);
      room = same.room;
      kept = same.kept;
      free = same.free;
    }
