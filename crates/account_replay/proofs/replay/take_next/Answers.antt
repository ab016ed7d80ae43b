use Rattle.std.proofs.Common.{rules, ◌≡◌, ◌≢◌, get_or, map, sym, refl, ap, ◌∙◌, subst}
use Rattle.std.proofs.lemmas.List.{get_or_default}
use Rattle.std.proofs.Math.Seq.{map-set_same}
use Rattle.bt_core.specs.declared.step.Step.{Step}
use Rattle.step_entries.specs.Blank.{blank}
use Rattle.begun_meaning.specs.Begun.{clock_after}
use Rattle.run_objects.specs.Objects.{IsAnswer}
use Rattle.run_objects.specs.Worlds.{IsOwn}
use Rattle.account_replay.specs.Replaying.{taken, with_reply, world_of}
use Rattle.account_replay.proofs.ReplayLemmas.{can_be_made, one_more, wrong_stamp}
use Rattle.account_replay.proofs.replay.take_next.Goals as goal

pub returns-then-stamp-told-clause-wrong : goal.returns-then-stamp-told-clause-wrong
returns-then-stamp-told-clause-wrong c = λ d right.
    let r = c.args.state.now in
    let is = c.requires.replaying in
    let e = c.index-as_slice-state.result in
    let same : e ≡ get_or r.entries r.at d = c.index-as_slice-state.is ∙ ap (λ l. get_or l r.at e) c.as_slice.ensures ∙ get_or_default r.entries r.at e d c.requires.more in
    let own = subst (λ (s : Step). IsOwn (world_of r) s.object s.op) (sym same) (can_be_made r is c.requires.more d).own in
    let answer = subst (λ (s : Step).
    IsAnswer (world_of r) (taken r) c.take_at.new.objects s.object s.op c.clock_of-clock.result (c.take_at.new.reply, c.in_ok-stamp.stamp)) same
    (c.in_ok-stamp.ensures.taken (world_of r) (taken r) is.stand own) in
    let clock = c.clock_of-clock.ensures (taken r) is.clocks ∙ ap (λ (s : Step). clock_after r.cpus (taken r) s.actor) same in
    let other : c.in_ok-stamp.stamp ≢ e.stamp = search rules in
    wrong_stamp r is c.requires.more d c.take_at.new.objects c.clock_of-clock.result (c.take_at.new.reply, c.in_ok-stamp.stamp) clock answer
    (λ q. other (q ∙ ap (λ (s : Step). s.stamp) (sym same)))

pub returns-clause-told : goal.returns-clause-told
returns-clause-told c =
    let r = c.args.state.now in
    let e = c.index-as_slice-state.result in
    ap (map blank) (c.set_reply.ensures e) ∙ map-set_same blank r.entries r.at (with_reply c.take_at.new.reply (get_or r.entries r.at e)) e refl

pub returns-clause-replaying : goal.returns-clause-replaying
returns-clause-replaying c = λ right.
    let r = c.args.state.now in
    let is = c.requires.replaying in
    let e = c.index-as_slice-state.result in
    let same : e ≡ get_or r.entries r.at e = c.index-as_slice-state.is ∙ ap (λ l. get_or l r.at e) c.as_slice.ensures in
    let own = subst (λ (s : Step). IsOwn (world_of r) s.object s.op) (sym same) (can_be_made r is c.requires.more e).own in
    let answer = subst (λ (s : Step).
    IsAnswer (world_of r) (taken r) c.take_at.new.objects s.object s.op c.clock_of-clock.result (c.take_at.new.reply, c.in_ok-stamp.stamp)) same
    (c.in_ok-stamp.ensures.taken (world_of r) (taken r) is.stand own) in
    let clock = c.clock_of-clock.ensures (taken r) is.clocks ∙ ap (λ (s : Step). clock_after r.cpus (taken r) s.actor) same in
    let one : c.in_ok-stamp.stamp ≡ e.stamp = search rules in
    one_more r is c.requires.more e c.take_at.new.objects c.clock_of-clock.result (c.take_at.new.reply, c.in_ok-stamp.stamp) clock answer
    (one ∙ ap (λ (s : Step). s.stamp) same) _ refl refl refl (c.set_reply.ensures e) refl
    (λ s by stamp. c.note.ensures.told r.cpus (taken r) s (by ∙ ap (λ (z : Step). z.actor) (sym same)) stamp is.clocks)
    (c.if-is_out_of_order.ensures.right e refl)
