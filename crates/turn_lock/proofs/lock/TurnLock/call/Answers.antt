use Rattle.atomic_table.specs.declared.badge.Badge.{Badge}
use Rattle.std.proofs.Common.{◌≡◌, ◌<◌, List, ap, sym, ◌∙◌, subst, ◌∷◌, []}
use Rattle.turn_lock.specs.declared.entry.Entry.{Entry}
use Rattle.turn_lock.specs.declared.view.View.{View}
use Rattle.turn_lock.specs.History.{Each}
use Rattle.turn_lock.specs.Turns.{view_in, law, entry}
use Rattle.turn_lock.specs.Calls.{seen, MayRefuse, Gains, Stays}
use Rattle.turn_lock.proofs.Adding.{above, ok_weaken, err_weaken}
use Rattle.turn_lock.proofs.lock.TurnLock.call.Goals as goal

pub returns-clause-stamp : goal.returns-clause-stamp
returns-clause-stamp g c =
    let was : c.into_seat-seat.result.me.0.seen ≡ seen c.args.turn.now =
    sym (ap (λ b. (view_in b.views).seen) (sym c.replace.ensures.value) ∙ ap (λ (vs : List View). (view_in vs).seen) c.into_seat-seat.ensures.2) in
    ok_weaken _ _ c.run-outcome.result (λ r gains. let t = above _ _ _ _ _ gains in
    (t.0, subst (Each (λ (e : Entry). e.stamp < r)) was t.1)) c.run-outcome.ensures.done

pub returns-clause-cause : goal.returns-clause-cause
returns-clause-cause g c = let is : c.run-outcome.new.seat.me.0 ≡ view_in c.into_badge.result.views = ap view_in (sym c.into_badge.ensures.2) in
    err_weaken _ _ c.run-outcome.result (subst (λ (v : View). MayRefuse (g.O.SeqObject.is_free
    (g.O.SeqObject.kind c.args.self.now.table.shared.key.first.value)) v.seen
    c.args.floor c.args.op.now) is) c.run-outcome.ensures.cause

pub returns-clause-done : goal.returns-clause-done
returns-clause-done g c = let was : c.into_seat-seat.result.me.0 ≡ view_in c.args.turn.now.badge.views
    = ap view_in (sym c.into_seat-seat.ensures.2) ∙ ap (λ (b : Badge View). view_in b.views) c.replace.ensures.value in
    let is : c.run-outcome.new.seat.me.0 ≡ view_in c.into_badge.result.views = ap view_in (sym c.into_badge.ensures.2) in
    ok_weaken _ _ c.run-outcome.result (λ r gains. subst (λ (z : View × View). Gains
    (law g.O.SeqObject.kind g.O.SeqObject.is_own g.O.SeqObject.reply_after c.args.self.now.table.shared.key) c.args.turn.now.caller z.0 z.1
    (entry c.args.turn.now.caller c.args.floor r c.args.op.now c.run-outcome.new.reply)) (λ i. (was i, is i)) gains) c.run-outcome.ensures.done

pub returns-clause-memory : goal.returns-clause-memory
returns-clause-memory g c = let was : c.into_seat-seat.result.me.0 ≡ view_in c.args.turn.now.badge.views
    = ap view_in (sym c.into_seat-seat.ensures.2) ∙ ap (λ (b : Badge View). view_in b.views) c.replace.ensures.value in
    let is : c.run-outcome.new.seat.me.0 ≡ view_in c.into_badge.result.views = ap view_in (sym c.into_badge.ensures.2) in
    err_weaken _ _ c.run-outcome.result (subst (λ (z : View × View). Stays
    (law g.O.SeqObject.kind g.O.SeqObject.is_own g.O.SeqObject.reply_after c.args.self.now.table.shared.key) c.args.turn.now.caller z.0 z.1)
    (λ i. (was i, is i)))
    c.run-outcome.ensures.memory

pub invariant_of-turn : goal.invariant_of-turn
invariant_of-turn g c = let one = c.into_badge.ensures.2 in let v = c.run-outcome.ensures.view in record {
  resting = (
    one ∙ (λ i. view_in (sym one i) ∷ []),
    ap (λ (vs : List View). (view_in vs).live) one ∙ v.0,
    ap (λ (vs : List View). (view_in vs).stage) one ∙ v.1,
    ap (λ (vs : List View). (view_in vs).caller) one ∙ v.2,
  );
}

pub run-outcome-requires-clause-view : goal.run-outcome-requires-clause-view
run-outcome-requires-clause-view g c = let rests = c.args.turn.now.resting in
    let was : c.into_seat-seat.result.me.0 ≡ view_in c.args.turn.now.badge.views
    = ap view_in (sym c.into_seat-seat.ensures.2) ∙ ap (λ (b : Badge View). view_in b.views) c.replace.ensures.value in (
      ap (λ (v : View). v.live) was ∙ rests.1,
      ap (λ (v : View). v.stage) was ∙ rests.2,
      ap (λ (v : View). v.caller) was ∙ rests.3,
      c.into_seat-seat.ensures.3,
    )

pub into_seat-seat-requires : goal.into_seat-seat-requires
into_seat-seat-requires g c = let rests = c.args.turn.now.resting in
    (view_in c.args.turn.now.badge.views, ap (λ (b : Badge View). b.views) c.replace.ensures.value ∙ rests.0)
