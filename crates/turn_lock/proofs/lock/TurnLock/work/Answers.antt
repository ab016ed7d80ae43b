use Rattle.std.proofs.Common.{◌≡◌, ◌⊎◌, ℕ, ◌-◌, ◌^◌, List, ◌∷◌, Some, sym, ap, ◌∙◌, subst}
use Rattle.atomic_table.specs.Table.{rest}
use Rattle.bt_core.specs.declared.step.Op.{Op}
use Rattle.turn_lock.specs.declared.entry.Entry.{Entry}
use Rattle.turn_lock.specs.declared.view.Desk.{Desk}
use Rattle.turn_lock.specs.History.{Law, ops, stamp_after}
use Rattle.turn_lock.specs.Turns.{law, fits, DeskOk, entry}
use Rattle.turn_lock.proofs.Adding.{adds, same_desk, same_history, ok_both, err_both}
use Rattle.turn_lock.proofs.lock.TurnLock.work.Goals as goal

pub slot_mut-requires : goal.slot_mut-requires
slot_mut-requires g c = let h = c.requires.held in (c.requires.table, (Some h.1, h.3 ∙ (λ i. (0, Some h.1) ∷ rest (sym h.3 i))))

pub returns-clause-done : goal.returns-clause-done
returns-clause-done g c = let held = c.requires.held in let about = c.args.self.now.table.shared.key in
    let l : Law = law g.O.SeqObject.kind g.O.SeqObject.is_own g.O.SeqObject.reply_after about in
    let F : g.row.O.Denot → List Op → Type 0 = fits g.O.SeqObject.kind g.O.SeqObject.stands_for about in
    let same : held.1 ≡ c.in-Some.desk = same_desk c.args.seat.now.me.1 held.1 c.in-Some.desk c.slot_mut.result.now held.3 c.slot_mut.ensures.value c.in-Some.is in
    ok_both _ _ _ c.serve.result (λ r s t h e.
    let ok = subst (λ (z : Desk g.row.O.Denot × List Entry). DeskOk l F z.0 z.1)
    (λ i. (same i, same_history c.args.seat.now.me.0.stage held.0 h held.2 e i)) held.4.0 in
    let u = t (ops h) ok.object.1 in (
      c.serve.new.self,
      (λ i. (0, Some c.serve.new.self) ∷ rest (held.3 i)),
      adds l F c.in-Some.desk c.serve.new.self h (entry c.args.caller c.args.floor r c.args.op.now c.serve.new.reply) ok held.4.1 c.requires.own
          (u.0 ∙ ap (λ k. g.O.SeqObject.reply_after k (ops h) c.args.op.now) ok.object.0) s.0 s.1 (c.serve.ensures.kind ∙ ok.object.0, u.1),
    )) c.serve.ensures.stamp c.serve.ensures.done

pub returns-clause-memory : goal.returns-clause-memory
returns-clause-memory g c = let held = c.requires.held in let about = c.args.self.now.table.shared.key in
    let l : Law = law g.O.SeqObject.kind g.O.SeqObject.is_own g.O.SeqObject.reply_after about in
    let F : g.row.O.Denot → List Op → Type 0 = fits g.O.SeqObject.kind g.O.SeqObject.stands_for about in
    let same : held.1 ≡ c.in-Some.desk = same_desk c.args.seat.now.me.1 held.1 c.in-Some.desk c.slot_mut.result.now held.3 c.slot_mut.ensures.value c.in-Some.is in
    err_both _ _ _ c.serve.result (λ m w h e.
    let ok = subst (λ (z : Desk g.row.O.Denot × List Entry). DeskOk l F z.0 z.1)
    (λ i. (same i, same_history c.args.seat.now.me.0.stage held.0 h held.2 e i)) held.4.0 in (
      (
        c.serve.new.self,
        (λ i. (0, Some c.serve.new.self) ∷ rest (held.3 i)),
        record { legal = ok.legal; stamp = m.0 ∙ ok.stamp; object = (c.serve.ensures.kind ∙ ok.object.0, m.1 (ops h) ok.object.1) },
      ),
      subst (λ k. (¬ g.O.SeqObject.is_free k (ops h) c.args.op.now) ⊎ ((c.args.floor ≡ 2 ^ 64 - 1) ⊎ (stamp_after 0 h ≡ 2 ^ 64 - 1))) ok.object.0
          (subst (λ (n : ℕ). (¬ g.O.SeqObject.is_free (g.O.SeqObject.kind c.in-Some.desk.object) (ops h) c.args.op.now)
          ⊎ ((c.args.floor ≡ 2 ^ 64 - 1) ⊎ (n ≡ 2 ^ 64 - 1))) ok.stamp (w (ops h) ok.object.1)),
    )) c.serve.ensures.memory c.serve.ensures.cause
