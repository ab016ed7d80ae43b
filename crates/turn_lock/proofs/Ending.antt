-- What the end of a table tells, where one seat has taken every other caller in.
use Rattle.std.proofs.Common.{◌≡◌, ℕ, zero, suc, ◌<◌, Bool, true, List, [], ◌∷◌, ◌++◌, Option, Some, sym, refl, ap, ◌∙◌, subst, ⊎_elim, arith, eq-eqb}
use Rattle.std.proofs.lemmas.List.{append-nil}
use mathlib.Core.Option.{some, none, some-injective, some-ne-none}
use mathlib.Core.Option as maybe
use lib.ListN.{get_elem?}
use Rattle.std.proofs.Common.{cond}
use Rattle.atomic_table.specs.Table.{State, Final, Seen}
use Rattle.bt_core.specs.declared.step.Op.{Op}
use Rattle.turn_lock.specs.declared.entry.Entry.{Entry}
use Rattle.turn_lock.specs.declared.view.Stage.TheVariants.{Idle, Holds}
use Rattle.turn_lock.specs.declared.view.Past.{Past}
use Rattle.turn_lock.specs.declared.view.View.{View}
use Rattle.turn_lock.specs.declared.view.Desk.{Desk}
use Rattle.turn_lock.specs.History.{Law, made_by, StartsWith, Each}
use Rattle.turn_lock.specs.Turns.{Part, part_of, KnowsPast, Knows, DeskOk, IsOut, IsHome, Kept, Noted, Covers, Agrees}
use Rattle.turn_lock.proofs.HistoryLemmas.{legal_callers, Each-weaken, made_by_append}

each_right : (P : Entry → Type 0) (xs ys : List Entry) → Each P (xs ++ ys) → Each P ys
each_right P [] ys h = h
each_right P (x ∷ xs) ys h = each_right P xs ys h.1

cancels : (xs ys : List Entry) → xs ++ ys ≡ xs → ys ≡ []
cancels [] ys e = e
cancels (x ∷ xs) ys e = cancels xs ys (let t : xs ++ ys ≡ xs = cc in t)

-- no caller has an entry, so there is none
nothing : (n : ℕ) (es : List Entry) → Each (λ e. e.caller < n) es → ((c : ℕ) → c < n → made_by c es ≡ []) → es ≡ []
nothing n [] h f = refl
nothing n (e ∷ es) h f = absurd (not_empty (sym (ap (λ (b : Bool). cond b (e ∷ made_by e.caller es) (made_by e.caller es)) (eq-eqb e.caller e.caller refl))
    ∙ f e.caller h.0))
  where
    not_empty : e ∷ made_by e.caller es ≡ [] → ⊥
    not_empty q = cc

each_at : {A : Type 0} (P : A → Type 0) (xs : List A) (i : ℕ) (x : A) → Each P xs → get_elem? xs i ≡ some x → P x
each_at P [] i x h e = absurd (some-ne-none x (sym e))
each_at P (y ∷ ys) zero x h e = subst P (some-injective y x e) h.0
each_at P (y ∷ ys) (suc i) x h e = each_at P ys i x h.1 e

module _ {O : Type 0} (l : Law) (fits : O → List Op → Type 0) where
  pub ends : (id : ℕ) (v : View) (ws : List ℕ) (xs : List (Option (Desk O))) → Final (Seen (Kept l fits) id v) ws xs → v.live ≡ true → v.stage ≡ Idle
      → Covers l.callers v → Noted v v
      → (d : Desk O) × (get_elem? xs 0 ≡ some (Some d)) × DeskOk l fits d v.seen × Agrees v.seen v
  ends id v ws xs f live idle covers noted = ⊎_elim (λ (o : IsOut l fits s.homes r.callers r.made r.log). absurd (out o)) home r.slot
    where
      s : State (Option (Desk O)) View
      s = f.0

      r : Kept l fits s
      r = f.1.0

      mine : Knows r.log r.callers r.seat r.made id v
      mine = r.seats id v f.1.1

      h : List Entry
      h = v.seen

      is : r.callers v.caller ≡ part_of v
      is = (mine.live live).2

      own_log : made_by v.caller r.log ≡ v.mine
      own_log = (r.each v.caller (mine.live live).0).mine ∙ ap (λ (z : Part). z.mine) is

      -- the history that was noted is the one that the view has
      h_is : noted.0 ≡ h
      h_is = sym (ap (λ (z : View). z.seen) noted.1)

      more : StartsWith r.log h
      more = mine.seen

      same : (c : ℕ) → c < l.callers → made_by c r.log ≡ made_by c h
      same c lt = ⊎_elim (λ (e : c ≡ v.caller). ap (λ (k : ℕ). made_by k r.log) e ∙ own_log ∙ sym noted.2 ∙ (λ i. made_by (sym e i) (h_is i)))
          (λ (t : (i : ℕ) × (p : Past) × (get_elem? v.taken i ≡ some p) × (p.caller ≡ c)).
          let a = each_at (KnowsPast r.log r.callers r.seat r.made id v.live v.caller) v.taken t.0 t.1 mine.taken t.2 in
          let b = each_at (λ (p : Past). made_by p.caller noted.0 ≡ p.mine) v.taken t.0 t.1 noted.3 t.2 in
          ap (λ (k : ℕ). made_by k r.log) (sym t.3) ∙ (r.each t.1.caller a.0).mine ∙ ap (λ (z : Part). z.mine) a.2 ∙ sym b
          ∙ (λ i. made_by (t.3 i) (h_is i))) (covers c lt)

      none_left : (c : ℕ) → c < l.callers → made_by c more.0 ≡ []
      none_left c lt = cancels (made_by c h) (made_by c more.0) (sym (made_by_append c h more.0) ∙ ap (made_by c) (sym more.1) ∙ same c lt)

      log_is : r.log ≡ h
      log_is = more.1 ∙ ap (λ (z : List Entry). h ++ z) (nothing l.callers more.0
          (each_right (λ e. e.caller < l.callers) h more.0 (subst (Each (λ e. e.caller < l.callers)) more.1 (legal_callers l [] 0 r.log r.legal))) none_left)
          ∙ append-nil h

      agrees : Agrees h v
      agrees = (
        ap (made_by v.caller) (sym log_is) ∙ own_log,
        Each-weaken (KnowsPast r.log r.callers r.seat r.made id v.live v.caller) (λ (p : Past). (made_by p.caller h ≡ p.mine) × StartsWith h p.seen)
            (λ p a. (
              ap (made_by p.caller) (sym log_is) ∙ (r.each p.caller a.0).mine
                  ∙ ap (λ (z : Part). z.mine) a.2,
              subst (λ (z : List Entry × List Entry). StartsWith z.0 z.1) (λ i. (log_is i, (a.2 i).seen))
                  (r.each p.caller a.0).seen,
            )) v.taken mine.taken,
      )

      not_held : (g : List Entry) → Idle ≡ Holds g → ⊥
      not_held g e = cc

      out : IsOut l fits s.homes r.callers r.made r.log → ⊥
      out o = ⊎_elim (λ (e : o.1.0 ≡ v.caller). not_held o.1.2.0 (sym idle ∙ ap (λ (z : Part). z.stage) (sym is) ∙ ap (λ (k : ℕ). (r.callers k).stage) (sym e)
          ∙ o.1.2.1))
          (λ (t : (i : ℕ) × (p : Past) × (get_elem? v.taken i ≡ some p) × (p.caller ≡ o.1.0)).
          let a = each_at (KnowsPast r.log r.callers r.seat r.made id v.live v.caller) v.taken t.0 t.1 mine.taken t.2 in
          not_held o.1.2.0 (ap (λ (z : Part). z.stage) (sym a.2) ∙ ap (λ (k : ℕ). (r.callers k).stage) t.3 ∙ o.1.2.1))
          (covers o.1.0 (let a = o.1.1 in let b = r.made_fits in omega arith))

      home : IsHome l fits s.homes r.log → (d : Desk O) × (get_elem? xs 0 ≡ some (Some d)) × DeskOk l fits d h × Agrees h v
      home (d, there, ok) = (
        d,
        f.4 0 (Some d) (ap (λ (hs : List (maybe.Option (Option (Desk O)))). get_elem? hs 0) there),
        subst (DeskOk l fits d) log_is ok,
        agrees,
      )
