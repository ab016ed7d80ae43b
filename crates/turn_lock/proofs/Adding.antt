-- One more entry, by an object that fits the history.
use Rattle.std.proofs.Common.{◌≡◌, ℕ, suc, ◌<◌, max, Option, Some, Result, Ok, Err, IfOk, OnErr, arith, List, [], ◌∷◌, ◌++◌, sym, refl, ap, ◌∙◌, subst}
use Rattle.std.proofs.lemmas.List.{append-nil}
use Rattle.atomic_table.specs.Table.{rest}
use Rattle.bt_core.specs.declared.step.Op.{Op}
use Rattle.turn_lock.specs.declared.entry.Entry.{Entry}
use Rattle.turn_lock.specs.declared.view.Desk.{Desk}
use Rattle.turn_lock.specs.History.{Law, IsLegal, ops, made_by, StartsWith, Each, Rises}
use Rattle.turn_lock.specs.declared.view.View.{View}
use Rattle.turn_lock.specs.declared.view.Stage.{Stage}
use Rattle.turn_lock.specs.declared.view.Stage.TheVariants.{Idle, Holds}
use Rattle.turn_lock.specs.Turns.{DeskOk, after}
use Rattle.turn_lock.specs.Calls.{Gains, Stays}
use Rattle.turn_lock.proofs.HistoryLemmas.{legal_rises, legal_snoc, stamp_snoc, ops_snoc, made_by_append, made_by_own}

pub adds : {O : Type 0} (l : Law) (fits : O → List Op → Type 0) (d d' : Desk O) (h : List Entry) (e : Entry) → DeskOk l fits d h → e.caller < l.callers
    → l.is_own e.op → e.reply ≡ l.reply (ops h) e.op
    → e.stamp ≡ suc (max e.floor d.stamp) → d'.stamp ≡ e.stamp → fits d'.object (ops h ++ e.op ∷ []) → DeskOk l fits d' (h ++ e ∷ [])
adds l fits d d' h e ok caller own reply stamp stored object = record {
  legal = legal_snoc l [] 0 h e ok.legal record { caller = caller; own = own; reply = reply; stamp = stamp ∙ ap (λ (k : ℕ). suc (max e.floor k)) ok.stamp };
  stamp = stored ∙ sym (stamp_snoc 0 h e);
  object = subst (fits d'.object) (sym (ops_snoc h e)) object;
}

abbrev desk_in : {D : Type 0} → D → List (ℕ × Option D) → Option D
desk_in d [] = Some d
desk_in d (x ∷ xs) = x.1

-- the desk in the one slot that a seat holds
pub same_desk : {D : Type 0} (xs : List (ℕ × Option D)) (d d' : D) (found : Option D) → xs ≡ (0, Some d) ∷ [] → xs ≡ (0, found) ∷ rest xs → found ≡ Some d'
    → d ≡ d'
same_desk xs d d' found a b e = let t : Some d ≡ Some d' = ap (desk_in d) (sym a ∙ b) ∙ e in cc

pub same_history : (s : Stage) (h g : List Entry) → s ≡ Holds h → s ≡ Holds g → h ≡ g
same_history s h g a b = cc

pub ok_weaken : {A E : Type 0} (P Q : A → Type 0) (r : Result A E) → ((x : A) → P x → Q x) → IfOk r P → IfOk r Q
ok_weaken P Q (Ok x) f h = f x h
ok_weaken P Q (Err e) f h = tt

pub ok_both : {A E : Type 0} (P Q Z : A → Type 0) (r : Result A E) → ((x : A) → P x → Q x → Z x) → IfOk r P → IfOk r Q → IfOk r Z
ok_both P Q Z (Ok x) f p q = f x p q
ok_both P Q Z (Err e) f p q = tt

pub err_both : {A E : Type 0} (P Q Z : Type 0) (r : Result A E) → (P → Q → Z) → OnErr r P → OnErr r Q → OnErr r Z
err_both P Q Z (Ok x) f p q = tt
err_both P Q Z (Err e) f p q = f p q

pub both_ways : {A E : Type 0} (P : A → Type 0) (Q Z : Type 0) (r : Result A E) → ((x : A) → P x → Z) → (Q → Z) → IfOk r P → OnErr r Q → Z
both_ways P Q Z (Ok x) f g p q = f x p
both_ways P Q Z (Err e) f g p q = g q

pub err_weaken : {A E : Type 0} (P Q : Type 0) (r : Result A E) → (P → Q) → OnErr r P → OnErr r Q
err_weaken P Q (Ok x) f h = tt
err_weaken P Q (Err e) f h = f h

-- what a caller knows after it added an entry
pub called : (l : Law) (c : ℕ) (v : View) (h : List Entry) (e : Entry) → StartsWith h v.seen → made_by c h ≡ v.mine → e.caller ≡ c → IsLegal l (h ++ e ∷ [])
    → Gains l c v (after (e ∷ []) v h) e
called l c v h e s own by legal = record {
  sees = record {
    legal = legal;
    rises = legal_rises l [] 0 (h ++ e ∷ []) legal;
    own = made_by_append c h (e ∷ [])
        ∙ (λ i. own i ++ made_by_own c (e ∷ []) (by, tt) i);
  };
  more = (s.0, ap (λ (z : List Entry). z ++ e ∷ []) s.1);
  one_more = refl;
}

-- what a caller knows after it gave up
pub looked_on : (l : Law) (c : ℕ) (v : View) (h : List Entry) → StartsWith h v.seen → made_by c h ≡ v.mine → IsLegal l h → Stays l c v (after [] v h)
looked_on l c v h s own legal = subst (λ (z : List Entry × List Entry). Stays l c v (let w : View = record v { stage = Idle; mine = z.0; seen = z.1 } in w))
    (λ i. (sym (append-nil v.mine) i, sym (append-nil h) i)) record {
      sees = record { legal = legal; rises = legal_rises l [] 0 h legal; own = own };
      more = s;
      same = refl;
    }

rises_last : (last : ℕ) (es : List Entry) (e : Entry) → Rises last (es ++ e ∷ []) → (e.floor < e.stamp) × (last < e.stamp) × Each (λ x. x.stamp < e.stamp) es
rises_last last [] e r = (r.0, r.1, tt)
rises_last last (x ∷ xs) e r = let t = rises_last x.stamp xs e r.2 in (t.0, (let a = r.1 in let b = t.1 in omega arith), (t.1, t.2))

each_left : (P : Entry → Type 0) (xs ys : List Entry) → Each P (xs ++ ys) → Each P xs
each_left P [] ys h = tt
each_left P (x ∷ xs) ys h = (h.0, each_left P xs ys h.1)

-- the entry's stamp is above its floor, and above each stamp that was seen before
pub above : (l : Law) (c : ℕ) (v w : View) (e : Entry) → Gains l c v w e → (e.floor < e.stamp) × Each (λ x. x.stamp < e.stamp) v.seen
above l c v w e g = let t = rises_last 0 (v.seen ++ g.more.0) e (subst (Rises 0) g.more.1 g.sees.rises) in
    (t.0, each_left (λ x. x.stamp < e.stamp) v.seen g.more.0 t.2)
