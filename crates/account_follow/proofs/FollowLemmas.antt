-- A list that is followed for an actor, step by step.
use Rattle.std.proofs.Common.{◌≡◌, ◌≢◌, ℕ, zero, suc, ◌-◌, ◌<◌, ◌≤◌, Bool, List, [], ◌∷◌, ◌++◌, length, map, take, drop, get_or, slice_index_or, slice_set, sym, refl, ap, ◌∙◌, subst, arith, cond, eq-eqb}
use Rattle.std.proofs.Math.Seq.{take-suc, take-suc-set, drop-cons, map-set_same}
use Rattle.std.proofs.lemmas.List.{append-nil, append_assoc}
use Rattle.std.specs.List.{AllByRecursion}
use Rattle.bt_core.specs.declared.item.Item.TheVariants.{Cut}
use Rattle.bt_core.specs.declared.map.MapDecl.{MapDecl}
use Rattle.bt_core.specs.declared.step.ObjectId.{ObjectId}
use Rattle.bt_core.specs.declared.step.ObjectId.TheVariants.{Shared, Cpu, Clock, Out}
use Rattle.bt_core.specs.declared.step.Op.{Op}
use Rattle.bt_core.specs.declared.step.Op.TheVariants.{Get, Set, Delete, Clear, Zero, ReadAll, Add, ClearOf, ZeroOf, Read, Cross, Check, Stop, Emit}
use Rattle.bt_core.specs.declared.step.Reply.{Reply}
use Rattle.bt_core.specs.declared.step.Step.{Step}
use Rattle.bt_core.specs.Interaction.{Call, call_of, last_reply}
use Rattle.bt_core.specs.Ports.{Setting, IsReplyOf}
use Rattle.bt_core.specs.Steps.{of_actor}
use Rattle.bt_core.proofs.StepLists.{of_actor-own, of_actor-other}
use Rattle.bt_core.proofs.InteractionLaws.{last_reply-append}
use Rattle.std.specs.Prelude.{Result, Ok, Err, OnOk}
use Rattle.step_entries.specs.Blank.{blank_op, blank_call, blank_of}
use Rattle.account_follow.specs.Following.{with_op}

-- ---- operations without their items

pub blank_same : (op : Op) → ((item : _) → op ≡ Emit item → ⊥) → blank_op op ≡ op
blank_same (Get key) other = refl
blank_same (Set key value) other = refl
blank_same (Delete key) other = refl
blank_same Clear other = refl
blank_same Zero other = refl
blank_same ReadAll other = refl
blank_same (Add m key number) other = refl
blank_same (ClearOf m) other = refl
blank_same (ZeroOf m) other = refl
blank_same (Read m) other = refl
blank_same (Cross tick) other = refl
blank_same Check other = refl
blank_same Stop other = refl
blank_same (Emit item) other = absurd (other item refl)

-- ---- lists limited to an actor, by places

module _ (a : ℕ) (l : List Step) where
  pub take_own : (i : ℕ) (d : Step) → i < length l → (get_or l i d).actor ≡ a → of_actor a (take (suc i) l) ≡ of_actor a (take i l) ++ get_or l i d ∷ []
  take_own i d lt own = ap (of_actor a) (take-suc l i d lt) ∙ of_actor-own a (take i l) (get_or l i d) [] own

  pub take_other : (i : ℕ) (d : Step) → i < length l → (get_or l i d).actor ≢ a → of_actor a (take (suc i) l) ≡ of_actor a (take i l)
  take_other i d lt ne = ap (of_actor a) (take-suc l i d lt) ∙ of_actor-other a (take i l) (get_or l i d) [] ne ∙ append-nil (of_actor a (take i l))

  pub drop_own : (i : ℕ) (d : Step) → i < length l → (get_or l i d).actor ≡ a → of_actor a (drop i l) ≡ get_or l i d ∷ of_actor a (drop (suc i) l)
  drop_own i d lt own = ap (of_actor a) (drop-cons l i d lt) ∙ of_actor-own a [] (get_or l i d) (drop (suc i) l) own

  pub drop_other : (i : ℕ) (d : Step) → i < length l → (get_or l i d).actor ≢ a → of_actor a (drop i l) ≡ of_actor a (drop (suc i) l)
  drop_other i d lt ne = ap (of_actor a) (drop-cons l i d lt) ∙ of_actor-other a [] (get_or l i d) (drop (suc i) l) ne

-- ---- replies, whatever is emitted

module _ (maps : List MapDecl) (r : Reply) where
  emits_alike : (o : ObjectId) (one other : _) → IsReplyOf maps o (Emit one) r → IsReplyOf maps o (Emit other) r
  emits_alike (Shared m p) one other h = h
  emits_alike (Cpu c) one other h = h
  emits_alike Clock one other h = h
  emits_alike Out one other h = h

  to_blank : (o : ObjectId) (op : Op) → IsReplyOf maps o op r → IsReplyOf maps o (blank_op op) r
  to_blank o (Emit item) h = emits_alike o item (Cut 0) h
  to_blank o (Get key) h = h
  to_blank o (Set key value) h = h
  to_blank o (Delete key) h = h
  to_blank o Clear h = h
  to_blank o Zero h = h
  to_blank o ReadAll h = h
  to_blank o (Add m key number) h = h
  to_blank o (ClearOf m) h = h
  to_blank o (ZeroOf m) h = h
  to_blank o (Read m) h = h
  to_blank o (Cross tick) h = h
  to_blank o Check h = h
  to_blank o Stop h = h

  of_blank : (o : ObjectId) (op : Op) → IsReplyOf maps o (blank_op op) r → IsReplyOf maps o op r
  of_blank o (Emit item) h = emits_alike o (Cut 0) item h
  of_blank o (Get key) h = h
  of_blank o (Set key value) h = h
  of_blank o (Delete key) h = h
  of_blank o Clear h = h
  of_blank o Zero h = h
  of_blank o ReadAll h = h
  of_blank o (Add m key number) h = h
  of_blank o (ClearOf m) h = h
  of_blank o (ZeroOf m) h = h
  of_blank o (Read m) h = h
  of_blank o (Cross tick) h = h
  of_blank o Check h = h
  of_blank o Stop h = h

  pub reply_alike : (o q : ObjectId) (op other : Op) → o ≡ q → blank_op op ≡ blank_op other → IsReplyOf maps o op r → IsReplyOf maps q other r
  reply_alike o q op other e f h = of_blank q other (subst (λ x. IsReplyOf maps q x r) f (to_blank q op (subst (λ x. IsReplyOf maps x op r) e h)))

-- ---- a step of the list is met

all_at : (P : Step → Type 0) (l : List Step) (i : ℕ) (d : Step) → i < length l → AllByRecursion P l → P (get_or l i d)
all_at P [] i d lt h = absurd (omega arith)
all_at P (s ∷ ss) zero d lt h = h.0
all_at P (s ∷ ss) (suc i) d lt h = all_at P ss i d (omega arith) h.1

pub blank_with : (a : ℕ) (op : Op) (s : Step) → blank_op op ≡ blank_op s.op → s.actor ≡ a → blank_of a (with_op op s) ≡ blank_of a s
blank_with a op s e own =
    ap (λ (b : Bool). cond b (record { actor = s.actor; object = s.object; stamp = s.stamp; op = blank_op op; reply = s.reply }) (with_op op s)) (eq-eqb s.actor a own)
    ∙ ap (λ x. record { actor = s.actor; object = s.object; stamp = s.stamp; op = x; reply = s.reply }) e
    ∙ ap (λ (b : Bool). cond b (record { actor = s.actor; object = s.object; stamp = s.stamp; op = blank_op s.op; reply = s.reply }) s) (sym (eq-eqb s.actor a own))

module _ (setting : Setting) (l : List Step) (at from : ℕ) (object : ObjectId) (op : Op) (d : Step) (lt : at < length l)
    (own : (get_or l at d).actor ≡ setting.actor) (next : blank_call (call_of (get_or l at d)) ≡ blank_call (record { object = object; op = op })) where
  abbrev met : List Step
  met = slice_set l at (with_op op (get_or l at d))

  pub met_blanks : map (blank_of setting.actor) met ≡ map (blank_of setting.actor) l
  met_blanks = map-set_same (blank_of setting.actor) l at (with_op op (get_or l at d)) d
      (blank_with setting.actor op (get_or l at d) (sym (ap (λ (c : Call). c.op) next)) own)

  pub met_steps : of_actor setting.actor (take (suc at) met) ≡ of_actor setting.actor (take at l) ++ with_op op (get_or l at d) ∷ []
  met_steps = ap (of_actor setting.actor) (take-suc-set l at (with_op op (get_or l at d)) lt)
      ∙ of_actor-own setting.actor (take at l) (with_op op (get_or l at d)) [] own

  pub met_reply : AllByRecursion (λ (s : Step). s.actor ≡ setting.actor → IsReplyOf setting.maps s.object s.op s.reply) l
      → IsReplyOf setting.maps object op (last_reply (of_actor setting.actor (take (suc at) met) ++ []))
  met_reply all =
      let s = get_or l at d in
      let r = all_at (λ (x : Step). x.actor ≡ setting.actor → IsReplyOf setting.maps x.object x.op x.reply) l at d lt all own in
      subst (IsReplyOf setting.maps object op)
      (sym (ap last_reply (append-nil (of_actor setting.actor (take (suc at) met)) ∙ met_steps) ∙ last_reply-append (of_actor setting.actor (take at l)) (with_op op s)))
      (reply_alike setting.maps s.reply s.object object s.op op (ap (λ (c : Call). c.object) next) (ap (λ (c : Call). c.op) next) r)

-- ---- the reply of the last step

pub last_met : (a : ℕ) (l : List Step) (at : ℕ) (d : Step) → at ≤ length l → ((n : ℕ) (e : Step) → at ≡ suc n → (slice_index_or l n e).actor ≡ a)
    → 0 < length (of_actor a (take at l)) → (get_or l (at - 1) d).reply ≡ last_reply (of_actor a (take at l))
last_met a l zero d le own lt = absurd (omega arith)
last_met a l (suc n) d le own lt =
    let e : suc n - 1 ≡ n = omega arith in
    ap (λ k. (get_or l k d).reply) e ∙ sym (ap last_reply (take_own a l n d (omega arith) (own n d refl)) ∙ last_reply-append (of_actor a (take n l)) (get_or l n d))

pub last_stray : (xs ss : List Step) (d : Step) → 0 < length ss → (get_or ss (length ss - 1) d).reply ≡ last_reply (xs ++ ss)
last_stray xs [] d lt = absurd (omega arith)
last_stray xs (s ∷ []) d lt = let e : length (s ∷ []) - 1 ≡ 0 = omega arith in ap (λ n. (get_or (s ∷ []) n d).reply) e ∙ sym (last_reply-append xs s)
last_stray xs (s ∷ t ∷ ss) d lt =
    let e : length (s ∷ t ∷ ss) - 1 ≡ suc (length (t ∷ ss) - 1) = omega arith in
    ap (λ n. (get_or (s ∷ t ∷ ss) n d).reply) e ∙ last_stray (xs ++ s ∷ []) (t ∷ ss) d (omega arith) ∙ ap last_reply (append_assoc xs (s ∷ []) (t ∷ ss))

pub not_empty : {A : Type 0} (xs : List A) → (xs ≡ [] → ⊥) → 0 < length xs
not_empty [] other = absurd (other refl)
not_empty (x ∷ xs) other = omega arith

pub by_result : {T E : Type 0} {P Q : Type 0} (r : Result T E) → (P → Q) → OnOk r P → OnOk r Q
by_result (Ok x) f h = f h
by_result (Err e) f h = h
