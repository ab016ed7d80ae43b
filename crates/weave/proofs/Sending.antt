-- What was emitted, in order.
use Rattle.std.proofs.Common.{◌≡◌, ℕ, ◌+◌, ◌<◌, Bool, true, false, cond, List, [], ◌∷◌, ◌++◌, map, length, get_or, take, Option, None, Some, sym, refl, ap, ◌∙◌, subst}
use Rattle.std.specs.Cmp.{IsTotalOrder, IsStrictWeakOrder, nat_cmp_total}
use Rattle.std.specs.List.{filter_map}
use Rattle.std.specs.List.Sorted.{IsSortedBy, IsStableBy}
use Rattle.std.specs.Ordering.{is_lt, nat_cmp, ordering_then}
use Rattle.std.specs.declared.cmp.Ordering.{Ordering}
use Rattle.std.proofs.lemmas.Cmp.{on_total, then_total}
use Rattle.std.proofs.lemmas.List.MinMax.{ranks_by}
use Rattle.bt_core.specs.declared.step.ObjectId.{ObjectId}
use Rattle.bt_core.specs.declared.step.Op.{Op}
use Rattle.bt_core.specs.declared.step.Op.TheVariants as ops
use Rattle.bt_core.specs.declared.step.Step.{Step}
use Rattle.bt_core.specs.contracts.step.ObjectIdOrd.TheImpl as object_ord
use Rattle.bt_core.specs.Order.{object_order}
use Rattle.bt_core.proofs.OrderLaws.{objects_total}
use Rattle.step_list.specs.Emits.{Sent, told, object_told, sent, emit_of}
use Rattle.step_list.specs.declared.emits.Emitted.{Emitted}
use Rattle.step_list.specs.declared.list.StepList.{StepList}
use Rattle.step_list.specs.Lists.{steps_in}
use Rattle.std.proofs.lemmas.List.Elements.{filter_map-append}
use Rattle.weave.specs.Listed.{listed}
use Rattle.weave.specs.Order.{comes_before}
use Rattle.weave.specs.Ranked.{put_in, ranked}
use Rattle.weave.specs.Sent.{sent_before}
use Rattle.weave.proofs.Orders.{derived_order}
use Rattle.weave.proofs.Picking.{picked_in_order}
use Rattle.weave.proofs.Listing.{listed_more}
use Rattle.weave.proofs.Stable.{steps_from, sorted_is_ranked}
use Rattle.weave.proofs.StepOrder.{steps_ranked}

-- what a step emits has its stamp and its object
pub record Of (s : Step) (p : Sent) : Type 0 where
  pub stamp : p.0 ≡ s.stamp
  pub object : p.1.0 ≡ s.object

some_same : (p q : Sent) → ◌≡◌ {A = Option Sent} (Some p) (Some q) → p ≡ q
some_same p q e = cc

none_some : {P : Type 0} (q : Sent) → ◌≡◌ {A = Option Sent} None (Some q) → P
none_some q e = absurd (let t : ⊥ = cc in t)

of_step : (stamp : ℕ) (object : ObjectId) (op : Op) (p : Sent) → sent stamp object op ≡ Some p → (p.0 ≡ stamp) × (p.1.0 ≡ object)
of_step n o (ops.Emit item) p e = let q = some_same (n, (o, item)) p e in (ap (λ (s : Sent). s.0) (sym q), ap (λ (s : Sent). s.1.0) (sym q))
of_step n o _ p e = none_some p e

same_order : (s t : Step) (p q : Sent) → emit_of s ≡ Some p → emit_of t ≡ Some q → sent_before p q ≡ comes_before s t
same_order s t p q e f = let a = of_step s.stamp s.object s.op p e in let b = of_step t.stamp t.object t.op q f in
    λ i. is_lt (ordering_then (nat_cmp (a.0 i) (b.0 i)) (object_order (a.1 i) (b.1 i)))

pub sent_in_order : (steps : List Step) → filter_map emit_of (ranked comes_before steps) ≡ ranked sent_before (filter_map emit_of steps)
sent_in_order steps = picked_in_order comes_before sent_before steps_ranked emit_of same_order steps

-- by the derived order of keys
abbrev pub key_before : Emitted → Emitted → Bool
key_before e f = is_lt (ordering_then (nat_cmp e.stamp f.stamp) (object_ord.ghosts.cmp (object_told e.item) (object_told f.item)))

key_is : (e f : Emitted) → key_before e f ≡ sent_before (told e) (told f)
key_is e f = ap (λ (o : Ordering). is_lt (ordering_then (nat_cmp e.stamp f.stamp) o)) (derived_order (object_told e.item) (object_told f.item))

sent_total : IsTotalOrder (λ (e f : Emitted). ordering_then (nat_cmp e.stamp f.stamp) (object_order (object_told e.item) (object_told f.item)))
sent_total = then_total (on_total (λ (e : Emitted). e.stamp) nat_cmp_total) (on_total (λ (e : Emitted). object_told e.item) objects_total)

told_ranked : IsStrictWeakOrder (λ (e f : Emitted). sent_before (told e) (told f))
told_ranked = ranks_by sent_total (λ (e : Emitted). e)

module _ {A B : Type 0} (lt : B → B → Bool) (f : A → B) where
  map_cond : (b : Bool) (x y : A) (ys : List A) → map f (put_in (λ x y. lt (f x) (f y)) x ys) ≡ put_in lt (f x) (map f ys)
      → map f (cond b (y ∷ put_in (λ x y. lt (f x) (f y)) x ys) (x ∷ y ∷ ys)) ≡ cond b (f y ∷ put_in lt (f x) (map f ys)) (f x ∷ f y ∷ map f ys)
  map_cond true x y ys h = ap (λ l. f y ∷ l) h
  map_cond false x y ys h = refl

  map_put : (x : A) (ys : List A) → map f (put_in (λ x y. lt (f x) (f y)) x ys) ≡ put_in lt (f x) (map f ys)
  map_put x [] = refl
  map_put x (y ∷ ys) = map_cond (lt (f y) (f x)) x y ys (map_put x ys)

  pub map_ranked : (xs : List A) → map f (ranked (λ x y. lt (f x) (f y)) xs) ≡ ranked lt (map f xs)
  map_ranked [] = refl
  map_ranked (x ∷ xs) = map_put x (ranked (λ x y. lt (f x) (f y)) xs) ∙ ap (put_in lt (f x)) (map_ranked xs)

-- a stable sort by these keys puts in order
pub sorted_emits : (xs ys : List Emitted) → IsSortedBy key_before ys → IsStableBy key_before xs ys → map told ys ≡ ranked sent_before (map told xs)
sorted_emits xs ys h s =
    let same : key_before ≡ (λ (e f : Emitted). sent_before (told e) (told f)) = (λ i e f. key_is e f i) in
    ap (map told) (sorted_is_ranked (λ (e f : Emitted). sent_before (told e) (told f)) told_ranked xs ys
    (steps_from (λ (e f : Emitted). sent_before (told e) (told f)) ys (subst (λ (l : Emitted → Emitted → Bool). IsSortedBy l ys) same h))
    (subst (λ (l : Emitted → Emitted → Bool). IsStableBy l xs ys) same s))
    ∙ map_ranked sent_before told xs

pub one_more_list : (ls : List StepList) (i : ℕ) (l : StepList) (found news : List Sent) → i < length ls → l ≡ get_or ls i l → found ≡ filter_map emit_of (listed (take i ls))
    → news ≡ found ++ filter_map emit_of (steps_in l) → news ≡ filter_map emit_of (listed (take (i + 1) ls))
one_more_list ls i l found news lt e h f = f ∙ (ap (λ (z : List Sent). z ++ filter_map emit_of (steps_in l)) h
    ∙ (sym (filter_map-append emit_of (listed (take i ls)) (steps_in l)) ∙ ap (filter_map emit_of) (sym (listed_more ls i l lt e))))
