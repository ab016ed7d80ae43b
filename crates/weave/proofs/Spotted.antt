-- The spots of lists in order lead to the steps of the lists in order.
use Rattle.std.proofs.Common.{◌≡◌, ℕ, zero, suc, ◌+◌, Bool, List, [], ◌∷◌, ◌++◌, map, length, drop, Option, None, Some, get_or, append_assoc, append-nil, sym, refl, ap, ◌∙◌, subst, arith, ◌<◌, ◌≤◌, ⊎_elim}
use Rattle.std.specs.Cmp.{IsTotalOrder, IsStrictWeakOrder, nat_cmp_total}
use Rattle.std.specs.List.{slice_get, filter_map, cons_option}
use Rattle.std.specs.List.Sorted.{IsSortedBy, IsStableBy}
use Rattle.std.specs.Option.{option_and_then, option_map}
use Rattle.std.specs.Ordering.{is_lt, nat_cmp, ordering_then}
use Rattle.std.specs.declared.cmp.Ordering.{Ordering}
use Rattle.std.proofs.lemmas.Cmp.{on_total, then_total}
use Rattle.std.proofs.lemmas.List.{map-append, length-map, drop-drop, drop_all, drop_more}
use Rattle.std.proofs.lemmas.List.MinMax.{ranks_by}
use Rattle.std.proofs.lemmas.Option.{slice_get-map, slice_get_within, slice_get_cases, get_or_from_slice_get}
use Rattle.std.proofs.lemmas.Simd.{map-map}
use Rattle.bt_core.specs.declared.step.ObjectId.{ObjectId}
use Rattle.bt_core.specs.declared.step.Step.{Step}
use Rattle.bt_core.specs.contracts.step.ObjectIdOrd.TheImpl as object_ord
use Rattle.bt_core.specs.Order.{object_order}
use Rattle.bt_core.proofs.OrderLaws.{objects_total}
use Rattle.step_list.specs.declared.list.StepList.{StepList}
use Rattle.step_list.specs.Lists.{steps_in}
use Rattle.weave.specs.declared.spots.Keyed.{Keyed}
use Rattle.weave.specs.declared.spots.Spot.{Spot}
use Rattle.weave.specs.Keyed.{keyed_step, keyed_at, keyed_from, keyed_lists, keyed_before}
use Rattle.weave.specs.Listed.{listed}
use Rattle.weave.specs.Order.{comes_before}
use Rattle.weave.specs.Ranked.{ranked}
use Rattle.weave.specs.Spots.{step_at, steps_at, AreSpots}
use Rattle.weave.proofs.Orders.{derived_order}
use Rattle.weave.proofs.Sending.{map_ranked}
use Rattle.weave.proofs.Stable.{steps_from, sorted_is_ranked}

-- what is found at a spot, with the stamp and the object by which it is put in order
abbrev Found : Type 0
Found = Option Step × ℕ × ObjectId

abbrev found_before : Found → Found → Bool
found_before p q = is_lt (ordering_then (nat_cmp p.1 q.1) (object_order p.2 q.2))

abbrev of_step : Step → Found
of_step s = (Some s, s.stamp, s.object)

module _ (all : List StepList) where
  abbrev of_key : Keyed → Found
  of_key k = (step_at all k.spot, k.stamp, k.object)

  at_key : (l : StepList) (list place : ℕ) (s : Step) → slice_get all list ≡ Some l → slice_get (steps_in l) place ≡ Some s
      → of_key (keyed_step list place s) ≡ of_step s
  at_key l list place s e f = ap (λ (o : Option Step). (o, s.stamp, s.object))
      (ap (option_and_then (λ (m : StepList). slice_get (steps_in m) place)) e ∙ f)

  of_list : (l : StepList) (list place : ℕ) (steps : List Step) → slice_get all list ≡ Some l
      → ((k : ℕ) → slice_get (steps_in l) (place + k) ≡ slice_get steps k) → map of_key (keyed_from list place steps) ≡ map of_step steps
  of_list l list place [] e h = refl
  of_list l list place (s ∷ ss) e h =
      let here : slice_get (steps_in l) place ≡ Some s = ap (slice_get (steps_in l)) (let z : place ≡ place + 0 = omega arith in z) ∙ h 0 in
      let rest = of_list l list (suc place) ss e
      (λ k. ap (slice_get (steps_in l)) (let z : suc place + k ≡ place + suc k = omega arith in z) ∙ h (suc k)) in
      λ i. at_key l list place s e here i ∷ rest i

  of_lists : (list : ℕ) (rest : List StepList) → ((k : ℕ) → slice_get all (list + k) ≡ slice_get rest k)
      → map of_key (keyed_lists list rest) ≡ map of_step (listed rest)
  of_lists list [] h = refl
  of_lists list (l ∷ ls) h =
      let here : slice_get all list ≡ Some l = ap (slice_get all) (let z : list ≡ list + 0 = omega arith in z) ∙ h 0 in
      let one = of_list l list 0 (steps_in l) here (λ k. ap (slice_get (steps_in l)) (let z : 0 + k ≡ k = omega arith in z)) in
      let rest = of_lists (suc list) ls (λ k. ap (slice_get all) (let z : suc list + k ≡ list + suc k = omega arith in z) ∙ h (suc k)) in
      map-append of_key (keyed_from list 0 (steps_in l)) (keyed_lists (suc list) ls)
      ∙ ((λ i. one i ++ rest i) ∙ sym (map-append of_step (steps_in l) (listed ls)))

  found_in_order : map of_key (ranked keyed_before (keyed_lists 0 all)) ≡ map of_step (ranked comes_before (listed all))
  found_in_order = map_ranked found_before of_key (keyed_lists 0 all)
      ∙ (ap (ranked found_before) (of_lists 0 all (λ k. ap (slice_get all) (let z : 0 + k ≡ k = omega arith in z)))
      ∙ sym (map_ranked found_before of_step (listed all)))

  abbrev spots : List Spot
  spots = map (λ (k : Keyed). k.spot) (ranked keyed_before (keyed_lists 0 all))

  each_found : map (step_at all) spots ≡ map Some (ranked comes_before (listed all))
  each_found = map-map (step_at all) (λ (k : Keyed). k.spot) (ranked keyed_before (keyed_lists 0 all))
      ∙ (sym (map-map (λ (p : Found). p.0) of_key (ranked keyed_before (keyed_lists 0 all)))
      ∙ (ap (map (λ (p : Found). p.0)) found_in_order ∙ map-map (λ (p : Found). p.0) of_step (ranked comes_before (listed all))))

module _ {A B : Type 0} (h : A → Option B) where
  picks : (xs : List A) → filter_map h xs ≡ filter_map (λ (o : Option B). o) (map h xs)
  picks [] = refl
  picks (x ∷ xs) = ap (cons_option (h x)) (picks xs)

all_some : {B : Type 0} (ys : List B) → filter_map (λ (o : Option B). o) (map Some ys) ≡ ys
all_some [] = refl
all_some (y ∷ ys) = ap (λ l. y ∷ l) (all_some ys)

steps_found : (all : List StepList) → steps_at all (spots all) ≡ ranked comes_before (listed all)
steps_found all = picks (step_at all) (spots all) ∙ (ap (filter_map (λ (o : Option Step). o)) (each_found all) ∙ all_some (ranked comes_before (listed all)))

pub steps_told : (woven : List Step) (all : List StepList) (found : List Spot) → woven ≡ ranked comes_before (listed all) → found ≡ spots all
    → steps_at all found ≡ woven
steps_told woven all found e f = ap (steps_at all) f ∙ (steps_found all ∙ sym e)

pub spots_stand : (all : List StepList) (found : List Spot) → found ≡ spots all → AreSpots all found
spots_stand all found f = subst (AreSpots all) (sym f) (each_found all ∙ ap (map Some) (sym (steps_found all)))

-- at a place of the spots
some_is : {B : Type 0} (o p : Option B) → ◌≡◌ {A = Option (Option B)} (Some o) (option_map Some p) → o ≡ p
some_is o None e = absurd (let t : ⊥ = cc in t)
some_is o (Some y) e = let t : o ≡ Some y = cc in t

none_is : {B : Type 0} (p : Option B) → ◌≡◌ {A = Option (Option B)} None (option_map Some p) → p ≡ None
none_is None e = refl
none_is (Some y) e = absurd (let t : ⊥ = cc in t)

at_place : (all : List StepList) (found : List Spot) (k : ℕ) → AreSpots all found
    → option_map (step_at all) (slice_get found k) ≡ option_map Some (slice_get (steps_at all found) k)
at_place all found k e = sym (slice_get-map (step_at all) found k)
    ∙ (ap (λ (l : List (Option Step)). slice_get l k) e ∙ slice_get-map Some (steps_at all found) k)

pub spot_tells : (all : List StepList) (found : List Spot) (k : ℕ) (spot : Spot) → AreSpots all found → slice_get found k ≡ Some spot
    → step_at all spot ≡ slice_get (steps_at all found) k
spot_tells all found k spot e f = some_is (step_at all spot) (slice_get (steps_at all found) k)
    (sym (ap (option_map (step_at all)) f) ∙ at_place all found k e)

pub no_spot : (all : List StepList) (found : List Spot) (k : ℕ) → AreSpots all found → slice_get found k ≡ None → slice_get (steps_at all found) k ≡ None
no_spot all found k e f = none_is (slice_get (steps_at all found) k) (sym (ap (option_map (step_at all)) f) ∙ at_place all found k e)

pub spots_count : (all : List StepList) (found : List Spot) → AreSpots all found → length found ≡ length (steps_at all found)
spots_count all found e = sym (length-map found (step_at all)) ∙ (ap length e ∙ length-map (steps_at all found) Some)

-- what is left
pub next_is : {A : Type 0} (xs : List A) (n : ℕ) → slice_get (drop n xs) 0 ≡ slice_get xs n
next_is xs zero = refl
next_is [] (suc n) = refl
next_is (x ∷ xs) (suc n) = next_is xs n

pub rest_is : {A : Type 0} (xs : List A) (n : ℕ) → drop (n + 1) xs ≡ drop 1 (drop n xs)
rest_is xs n = sym (drop-drop 1 n xs)

pub rest_none : {A : Type 0} (xs : List A) (n : ℕ) → length xs ≤ n → drop n xs ≡ drop 1 (drop n xs)
rest_none xs n le = drop_all n xs le ∙ ap (drop 1) (sym (drop_all n xs le))

-- a stable sort by these keys puts in order
abbrev pub key_before : Keyed → Keyed → Bool
key_before k l = is_lt (ordering_then (nat_cmp k.stamp l.stamp) (object_ord.ghosts.cmp k.object l.object))

key_is : (k l : Keyed) → key_before k l ≡ keyed_before k l
key_is k l = ap (λ (o : Ordering). is_lt (ordering_then (nat_cmp k.stamp l.stamp) o)) (derived_order k.object l.object)

keys_total : IsTotalOrder (λ (k l : Keyed). ordering_then (nat_cmp k.stamp l.stamp) (object_order k.object l.object))
keys_total = then_total (on_total (λ (k : Keyed). k.stamp) nat_cmp_total) (on_total (λ (k : Keyed). k.object) objects_total)

keys_ranked : IsStrictWeakOrder keyed_before
keys_ranked = ranks_by keys_total (λ (k : Keyed). k)

pub sorted_keys : (xs ys : List Keyed) → IsSortedBy key_before ys → IsStableBy key_before xs ys → ys ≡ ranked keyed_before xs
sorted_keys xs ys h s = let same : key_before ≡ keyed_before = (λ i k l. key_is k l i) in
    sorted_is_ranked keyed_before keys_ranked xs ys (steps_from keyed_before ys (subst (λ (l : Keyed → Keyed → Bool). IsSortedBy l ys) same h))
    (subst (λ (l : Keyed → Keyed → Bool). IsStableBy l xs ys) same s)

-- one step, or one list, more
this_step_more : (n i : ℕ) (steps : List Step) (s : Step) (found news whole : List Keyed) → slice_get steps i ≡ Some s
    → found ++ keyed_from n i (drop i steps) ≡ whole → news ≡ found ++ keyed_step n i s ∷ [] → news ++ keyed_from n (i + 1) (drop (i + 1) steps) ≡ whole
this_step_more n i steps s found news whole e h f =
    let rest = keyed_from n (i + 1) (drop (i + 1) steps) in
    let cut : drop i steps ≡ s ∷ drop (i + 1) steps = drop_more steps i s (slice_get_within steps i s e)
    ∙ ap (λ (x : Step). x ∷ drop (i + 1) steps) (get_or_from_slice_get steps i s s e) in
    let here : keyed_from n i (drop i steps) ≡ keyed_step n i s ∷ rest = ap (keyed_from n i) cut
    ∙ ap (λ (j : ℕ). keyed_step n i s ∷ keyed_from n j (drop (i + 1) steps)) (let z : suc i ≡ i + 1 = omega arith in z) in
    ap (λ (l : List Keyed). l ++ rest) f ∙ (append_assoc found (keyed_step n i s ∷ []) rest ∙ (ap (λ (l : List Keyed). found ++ l) (sym here) ∙ h))

pub one_step_more : (n i : ℕ) (steps : List Step) (found news whole : List Keyed) → i < length steps → found ++ keyed_from n i (drop i steps) ≡ whole
    → news ≡ found ++ keyed_at n i (slice_get steps i) → news ++ keyed_from n (i + 1) (drop (i + 1) steps) ≡ whole
one_step_more n i steps found news whole lt h f = ⊎_elim
    (λ (w : (x : Step) × (i < length steps) × (slice_get steps i ≡ Some x) × (get_or steps i x ≡ x)).
    this_step_more n i steps w.0 found news whole w.2 h (f ∙ ap (λ (o : Option Step). found ++ keyed_at n i o) w.2))
    (λ (w : (length steps ≤ i) × (slice_get steps i ≡ None)). absurd (let le = w.0 in omega arith))
    (slice_get_cases steps i).1

pub all_steps_keyed : (n i : ℕ) (steps : List Step) (found whole : List Keyed) → length steps ≤ i → found ++ keyed_from n i (drop i steps) ≡ whole → found ≡ whole
all_steps_keyed n i steps found whole le h =
    sym (append-nil found) ∙ (ap (λ (l : List Step). found ++ keyed_from n i l) (sym (drop_all i steps le)) ∙ h)

pub one_list_more : (i : ℕ) (lists : List StepList) (l : StepList) (found news whole : List Keyed) → i < length lists → l ≡ get_or lists i l
    → found ++ keyed_lists i (drop i lists) ≡ whole → news ≡ found ++ keyed_from i 0 (steps_in l) → news ++ keyed_lists (i + 1) (drop (i + 1) lists) ≡ whole
one_list_more i lists l found news whole lt e h f =
    let rest = keyed_lists (i + 1) (drop (i + 1) lists) in
    let cut : drop i lists ≡ l ∷ drop (i + 1) lists = drop_more lists i l lt ∙ ap (λ (m : StepList). m ∷ drop (i + 1) lists) (sym e) in
    let here : keyed_lists i (drop i lists) ≡ keyed_from i 0 (steps_in l) ++ rest = ap (keyed_lists i) cut
    ∙ ap (λ (j : ℕ). keyed_from i 0 (steps_in l) ++ keyed_lists j (drop (i + 1) lists)) (let z : suc i ≡ i + 1 = omega arith in z) in
    ap (λ (l : List Keyed). l ++ rest) f ∙ (append_assoc found (keyed_from i 0 (steps_in l)) rest ∙ (ap (λ (l : List Keyed). found ++ l) (sym here) ∙ h))

pub all_lists_keyed : (i : ℕ) (lists : List StepList) (found whole : List Keyed) → length lists ≤ i → found ++ keyed_lists i (drop i lists) ≡ whole → found ≡ whole
all_lists_keyed i lists found whole le h =
    sym (append-nil found) ∙ (ap (λ (l : List StepList). found ++ keyed_lists i l) (sym (drop_all i lists le)) ∙ h)
