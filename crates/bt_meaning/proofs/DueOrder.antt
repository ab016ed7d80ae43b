-- The order of items is a total one, and so there is one list in this order with given items.
use Rattle.std.proofs.Common.{◌≡◌, ℕ, Bool, true, false, not, ◌&&◌, List, [], ◌∷◌, length, refl, sym, ap, ◌∙◌, arith, inl, inr}
use Rattle.std.specs.List.{filter}
use Rattle.std.specs.List.Sorted.{ties, IsPermutation, IsSortedBy, IsStableBy}
use Rattle.std.specs.Cmp.{IsTotalOrder, IsStrictWeakOrder, bool_cmp_total, nat_cmp_total, on_total, then_total, unsigned_Decides, unsigned_tied}
use Rattle.std.specs.declared.cmp.Ordering.{Ordering}
use Rattle.std.specs.declared.cmp.Ordering.TheVariants.{Less, Equal, Greater}
use Rattle.std.specs.Ordering.{is_lt, is_eq, bool_cmp, nat_cmp, ordering_then, ordering_reverse, on, then_cmp}
use Rattle.std.proofs.lemmas.List.MinMax.{ranks_by}
use Rattle.bt_core.specs.Sorted.{ordered}
use Rattle.bt_core.proofs.StableOrder.{stable_order}
use Rattle.weave.proofs.Among.{Has, filter_has}
use Rattle.weave.proofs.Rising.{same_length}
use Rattle.bt_meaning.specs.declared.schedule.Due.{Due}
use Rattle.bt_meaning.specs.declared.schedule.Due.TheVariants.{Tick, Entry}
use Rattle.bt_meaning.specs.declared.schedule.Scheduled.{Scheduled}
use Rattle.bt_meaning.specs.contracts.schedule.DueOrd.TheImpl as derived_due
use Rattle.bt_meaning.specs.contracts.schedule.ScheduledOrd.TheImpl as derived
use Rattle.bt_meaning.specs.Schedules.{due_order, schedule_order, is_sooner}

-- ---- the derived orders

derived_due_is : (d e : Due) → derived_due.ghosts.cmp d e ≡ due_order d e
derived_due_is (Tick t c) (Tick u b) = refl
derived_due_is (Tick t c) (Entry b e l) = refl
derived_due_is (Entry c e k) (Tick u b) = refl
derived_due_is (Entry c e k) (Entry b f l) = refl

pub derived_is : (s t : Scheduled) → derived.ghosts.cmp s t ≡ schedule_order s t
derived_is s t = ap (ordering_then (nat_cmp s.time t.time)) (derived_due_is s.due t.due)

-- ---- laws of the order of items at one time

first_of_tick : Due → ℕ
first_of_tick (Tick t c) = t
first_of_tick (Entry c e k) = c

second_of : Due → ℕ
second_of (Tick t c) = c
second_of (Entry c e k) = e

is_marked : Due → Bool
is_marked (Tick t c) = false
is_marked (Entry c e k) = k

by_numbers : Due → Due → Ordering
by_numbers = then_cmp (on first_of_tick nat_cmp) (then_cmp (on second_of nat_cmp) (on is_marked bool_cmp))

numbers_total : IsTotalOrder by_numbers
unfolding by_numbers
numbers_total = then_total (on_total first_of_tick nat_cmp_total) (then_total (on_total second_of nat_cmp_total) (on_total is_marked bool_cmp_total))

-- two numbers alone, where the third is the same
tick_order : (t c u b : ℕ) → by_numbers (Tick t c) (Tick u b) ≡ due_order (Tick t c) (Tick u b)
unfolding by_numbers first_of_tick second_of is_marked
tick_order t c u b = ap (ordering_then (nat_cmp t u)) (then_equal (nat_cmp c b))
  where
    then_equal : (o : Ordering) → ordering_then o Equal ≡ o
    then_equal Less = refl
    then_equal Equal = refl
    then_equal Greater = refl

flip : (d e : Due) → due_order d e ≡ ordering_reverse (due_order e d)
unfolding by_numbers first_of_tick second_of is_marked
flip (Tick t c) (Tick u b) = sym (tick_order t c u b) ∙ numbers_total.antisymm (Tick t c) (Tick u b) ∙ ap ordering_reverse (tick_order u b t c)
flip (Tick t c) (Entry b e l) = refl
flip (Entry c e k) (Tick u b) = refl
flip (Entry c e k) (Entry b f l) = numbers_total.antisymm (Entry c e k) (Entry b f l)

chain : (d e f : Due) → due_order d e ≡ Less → due_order e f ≡ Less → due_order d f ≡ Less
unfolding by_numbers first_of_tick second_of is_marked
chain (Tick t c) (Tick u b) (Tick v a) p q = sym (tick_order t c v a) ∙ numbers_total.trans (Tick t c) (Tick u b) (Tick v a) (tick_order t c u b ∙ p) (tick_order u b v a ∙ q)
chain (Tick t c) e (Entry a f m) p q = refl
chain (Tick t c) (Entry b e l) (Tick v a) p q = cc
chain (Entry c e k) (Tick u b) f p q = cc
chain (Entry c e k) (Entry b f l) (Tick v a) p q = cc
chain (Entry c e k) (Entry b f l) (Entry a g m) p q = numbers_total.trans (Entry c e k) (Entry b f l) (Entry a g m) p q

tie : (d e f : Due) → due_order d e ≡ Equal → due_order d f ≡ due_order e f
unfolding by_numbers first_of_tick second_of is_marked
tie (Tick t c) (Tick u b) (Tick v a) p = sym (tick_order t c v a) ∙ numbers_total.congr (Tick t c) (Tick u b) (Tick v a) (tick_order t c u b ∙ p) ∙ tick_order u b v a
tie (Tick t c) (Tick u b) (Entry a f m) p = refl
tie (Tick t c) (Entry b e l) f p = cc
tie (Entry c e k) (Tick u b) f p = cc
tie (Entry c e k) (Entry b f l) (Tick v a) p = refl
tie (Entry c e k) (Entry b f l) (Entry a g m) p = numbers_total.congr (Entry c e k) (Entry b f l) (Entry a g m) p

due_total : IsTotalOrder due_order
due_total = record { antisymm = flip; trans = chain; congr = tie }

time_of : Scheduled → ℕ
time_of s = s.time

due_of : Scheduled → Due
due_of s = s.due

pub schedule_total : IsTotalOrder schedule_order
unfolding time_of due_of
schedule_total = then_total (on_total time_of nat_cmp_total) (on_total due_of due_total)

pub sooner_ranks : IsStrictWeakOrder is_sooner
sooner_ranks = ranks_by schedule_total (λ s. s)

-- ---- what ties is one item

same_number : (a b : ℕ) → nat_cmp a b ≡ Equal → a ≡ b
same_number a b e = (unsigned_Decides a b).0 (sym (unsigned_tied a b) ∙ ap is_eq e)

then_tied : (o p : Ordering) → ordering_then o p ≡ Equal → (o ≡ Equal) × (p ≡ Equal)
then_tied Less p e = let q : Less ≡ Equal = e in absurd (let r : ⊥ = cc in r)
then_tied Equal p e = (refl, e)
then_tied Greater p e = let q : Greater ≡ Equal = e in absurd (let r : ⊥ = cc in r)

same_flag : (a b : Bool) → bool_cmp a b ≡ Equal → a ≡ b
same_flag true true e = refl
same_flag true false e = cc
same_flag false true e = cc
same_flag false false e = refl

same_due : (d e : Due) → due_order d e ≡ Equal → d ≡ e
same_due (Tick t c) (Tick u b) h = let r = then_tied (nat_cmp t u) (nat_cmp c b) h in
    let first = same_number t u r.0 in let second = same_number c b r.1 in (λ i. Tick (first i) (second i))
same_due (Tick t c) (Entry b e l) h = cc
same_due (Entry c e k) (Tick u b) h = cc
same_due (Entry c e k) (Entry b f l) h =
    let r = then_tied (nat_cmp c b) (ordering_then (nat_cmp e f) (bool_cmp k l)) h in
    let q = then_tied (nat_cmp e f) (bool_cmp k l) r.1 in
    let first = same_number c b r.0 in let second = same_number e f q.0 in let third = same_flag k l q.1 in (λ i. Entry (first i) (second i) (third i))

same_item : (s t : Scheduled) → schedule_order s t ≡ Equal → s ≡ t
same_item s t h = let r = then_tied (nat_cmp s.time t.time) (due_order s.due t.due) h in
    let first = same_number s.time t.time r.0 in let second = same_due s.due t.due r.1 in
    (λ i. record { time = first i; due = second i })

is_tied : (o p : Ordering) → p ≡ ordering_reverse o → (not (is_lt o) && not (is_lt p)) ≡ true → o ≡ Equal
is_tied Less p e h = cc
is_tied Equal p e h = refl
is_tied Greater p e h = absurd (let r : (true && not (is_lt p)) ≡ true = h in let q : not (is_lt p) ≡ false = ap (λ o. not (is_lt o)) e in cc)

pub tied : (s t : Scheduled) → ties is_sooner s t ≡ true → s ≡ t
tied s t h = same_item s t (is_tied (schedule_order s t) (schedule_order t s) (schedule_total.antisymm t s) h)

-- ---- one list in order

pub one_value : {X : Type 0} (z : X) (xs ys : List X) → ((x : X) → Has xs x → z ≡ x) → ((y : X) → Has ys y → z ≡ y) → length xs ≡ length ys → xs ≡ ys
one_value z [] [] h g e = refl
one_value z [] (y ∷ ys) h g e = absurd (omega arith)
one_value z (x ∷ xs) [] h g e = absurd (omega arith)
one_value z (x ∷ xs) (y ∷ ys) h g e =
    let here : x ≡ y = sym (h x (inl refl)) ∙ g y (inl refl) in
    let rest = one_value z xs ys (λ w m. h w (inr m)) (λ w m. g w (inr m)) (omega arith) in
    (λ i. here i ∷ rest i)

stable : (xs ys : List Scheduled) → IsPermutation xs ys → IsStableBy is_sooner xs ys
stable xs ys moved z = one_value z (filter (ties is_sooner z) ys) (filter (ties is_sooner z) xs)
    (λ x h. tied z x (filter_has (ties is_sooner z) ys x h).1) (λ x h. tied z x (filter_has (ties is_sooner z) xs x h).1)
    (same_length (ties is_sooner z) xs ys moved)

pub in_order : (xs ys : List Scheduled) → IsPermutation xs ys → IsSortedBy is_sooner ys → ys ≡ ordered is_sooner xs
in_order xs ys moved up = stable_order is_sooner sooner_ranks xs ys up (stable xs ys moved)
