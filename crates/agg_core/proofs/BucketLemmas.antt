-- The bucket of a number, computed.
use Rattle.std.proofs.Common.{◌≡◌, ℕ, zero, suc, ◌+◌, ◌-◌, ◌*◌, ◌/◌, ◌^◌, ◌≤◌, ◌<◌, min, ltb, leb, Bool, true, false, cond, ℤ, pos, negsuc, ◌+ℤ◌, ◌-ℤ◌, ◌<ℤ◌, ◌≤ℤ◌, List, [], ◌∷◌, map, refl, sym, ap, ◌∙◌, arith, ⊎_elim, add-one, zero-add}
use Rattle.std.specs.List.{range_with_len, count_by}
use Rattle.std.specs.Int.RustNames.{int_le, unsigned_abs}
use Rattle.std.proofs.lemmas.Bool.Decides.{nat_tests}
use Rattle.std.proofs.lemmas.Bool.{cases_lt, le-leb, lt-leb, lt-ltb, le-ltb}
use native.Mathlib.Nat.{pow-suc, le-div_iff_mul-le}
use Rattle.std.proofs.lemmas.List.Sums.{sum_by-cons, sum_by-append}
use Rattle.bt_core.specs.declared.map.AggKind.{AggKind}
use Rattle.bt_core.specs.declared.map.AggKind.TheVariants.{Hist, Lhist}
use Rattle.agg_core.specs.Aggregates.{upto, powers, steps_from, bounds, bucket}
use Rattle.bt_core.specs.Kinds.{steps_between}
use Rattle.std.proofs.lemmas.Int.{ints}
use lib.Pow.{pow_mono}

-- how many of a, a + 1, .. are below c
count-range : (test : ℕ → Bool) (c : ℕ) → ((i : ℕ) → test i ≡ ltb i c) → (n a : ℕ) → count_by test (range_with_len a n) + min a c ≡ min (a + n) c
count-range test c is zero a = grind arith
count-range test c is (suc n) a =
    let e : count_by test (range_with_len a (suc n)) ≡ cond (ltb a c) 1 0 + count_by test (range_with_len (a + 1) n) = sum_by-cons (λ x. cond (test x) 1 0) a (range_with_len (a + 1) n) ∙ ap (λ t. cond t 1 0 + count_by test (range_with_len (a + 1) n)) (is a) in
    let ih : count_by test (range_with_len (a + 1) n) + min (a + 1) c ≡ min (a + 1 + n) c = count-range test c is n (a + 1) in
    rw e (grind (arith, nat_tests))

count-upto : (test : ℕ → Bool) (c : ℕ) → ((i : ℕ) → test i ≡ ltb i c) → (n : ℕ) → count_by test (upto n) ≡ min n c
count-upto test c is n = let e = count-range test c is n 0 in grind arith

count-map : {A B : Type 0} (p : B → Bool) (f : A → B) (xs : List A) → count_by p (map f xs) ≡ count_by (λ x. p (f x)) xs
count-map p f [] = refl
count-map p f (x ∷ xs) =
    sum_by-cons (λ y. cond (p y) 1 0) (f x) (map f xs)
    ∙ ap (λ s. cond (p (f x)) 1 0 + s) (count-map p f xs)
    ∙ sym (sum_by-cons (λ y. cond (p (f y)) 1 0) x xs)

power-reaches : (r m : ℕ) → 2 ^ r ≤ m → m < 2 * 2 ^ r → (i : ℕ) → leb (2 ^ i) m ≡ ltb i (r + 1)
power-reaches r m low high i = ⊎_elim
    (λ h. let up : 2 ^ i ≤ 2 ^ r = pow_mono (omega arith) in le-leb (2 ^ i) m (omega arith) ∙ sym (lt-ltb i (r + 1) h))
    (λ h. let up : 2 ^ (r + 1) ≤ 2 ^ i = pow_mono h in let two : 2 ^ (r + 1) ≡ 2 ^ r * 2 = ap (λ k. 2 ^ k) (add-one r) ∙ pow-suc 2 r in lt-leb (2 ^ i) m (omega arith) ∙ sym (le-ltb i (r + 1) h))
    (cases_lt i (r + 1))

-- how many of 0, 1, 2, 4, .. a number reaches that lies from the rth power to the next
count-hist : (k r m : ℕ) → 2 ^ r ≤ m → m < 2 * 2 ^ r → r < k → count_by (λ b. int_le b (pos m)) (pos 0 ∷ powers k) ≡ r + 2
count-hist k r m low high small =
    let first : leb 0 m ≡ true = le-leb 0 m (omega arith) in
    let e = count-map (λ b. int_le b (pos m)) (λ i. pos (2 ^ i)) (upto k) ∙ count-upto (λ i. leb (2 ^ i) m) (r + 1) (power-reaches r m low high) k in
    sum_by-cons (λ b. cond (int_le b (pos m)) 1 0) (pos 0) (powers k)
    ∙ (λ i. cond (first i) 1 0 + e i)
    ∙ omega arith

below-power : (r : ℕ) → 2 ^ r < 2 ^ 63 → r < 63
below-power r h = ⊎_elim (λ (l : r < 63). l) (λ (l : 63 ≤ r). let up : 2 ^ 63 ≤ 2 ^ r = pow_mono l in absurd (omega arith)) (cases_lt r 63)

pub hist_below : (n : ℤ) → n <ℤ pos 0 → bucket Hist n ≡ 0
unfolding bounds
hist_below (pos m) h = absurd (omega (arith, ints))
hist_below (negsuc m) h = refl

pub hist_zero : bucket Hist (pos 0) ≡ 1
unfolding bounds
hist_zero = refl

pub hist_above : (n : ℤ) (m r : ℕ) → pos 0 <ℤ n → m ≡ unsigned_abs n → 2 ^ r ≤ m → m < 2 * 2 ^ r → m ≤ 2 ^ 63 - 1 → bucket Hist n ≡ r + 2
unfolding bounds
hist_above (pos a) m r above is low high small =
    let small_power : r < 63 = below-power r (omega arith) in
    count-hist 63 r a (omega arith) (omega arith) small_power
hist_above (negsuc m) n r above is low high small = absurd (omega (arith, ints))

-- how many steps from min on a number reaches
reach-step : (min n : ℤ) (a : ℕ) → min ≤ℤ n → int_le (min +ℤ pos a) n ≡ leb a (unsigned_abs (n -ℤ min))
reach-step min n a h = grind (arith, ints, nat_tests)

reach-none : (min n : ℤ) (a : ℕ) → n <ℤ min → int_le (min +ℤ pos a) n ≡ false
reach-none min n a h = grind (arith, ints)

times-reach : (s d i : ℕ) → 0 < s → leb (i * s) d ≡ ltb i (d / s + 1)
times-reach s d i h = let two = le-div_iff_mul-le {x = i} {y = d} h in ⊎_elim
    (λ (l : i < d / s + 1). let below : i * s ≤ d = two.0 (omega arith) in le-leb (i * s) d below ∙ sym (lt-ltb i (d / s + 1) l))
    (λ (l : d / s + 1 ≤ i). ⊎_elim (λ (m : d < i * s). lt-leb (i * s) d m ∙ sym (le-ltb i (d / s + 1) l)) (λ (m : i * s ≤ d). let up : i ≤ d / s = two.1 m in absurd (omega arith)) (cases_lt d (i * s)))
    (cases_lt i (d / s + 1))

count-steps : (low step n : ℤ) (k : ℕ) → 0 < unsigned_abs step → low ≤ℤ n → count_by (λ b. int_le b n) (steps_from low step k) ≡ min k (unsigned_abs (n -ℤ low) / unsigned_abs step + 1)
count-steps low step n k some h =
    count-map (λ b. int_le b n) (λ j. low +ℤ pos (j * unsigned_abs step)) (upto k)
    ∙ count-upto (λ j. int_le (low +ℤ pos (j * unsigned_abs step)) n) (unsigned_abs (n -ℤ low) / unsigned_abs step + 1)
    (λ j. reach-step low n (j * unsigned_abs step) h ∙ times-reach (unsigned_abs step) (unsigned_abs (n -ℤ low)) j some) k

count-no_steps : (low step n : ℤ) (k : ℕ) → n <ℤ low → count_by (λ b. int_le b n) (steps_from low step k) ≡ 0
count-no_steps low step n k h =
    count-map (λ b. int_le b n) (λ j. low +ℤ pos (j * unsigned_abs step)) (upto k)
    ∙ count-upto (λ j. int_le (low +ℤ pos (j * unsigned_abs step)) n) 0 (λ j. reach-none low n (j * unsigned_abs step) h ∙ sym (le-ltb j 0 (omega arith))) k
    ∙ omega arith

lhist_is : (low max step n : ℤ) → bucket (Lhist low max step) n ≡ count_by (λ b. int_le b n) (steps_from low step (steps_between low max step)) + cond (int_le max n) 1 0
unfolding bounds
lhist_is low max step n = sum_by-append (λ b. cond (int_le b n) 1 0) (steps_from low step (steps_between low max step)) (max ∷ []) ∙ ap (λ m. count_by (λ b. int_le b n) (steps_from low step (steps_between low max step)) + m) (zero-add (cond (int_le max n) 1 0))

pub lhist_reaches : (low max step n : ℤ) (steps r : ℕ) → steps ≡ steps_between low max step → 0 < unsigned_abs step → low ≤ℤ n → r ≡ min (unsigned_abs (n -ℤ low) / unsigned_abs step + 1) steps + cond (int_le max n) 1 0 → r ≡ bucket (Lhist low max step) n
lhist_reaches low max step n steps r is some above e =
    let k = steps_between low max step in let c = count-steps low step n k some above in
    e ∙ sym (lhist_is low max step n ∙ ap (λ m. m + cond (int_le max n) 1 0) (c ∙ omega arith))

pub lhist_below : (low max step n : ℤ) → n <ℤ low → bucket (Lhist low max step) n ≡ cond (int_le max n) 1 0
lhist_below low max step n h = lhist_is low max step n ∙ ap (λ m. m + cond (int_le max n) 1 0) (count-no_steps low step n (steps_between low max step) h) ∙ zero-add (cond (int_le max n) 1 0)

pub no_bucket : (kind : AggKind) (n : ℤ) → (kind ≡ Hist → ⊥) → ((low max step : ℤ) → kind ≡ Lhist low max step → ⊥) → bucket kind n ≡ 0
unfolding bounds
no_bucket Hist n no_powers no_steps = absurd (no_powers refl)
no_bucket (Lhist low max step) n no_powers no_steps = absurd (no_steps low max step refl)
no_bucket kind n no_powers no_steps = refl
