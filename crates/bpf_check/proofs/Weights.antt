-- Each change of a table makes it lighter.
use Rattle.std.proofs.Common.{◌≡◌, ℕ, zero, suc, ◌+◌, ◌*◌, ◌<◌, ◌≤◌, List, [], ◌∷◌, length, refl, sym, ap, subst, arith, Option, Some, None, Bool, true, false, inl, inr, length-set}
use Rattle.std.specs.Prelude.{◌⊎◌, slice_set, cond, nat_eq}
use Rattle.std.proofs.Math.Nat.{mul-le-mul_right, suc-mul}
use Rattle.std.proofs.lemmas.Bool.{cases_eq, cases_lt, eqb-true}
use Rattle.std.proofs.lemmas.List.Sums.{sum_by-set, sum_by-cons}
use Rattle.bpf_check.specs.declared.known.Known.{Known}
use Rattle.bpf_check.specs.declared.known.Known.TheVariants.{Unset, Num, Const}
use Rattle.bpf_check.specs.declared.known.Seen.{Seen}
use Rattle.bpf_check.specs.States.{join_known, known_in, CoversKnown, Covers, IsJoin}
use Rattle.bpf_check.specs.Tables.{at, known_weight, regs_weight, seen_weight, weight_at, weight, reached_at, reached, work}

-- ---- registers

known_light : (k : Known) → known_weight k ≤ 2
known_light Unset = omega arith
known_light Num = omega arith
known_light (Const n) = omega arith

-- one register more
regs_more : (n : ℕ) (regs : List Known) → regs_weight (suc n) regs ≡ known_weight (known_in regs n) + regs_weight n regs
regs_more n regs = refl

pub regs_light : (n : ℕ) (regs : List Known) → regs_weight n regs ≤ 2 * n
regs_light zero regs = omega arith
regs_light (suc n) regs = let a = known_light (known_in regs n) in let b = regs_light n regs in omega (arith, a, b, regs_more n regs)

-- what both say weighs no more, and it weighs less where it says less
record Joins (x y z : Known) : Type 0 where
  lighter : known_weight z ≤ known_weight x
  settles : CoversKnown x y ⊎ (known_weight z < known_weight x)

joins_consts : (m n : ℕ) (b : Bool) → nat_eq m n ≡ b → Joins (Const m) (Const n) (cond b (Const m) Num)
joins_consts m n true e = record { lighter = omega arith; settles = inl (ap Const (sym (eqb-true m n e))) }
joins_consts m n false e = record { lighter = omega arith; settles = inr (omega arith) }

joins : (x y : Known) → Joins x y (join_known x y)
joins Unset y = record { lighter = omega arith; settles = inl tt }
joins Num Unset = record { lighter = omega arith; settles = inr (omega arith) }
joins Num Num = record { lighter = omega arith; settles = inl tt }
joins Num (Const n) = record { lighter = omega arith; settles = inl tt }
joins (Const m) Unset = record { lighter = omega arith; settles = inr (omega arith) }
joins (Const m) Num = record { lighter = omega arith; settles = inr (omega arith) }
joins (Const m) (Const n) = joins_consts m n (nat_eq m n) refl

record JoinsAll (n : ℕ) (xs ys zs : List Known) : Type 0 where
  lighter : regs_weight n zs ≤ regs_weight n xs
  settles : ((r : ℕ) → r < n → CoversKnown (known_in xs r) (known_in ys r)) ⊎ (regs_weight n zs < regs_weight n xs)

joins_all : (n : ℕ) (xs ys zs : List Known) → ((r : ℕ) → r < n → known_in zs r ≡ join_known (known_in xs r) (known_in ys r)) → JoinsAll n xs ys zs
joins_all zero xs ys zs h = record { lighter = omega arith; settles = inl (λ r lt. absurd (omega (arith, lt))) }
joins_all (suc n) xs ys zs h = by (subst (λ (k : Known). Joins (known_in xs n) (known_in ys n) k) (sym (h n (omega arith))) (joins (known_in xs n) (known_in ys n)))
    (joins_all n xs ys zs (λ r lt. h r (omega (arith, lt))))
  where
    by : Joins (known_in xs n) (known_in ys n) (known_in zs n) → JoinsAll n xs ys zs → JoinsAll (suc n) xs ys zs
    by j k = record { lighter = omega (arith, j.lighter, k.lighter, regs_more n zs, regs_more n xs); settles = one j.settles k.settles }
      where
        one : CoversKnown (known_in xs n) (known_in ys n) ⊎ (known_weight (known_in zs n) < known_weight (known_in xs n))
            → ((r : ℕ) → r < n → CoversKnown (known_in xs r) (known_in ys r)) ⊎ (regs_weight n zs < regs_weight n xs)
            → ((r : ℕ) → r < suc n → CoversKnown (known_in xs r) (known_in ys r)) ⊎ (regs_weight (suc n) zs < regs_weight (suc n) xs)
        one (inr lt) q = inr (omega (arith, lt, k.lighter, regs_more n zs, regs_more n xs))
        one (inl c) (inr lt) = inr (omega (arith, lt, j.lighter, regs_more n zs, regs_more n xs))
        one (inl c) (inl cs) = inl each
          where
            each : (r : ℕ) → r < suc n → CoversKnown (known_in xs r) (known_in ys r)
            each r lt = at_place (cases_eq r n)
              where
                at_place : (r ≡ n) ⊎ (r ≡ n → ⊥) → CoversKnown (known_in xs r) (known_in ys r)
                at_place (inl e) = subst (λ (m : ℕ). CoversKnown (known_in xs m) (known_in ys m)) (sym e) c
                at_place (inr ne) = cs r (omega (arith, lt, ne))

-- a join with what is not covered weighs less
pub join_falls : (a s b : Seen) → IsJoin a s b → (Covers a s → ⊥) → seen_weight b < seen_weight a
join_falls a s b j other = by (joins_all 10 a.regs s.regs b.regs j.regs)
  where
    by : JoinsAll 10 a.regs s.regs b.regs → seen_weight b < seen_weight a
    by k = one k.settles (cases_lt s.credit a.credit)
      where
        one : ((r : ℕ) → r < 10 → CoversKnown (known_in a.regs r) (known_in s.regs r)) ⊎ (regs_weight 10 b.regs < regs_weight 10 a.regs)
            → (s.credit < a.credit) ⊎ (a.credit ≤ s.credit) → seen_weight b < seen_weight a
        one (inr lt) q = omega (arith, lt, j.credit)
        one (inl c) (inl lt) = omega (arith, lt, k.lighter, j.credit)
        one (inl c) (inr le) = absurd (other (record { regs = c; credit = le }))

pub join_credit : (a s b : Seen) → IsJoin a s b → b.credit ≤ a.credit
join_credit a s b j = omega (arith, j.credit)

-- ---- tables

reached_few : (table : List (Option Seen)) → reached table ≤ length table
reached_few [] = omega arith
reached_few (o ∷ os) = let e = sum_by-cons reached_at o os in let h = reached_few os in omega (arith, e, h, one o)
  where
    one : (o : Option Seen) → reached_at o ≤ 1
    one None = omega arith
    one (Some s) = omega arith

module _ (table : List (Option Seen)) (p : ℕ) (b : Seen) (inside : p < length table) where
  abbrev after : List (Option Seen)
  after = slice_set table p (Some b)

  reached_set : reached after + reached_at (at table p) ≡ reached table + 1
  reached_set = sum_by-set reached_at table p (Some b) None inside

  weight_set : weight after + weight_at (at table p) ≡ weight table + seen_weight b
  weight_set = sum_by-set weight_at table p (Some b) None inside

  -- a place that was not reached
  pub new_reached : at table p ≡ None → reached after ≡ reached table + 1
  new_reached e = let s = reached_set in let z : reached_at (at table p) ≡ 0 = ap reached_at e in omega (arith, s, z)

  pub old_reached : (a : Seen) → at table p ≡ Some a → reached after ≡ reached table
  old_reached a e = let s = reached_set in let z : reached_at (at table p) ≡ 1 = ap reached_at e in omega (arith, s, z)

  pub new_falls : at table p ≡ None → b.credit ≤ reached table + 1 → length table ≤ 4096 → weight after < weight table
  new_falls e few short =
      let s = weight_set in
      let z : weight_at (at table p) ≡ 4117 = ap weight_at e in
      let w : seen_weight b ≡ regs_weight 10 b.regs + b.credit = refl in
      let r = new_reached e in
      let l = reached_few after in
      let n = length-set table p (Some b) in
      let g = regs_light 10 b.regs in
      omega (arith, s, z, w, r, l, n, g, few, short)

  pub old_falls : (a : Seen) → at table p ≡ Some a → seen_weight b < seen_weight a → weight after < weight table
  old_falls a e lt = let s = weight_set in let z : weight_at (at table p) ≡ seen_weight a = ap weight_at e in omega (arith, s, z, lt)

-- no state has more credit than there are places
pub few_credit : (table : List (Option Seen)) (s : Seen) (n : ℕ) → s.credit ≤ reached table → length table ≤ n → s.credit ≤ n
few_credit table s n le short = let l = reached_few table in omega (arith, l, le, short)

-- ---- work

pub work_on : (old new : List (Option Seen)) (p answer : ℕ) → length new ≡ length old → p < length old → (weight new < weight old) ⊎ ((new ≡ old) × (answer ≡ p + 1)) → work new answer < work old p
unfolding work
work_on old new p answer long lt (inl less) =
    let mono : suc (weight new) * (length old + 1) ≤ weight old * (length old + 1) = mul-le-mul_right (length old + 1) (omega (arith, less)) in
    let split : suc (weight new) * (length old + 1) ≡ weight new * (length old + 1) + (length old + 1) = suc-mul (weight new) (length old + 1) in
    let same : weight new * (length new + 1) ≡ weight new * (length old + 1) = ap (λ (n : ℕ). weight new * (n + 1)) long in
    omega (arith, mono, split, same, long, lt)
work_on old new p answer long lt (inr (is, e)) =
    let same : weight new * (length new + 1) ≡ weight old * (length old + 1) = ap (λ (l : List (Option Seen)). weight l * (length l + 1)) is in
    omega (arith, same, long, lt, e)

pub work_skip : (table : List (Option Seen)) (p : ℕ) → p < length table → work table (p + 1) < work table p
work_skip table p lt = work_on table table p (p + 1) refl lt (inr (refl, refl))
