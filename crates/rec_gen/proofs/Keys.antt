-- The keys that the script adds to: the empty one, and the names of the four programs. In their order they stand once each among a map's keys.
use Rattle.std.proofs.Common.{◌≡◌, ℕ, zero, suc, ◌+◌, ◌<◌, ◌≤◌, List, [], ◌∷◌, length, refl, ap, sym, subst, ◌∙◌, arith}
use Rattle.std.proofs.Common.{Ordering}
use Rattle.std.specs.Prelude.{codes}
use Rattle.std.specs.List.{AllByRecursion}
use Rattle.std.specs.Ordering.{match_ordering}
use Rattle.std.specs.declared.cmp.Ordering.TheVariants.{Less, Equal, Greater}
use Rattle.bt_core.specs.declared.value.Value.{Value}
use Rattle.bt_core.specs.declared.value.Value.TheVariants.{Str}
use Rattle.bt_core.specs.Order.{key_order}
use Rattle.agg_core.specs.Changes.{with_key}
use Rattle.bt_meaning.specs.Totals.{Addition, addition_keys}

abbrev name_key : List ℕ → List Value
name_key name = Str name ∷ []

abbrev pub key_at : ℕ → List Value
key_at zero = []
key_at (suc zero) = name_key (codes "bash")
key_at (suc (suc zero)) = name_key (codes "cron")
key_at (suc (suc (suc zero))) = name_key (codes "make")
key_at (suc (suc (suc (suc i)))) = name_key (codes "sshd")

-- one of the keys
abbrev pub IsKey : List Value → Type 0
IsKey key = (i : ℕ) × (i < 5) × (key ≡ key_at i)

less_at : (i j : ℕ) → i < j → j < 5 → key_order (key_at i) (key_at j) ≡ Less
less_at i zero a b = absurd (omega (arith, a))
less_at zero (suc zero) a b = refl
less_at (suc i) (suc zero) a b = absurd (omega (arith, a))
less_at zero (suc (suc zero)) a b = refl
less_at (suc zero) (suc (suc zero)) a b = refl
less_at (suc (suc i)) (suc (suc zero)) a b = absurd (omega (arith, a))
less_at zero (suc (suc (suc zero))) a b = refl
less_at (suc zero) (suc (suc (suc zero))) a b = refl
less_at (suc (suc zero)) (suc (suc (suc zero))) a b = refl
less_at (suc (suc (suc i))) (suc (suc (suc zero))) a b = absurd (omega (arith, a))
less_at zero (suc (suc (suc (suc zero)))) a b = refl
less_at (suc zero) (suc (suc (suc (suc zero)))) a b = refl
less_at (suc (suc zero)) (suc (suc (suc (suc zero)))) a b = refl
less_at (suc (suc (suc zero))) (suc (suc (suc (suc zero)))) a b = refl
less_at (suc (suc (suc (suc i)))) (suc (suc (suc (suc zero)))) a b = absurd (omega (arith, a))
less_at i (suc (suc (suc (suc (suc j))))) a b = absurd (omega (arith, b))

greater_at : (i j : ℕ) → j < i → i < 5 → key_order (key_at i) (key_at j) ≡ Greater
greater_at zero j a b = absurd (omega (arith, a))
greater_at (suc zero) zero a b = refl
greater_at (suc zero) (suc j) a b = absurd (omega (arith, a))
greater_at (suc (suc zero)) zero a b = refl
greater_at (suc (suc zero)) (suc zero) a b = refl
greater_at (suc (suc zero)) (suc (suc j)) a b = absurd (omega (arith, a))
greater_at (suc (suc (suc zero))) zero a b = refl
greater_at (suc (suc (suc zero))) (suc zero) a b = refl
greater_at (suc (suc (suc zero))) (suc (suc zero)) a b = refl
greater_at (suc (suc (suc zero))) (suc (suc (suc j))) a b = absurd (omega (arith, a))
greater_at (suc (suc (suc (suc zero)))) zero a b = refl
greater_at (suc (suc (suc (suc zero)))) (suc zero) a b = refl
greater_at (suc (suc (suc (suc zero)))) (suc (suc zero)) a b = refl
greater_at (suc (suc (suc (suc zero)))) (suc (suc (suc zero))) a b = refl
greater_at (suc (suc (suc (suc zero)))) (suc (suc (suc (suc j)))) a b = absurd (omega (arith, a))
greater_at (suc (suc (suc (suc (suc i))))) j a b = absurd (omega (arith, b))

same_at : (i : ℕ) → i < 5 → key_order (key_at i) (key_at i) ≡ Equal
same_at zero a = refl
same_at (suc zero) a = refl
same_at (suc (suc zero)) a = refl
same_at (suc (suc (suc zero))) a = refl
same_at (suc (suc (suc (suc zero)))) a = refl
same_at (suc (suc (suc (suc (suc i))))) a = absurd (omega (arith, a))

data Compared : ℕ → ℕ → Type 0 where
  Below : {i j : ℕ} → i < j → Compared i j
  Same : {i j : ℕ} → i ≡ j → Compared i j
  Above : {i j : ℕ} → j < i → Compared i j

one_more : {i j : ℕ} → Compared i j → Compared (suc i) (suc j)
one_more (Below h) = Below (omega (arith, h))
one_more (Same h) = Same (ap suc h)
one_more (Above h) = Above (omega (arith, h))

compared : (i j : ℕ) → Compared i j
compared zero zero = Same refl
compared zero (suc j) = Below (omega arith)
compared (suc i) zero = Above (omega arith)
compared (suc i) (suc j) = one_more (compared i j)

-- keys in their order, from this one on
Rising : ℕ → List (List Value) → Type 0
Rising low [] = Unit {0}
Rising low (k ∷ ks) = (i : ℕ) × (low ≤ i) × (i < 5) × (k ≡ key_at i) × Rising (i + 1) ks

lower : (low high : ℕ) (ks : List (List Value)) → low ≤ high → Rising high ks → Rising low ks
unfolding Rising
lower low high [] le h = tt
lower low high (k ∷ ks) le h = (h.0, omega (arith, le, h.1), h.2, h.3, h.4)

-- a key before another, in its place, or behind it
abbrev stands : ℕ → List Value → List (List Value) → Ordering → List (List Value)
stands i k ks o = match_ordering o (key_at i ∷ k ∷ ks) (k ∷ ks) (k ∷ with_key (key_at i) ks)

with_one : (low i : ℕ) (ks : List (List Value)) → low ≤ i → i < 5 → Rising low ks → Rising low (with_key (key_at i) ks)
unfolding Rising
with_one low i [] le few h = (i, le, few, refl, tt)
with_one low i (k ∷ ks) le few h = at (compared i h.0) (λ (above : h.0 + 1 ≤ i). with_one (h.0 + 1) i ks above few h.4)
  where
    to : (o : Ordering) → key_order (key_at i) (key_at h.0) ≡ o → key_order (key_at i) k ≡ o
    to o e = ap (key_order (key_at i)) h.3 ∙ e

    at : Compared i h.0 → (h.0 + 1 ≤ i → Rising (h.0 + 1) (with_key (key_at i) ks)) → Rising low (with_key (key_at i) (k ∷ ks))
    at (Below a) rest = subst (λ (o : Ordering). Rising low (stands i k ks o)) (sym (to Less (less_at i h.0 a h.2))) (i, le, few, refl, (h.0, omega (arith, a), h.2, h.3, h.4))
    at (Same a) rest = subst (λ (o : Ordering). Rising low (stands i k ks o)) (sym (to Equal (ap (λ (j : ℕ). key_order (key_at i) (key_at j)) (sym a) ∙ same_at i few))) h
    at (Above a) rest = subst (λ (o : Ordering). Rising low (stands i k ks o)) (sym (to Greater (greater_at i h.0 a few)))
        (h.0, h.1, h.2, h.3, rest (omega (arith, a)))

at_most : (low : ℕ) (ks : List (List Value)) → low ≤ 5 → Rising low ks → low + length ks ≤ 5
unfolding Rising
at_most low [] few h = omega (arith, few)
at_most low (k ∷ ks) few h = let rest = at_most (h.0 + 1) ks (omega (arith, h.2)) h.4 in omega (arith, rest, h.1)

-- entries under such keys
abbrev pub HasKey : Addition → Type 0
HasKey e = IsKey e.0

abbrev pub HaveKeys : List Addition → Type 0
HaveKeys es = AllByRecursion HasKey es

rising : (es : List Addition) → HaveKeys es → Rising 0 (addition_keys es)
unfolding Rising
rising [] h = tt
rising (e ∷ es) h =
    subst (λ (k : List Value). Rising 0 (with_key k (addition_keys es))) (sym h.0.2) (with_one 0 h.0.0 (addition_keys es) (omega arith) h.0.1 (rising es h.1))

pub few_keys : (es : List Addition) → HaveKeys es → length (addition_keys es) ≤ 5
few_keys es h = let most = at_most 0 (addition_keys es) (omega arith) (rising es h) in omega (arith, most)
