-- The counts of buckets: of no numbers, and of one more.
use Rattle.std.proofs.Common.{◌≡◌, ℕ, zero, suc, ◌+◌, ◌%◌, ◌^◌, ◌<◌, ◌≤◌, ◌==◌, cond, Bool, List, [], ◌∷◌, ◌++◌, replicate, length, refl, sym, ap, ◌∙◌, subst, arith, ℤ, map}
use Rattle.std.specs.List.{range_with_len, count_by}
use Rattle.bt_core.specs.declared.map.AggKind.{AggKind}
use Rattle.bt_core.specs.declared.map.AggKind.TheVariants.{Hist, Lhist}
use Rattle.agg_core.specs.Aggregates.{bounds, bucket, counts, buckets_of}
use Rattle.agg_core.specs.Gathering.{one_more}
use Rattle.std.specs.Int.RustNames.{int_le}
use Rattle.std.proofs.Common.{get_or, ⊎_elim, zero-add, add-zero}
use Rattle.std.proofs.lemmas.List.{length-set, get_or-set_same, get_or-set_other}
use Rattle.std.proofs.lemmas.List.Sums.{sum_by_push, count_by-le-length}
use Rattle.std.proofs.lemmas.List.FromFn.{length-map-range_with_len, get_or-map-range_with_len, fill_by_all}
use Rattle.std.proofs.lemmas.Bool.{cases_eq, eq-eqb, ne_eqb}
use Rattle.bt_core.specs.Kinds.{AreBucketsOf}
use Rattle.agg_core.proofs.BucketCounts.{hist_bounds, lhist_bounds}

all_zero : (a n : ℕ) → map {B = ℕ} (λ (b : ℕ). 0) (range_with_len a n) ≡ replicate n 0
all_zero a zero = refl
all_zero a (suc n) = ap (λ r. 0 ∷ r) (all_zero (a + 1) n)

pub counts-none : (kind : AggKind) → counts kind [] ≡ replicate (suc (length (bounds kind))) 0
counts-none kind = all_zero 0 (suc (length (bounds kind)))

pub hist-none : counts Hist [] ≡ replicate 65 0
hist-none = counts-none Hist ∙ ap (λ n. replicate (suc n) 0) hist_bounds

-- a count of one item more
count-push : {X : Type 0} (p : X → Bool) (xs : List X) (y : X) → count_by p (xs ++ y ∷ []) ≡ count_by p xs + cond (p y) 1 0
count-push p xs y = sum_by_push (λ x. cond (p x) 1 0) xs y

mod_add : (n : ℕ) → (n % 2 ^ 64 + 1) % 2 ^ 64 ≡ (n + 1) % 2 ^ 64
mod_add n = omega arith

-- one number more
pub counts-more : (kind : AggKind) (ns : List ℤ) (n : ℤ) → one_more (bucket kind n) (counts kind ns) ≡ counts kind (ns ++ n ∷ [])
counts-more kind ns n =
    let size = suc (length (bounds kind)) in
    let b = bucket kind n in
    let f : ℕ → ℕ = λ k. count_by (λ m. bucket kind m == k) ns % 2 ^ 64 in
    let h : ℕ → ℕ = λ k. count_by (λ m. bucket kind m == k) (ns ++ n ∷ []) % 2 ^ 64 in
    let low : b ≤ length (bounds kind) = count_by-le-length (λ bound. int_le bound n) (bounds kind) in
    let long : length (counts kind ns) ≡ size = length-map-range_with_len f 0 size in
    let within : b < length (counts kind ns) = omega arith in
    fill_by_all h (one_more b (counts kind ns)) size 0 (length-set (counts kind ns) b _ ∙ long) (λ k below. ⊎_elim
    (λ (same : k ≡ b). subst (λ j. get_or (one_more b (counts kind ns)) j 0 ≡ h j) (sym same)
    (get_or-set_same (counts kind ns) b _ 0 within
    ∙ ap (λ c. (c + 1) % 2 ^ 64) (get_or-map-range_with_len f 0 size b b 0 (omega arith) (zero-add b))
    ∙ mod_add (count_by (λ m. bucket kind m == b) ns)
    ∙ ap (λ c. c % 2 ^ 64) (sym (count-push (λ m. bucket kind m == b) ns n ∙ ap (λ t. count_by (λ m. bucket kind m == b) ns + cond t 1 0) (eq-eqb b b refl)))))
    (λ (other : k ≡ b → ⊥). get_or-set_other (counts kind ns) b k _ 0 other
    ∙ get_or-map-range_with_len f 0 size k k 0 below (zero-add k)
    ∙ ap (λ c. c % 2 ^ 64) (sym (count-push (λ m. bucket kind m == k) ns n ∙ ap (λ t. count_by (λ m. bucket kind m == k) ns + cond t 1 0) (ne_eqb b k (λ e. other (sym e))) ∙ add-zero (count_by (λ m. bucket kind m == k) ns))))
    (cases_eq k b))

pub counts-length : (kind : AggKind) (ns : List ℤ) → length (counts kind ns) ≡ suc (length (bounds kind))
counts-length kind ns = length-map-range_with_len (λ k. count_by (λ m. bucket kind m == k) ns % 2 ^ 64) 0 (suc (length (bounds kind)))

pub buckets-fit : (kind : AggKind) (ns : List ℤ) → AreBucketsOf kind (buckets_of kind ns)
buckets-fit Hist ns = counts-length Hist ns ∙ ap (λ n. suc n) hist_bounds
buckets-fit (Lhist low max step) ns = counts-length (Lhist low max step) ns ∙ lhist_bounds low max step
buckets-fit kind ns = tt
