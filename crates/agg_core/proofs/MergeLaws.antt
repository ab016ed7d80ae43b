-- The aggregates of two lists, merged.
use Rattle.std.proofs.Common.{◌≡◌, ℕ, zero, suc, ◌+◌, ◌%◌, ◌^◌, ℤ, pos, ◌+ℤ◌, List, [], ◌∷◌, ◌++◌, length, refl, sym, ap, ◌∙◌, arith, w64, Some, fold, map, cond, ◌==◌}
use Rattle.std.specs.Int.{int_min, int_max}
use Rattle.std.specs.List.{reduce, range_with_len, count_by}
use Rattle.std.proofs.lemmas.Int.{int_wrap-add_left, int_wrap-add_right, ints}
use Rattle.std.proofs.lemmas.List.{length-append}
use Rattle.std.proofs.lemmas.List.Sums.{fold-append, sum_by-append}
use Rattle.bt_core.specs.declared.map.AggKind.{AggKind}
use Rattle.bt_core.specs.declared.map.AggKind.TheVariants.{Hist, Lhist}
use Rattle.bt_core.specs.declared.agg.Buckets.TheVariants as held
use Rattle.agg_core.specs.Aggregates.{aggregate, agg_merged, signed, either, bucket, bounds, counts, both_counts, both_buckets, buckets_of}

wrapped-both : (a b : ℤ) → signed (signed a +ℤ signed b) ≡ signed (a +ℤ b)
wrapped-both a b = int_wrap-add_left w64 a (signed b) ∙ int_wrap-add_right w64 a b

-- a sum from a start on
sum-from : (a : ℤ) (ns : List ℤ) → fold ◌+ℤ◌ a ns ≡ a +ℤ fold ◌+ℤ◌ (pos 0) ns
sum-from a [] = omega (arith, ints)
sum-from a (n ∷ ns) = let p = sum-from (a +ℤ n) ns in let q = sum-from (pos 0 +ℤ n) ns in omega (arith, ints, p, q)

min-assoc : (a b c : ℤ) → int_min (int_min a b) c ≡ int_min a (int_min b c)
min-assoc a b c = grind (arith, ints)

max-assoc : (a b c : ℤ) → int_max (int_max a b) c ≡ int_max a (int_max b c)
max-assoc a b c = grind (arith, ints)

fold-assoc : (f : ℤ → ℤ → ℤ) → ((a b c : ℤ) → f (f a b) c ≡ f a (f b c)) → (a b : ℤ) (ns : List ℤ) → fold f (f a b) ns ≡ f a (fold f b ns)
fold-assoc f assoc a b [] = refl
fold-assoc f assoc a b (n ∷ ns) = ap (λ z. fold f z ns) (assoc a b n) ∙ fold-assoc f assoc a (f b n) ns

reduce-both : (f : ℤ → ℤ → ℤ) → ((a b c : ℤ) → f (f a b) c ≡ f a (f b c)) → (ms ns : List ℤ) → either f (reduce f ms) (reduce f ns) ≡ reduce f (ms ++ ns)
reduce-both f assoc [] ns = refl
reduce-both f assoc (m ∷ ms) [] = ap (λ (z : ℤ). Some z) (sym (fold-append f m ms []))
reduce-both f assoc (m ∷ ms) (n ∷ ns) = ap (λ (z : ℤ). Some z) (sym (fold-append f m ms (n ∷ ns) ∙ fold-assoc f assoc (fold f m ms) n ns))

mod_both : (m n : ℕ) → (m % 2 ^ 64 + n % 2 ^ 64) % 2 ^ 64 ≡ (m + n) % 2 ^ 64
mod_both m n = omega arith

both-range : (kind : AggKind) (ms ns : List ℤ) (a n : ℕ)
    → both_counts (map (λ b. count_by (λ m. bucket kind m == b) ms % 2 ^ 64) (range_with_len a n)) (map (λ b. count_by (λ m. bucket kind m == b) ns % 2 ^ 64) (range_with_len a n))
    ≡ map (λ b. count_by (λ m. bucket kind m == b) (ms ++ ns) % 2 ^ 64) (range_with_len a n)
both-range kind ms ns a zero = refl
both-range kind ms ns a (suc n) =
    let e = mod_both (count_by (λ m. bucket kind m == a) ms) (count_by (λ m. bucket kind m == a) ns) ∙ ap (λ c. c % 2 ^ 64) (sym (sum_by-append (λ m. cond (bucket kind m == a) 1 0) ms ns)) in
    let rest = both-range kind ms ns (a + 1) n in λ i. e i ∷ rest i

pub counts-both : (kind : AggKind) (ms ns : List ℤ) → both_counts (counts kind ms) (counts kind ns) ≡ counts kind (ms ++ ns)
counts-both kind ms ns = both-range kind ms ns 0 (suc (length (bounds kind)))

buckets-both : (kind : AggKind) (ms ns : List ℤ) → both_buckets (buckets_of kind ms) (buckets_of kind ns) ≡ buckets_of kind (ms ++ ns)
buckets-both Hist ms ns = ap (λ (c : List ℕ). held.Hist c) (counts-both Hist ms ns)
buckets-both (Lhist low max step) ms ns = ap (λ (c : List ℕ). held.Lhist c) (counts-both (Lhist low max step) ms ns)
buckets-both kind ms ns = refl

-- the merge of the aggregates of two lists is the aggregate of both lists, one after the other
pub merged-both : (kind : AggKind) (ms ns : List ℤ) → agg_merged (aggregate kind ms) (aggregate kind ns) ≡ aggregate kind (ms ++ ns)
merged-both kind ms ns =
    let count = wrapped-both (pos (length ms)) (pos (length ns)) ∙ ap (λ n. signed (pos n)) (sym (length-append ms ns)) in
    let sum = wrapped-both (fold ◌+ℤ◌ (pos 0) ms) (fold ◌+ℤ◌ (pos 0) ns) ∙ ap signed (sym (fold-append ◌+ℤ◌ (pos 0) ms ns ∙ sum-from (fold ◌+ℤ◌ (pos 0) ms) ns)) in
    λ i. record {
      kind = kind;
      count = count i;
      sum = sum i;
      least = reduce-both int_min min-assoc ms ns i;
      greatest = reduce-both int_max max-assoc ms ns i;
      buckets = buckets-both kind ms ns i;
    }
