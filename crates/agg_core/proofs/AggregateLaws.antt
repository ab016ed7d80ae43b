-- The aggregate of one number more, and of no numbers.
use Rattle.std.proofs.Common.{◌≡◌, ℕ, ℤ, pos, ◌+ℤ◌, List, [], ◌∷◌, ◌++◌, length, refl, sym, ap, ◌∙◌, arith, w64, FitsSigned, Some, fold}
use Rattle.std.specs.Int.{int_min, int_max, int_wrapping_add}
use Rattle.std.specs.List.{reduce}
use Rattle.std.proofs.lemmas.Int.{wrapping_add_is, int_wrap-add_left, SFits-int_wrap, ints}
use Rattle.std.proofs.lemmas.List.{length_push}
use Rattle.std.proofs.lemmas.List.Sums.{fold_push}
use Rattle.bt_core.specs.declared.map.AggKind.{AggKind}
use Rattle.bt_core.specs.declared.map.AggKind.TheVariants.{Hist, Lhist}
use Rattle.bt_core.specs.declared.agg.Buckets.TheVariants as held
use Rattle.bt_core.specs.declared.agg.Agg.{Agg}
use Rattle.std.proofs.Common.{replicate}
use Rattle.agg_core.specs.Aggregates.{aggregate, either, signed, bucket, buckets_of}
use Rattle.agg_core.specs.Gathering.{with_number, with_bucket, emptied}
use Rattle.agg_core.proofs.CountLaws.{counts-more, counts-none, counts-length, hist-none}

count-more : (ns : List ℤ) (n : ℤ) → int_wrapping_add w64 (signed (pos (length ns))) (pos 1) ≡ signed (pos (length (ns ++ n ∷ [])))
count-more ns n = let one : FitsSigned w64 (pos 1) = omega (arith, ints) in
    wrapping_add_is w64 (signed (pos (length ns))) (pos 1) (SFits-int_wrap w64 (pos (length ns))) one
    ∙ int_wrap-add_left w64 (pos (length ns)) (pos 1)
    ∙ ap (λ k. signed (pos k)) (sym (length_push ns n))

sum-more : (ns : List ℤ) (n : ℤ) → FitsSigned w64 n → int_wrapping_add w64 (signed (fold ◌+ℤ◌ (pos 0) ns)) n ≡ signed (fold ◌+ℤ◌ (pos 0) (ns ++ n ∷ []))
sum-more ns n fits = let sum : ℤ = fold ◌+ℤ◌ (pos 0) ns in
    wrapping_add_is w64 (signed sum) n (SFits-int_wrap w64 sum) fits
    ∙ int_wrap-add_left w64 sum n
    ∙ ap signed (sym (fold_push ◌+ℤ◌ (pos 0) ns n))

reduce-more : (f : ℤ → ℤ → ℤ) (ns : List ℤ) (n : ℤ) → either f (reduce f ns) (Some n) ≡ reduce f (ns ++ n ∷ [])
reduce-more f [] n = refl
reduce-more f (m ∷ ms) n = ap (λ (z : ℤ). Some z) (sym (fold_push f m ms n))

buckets-more : (kind : AggKind) (ns : List ℤ) (n : ℤ) → with_bucket (bucket kind n) (buckets_of kind ns) ≡ buckets_of kind (ns ++ n ∷ [])
buckets-more Hist ns n = ap (λ (c : List ℕ). held.Hist c) (counts-more Hist ns n)
buckets-more (Lhist low max step) ns n = ap (λ (c : List ℕ). held.Lhist c) (counts-more (Lhist low max step) ns n)
buckets-more kind ns n = refl

pub aggregate-more : (kind : AggKind) (ns : List ℤ) (n : ℤ) → FitsSigned w64 n → with_number (aggregate kind ns) n ≡ aggregate kind (ns ++ n ∷ [])
aggregate-more kind ns n fits = λ i. record {
  kind = kind;
  count = count-more ns n i;
  sum = sum-more ns n fits i;
  least = reduce-more int_min ns n i;
  greatest = reduce-more int_max ns n i;
  buckets = buckets-more kind ns n i;
}

pub buckets-emptied : (kind : AggKind) (ns : List ℤ) → emptied (buckets_of kind ns) ≡ buckets_of kind []
buckets-emptied Hist ns = ap (λ (c : List ℕ). held.Hist c) (sym hist-none)
buckets-emptied (Lhist low max step) ns = ap (λ (c : List ℕ). held.Lhist c) (ap (λ n. replicate n 0) (counts-length (Lhist low max step) ns) ∙ sym (counts-none (Lhist low max step)))
buckets-emptied kind ns = refl

-- what a step from one aggregate to the next says of the aggregates of lists
pub added : (old new : Agg) (kind : AggKind) (ns : List ℤ) (n : ℤ) → FitsSigned w64 n → new ≡ with_number old n → old ≡ aggregate kind ns → new ≡ aggregate kind (ns ++ n ∷ [])
added old new kind ns n fits step is = step ∙ ap (λ (a : Agg). with_number a n) is ∙ aggregate-more kind ns n fits
