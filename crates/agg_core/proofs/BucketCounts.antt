-- How many buckets a kind has.
use Rattle.std.proofs.Common.{◌≡◌, suc, ◌+◌, ◌≤◌, [], ◌∷◌, length, ap, ◌∙◌, arith, ℤ, refl}
use Rattle.std.specs.Int.RustNames.{int_le}
use Rattle.std.proofs.lemmas.List.{length-append}
use Rattle.std.proofs.lemmas.List.FromFn.{length-map-range_with_len}
use Rattle.std.proofs.lemmas.List.Sums.{count_by-le-length}
use Rattle.bt_core.specs.declared.map.AggKind.{AggKind}
use Rattle.bt_core.specs.declared.map.AggKind.TheVariants.{Hist, Lhist}
use Rattle.bt_core.specs.Kinds.{steps_between, IsFineKind}
use Rattle.agg_core.specs.Aggregates.{bounds, bucket, steps_from}

pub hist_bounds : length (bounds Hist) ≡ 64
unfolding bounds
hist_bounds = refl

pub lhist_bounds : (low max step : ℤ) → suc (length (bounds (Lhist low max step))) ≡ steps_between low max step + 2
unfolding bounds
lhist_bounds low max step = ap (λ n. suc n) (length-append (steps_from low step (steps_between low max step)) (max ∷ []) ∙ ap (λ n. n + 1) (length-map-range_with_len _ 0 (steps_between low max step))) ∙ omega arith

few_bounds : (kind : AggKind) → IsFineKind kind → length (bounds kind) ≤ 1001
unfolding bounds
few_bounds Hist fine = omega (arith, hist_bounds)
few_bounds (Lhist low max step) fine = omega (arith, lhist_bounds low max step, fine.few)
few_bounds kind fine = omega arith

pub bucket-small : (kind : AggKind) (n : ℤ) → IsFineKind kind → bucket kind n ≤ 1001
bucket-small kind n fine =
    let low : bucket kind n ≤ length (bounds kind) = count_by-le-length (λ bound. int_le bound n) (bounds kind) in
    let few = few_bounds kind fine in omega arith
