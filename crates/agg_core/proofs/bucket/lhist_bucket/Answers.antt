use Rattle.std.proofs.Common.{◌≡◌, ◌+◌, ◌-◌, ◌≤◌, ◌<◌, ◌^◌, ◌/◌, min, cond, ◌≤ℤ◌, ◌<ℤ◌, ◌-ℤ◌, ℕ, arith, sym, ◌∙◌, ap, FitsSigned, w64}
use Rattle.std.proofs.lemmas.Int.{ints, to_z-of_z}
use Rattle.std.specs.Int.{div_ceil}
use Rattle.std.specs.Int.RustNames.{unsigned_abs, int_le}
use Rattle.bt_core.specs.Kinds.{steps_between}
use Rattle.agg_core.proofs.BucketLemmas.{lhist_reaches, lhist_below}
use Rattle.agg_core.proofs.bucket.lhist_bucket.Goals as goal

pub returns-then-n-min : goal.returns-then-n-min
returns-then-n-min c fine =
    let f : FitsSigned w64 c.args.n = c.ranges.n in
    let g : FitsSigned w64 c.args.min = c.ranges.min in
    let h : FitsSigned w64 c.args.max = c.ranges.max in
    let below : c.args.n <ℤ c.args.min = omega (arith, ints) in
    let last : c.last_reached-above.result ≡ cond (int_le c.args.max c.args.n) 1 0 = simp to_z-of_z at c.last_reached-above.ensures in
    last ∙ sym (lhist_below c.args.min c.args.max c.args.step c.args.n below)

-- what the sums of the code come to
sums : (q steps above reached r low top : ℕ) → low ≡ min (q + 1) (2 ^ 64 - 1) → reached ≡ min low steps → r ≡ min (reached + above) (2 ^ 64 - 1) → above ≤ 1 → steps ≤ 1000 → top ≡ above → r ≡ min (q + 1) steps + top
sums q steps above reached r low top a b c d e f = grind arith

pub returns : goal.returns
returns c fine =
    let f : FitsSigned w64 c.args.n = c.ranges.n in
    let g : FitsSigned w64 c.args.min = c.ranges.min in
    let h : FitsSigned w64 c.args.max = c.ranges.max in
    let k : FitsSigned w64 c.args.step = c.ranges.step in
    let above : c.args.min ≤ℤ c.args.n = omega (arith, ints) in
    let some : 0 < unsigned_abs c.args.step = omega (arith, ints, fine.wide) in
    let last : c.last_reached-above.result ≡ cond (int_le c.args.max c.args.n) 1 0 = simp to_z-of_z at c.last_reached-above.ensures in
    let width : c.unsigned_abs-width.result ≡ unsigned_abs c.args.step = simp to_z-of_z at c.unsigned_abs-width.ensures.value in
    let span : c.abs_diff.result ≡ unsigned_abs (c.args.max -ℤ c.args.min) = simp to_z-of_z at c.abs_diff.ensures in
    let over : c.abs_diff-2.result ≡ unsigned_abs (c.args.n -ℤ c.args.min) = simp to_z-of_z at c.abs_diff-2.ensures in
    let steps : c.div_ceil-steps.result ≡ steps_between c.args.min c.args.max c.args.step = c.div_ceil-steps.ensures ∙ (λ i. div_ceil (span i) (width i)) in
    let quotient : c.abs_diff-2.result / c.unsigned_abs-width.result ≡ unsigned_abs (c.args.n -ℤ c.args.min) / unsigned_abs c.args.step = λ i. over i / width i in
    let few : c.div_ceil-steps.result ≤ 1000 = omega (arith, fine.few) in
    let one : c.last_reached-above.result ≤ 1 = grind arith in
    lhist_reaches c.args.min c.args.max c.args.step c.args.n c.div_ceil-steps.result c.saturating_add-2.result steps some above
    (sums _ _ _ _ _ _ (cond (int_le c.args.max c.args.n) 1 0) (c.saturating_add.ensures ∙ ap (λ q. min (q + 1) (2 ^ 64 - 1)) quotient) c.min-reached.ensures c.saturating_add-2.ensures one few (sym last))
