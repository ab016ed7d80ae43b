use Rattle.std.proofs.Common.{◌≡◌, ◌+◌, ◌-ℤ◌, sym, ◌∙◌, ap, FitsSigned, w64}
use Rattle.std.proofs.lemmas.Int.{to_z-of_z}
use Rattle.std.specs.Int.{div_ceil}
use Rattle.std.specs.Int.RustNames.{unsigned_abs}
use Rattle.bt_core.specs.Kinds.{steps_between}
use Rattle.agg_core.proofs.BucketCounts.{lhist_bounds}
use Rattle.agg_core.proofs.bucket.lhist_count.Goals as goal

pub returns-then-steps : goal.returns-then-steps
returns-then-steps c fine =
    let g : FitsSigned w64 c.args.min = c.ranges.min in
    let h : FitsSigned w64 c.args.max = c.ranges.max in
    let k : FitsSigned w64 c.args.step = c.ranges.step in
    let width : c.unsigned_abs-width.result ≡ unsigned_abs c.args.step = simp to_z-of_z at c.unsigned_abs-width.ensures.value in
    let span : c.abs_diff.result ≡ unsigned_abs (c.args.max -ℤ c.args.min) = simp to_z-of_z at c.abs_diff.ensures in
    let steps : c.div_ceil-steps.result ≡ steps_between c.args.min c.args.max c.args.step = c.div_ceil-steps.ensures ∙ (λ i. div_ceil (span i) (width i)) in
    ap (λ n. n + 2) steps ∙ sym (lhist_bounds c.args.min c.args.max c.args.step)
