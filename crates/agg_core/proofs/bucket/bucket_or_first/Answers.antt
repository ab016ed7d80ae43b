use Rattle.std.proofs.Common.{rules, sym, FitsSigned, w64}
use Rattle.std.proofs.lemmas.Int.{to_z-of_z}
use Rattle.agg_core.proofs.BucketLemmas.{no_bucket}
use Rattle.agg_core.proofs.bucket.bucket_or_first.Goals as goal

pub returns-in-Lhist : goal.returns-in-Lhist
returns-in-Lhist c = rw c.in-Lhist.is (λ fine.
    let f : FitsSigned w64 c.args.n = c.ranges.n in
    let g : FitsSigned w64 c.in-Lhist.min = search rules in
    let h : FitsSigned w64 c.in-Lhist.max = search rules in
    let k : FitsSigned w64 c.in-Lhist.step = search rules in
    let e = simp to_z-of_z at c.lhist_bucket.ensures in e fine)

pub returns-in_default : goal.returns-in_default
returns-in_default c fine = sym (no_bucket c.args.kind c.args.n c.in_default.not-Hist c.in_default.not-Lhist)
