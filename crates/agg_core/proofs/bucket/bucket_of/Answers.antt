use Rattle.std.proofs.Common.{arith, FitsSigned, w64}
use Rattle.std.proofs.lemmas.Int.{to_z-of_z}
use Rattle.agg_core.proofs.BucketCounts.{bucket-small}
use Rattle.agg_core.proofs.bucket.bucket_of.Goals as goal

pub overflow_cast-result : goal.overflow_cast-result
overflow_cast-result c =
    let f : FitsSigned w64 c.args.n = c.ranges.n in
    let is = simp to_z-of_z at (c.bucket_or_first.ensures c.requires.well_formed) in
    let small = bucket-small c.args.kind c.args.n c.requires.well_formed in
    omega arith
