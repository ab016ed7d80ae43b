use Rattle.std.proofs.Common.{rules, w64, FitsSigned}
use Rattle.std.proofs.lemmas.Int.{wrapping_add_is}
use Rattle.agg_core.proofs.merge.take_in.Goals as goal

pub returns : goal.returns
returns c =
    let a : FitsSigned w64 c.args.agg.now.count = search rules in
    let b : FitsSigned w64 c.args.other.now.count = search rules in
    let d : FitsSigned w64 c.args.agg.now.sum = search rules in
    let e : FitsSigned w64 c.args.other.now.sum = search rules in
    let count = wrapping_add_is w64 c.args.agg.now.count c.args.other.now.count a b in
    let sum = wrapping_add_is w64 c.args.agg.now.sum c.args.other.now.sum d e in
    λ i. record {
      kind = c.args.agg.now.kind;
      count = count i;
      sum = sum i;
      least = c.lesser-agg.ensures i;
      greatest = c.greater-agg.ensures i;
      buckets = c.merge_buckets.ensures i;
    }
