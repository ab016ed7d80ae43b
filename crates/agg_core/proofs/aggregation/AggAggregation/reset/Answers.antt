use Rattle.std.proofs.Common.{◌≡◌, ◌∙◌, ap, sym, pos, None, [], arith, w64, FitsSigned}
use Rattle.std.specs.Int.{int_wrap}
use Rattle.std.proofs.lemmas.Int.{int_wrap_fits, ints}
use Rattle.bt_core.specs.declared.agg.Agg.{Agg}
use Rattle.agg_core.specs.Aggregates.{buckets_of}
use Rattle.agg_core.specs.Gathering.{emptied}
use Rattle.agg_core.proofs.AggregateLaws.{buckets-emptied}
use Rattle.agg_core.proofs.aggregation.AggAggregation.reset.Goals as goal

pub returns : goal.returns
returns c kind ns is =
    let fits : FitsSigned w64 (pos 0) = omega (arith, ints) in
    let zero : pos 0 ≡ int_wrap w64 (pos 0) = sym (int_wrap_fits w64 (pos 0) fits) in
    let kinds : c.args.self.now.kind ≡ kind = ap (λ (a : Agg). a.kind) is in
    let buckets : c.reset_buckets.new.buckets ≡ buckets_of kind [] = c.reset_buckets.ensures ∙ ap (λ (a : Agg). emptied a.buckets) is ∙ buckets-emptied kind ns in
    λ i. record { kind = kinds i; count = zero i; sum = zero i; least = None; greatest = None; buckets = buckets i }
