use Rattle.std.proofs.Common.{◌≡◌, ap, w64, FitsSigned}
use Rattle.std.proofs.lemmas.Int.{to_z-of_z}
use Rattle.bt_core.specs.declared.agg.Agg.{Agg}
use Rattle.agg_core.proofs.AggregateLaws.{added}
use Rattle.agg_core.proofs.aggregation.AggAggregation.add.Goals as goal

pub returns-clause-added : goal.returns-clause-added
returns-clause-added c kind ns fine is =
    let fits : FitsSigned w64 c.args.n = c.ranges.n in
    let kinds : c.args.self.now.kind ≡ kind = ap (λ (a : Agg). a.kind) is in
    let step = simp to_z-of_z at (c.take_number.ensures.taken (rw kinds fine)) in
    added c.args.self.now c.take_number.new.agg kind ns c.args.n fits step is
