use Rattle.std.proofs.Common.{◌-◌, arith}
use Rattle.bt_core.specs.declared.map.Shape.TheVariants.{Int}
use Rattle.bt_lower.proofs.Needing.{sizes_from}
use Rattle.bt_lower.proofs.need.sizes_of.Goals as goal

pub returns-in_err-bytes-clause-beyond : goal.returns-in_err-bytes-clause-beyond
returns-in_err-bytes-clause-beyond c =
    let sizes = sizes_from c.args.shapes.now (c.loop-left.left - 1) c.loop-left.left Int (omega arith) (omega arith) in
    grind (arith, sizes)
