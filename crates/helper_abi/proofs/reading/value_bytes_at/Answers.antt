use Rattle.std.proofs.Common.{arith}
use Rattle.helper_abi.proofs.ReadingLemmas.{too_many}
use Rattle.helper_abi.proofs.reading.value_bytes_at.Goals as goal

pub returns-then-shapes-longest_region-clause-exact : goal.returns-then-shapes-longest_region-clause-exact
returns-then-shapes-longest_region-clause-exact c =
    too_many c.args.memory.now c.args.address c.args.shapes.now (omega (arith, c.longest_region.ensures.value, c.if-shapes-longest_region.true))
