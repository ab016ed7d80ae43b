use Rattle.std.proofs.Common.{ap, Err, arith}
use Rattle.top_jobs.proofs.TooLarge.{first_within}
use Rattle.top_jobs.proofs.sizes.programs_for.Goals as goal

pub size_refusal-requires : goal.size_refusal-requires
size_refusal-requires c =
    let first = c.in-Err-TooLarge.ensures.refused c.in-Err-TooLarge.body c.in-Err-TooLarge.fault (ap Err c.in-Err-TooLarge.field-0-is) in
    let low = first_within 0 c.args.typed.now.bodies c.in-Err-TooLarge.body c.in-Err-TooLarge.fault first in
    c.requires.probes c.in-Err-TooLarge.body (omega (arith, low))
