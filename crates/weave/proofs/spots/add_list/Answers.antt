use Rattle.std.proofs.Common.{◌++◌, arith}
use Rattle.step_list.specs.Lists.{steps_in}
use Rattle.weave.specs.Keyed.{keyed_from}
use Rattle.weave.proofs.Spotted.{one_step_more}
use Rattle.weave.proofs.spots.add_list.Goals as goal

pub loop-place-preserved : goal.loop-place-preserved
loop-place-preserved c = one_step_more c.args.number c.loop-place.place (steps_in c.args.list.now) c.loop-place.found.items c.add_step.new.found.items
    (c.args.found.now.items ++ keyed_from c.args.number 0 (steps_in c.args.list.now))
    (omega (arith, c.in_ok-count.ensures.same, c.len.ensures, c.loop-place-test.true)) c.loop-place.invariant c.in_ok-add_step.ensures
