use Rattle.std.proofs.Common.{ap}
use Rattle.step_list.specs.Places.{step_by_deed}
use Rattle.step_list.proofs.list.step_at.Goals as goal

pub returns : goal.returns
returns c =
    ap (step_by_deed c.args.place.stamp) c.in_ok-actor.ensures
