use Rattle.step_list.specs.Deeds.{deed}
use Rattle.step_list.proofs.deed.Deed.copy.Goals as goal

pub returns : goal.returns
returns c =
    λ i. deed c.args.self.now.actor c.args.self.now.object (c.in_ok-op.ensures i) (c.in_ok-reply.ensures i)
