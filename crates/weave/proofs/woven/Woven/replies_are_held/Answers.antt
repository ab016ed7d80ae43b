use Rattle.std.proofs.Common.{subst, sym}
use Rattle.bt_core.specs.declared.step.Step.{Step}
use Rattle.step_list.specs.HeldReplies.{IsHeldReply, AreHeldReplies}
use Rattle.weave.specs.Listed.{listed}
use Rattle.weave.specs.Order.{comes_before}
use Rattle.weave.proofs.Listing.{listed_held}
use Rattle.weave.proofs.Ranking.{ranked_all}
use Rattle.weave.proofs.woven.Woven.replies_are_held.Goals as goal

pub returns : goal.returns
returns c = let lists = c.lists-lists.result.now in
    subst AreHeldReplies (sym c.lists-lists.ensures) (ranked_all (λ (s : Step). IsHeldReply s.reply) comes_before (listed lists) (listed_held lists))
