use Rattle.std.proofs.Common.{rules}
use Rattle.std.proofs.lemmas.List.Sorted.{answers_always}
use Rattle.bt_core.specs.declared.step.Step.{Step}
use Rattle.weave.proofs.StepOrder.{sorted_steps}
use Rattle.weave.proofs.copies.put_in_order.Goals as goal

pub returns : goal.returns
returns c = sorted_steps c.args.steps.now.items c.sort_by_key.new.self.items
    (c.in_ok-sort_by_key.ensures.sorted (λ (s : Step). (s.stamp, s.object)) (answers_always _ _ _ (λ f a r g h. search rules)))
    (c.in_ok-sort_by_key.ensures.stable (λ (s : Step). (s.stamp, s.object)) (answers_always _ _ _ (λ f a r g h. search rules)))
