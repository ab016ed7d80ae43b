use Rattle.std.proofs.Common.{rules}
use Rattle.std.proofs.lemmas.List.Sorted.{answers_always}
use Rattle.weave.specs.declared.spots.Keyed.{Keyed}
use Rattle.weave.proofs.Spotted.{sorted_keys}
use Rattle.weave.proofs.spots.put_in_order.Goals as goal

pub returns : goal.returns
returns c = sorted_keys c.args.found.now.items c.sort_by_key.new.self.items
    (c.in_ok-sort_by_key.ensures.sorted (λ (k : Keyed). (k.stamp, k.object)) (answers_always _ _ _ (λ f a r g h. search rules)))
    (c.in_ok-sort_by_key.ensures.stable (λ (k : Keyed). (k.stamp, k.object)) (answers_always _ _ _ (λ f a r g h. search rules)))
