-- Steps are ranked by stamp and object.
use Rattle.std.proofs.Common.{◌≡◌, Bool, List, subst}
use Rattle.std.specs.Cmp.{IsTotalOrder, IsStrictWeakOrder, nat_cmp_total}
use Rattle.std.specs.List.Sorted.{IsSortedBy, IsStableBy}
use Rattle.std.specs.Ordering.{is_lt, nat_cmp, ordering_then}
use Rattle.std.proofs.lemmas.Cmp.{on_total, then_total}
use Rattle.std.proofs.lemmas.List.MinMax.{ranks_by}
use Rattle.bt_core.specs.contracts.step.ObjectIdOrd.TheImpl as object_ord
use Rattle.bt_core.specs.declared.step.Step.{Step}
use Rattle.bt_core.proofs.OrderLaws.{objects_total}
use Rattle.weave.specs.Order.{step_order, comes_before}
use Rattle.weave.specs.Ranked.{ranked}
use Rattle.weave.proofs.Orders.{order_is}
use Rattle.weave.proofs.Stable.{steps_from, sorted_is_ranked}

pub steps_total : IsTotalOrder step_order
steps_total = then_total (on_total (λ (s : Step). s.stamp) nat_cmp_total) (on_total (λ (s : Step). s.object) objects_total)

pub steps_ranked : IsStrictWeakOrder comes_before
steps_ranked = ranks_by steps_total (λ (s : Step). s)

-- by the derived order of keys
abbrev pub key_before : Step → Step → Bool
key_before s t = is_lt (ordering_then (nat_cmp s.stamp t.stamp) (object_ord.ghosts.cmp s.object t.object))

-- a stable sort by these keys puts in order
pub sorted_steps : (xs ys : List Step) → IsSortedBy key_before ys → IsStableBy key_before xs ys → ys ≡ ranked comes_before xs
sorted_steps xs ys h s = let same : key_before ≡ comes_before = (λ i s t. order_is s t i) in
    sorted_is_ranked comes_before steps_ranked xs ys (steps_from comes_before ys (subst (λ (l : Step → Step → Bool). IsSortedBy l ys) same h))
    (subst (λ (l : Step → Step → Bool). IsStableBy l xs ys) same s)
