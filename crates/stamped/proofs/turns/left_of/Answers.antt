use Rattle.std.proofs.Common.{[], ◌∷◌, ◌++◌, List, sym, ap, ◌∙◌, append-nil}
use Rattle.std.specs.Vec.Iter.{into_iter_items}
use Rattle.stamped.specs.Rows.{Row}
use Rattle.stamped.proofs.RowLemmas.{moved_over, none_left}
use Rattle.stamped.proofs.turns.left_of.Goals as goal

pub returns : goal.returns
returns c =
    let left = c.loop-actor.left.items in
    sym (append-nil left) ∙ ap (λ (l : List Row). left ++ l) (sym (none_left c.loop-actor.actor-iterator c.in-None.ensures.steps.0)) ∙ c.loop-actor.invariant

pub loop-actor-preserved : goal.loop-actor-preserved
loop-actor-preserved c =
    let left = c.loop-actor.left.items in
    let rest = into_iter_items c.next.new.self in
    let row = (λ i. (c.actor.inside.actor, c.into_iter-turns.ensures.rest i)) ∙ c.actor.view_is in
    ap (λ (l : List Row). l ++ rest) c.in_ok-push.ensures.items
    ∙ (λ i. (left ++ row i ∷ []) ++ rest)
    ∙ moved_over left c.in-Some.field-0 rest _ (ap (λ (l : List Row). left ++ l) (sym c.in-Some.ensures.steps.0) ∙ c.loop-actor.invariant)

pub loop-actor-init : goal.loop-actor-init
loop-actor-init c = λ i. c.in_ok-left.ensures.items i ++ c.into_iter-actor-iterator.ensures.into_iter_gives.0 i
