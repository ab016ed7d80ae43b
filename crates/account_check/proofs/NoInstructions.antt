-- Walks execute no instructions.
use Rattle.std.proofs.Common.{◌≡◌, ℕ, ◌≤◌, List, [], ◌∷◌, refl, subst, arith}
use Rattle.std.specs.Prelude.{slice_get, Option, Some, None}
use Rattle.bt_core.specs.declared.context.Context.{Context}
use Rattle.bt_core.specs.declared.ending.Ending.{Ending}
use Rattle.bt_core.specs.declared.step.Reply.{Reply}
use Rattle.bt_core.specs.Interaction.{Interaction, Ended, Asks, and_then, value_under}
use Rattle.typed_tree.specs.declared.body.TypedBody.{TypedBody}
use Rattle.typed_tree.specs.declared.script.Typed.{Typed}
use Rattle.walk_meaning.specs.Walk.{walk}
use Rattle.actor_plan.specs.declared.limits.TheConstants.{RUN_INSTRUCTIONS}
use Rattle.actor_plan.specs.Plans.{TakesFew}
use Rattle.bt_meaning.specs.Walks.{walked, walking}

one_value : {A : Type 0} (x y : A) → Some x ≡ Some y → x ≡ y
one_value x y e = cc

-- what goes before says nothing of the count at the end
ends_in_none : (t : Interaction Ending) (replies : List Reply) (count : ℕ) → value_under {A = ℕ} (and_then t (λ ending. Ended 0)) replies ≡ Some count → count ≤ 0
ends_in_none (Ended a) replies count e = let p : 0 ≡ count = one_value 0 count e in omega arith
ends_in_none (Asks c f) [] count e = absurd (let q : ⊥ = cc in q)
ends_in_none (Asks c f) (r ∷ rs) count e = ends_in_none (f r) rs count e

pub walks_few : (script : Typed) (actors actor : ℕ) → TakesFew (walking script actors actor)
walks_few script actors actor body context payload replies count e = found (slice_get script.bodies body) e
  where
    found : (o : Option TypedBody) → value_under (walked o context payload actor actors) replies ≡ Some count → count ≤ RUN_INSTRUCTIONS
    found None e = let p : 0 ≡ count = one_value 0 count e in omega arith
    found (Some b) e = let p = ends_in_none (walk b context payload actor actors) replies count e in omega arith
