-- Laws of computations that are the same under the replies that can come.
use Rattle.std.proofs.Common.{◌≡◌, List, [], ◌∷◌, refl, sym, ap, ◌∙◌, subst, Some}
use Rattle.bt_core.specs.declared.map.MapDecl.{MapDecl}
use Rattle.bt_core.specs.declared.step.Reply.{Reply}
use Rattle.bt_core.specs.Interaction.{Interaction, Ended, Asks, Call, calls, value_under}
use Rattle.walk_meaning.specs.SameUnder.{SameUnder, IsReplyTo, AreRepliesTo}

-- the same calls under a list of replies of the right kinds, and the same value
pub SameUnder-calls : {A : Type 0} (maps : List MapDecl) (t u : Interaction A) (replies : List Reply) → SameUnder maps t u → AreRepliesTo maps u replies → calls t replies ≡ calls u replies
SameUnder-calls maps (Ended a) (Ended b) replies p h = refl
SameUnder-calls maps (Ended a) (Asks d g) replies p h = absurd p
SameUnder-calls maps (Asks c f) (Ended b) replies p h = absurd p
SameUnder-calls maps (Asks c f) (Asks d g) [] p h = ap (λ (x : Call). x ∷ []) p.0
SameUnder-calls maps (Asks c f) (Asks d g) (r ∷ rs) p h =
    ap (λ (x : Call). x ∷ calls (f r) rs) p.0 ∙
    ap (λ (l : List Call). d ∷ l) (SameUnder-calls maps (f r) (g r) rs (p.1 r (subst (λ (x : Call). IsReplyTo maps x r) (sym p.0) h.0)) h.1)

pub SameUnder-value : {A : Type 0} (maps : List MapDecl) (t u : Interaction A) (replies : List Reply) → SameUnder maps t u → AreRepliesTo maps u replies → value_under t replies ≡ value_under u replies
SameUnder-value maps (Ended a) (Ended b) replies p h = ap Some p
SameUnder-value maps (Ended a) (Asks d g) replies p h = absurd p
SameUnder-value maps (Asks c f) (Ended b) replies p h = absurd p
SameUnder-value maps (Asks c f) (Asks d g) [] p h = refl
SameUnder-value maps (Asks c f) (Asks d g) (r ∷ rs) p h = SameUnder-value maps (f r) (g r) rs (p.1 r (subst (λ (x : Call). IsReplyTo maps x r) (sym p.0) h.0)) h.1
