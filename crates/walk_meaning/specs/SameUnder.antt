-- Computations that are the same under the replies that can come.
use Rattle.std.specs.Prelude.{◌≡◌, List, [], ◌∷◌}
use Rattle.bt_core.specs.declared.map.MapDecl.{MapDecl}
use Rattle.bt_core.specs.declared.step.Reply.{Reply}
use Rattle.bt_core.specs.Interaction.{Interaction, Ended, Asks, Call}
use Rattle.bt_core.specs.Ports.{IsReplyOf}
use Rattle.bt_core.specs.Same.{SameTo}

-- a reply of the kind that the call's operation has on its object, where these maps are declared
abbrev pub IsReplyTo : List MapDecl → Call → Reply → Type 0
IsReplyTo maps call reply = IsReplyOf maps call.object call.op reply

-- the same under replies of the right kinds
abbrev pub SameUnder : {A : Type 0} → List MapDecl → Interaction A → Interaction A → Type 0
SameUnder maps one other = SameTo (IsReplyTo maps) (λ a b. a ≡ b) one other

-- the same whatever the replies are
abbrev pub SameAlways : {A : Type 0} → Interaction A → Interaction A → Type 0
SameAlways one other = SameTo (λ call reply. Unit {0}) (λ a b. a ≡ b) one other

-- the replies of the list that are taken are of the kinds that the calls have
abbrev pub AreRepliesTo : {A : Type 0} → List MapDecl → Interaction A → List Reply → Type 0
AreRepliesTo maps (Ended a) replies = Unit {0}
AreRepliesTo maps (Asks call next) [] = Unit {0}
AreRepliesTo maps (Asks call next) (reply ∷ replies) = IsReplyTo maps call reply × AreRepliesTo maps (next reply) replies
