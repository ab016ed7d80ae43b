-- Computations that ask only what can be asked, and emit only items of their own.
use Rattle.std.specs.Prelude.{List}
use Rattle.bt_core.specs.declared.item.Item.{Item}
use Rattle.bt_core.specs.declared.map.MapDecl.{MapDecl}
use Rattle.bt_core.specs.declared.step.ObjectId.{ObjectId}
use Rattle.bt_core.specs.declared.step.Op.{Op}
use Rattle.bt_core.specs.declared.step.Op.TheVariants.{Emit}
use Rattle.bt_core.specs.declared.step.Reply.{Reply}
use Rattle.bt_core.specs.Interaction.{Interaction, Ended, Asks}
use Rattle.bt_core.specs.Ports.{Setting, CanStep, IsReplyOf}

-- each call is one of those, as long as each reply is of the kind that its operation has on these maps, and this holds of the value
abbrev pub AdmitsOf : {A : Type 0} → (ObjectId → Op → Type 0) → List MapDecl → (A → Type 0) → Interaction A → Type 0
AdmitsOf calls maps holds (Ended a) = holds a
AdmitsOf calls maps holds (Asks call next) =
    calls call.object call.op × ((reply : Reply) → IsReplyOf maps call.object call.op reply → AdmitsOf calls maps holds (next reply))

-- each call can be made in this setting
abbrev pub Admits : {A : Type 0} → Setting → (A → Type 0) → Interaction A → Type 0
Admits setting holds t = AdmitsOf (CanStep setting) setting.maps holds t

-- this holds of what an operation emits
abbrev pub EmitsOnly : (Item → Type 0) → Op → Type 0
EmitsOnly holds (Emit item) = holds item
EmitsOnly holds op = Unit {0}
