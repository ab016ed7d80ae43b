-- What calls the walk of a body makes.
use Rattle.std.specs.Prelude.{◌≡◌, ℕ, ⊤}
use Rattle.bt_core.specs.declared.step.ObjectId.{ObjectId}
use Rattle.bt_core.specs.declared.step.ObjectId.TheVariants.{Shared, Cpu, Clock, Out}
use Rattle.bt_core.specs.declared.step.Op.{Op}
use Rattle.bt_core.specs.declared.step.Op.TheVariants.{Get, Set, Delete, Clear, Zero, ReadAll, Add, ClearOf, ZeroOf, Read, Stop, Emit}
use Rattle.bt_core.specs.declared.step.Reply.{Reply}
use Rattle.bt_core.specs.Interaction.{Interaction, Ended, Asks}
use Rattle.bt_core.specs.KeyBytes.{part_of}

-- whatever is replied, each call is one of these
abbrev pub OnlyCalls : {A : Type 0} → (ObjectId → Op → Type 0) → Interaction A → Type 0
OnlyCalls calls (Ended a) = ⊤
OnlyCalls calls (Asks c f) = calls c.object c.op × ((reply : Reply) → OnlyCalls calls (f reply))

-- an operation under a key is at the key's part, and an actor adds at its own table; of the clock a walk asks but a stop
abbrev pub IsWalkCall : ℕ → ObjectId → Op → Type 0
IsWalkCall actor (Shared m p) (Get key) = p ≡ part_of key
IsWalkCall actor (Shared m p) (Set key value) = p ≡ part_of key
IsWalkCall actor (Shared m p) (Delete key) = p ≡ part_of key
IsWalkCall actor (Shared m p) Clear = ⊤
IsWalkCall actor (Shared m p) Zero = ⊤
IsWalkCall actor (Shared m p) ReadAll = ⊤
IsWalkCall actor (Cpu a) (Add m key number) = a ≡ actor
IsWalkCall actor (Cpu a) (ClearOf m) = ⊤
IsWalkCall actor (Cpu a) (ZeroOf m) = ⊤
IsWalkCall actor (Cpu a) (Read m) = ⊤
IsWalkCall actor Clock Stop = ⊤
IsWalkCall actor Out (Emit item) = ⊤
IsWalkCall actor object op = ⊥
