-- Computations that do the same under the replies that can come.
use Rattle.std.specs.Prelude.{◌≡◌}
use Rattle.bt_core.specs.declared.step.Reply.{Reply}
use Rattle.bt_core.specs.Interaction.{Call, Interaction, Ended, Asks}

-- the same calls, as long as each reply is one that can come, and ends that are alike
abbrev pub SameTo : {A B : Type 0} → (Call → Reply → Type 0) → (A → B → Type 0) → Interaction A → Interaction B → Type 0
SameTo comes alike (Ended a) (Ended b) = alike a b
SameTo comes alike (Ended a) (Asks d g) = ⊥
SameTo comes alike (Asks c f) (Ended b) = ⊥
SameTo comes alike (Asks c f) (Asks d g) = (c ≡ d) × ((reply : Reply) → comes c reply → SameTo comes alike (f reply) (g reply))

-- as long as each reply is one that can come, it ends with such a value
abbrev pub Yields : {A : Type 0} → (Call → Reply → Type 0) → (A → Type 0) → Interaction A → Type 0
Yields comes P (Ended a) = P a
Yields comes P (Asks c f) = (reply : Reply) → comes c reply → Yields comes P (f reply)
