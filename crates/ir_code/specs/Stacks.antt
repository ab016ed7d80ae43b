-- Stacks of values.
use Rattle.std.specs.Prelude.{pos, List, [], ◌∷◌}
use Rattle.bt_core.specs.declared.value.Value.{Value}
use Rattle.bt_core.specs.declared.value.Value.TheVariants.{Int}

-- the value at the end of a stack, and the stack without it
abbrev pub top : List Value → Value
top [] = Int (pos 0)
top (v ∷ []) = v
top (v ∷ w ∷ vs) = top (w ∷ vs)

abbrev pub below : List Value → List Value
below [] = []
below (v ∷ []) = []
below (v ∷ w ∷ vs) = v ∷ below (w ∷ vs)
