-- What a tally replies.
use Rattle.std.specs.Prelude.{ℤ, pos, ◌+ℤ◌, List, [], ◌∷◌, ◌++◌, map, fold}
use Rattle.std.specs.Int.{w64, int_wrap}
use Rattle.bt_core.specs.declared.value.Value.TheVariants.{Int}
use Rattle.bt_core.specs.declared.step.Op.{Op}
use Rattle.bt_core.specs.declared.step.Op.TheVariants.{Add}
use Rattle.bt_core.specs.declared.step.Reply.{Reply}
use Rattle.bt_core.specs.declared.step.Reply.TheVariants.{Value}

-- the number that an operation adds
abbrev pub number_of : Op → ℤ
number_of (Add map key number) = number
number_of _ = pos 0

abbrev pub IsAdd : Op → Type 0
IsAdd (Add map key number) = Unit {0}
IsAdd _ = ⊥

-- the sum of the numbers, as a signed number of 64 bits
abbrev pub total : List Op → ℤ
total ops = int_wrap w64 (fold ◌+ℤ◌ (pos 0) (map number_of ops))

-- the sum so far, with the number of this operation
abbrev pub sum_reply : List Op → Op → Reply
sum_reply before op = Value (Int (total (before ++ op ∷ [])))
