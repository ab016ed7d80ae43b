-- The levels as the code keeps them, and the first token that is too deep.
use Rattle.std.specs.Prelude.{◌≡◌, ℕ, ◌+◌, nat_lt, List, [], ◌∷◌, length, reverse, Option, Some, None, if◌then◌else◌}
use Rattle.std.specs.List.{sum}
use Rattle.bt_core.specs.declared.limits.TheConstants.{NESTING}
use Rattle.bt_grammar.specs.declared.class.Class.{Class}
use Rattle.bt_parser.specs.declared.nesting.Levels.{Levels}
use Rattle.bt_grammar.specs.Weights.{levels_behind, level_weight}

abbrev pub levels_of : Levels → List ℕ
levels_of l = l.inner ∷ reverse l.around.items

abbrev pub IsWeighed : Levels → Type 0
IsWeighed l = l.weight ≡ length l.around.items + (l.inner + sum l.around.items)

-- the place of the first of these classes of tokens that makes the levels too heavy, counted on
abbrev pub deep_from : ℕ → List ℕ → List Class → Option ℕ
deep_from i levels [] = None
deep_from i levels (c ∷ cs) = if nat_lt NESTING (level_weight (levels_behind c levels)) then Some i else deep_from (i + 1) (levels_behind c levels) cs
