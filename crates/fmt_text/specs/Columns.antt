-- Texts in columns.
use Rattle.std.specs.Prelude.{ℕ, ◌-◌, ◌++◌, List, length, replicate}

-- as many copies of a byte as a text lacks to so many columns
abbrev pub fill : ℕ → ℕ → List ℕ → List ℕ
fill byte columns text = replicate (columns - length text) byte

-- filled with spaces on the right, or on the left, up to so many columns
abbrev pub left_in : ℕ → List ℕ → List ℕ
left_in columns text = text ++ fill 32 columns text

abbrev pub right_in : ℕ → List ℕ → List ℕ
right_in columns text = fill 32 columns text ++ text
