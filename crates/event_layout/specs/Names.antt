-- How tracepoints are called.
use Rattle.std.specs.Prelude.{ℕ, ◌==◌, Bool, not, List, ◌∷◌, ◌++◌}
use Rattle.std.specs.List.{list_all}

-- SYSTEM:NAME
abbrev pub tracepoint_name : List ℕ → List ℕ → List ℕ
tracepoint_name system name = system ++ 58 ∷ name

-- no byte is a colon
abbrev pub has_no_colon : List ℕ → Bool
has_no_colon bytes = list_all (λ b. not (b == 58)) bytes
