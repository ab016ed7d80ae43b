-- What goes with the code: rows of places of a name.
use Rattle.std.specs.Prelude.{ℕ, nat_eq, Bool, false, cond, ◌&&◌, ◌||◌, List, [], ◌∷◌}

-- rows: for each place of a name whether what was read of a pattern matches the bytes before it
abbrev pub starred : Bool → List Bool → List Bool
starred reached [] = []
starred reached (r ∷ rs) = (reached || r) ∷ starred (reached || r) rs

abbrev pub met : ℕ → Bool → List Bool → List ℕ → List Bool
met c reached row [] = reached ∷ []
met c reached [] (b ∷ bs) = reached ∷ met c false [] bs
met c reached (r ∷ rs) (b ∷ bs) = reached ∷ met c (r && nat_eq b c) rs bs

abbrev pub after_byte : ℕ → List Bool → List ℕ → List Bool
after_byte c row name = cond (nat_eq c 42) (starred false row) (met c false row name)

-- a test holds of what is left of a name behind some place that is reached
abbrev pub some_reached : (List ℕ → Bool) → List Bool → List ℕ → Bool
some_reached test [] name = false
some_reached test (r ∷ rs) [] = r && test []
some_reached test (r ∷ rs) (b ∷ bs) = (r && test (b ∷ bs)) || some_reached test rs bs
