-- Whether bytes are left behind the last part.
use Rattle.std.proofs.Common.{◌≡◌, ◌≢◌, ℕ, true, false, List, [], ◌∷◌, length, refl, sym, arith}
use Rattle.std.specs.Prelude.{◌==◌}
use Rattle.std.proofs.lemmas.Bool.{eqb-true}

pub nothing_left : (rest : List ℕ) → true ≡ (length rest == 0) → rest ≡ []
nothing_left [] h = refl
nothing_left (b ∷ rest) h = let none = eqb-true (length (b ∷ rest)) 0 (sym h) in absurd (omega arith)

pub something_left : (rest : List ℕ) → false ≡ (length rest == 0) → rest ≢ []
something_left [] h e = cc
something_left (b ∷ rest) h e = cc
