-- What goes with the code: marks of the formats that points match.
use Rattle.std.specs.Prelude.{ℕ, Bool, ◌&&◌, ◌||◌, List, [], ◌∷◌}
use Rattle.event_layout.specs.declared.format.Format.{Format}
use Rattle.bt_attach.specs.Pattern.{matches}

abbrev pub is_named : List ℕ → List ℕ → Format → Bool
is_named system name f = matches system f.system && matches name f.layout.name

-- a mark is set where it was set before or the test holds
abbrev pub either_each : (Format → Bool) → List Bool → List Format → List Bool
either_each test [] formats = []
either_each test (m ∷ marks) [] = []
either_each test (m ∷ marks) (f ∷ formats) = (m || test f) ∷ either_each test marks formats
