-- Lists that are found by a key: inner words, by which their types are seen as lists.
use Rattle.std.specs.Prelude.{ℕ, List, map}
use Rattle.bt_core.specs.declared.map.Shape.{Shape}
use Rattle.bt_core.specs.declared.place.Place.{Place}
use Rattle.fmt_text.specs.declared.piece.Piece.{Piece}
use Rattle.expr_types.specs.declared.known.Printed.{Printed}
use Rattle.expr_types.specs.declared.known.Var.{Var}

-- the variables of these names and types
abbrev pub vars_by : {K : Type 0} → (K → List ℕ) → List (K × Shape) → List Var
vars_by name_of entries = map (λ e. record { name = name_of e.0; shape = e.1 }) entries

-- the calls of these places, texts and pieces
abbrev pub calls_by : {K : Type 0} → (K → Place) → (K → List ℕ) → List (K × List Piece) → List Printed
calls_by place_of text_of entries = map (λ e. record { place = place_of e.0; text = text_of e.0; pieces = e.1 }) entries
