-- The arguments that a format wants, and lists of values that are such arguments.
use Rattle.std.specs.Prelude.{ℕ, ◌==◌, List, [], ◌∷◌, if◌then◌else◌}
use Rattle.std.specs.List.{flat_map}
use Rattle.bt_core.specs.declared.map.Shape.{Shape}
use Rattle.bt_core.specs.declared.map.Shape.TheVariants.{Int, Str}
use Rattle.bt_core.specs.declared.value.Value.{Value}
use Rattle.bt_core.specs.Kinds.{HasShape}
use Rattle.fmt_text.specs.declared.piece.Piece.{Piece}
use Rattle.fmt_text.specs.declared.piece.Piece.TheVariants.{Literal, Conversion}

-- the letter `s` wants a string, and each other one a whole number
abbrev pub letter_shape : ℕ → Shape
letter_shape letter = if letter == 115 then Str else Int

-- bytes that stand for themselves want no argument
abbrev pub piece_shapes : Piece → List Shape
piece_shapes (Literal bytes) = []
piece_shapes (Conversion left zero width letter) = letter_shape letter ∷ []

-- one argument for each conversion, in their order
abbrev pub argument_shapes : List Piece → List Shape
argument_shapes pieces = flat_map piece_shapes pieces

-- the values are as many as the conversions, each of the type that its conversion wants
abbrev pub AreArgumentsOf : List Piece → List Value → Type 0
AreArgumentsOf pieces values = HasShape (argument_shapes pieces) values
