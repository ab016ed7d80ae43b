-- The pieces of a text as a function, which reads from the front: for definitions that decide by them.
use Rattle.std.specs.Prelude.{ℕ, zero, suc, List, [], ◌∷◌, length, Option, Some, None}
use Rattle.std.specs.Option.{option_map}
use Rattle.fmt_text.specs.declared.piece.Piece.{Piece}
use Rattle.fmt_text.specs.declared.conversion.Front.{Front}
use Rattle.fmt_text.specs.Formats.{joined}
use Rattle.fmt_text.specs.Reading.{front_of, front_piece}

-- the front, where there is one, and what is read behind it
abbrev pub read_on : (List ℕ → Option (List Piece)) → Option (Front × List ℕ) → Option (List Piece)
read_on others None = None
read_on others (Some front) = option_map (joined (front_piece front.0)) (others front.1)

-- the pieces of a text of at most so many bytes
abbrev pub pieces_within : ℕ → List ℕ → Option (List Piece)
pieces_within n [] = Some []
pieces_within zero (b ∷ bs) = None
pieces_within (suc n) (b ∷ bs) = read_on (pieces_within n) (front_of (b ∷ bs))

-- the pieces of a text that is a format
unfoldable pub format_pieces : List ℕ → Option (List Piece)
format_pieces text = pieces_within (length text) text
