-- What is told of a fault behind the name of its file, in pieces. No public contract speaks of it.
use Rattle.std.specs.Prelude.{ℕ, List, [], ◌∷◌, Option, Some, None}
use Rattle.recordings.specs.declared.error.RecordingError.TheVariants as fault
use Rattle.top_refusals.specs.declared.tell.Told.{Told}
use Rattle.top_refusals.specs.declared.tell.Told.TheVariants as told
use Rattle.top_refusals.specs.Lines.{Piece, Text, Number}
use Rattle.top_refusals.specs.Refusals.{event_pieces, fault_pieces}

-- a number, where there is one
abbrev pub number_pieces : Option ℕ → List Piece
number_pieces None = []
number_pieces (Some number) = Number number ∷ []

abbrev pub told_pieces : Told → List Piece
told_pieces (told.Text text) = Text text.now ∷ []
told_pieces (told.Numbered text number) = Text text.now ∷ Number number ∷ []
told_pieces (told.Count what) = fault_pieces (fault.Count what)
told_pieces (told.Format place broken) = fault_pieces (fault.Format place broken)
told_pieces (told.Entry what cpu event) = event_pieces what.now cpu event
