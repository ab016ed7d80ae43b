-- The lines that say why a call is refused: pieces one after another, and a newline.
use Rattle.std.specs.Prelude.{ℕ, List, ◌++◌, ◌⊎◌, codes, Option}
use Rattle.std.specs.Fmt.{decimal}
use Rattle.std.specs.Io.KnownBytes.{Appends}
use Rattle.std.specs.List.{flat_map}
use Rattle.bt_io.specs.Faults.{Rose}
use Rattle.bt_io.specs.Taken.{AppendsPart}
use Rattle.top_refusals.specs.declared.line.Piece.{Piece as Written}
use Rattle.top_refusals.specs.declared.line.Piece.TheVariants as written

-- a part of a line: a text, or a number in decimal digits
pub data Piece : Type 0 where
  Text : (bytes : List ℕ) → Piece
  Number : (value : ℕ) → Piece

-- the bytes of a piece
abbrev pub piece_bytes : Piece → List ℕ
piece_bytes (Text bytes) = bytes
piece_bytes (Number value) = decimal value

-- the bytes of a line: those of its pieces, and a newline
abbrev pub line_bytes : List Piece → List ℕ
line_bytes pieces = flat_map piece_bytes pieces ++ codes "\n"

-- the piece that is borrowed
abbrev pub piece_by : Written → Piece
piece_by (written.Text text) = Text text.now
piece_by (written.Number value) = Number value

-- what a sink shows of a call: the bytes that it took, where it tells them, and its count of faults, before and after
pub record SinkUse : Type 0 where
  pub taken : Option (List ℕ)
  pub taken_after : Option (List ℕ)
  pub faults : ℕ
  pub faults_after : ℕ

abbrev pub sink_use : {Self : Type 0} → (Self → Option (List ℕ)) → (Self → ℕ) → Self → Self → SinkUse
sink_use taken faults old new = record { taken = taken old; taken_after = taken new; faults = faults old; faults_after = faults new }

-- the sink's count of faults rose in the call
abbrev pub SinkFailed : SinkUse → Type 0
SinkFailed sink = Rose sink.faults sink.faults_after

-- the line of these pieces was written, or a fault came and a prefix of it was
abbrev pub Writes : SinkUse → List Piece → Type 0
Writes sink pieces =
    Appends sink.taken sink.taken_after (line_bytes pieces) ⊎ (SinkFailed sink × AppendsPart sink.taken sink.taken_after (line_bytes pieces))
