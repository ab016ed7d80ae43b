-- What a listing of a script's programs is.
use Rattle.std.specs.Prelude.{ℕ, List, [], ◌∷◌, ◌++◌, codes, Option, Some, None, slice_get}
use Rattle.std.specs.Fmt.{decimal}
use Rattle.bpf_encode.specs.declared.program.Program.{Program}
use Rattle.bpf_encode.specs.Listing.{listing_of}
use Rattle.bt_ast.specs.declared.attached.BodyId.{BodyId}
use Rattle.bt_ast.specs.declared.attached.BodyPoint.{BodyPoint}
use Rattle.bt_ast.specs.declared.attached.BodyPoint.TheVariants.{Begin, End, Interval, Event}
use Rattle.event_layout.specs.declared.format.Format.{Format}

-- the system and the name of an event
abbrev pub event_name : Option Format → List ℕ
event_name None = []
event_name (Some format) = format.system ++ codes ":" ++ format.layout.name

-- what a body is run at
abbrev pub point_name : List Format → BodyPoint → List ℕ
point_name formats Begin = codes "BEGIN"
point_name formats End = codes "END"
point_name formats Interval = codes "interval"
point_name formats (Event place) = codes "tracepoint:" ++ event_name (slice_get formats place)

-- which body it is: the number of its probe, from 0 in the order of the script, and what it is run at
abbrev pub body_name : List Format → BodyId → List ℕ
body_name formats id = codes "probe " ++ decimal id.probe ++ codes " " ++ point_name formats id.point

-- the line of a body
abbrev pub head_line : List Format → BodyId → List ℕ
head_line formats id = body_name formats id ++ codes "\n"

-- that line, and a line for each slot of its program
abbrev pub body_listing : List Format → BodyId → Program → List ℕ
body_listing formats id program = head_line formats id ++ listing_of program.bytes

-- what is said of each body with its program, one after another
abbrev pub of_bodies : (BodyId → Program → List ℕ) → List BodyId → List Program → List ℕ
of_bodies said [] programs = []
of_bodies said (id ∷ ids) [] = []
of_bodies said (id ∷ ids) (program ∷ programs) = said id program ++ of_bodies said ids programs

-- all bodies, each with its program
abbrev pub script_listing : List Format → List BodyId → List Program → List ℕ
script_listing formats ids programs = of_bodies (body_listing formats) ids programs
