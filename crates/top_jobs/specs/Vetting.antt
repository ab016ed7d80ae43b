-- What the check says of a script's programs.
use Rattle.std.specs.Prelude.{◌≡◌, ℕ, ◌<◌, ◌*◌, ◌/◌, ◌++◌, List, codes, length, Option, Some, Result, Ok, Err, slice_get}
use Rattle.std.specs.Fmt.{decimal}
use Rattle.bpf_check.specs.Answers.{IsAnswer}
use Rattle.bpf_check.specs.Sheet.{sheet_of}
use Rattle.bpf_check.specs.declared.check.CodeFault.{CodeFault}
use Rattle.bpf_check.specs.declared.check.CodeFault.TheVariants.{Memory}
use Rattle.bpf_encode.specs.declared.program.Program.{Program}
use Rattle.bt_ast.specs.declared.attached.BodyId.{BodyId}
use Rattle.bt_core.specs.declared.memory.Memory.{Memory as NoMemory}
use Rattle.event_layout.specs.declared.format.Format.{Format}
use Rattle.typed_tree.specs.declared.body.TypedBody.{TypedBody}
use Rattle.typed_tree.specs.declared.script.Typed.{Typed}
use Rattle.walk_meaning.specs.Served.{least_length}
use Rattle.top_refusals.specs.declared.refusal.CodeRefusal.{CodeRefusal}
use Rattle.top_jobs.specs.declared.vetting.Verdict.{Verdict}
use Rattle.top_jobs.specs.declared.vetting.Verdict.TheVariants.{Accepted, Refused}
use Rattle.top_jobs.specs.Listings.{body_name, of_bodies}

-- ---- the lines

-- that a run of a body's program takes at most so many instructions
abbrev pub line_of : List Format → BodyId → ℕ → List ℕ
line_of formats id most = body_name formats id ++ codes ": at most " ++ decimal most ++ codes " instructions\n"

-- 4,097 times the number of a program's slots, of which each has eight bytes
abbrev pub most_of : Program → ℕ
most_of program = 4097 * (length program.bytes / 8)

abbrev pub program_line : List Format → BodyId → Program → List ℕ
program_line formats id program = line_of formats id (most_of program)

-- a line for each body
abbrev pub vet_listing : List Format → List BodyId → List Program → List ℕ
vet_listing formats ids programs = of_bodies (program_line formats) ids programs

-- ---- what is accepted, and what is refused

-- this is the answer of the check to the program of a body, over the script's maps and formats, and over payloads of at least the size of the
-- layout of the body's event
abbrev pub IsAnswerOf : Typed → TypedBody → Program → Result ℕ CodeFault → Type 0
IsAnswerOf typed body program answer = IsAnswer (sheet_of typed (least_length body.layout)) program.bytes answer

-- the program of a body is accepted, with that many instructions, and not refused for any fault
pub record Passes (typed : Typed) (body : TypedBody) (program : Program) : Type 0 where
  pub accepted : IsAnswerOf typed body program (Ok (most_of program))
  pub not_refused : (fault : CodeFault) → IsAnswerOf typed body program (Err fault) → ⊥

-- so are the programs of the first so many bodies
abbrev pub PassBefore : Typed → List Program → ℕ → Type 0
PassBefore typed programs many =
    (n : ℕ) (body : TypedBody) (program : Program) → n < many → slice_get typed.bodies n ≡ Some body → slice_get programs n ≡ Some program
    → Passes typed body program

-- and so are those of all bodies
abbrev pub AllPass : Typed → List Program → Type 0
AllPass typed programs =
    (n : ℕ) (body : TypedBody) (program : Program) → slice_get typed.bodies n ≡ Some body → slice_get programs n ≡ Some program
    → Passes typed body program

-- the program of a body is refused
pub record IsRefused (typed : Typed) (programs : List Program) (number : ℕ) (fault : CodeFault) : Type 0 where
  pub body : TypedBody
  pub program : Program
  pub of_body : slice_get typed.bodies number ≡ Some body
  pub of_program : slice_get programs number ≡ Some program
  pub is : IsAnswerOf typed body program (Err fault)

-- why a program is refused, by the fault that the check tells of it; want of memory is no such fault
abbrev pub refusal_of : BodyId → CodeFault → Result CodeRefusal NoMemory
refusal_of id (Memory memory) = Err memory
refusal_of id fault = Ok (record { probe = id.probe; fault = fault })

-- this tells the first body whose program is refused, by its probe, and the program's fault
pub record IsFirstRefused (ids : List BodyId) (typed : Typed) (programs : List Program) (why : CodeRefusal) : Type 0 where
  pub number : ℕ
  pub refused : IsRefused typed programs number why.fault
  pub before : PassBefore typed programs number
  pub id : BodyId
  pub named : slice_get ids number ≡ Some id
  pub probe : why.probe ≡ id.probe

-- what is said of all: a line for each where all are accepted, else the first that is refused
abbrev pub IsVerdict : List Format → List BodyId → Typed → List Program → Verdict → Type 0
IsVerdict formats ids typed programs (Accepted text) = AllPass typed programs × (text ≡ vet_listing formats ids programs)
IsVerdict formats ids typed programs (Refused why) = IsFirstRefused ids typed programs why
