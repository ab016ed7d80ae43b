-- What is answered of a script and a recording, and of the files of an order that hold them.
use Rattle.std.specs.Prelude.{◌≡◌, ℕ, ◌⊎◌, ◌≤◌, ◌<◌, ◌*◌, ◌%◌, List, length, Option, Some, None, Result, Ok, Err, IfOk, IfErr, IfSome, slice_get}
use Rattle.bpf_encode.specs.declared.program.Program.{Program}
use Rattle.bt_core.specs.declared.limits.TheConstants.{CODE_SLOTS}
use Rattle.bt_ast.specs.declared.attached.Attached.{Attached}
use Rattle.bt_ast.specs.declared.attached.BodyId.{BodyId}
use Rattle.bt_ast.specs.declared.probe.Script.{Script as Tree}
use Rattle.bt_core.specs.declared.place.Place.{Place}
use Rattle.recordings.specs.declared.recording.Recording.{Recording as Recorded}
use Rattle.script_programs.specs.declared.error.SizeFault.{SizeFault}
use Rattle.code_runs.specs.Programs.{KeepScript}
use Rattle.script_programs.specs.Sizes.{first_size_fault}
use Rattle.typed_tree.specs.declared.script.Typed.{Typed}
use Rattle.top_jobs.specs.declared.files.AccountJob.{AccountJob}
use Rattle.top_refusals.specs.declared.refusal.Refusal.{Refusal}
use Rattle.top_refusals.specs.declared.refusal.Refusal.TheVariants.{Script, ReadFault, Memory}
use Rattle.top_refusals.specs.declared.refusal.ScriptFault.{ScriptFault}
use Rattle.top_refusals.specs.declared.refusal.ScriptRefusal.TheVariants as script
use Rattle.top_jobs.specs.Due.{IsFirstRefusal, IsJudged}
use Rattle.top_jobs.specs.Jobs.{IsJobFor, account_in}
use Rattle.top_refusals.specs.Orders.{OperandFile, limit_of, names_of}
use Rattle.top_refusals.specs.Refusals.{too_long}
use Rattle.top_jobs.specs.Script.{IsScriptFault, IsTextFault}
use Rattle.top_jobs.specs.Reads.{ShelfUse, ShelfFailed, AreContentsOf, AsksExactly, AsksFirst, ComesIfDue, MayCome, OnTold}
use Rattle.top_jobs.specs.Sizes.{IsProbePlace, TellsLarge, size_refusal}

-- why something is refused, or none where it is not
abbrev pub refusal_in : {A : Type 0} → Result A Refusal → Option Refusal
refusal_in (Ok a) = None
refusal_in (Err refusal) = Some refusal

-- ---- a script over a recording

-- want of memory, or a fault of the text that is told so
abbrev pub IsTextRefusal : List ℕ → Refusal → Type 0
IsTextRefusal text refusal = (refusal ≡ Memory) ⊎ IsTextFault text refusal

-- the first fault of a script over a recording, with its place
pub record IsToldFault (text : List ℕ) (says : Recorded) (refusal : Refusal) : Type 0 where
  pub fault : ScriptFault
  pub place : Place
  pub told : refusal ≡ Script (script.Fault fault place)
  pub first : IsScriptFault text says (Script (script.Fault fault place))

-- want of memory, or a fault of the script
abbrev pub IsScriptRefusal : List ℕ → Recorded → Refusal → Type 0
IsScriptRefusal text says refusal = (refusal ≡ Memory) ⊎ IsToldFault text says refusal

-- the probe of a body is there
pub record HasProbe (tree : Tree) (attached : Attached) (body : ℕ) : Type 0 where
  pub id : BodyId
  pub of_body : slice_get attached.bodies body ≡ Some id
  pub within : id.probe < length tree.probes

-- the refusal tells so much of a body, at the place of its probe
pub record TellsSize (tree : Tree) (attached : Attached) (body : ℕ) (much : SizeFault) (refusal : Refusal) : Type 0 where
  pub place : Place
  pub at : IsProbePlace tree attached body place
  pub told : refusal ≡ size_refusal much place

-- no body of a script with these types is too large, and each of these programs keeps its body
pub record ArePrograms (typed : Typed) (made : List Program) : Type 0 where
  pub fits : first_size_fault 0 typed.bodies ≡ None
  pub programs : KeepScript typed made

abbrev pub IsSizeAnswer : Tree → Attached → Typed → Refusal → Type 0
IsSizeAnswer tree attached typed refusal = (refusal ≡ Memory) ⊎ TellsLarge tree attached typed refusal

-- ---- a script and a recording

-- want of memory, or what refuses both
abbrev pub IsFaultRefusal : List ℕ → List ℕ → Refusal → Type 0
IsFaultRefusal text bytes refusal = (refusal ≡ Memory) ⊎ IsFirstRefusal text bytes refusal

-- of what is due to both there is only one thing, and that comes unless memory runs out
abbrev pub IsExact : List ℕ → List ℕ → Option Refusal → Type 0
IsExact text bytes refusal = (due : Option Refusal) → IsJudged text bytes due → (refusal ≡ due) ⊎ (refusal ≡ Some Memory)

-- ---- the reads, and what is done with what they give

-- a file was read: it has no more bytes than it may have, and they are what the shelf tells of it
pub record IsRead (held : List ℕ → Option (List ℕ)) (file : OperandFile) (bytes : List ℕ) : Type 0 where
  pub fits : length bytes ≤ limit_of file.operand
  pub told : IfSome (held file.name) (λ told. bytes ≡ told)

-- why a file was not read: memory ran out, or the shelf's count of faults rose, or the shelf tells more bytes of it than it may have
abbrev pub IsUnread : OperandFile → ShelfUse → Refusal → Type 0
IsUnread file shelf refusal =
    (refusal ≡ Memory) ⊎ (((refusal ≡ ReadFault file.operand) × ShelfFailed shelf)
    ⊎ ((refusal ≡ too_long file.operand) × IfSome (shelf.held file.name) (λ bytes. limit_of file.operand < length bytes)))

-- what files with these contents ask for, of which the third is an account
pub record IsAccountJob (files : List OperandFile) (contents : List (List ℕ)) (both : AccountJob) : Type 0 where
  pub job : IsJobFor files contents both.job
  pub account : account_in contents ≡ both.account.items

-- what comes of files with contents that the shelf tells, before the write
pub record ComesOfContents {A : Type 0} (files : List OperandFile) (Comes : List (List ℕ) → A → Type 0) (shelf : ShelfUse) (answer : Result A Refusal) : Type 0 where
  pub contents : List (List ℕ)
  pub held : AreContentsOf shelf.held files contents
  pub value : IfOk answer (Comes contents)
  pub came : IfErr answer (λ refusal. MayCome files contents (ShelfFailed shelf) ⊥ (Some refusal))

-- the same, with the names that were asked for, and that what is due comes
pub record ComesOfFiles {A : Type 0} (files : List OperandFile) (Comes : List (List ℕ) → A → Type 0) (shelf : ShelfUse) (answer : Result A Refusal) : Type 0 where
  pub reads : ComesOfContents files Comes shelf answer
  pub asked : AsksFirst shelf.asked shelf.asked_after (names_of files)
  pub asked_exactly : AsksExactly files (refusal_in answer) shelf
  pub exact : OnTold shelf.held files (ComesIfDue files (refusal_in answer))

-- ---- listings

-- the bytes of a program are whole slots, and at most so many as code may have
abbrev pub CanBeListed : Program → Type 0
CanBeListed program = (length program.bytes % 8 ≡ 0) × (length program.bytes ≤ 8 * CODE_SLOTS)
