-- What is due to the files of an order: what refuses them, or nothing. It says what comes where no fault comes and memory suffices.
use Rattle.std.specs.Prelude.{◌≡◌, ℕ, ◌<◌, ◌≤◌, ◌⊎◌, List, [], ◌∷◌, length, Option, Some, None}
use Rattle.recordings.specs.declared.recording.Recording.{Recording as Recorded}
use Rattle.recordings.specs.Recordings.{recording_bytes, IsValidRecording}
use Rattle.rec_format.specs.Faults.{IsRecordingFault}
use Rattle.bt_ast.specs.declared.probe.Script.{Script as Tree}
use Rattle.bt_attach.specs.Attaching.{attach_fault}
use Rattle.top_refusals.specs.declared.refusal.ScriptRefusal.TheVariants as script
use Rattle.top_refusals.specs.declared.refusal.RecordingRefusal.TheVariants as recording
use Rattle.top_refusals.specs.declared.refusal.Refusal.{Refusal}
use Rattle.top_refusals.specs.declared.refusal.Refusal.TheVariants.{Script, Recording}
use Rattle.top_refusals.specs.Orders.{OperandFile, limit_of}
use Rattle.top_refusals.specs.Refusals.{too_long}
use Rattle.top_jobs.specs.Script.{IsScriptFault, HasTree, body_fault}
use Rattle.top_jobs.specs.Sizes.{IsSized}

-- ---- at the reads

-- each file has its contents, and is no longer than it may be
abbrev pub AreShort : List OperandFile → List (List ℕ) → Type 0
AreShort [] [] = Unit {0}
AreShort (file ∷ files) (bytes ∷ contents) = (length bytes ≤ limit_of file.operand) × AreShort files contents
AreShort files contents = ⊥

-- the first file that is longer than it may be is due
abbrev pub IsTooLong : List OperandFile → List (List ℕ) → Option Refusal → Type 0
IsTooLong (file ∷ files) (bytes ∷ contents) due =
    ((limit_of file.operand < length bytes) × (due ≡ Some (too_long file.operand))) ⊎ ((length bytes ≤ limit_of file.operand) × IsTooLong files contents due)
IsTooLong files contents due = ⊥

-- ---- of a script and a recording

-- the bytes are the spelling of this valid recording
pub record IsRecording (bytes : List ℕ) (says : Recorded) : Type 0 where
  pub valid : IsValidRecording says
  pub spelled : bytes ≡ recording_bytes says

-- the script has this tree, of whose points none breaks a rule over this recording, and of whose bodies none breaks a rule of types or is
-- too large
pub record IsAcceptedScript (text : List ℕ) (says : Recorded) (tree : Tree) : Type 0 where
  pub has : HasTree text tree
  pub attached : attach_fault tree says.formats says.start says.end ≡ None
  pub typed : body_fault tree says ≡ None
  pub sized : IsSized tree says

-- a script and a recording that are accepted: the recording is valid, and the script is one for it
pub record AreAccepted (text bytes : List ℕ) : Type 0 where
  pub says : Recorded
  pub tree : Tree
  pub is : IsRecording bytes says
  pub script : IsAcceptedScript text says tree

-- what refuses a script and a recording: the first in the order recording, lexing, parsing, attaching, typing, frame and code
abbrev pub IsFirstRefusal : List ℕ → List ℕ → Refusal → Type 0
IsFirstRefusal text bytes (Recording (recording.Fault error)) = IsRecordingFault bytes error
IsFirstRefusal text bytes (Script (script.Fault wrong place)) =
    (says : Recorded) × IsRecording bytes says × IsScriptFault text says (Script (script.Fault wrong place))
IsFirstRefusal text bytes refusal = ⊥

-- the first refusal of a script and a recording, or nothing
abbrev pub IsJudged : List ℕ → List ℕ → Option Refusal → Type 0
IsJudged text bytes None = AreAccepted text bytes
IsJudged text bytes (Some refusal) = IsFirstRefusal text bytes refusal

-- ---- of all files

-- what is found of the contents of files, of which none is too long; where there are none, nothing
abbrev pub IsFinding : List (List ℕ) → Option Refusal → Type 0
IsFinding (text ∷ bytes ∷ more) due = IsJudged text bytes due
IsFinding contents due = due ≡ None

-- what is due to files with these contents: that the first of them is too long which is so, and else what is found of them
abbrev pub IsDue : List OperandFile → List (List ℕ) → Option Refusal → Type 0
IsDue files contents due = IsTooLong files contents due ⊎ (AreShort files contents × IsFinding contents due)
