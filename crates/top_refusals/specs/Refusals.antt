-- The status and the line of each refusal.
use Rattle.std.specs.Prelude.{ℕ, List, [], ◌∷◌, codes, Option, Some, None}
use Rattle.account_format.specs.declared.error.AccountError.{AccountError}
use Rattle.account_format.specs.declared.error.AccountError.TheVariants as account
use Rattle.bt_io.specs.declared.shelf.ShelfError.{ShelfError}
use Rattle.bt_io.specs.declared.shelf.ShelfError.TheVariants as shelf
use Rattle.event_layout.specs.declared.error.FormatError.{FormatError}
use Rattle.event_layout.specs.declared.error.FormatError.TheVariants as rule
use Rattle.recordings.specs.declared.error.CountOf.{CountOf}
use Rattle.recordings.specs.declared.error.CountOf.TheVariants.{Cpus, Formats, Events, Span}
use Rattle.recordings.specs.declared.error.RecordingError.{RecordingError}
use Rattle.recordings.specs.declared.error.RecordingError.TheVariants as fault
use Rattle.top_refusals.specs.declared.refusal.Denial.TheVariants as denial
use Rattle.top_refusals.specs.declared.refusal.Operand.{Operand}
use Rattle.top_refusals.specs.declared.refusal.Operand.TheVariants as operand
use Rattle.top_refusals.specs.declared.refusal.ScriptFault.{ScriptFault}
use Rattle.top_refusals.specs.declared.refusal.ScriptFault.TheVariants.{BadCharacter, OpenString, OpenComment, NumberTooLarge, BadEscape, StringTooLong, Syntax}
use Rattle.top_refusals.specs.declared.refusal.ScriptFault.TheVariants.{TooDeep, TooManyProbes, UnknownTracepoint, NoMatch, BadPeriod, TooManyTicks, TooManyAttached}
use Rattle.top_refusals.specs.declared.refusal.ScriptFault.TheVariants.{Types, FrameTooLarge, CodeTooLarge}
use Rattle.expr_types.specs.declared.fault.Rule.{Rule}
use Rattle.expr_types.specs.declared.fault.Rule.TheVariants as types
use Rattle.top_refusals.specs.declared.refusal.ScriptRefusal.{ScriptRefusal}
use Rattle.top_refusals.specs.declared.refusal.ScriptRefusal.TheVariants as script
use Rattle.top_refusals.specs.declared.refusal.RecordingRefusal.{RecordingRefusal}
use Rattle.top_refusals.specs.declared.refusal.RecordingRefusal.TheVariants as recording
use Rattle.top_refusals.specs.declared.refusal.Refusal.{Refusal}
use Rattle.top_refusals.specs.declared.refusal.Refusal.TheVariants.{Usage, Script, Recording, ReadFault, WriteFault, Memory, LongAccount, Denied}
use Rattle.top_refusals.specs.Lines.{Piece, Text, Number, SinkUse, Writes}
use Rattle.top_refusals.specs.Orders.{OperandFile, operand_name}
use Rattle.std.specs.Io.KnownBytes.{Keeps}

abbrev pub status_of : Option Refusal → ℕ
status_of None = 0
status_of (Some Usage) = 1
status_of (Some (Script why)) = 2
status_of (Some (Recording why)) = 3
status_of (Some (ReadFault operand)) = 4
status_of (Some WriteFault) = 5
status_of (Some Memory) = 6
status_of (Some LongAccount) = 7
status_of (Some (Denied (denial.Account error))) = 7
status_of (Some (Denied (denial.Code why))) = 8

-- what tells that a file is longer than it may be
abbrev pub too_long : Operand → Refusal
too_long operand.Script = Script script.TooLong
too_long operand.Recording = Recording recording.TooLong
too_long operand.Account = LongAccount

-- why a file is not read
abbrev pub read_refusal : Operand → ShelfError → Refusal
read_refusal file shelf.Failed = ReadFault file
read_refusal file shelf.TooLong = too_long file
read_refusal file shelf.Memory = Memory

-- why the bytes of a recording are refused
abbrev pub recording_refusal : RecordingError → Refusal
recording_refusal fault.Memory = Memory
recording_refusal error = Recording (recording.Fault error)

-- ---- the lines

abbrev pub count_word : CountOf → List ℕ
count_word Cpus = codes "cpus"
count_word Formats = codes "formats"
count_word Events = codes "events"
count_word Span = codes "span"

-- the rule that a format text breaks, with its line
abbrev pub rule_pieces : FormatError → List Piece
rule_pieces rule.NoName = Text (codes "F1 no name") ∷ []
rule_pieces rule.BadId = Text (codes "F2 bad id") ∷ []
rule_pieces (rule.BadField line) = Text (codes "F3 bad line ") ∷ Number line ∷ []
rule_pieces (rule.Overlong line) = Text (codes "F4 overlong line ") ∷ Number line ∷ []
rule_pieces (rule.SameName line) = Text (codes "F5 same name line ") ∷ Number line ∷ []
rule_pieces (rule.Memory _) = Text (codes "out of memory") ∷ []

-- the text of the format at a place breaks a rule
abbrev pub broken_format_pieces : ℕ → List Piece → List Piece
broken_format_pieces place rule = Text (codes "C4 format ") ∷ Number place ∷ Text (codes ": ") ∷ rule

-- what is wrong with an entry, which is called an event
abbrev pub event_pieces : List ℕ → ℕ → ℕ → List Piece
event_pieces what cpu event = Text what ∷ Text (codes " in event ") ∷ Number event ∷ Text (codes " of cpu ") ∷ Number cpu ∷ []

-- what is wrong with a recording, with its offset or places
abbrev pub fault_pieces : RecordingError → List Piece
fault_pieces (fault.Truncated offset) = Text (codes "C1 truncated at byte ") ∷ Number offset ∷ []
fault_pieces fault.BadMagic = Text (codes "C2 bad magic") ∷ []
fault_pieces (fault.Count what) = Text (codes "C3 bad count: ") ∷ Text (count_word what) ∷ []
fault_pieces (fault.Format place broken) = broken_format_pieces place (rule_pieces broken)
fault_pieces (fault.SameEvent place) = Text (codes "C5 same event in format ") ∷ Number place ∷ []
fault_pieces (fault.CpuNumber cpu) = Text (codes "C6 bad cpu number at cpu ") ∷ Number cpu ∷ []
fault_pieces (fault.TimeOrder cpu event) = event_pieces (codes "C7 time order") cpu event
fault_pieces (fault.UnknownId cpu event) = event_pieces (codes "C8 unknown id") cpu event
fault_pieces (fault.ShortPayload cpu event) = event_pieces (codes "C9 short payload") cpu event
fault_pieces (fault.TrailingBytes offset) = Text (codes "C10 trailing bytes at byte ") ∷ Number offset ∷ []
fault_pieces (fault.BadSystem place) = Text (codes "C11 bad system in format ") ∷ Number place ∷ []
fault_pieces (fault.BadEntry cpu event) = event_pieces (codes "C12 bad entry") cpu event
fault_pieces (fault.EmptyMark cpu event) = event_pieces (codes "C13 empty mark") cpu event
fault_pieces fault.Memory = Text (codes "out of memory") ∷ []

-- the rule of types that a script breaks
abbrev pub rule_text : Rule → List ℕ
rule_text types.UnknownField = codes "Y1 unknown field"
rule_text types.FieldNotReadable = codes "Y2 field not readable"
rule_text types.OtherKind = codes "Y3 map used in two ways"
rule_text types.OtherKeys = codes "Y4 key shape differs"
rule_text types.NotSet = codes "Y5 variable not set"
rule_text types.WrongType = codes "Y6 wrong type"
rule_text types.BadFormat = codes "Y7 bad format"
rule_text types.BadBounds = codes "Y8 bad lhist"
rule_text types.AggregationRead = codes "Y9 aggregation read"
rule_text types.NoEvent = codes "Y10 args outside a tracepoint"
rule_text types.TooManyMaps = codes "Y11 too many maps"
rule_text types.NoLoop = codes "Y12 jump outside a loop"

-- what is wrong with a script
abbrev pub script_fault_text : ScriptFault → List ℕ
script_fault_text BadCharacter = codes "X1 bad character"
script_fault_text OpenString = codes "X2 open string"
script_fault_text OpenComment = codes "X3 open comment"
script_fault_text NumberTooLarge = codes "X4 number too large"
script_fault_text BadEscape = codes "X5 bad escape"
script_fault_text StringTooLong = codes "X6 string too long"
script_fault_text Syntax = codes "P1 syntax"
script_fault_text TooDeep = codes "P2 too deep"
script_fault_text TooManyProbes = codes "P3 too many probes"
script_fault_text UnknownTracepoint = codes "A1 unknown tracepoint"
script_fault_text NoMatch = codes "A2 no match"
script_fault_text BadPeriod = codes "A3 bad period"
script_fault_text TooManyTicks = codes "A4 too many ticks"
script_fault_text TooManyAttached = codes "A5 too many attachments"
script_fault_text (Types rule) = rule_text rule
script_fault_text (FrameTooLarge bytes) = codes "K1 frame too large: "
script_fault_text (CodeTooLarge slots) = codes "K2 code too large: "

-- how large something is that is too large, and in what that is counted
abbrev pub size_in : ScriptFault → Option ℕ
size_in (FrameTooLarge bytes) = Some bytes
size_in (CodeTooLarge slots) = Some slots
size_in wrong = None

abbrev pub unit_in : ScriptFault → List ℕ
unit_in (FrameTooLarge bytes) = codes " bytes"
unit_in (CodeTooLarge slots) = codes " slots"
unit_in wrong = []

abbrev pub size_pieces : Option ℕ → List ℕ → List Piece
size_pieces None unit = []
size_pieces (Some size) unit = Number size ∷ Text unit ∷ []

-- why a script is refused, behind its name
abbrev pub script_pieces : ScriptRefusal → List Piece
script_pieces script.TooLong = Text (codes ": script too long") ∷ []
script_pieces (script.Fault wrong place) =
    Text (codes ":") ∷ Number place.line ∷ Text (codes ":") ∷ Number place.column ∷ Text (codes ": ")
    ∷ Text (script_fault_text wrong) ∷ size_pieces (size_in wrong) (unit_in wrong)

-- why a recording is refused, behind its name
abbrev pub recording_pieces : RecordingRefusal → List Piece
recording_pieces recording.TooLong = Text (codes ": recording too long") ∷ []
recording_pieces (recording.Fault error) = Text (codes ": ") ∷ fault_pieces error

-- what is wrong with an account
abbrev pub account_pieces : AccountError → List Piece
account_pieces (account.BadAccount offset) = Text (codes "N1 bad account at byte ") ∷ Number offset ∷ []
account_pieces (account.WrongStep step) = Text (codes "N2 wrong step ") ∷ Number step ∷ []
account_pieces account.Unfinished = Text (codes "N3 unfinished") ∷ []
account_pieces (account.WrongText offset) = Text (codes "N4 wrong text at byte ") ∷ Number offset ∷ []
account_pieces (account.Memory _) = Text (codes "out of memory") ∷ []

-- what is told of words that break the rule: how the program is used
abbrev pub usage_pieces : List Piece
usage_pieces =
    Text (codes "usage: btreplay run [--serial] [--stats] [--json] SCRIPT RECORDING\n")
    ∷ Text (codes "       btreplay check SCRIPT RECORDING\n")
    ∷ Text (codes "       btreplay code SCRIPT RECORDING\n")
    ∷ Text (codes "       btreplay gen X N\n")
    ∷ Text (codes "       btreplay big X N\n")
    ∷ Text (codes "       btreplay account [--serial] SCRIPT RECORDING\n")
    ∷ Text (codes "       btreplay verify SCRIPT RECORDING ACCOUNT\n")
    ∷ Text (codes "       btreplay vet SCRIPT RECORDING")
    ∷ []

-- what is told of a refusal, where the words name these files
abbrev pub refusal_pieces : List OperandFile → Refusal → List Piece
refusal_pieces files Usage = usage_pieces
refusal_pieces files (Script why) = Text (operand_name files operand.Script) ∷ script_pieces why
refusal_pieces files (Recording why) = Text (operand_name files operand.Recording) ∷ recording_pieces why
refusal_pieces files (ReadFault file) = Text (operand_name files file) ∷ Text (codes ": read fault") ∷ []
refusal_pieces files WriteFault = Text (codes "write fault") ∷ []
refusal_pieces files Memory = Text (codes "out of memory") ∷ []
refusal_pieces files LongAccount = Text (operand_name files operand.Account) ∷ Text (codes ": account too long") ∷ []
refusal_pieces files (Denied (denial.Code why)) =
    Text (operand_name files operand.Script) ∷ Text (codes ": ") ∷ Text (codes "code refused in probe ") ∷ Number why.probe ∷ []
refusal_pieces files (Denied (denial.Account error)) = Text (operand_name files operand.Account) ∷ Text (codes ": ") ∷ account_pieces error

-- ---- what is told

-- nothing is told at status 0, and else the line of the refusal
abbrev pub TellsRefusal : List OperandFile → Option Refusal → SinkUse → Type 0
TellsRefusal files None err = Keeps err.taken err.taken_after
TellsRefusal files (Some refusal) err = Writes err (refusal_pieces files refusal)
