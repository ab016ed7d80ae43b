-- What the product promises: the printed bytes are those of the interleaving handed back.
use Rattle.std.specs.Prelude.{◌≡◌, ℕ, Bool, true, List, ◌++◌, length, map, Option, Some, None, IsSomeAnd}
use Rattle.std.specs.Io.KnownBytes.{Appends}
use Rattle.account_check.specs.Accounts.{IsTrueAccount}
use Rattle.account_format.specs.Accounts.{account_bytes}
use Rattle.bpf_encode.specs.declared.program.Program.{Program}
use Rattle.bpf_insn.specs.declared.insn.Insn.{Insn}
use Rattle.bt_core.specs.declared.step.ObjectId.{ObjectId}
use Rattle.bt_core.specs.declared.step.Step.{Step}
use Rattle.bt_core.specs.Steps.{on_object}
use Rattle.bt_meaning.specs.Instructions.{instructions_of}
use Rattle.bt_meaning.specs.Interleavings.{IsReplayed}
use Rattle.bt_meaning.specs.Prints.{printed_text}
use Rattle.bt_meaning.specs.Replays.{cpus_of}
use Rattle.bt_meaning.specs.Serial.{serial_steps, unstamped}
use Rattle.bt_meaning.specs.Ticks.{TicksComeAfter}
use Rattle.bt_meaning.specs.Totals.{IsAggregationOnly}
use Rattle.bt_words.specs.declared.order.Order.{Order}
use Rattle.bt_words.specs.declared.order.Order.TheVariants.{Run, Account, Big}
use Rattle.code_runs.specs.Coding.{code_replay}
use Rattle.run_output.specs.declared.job.Work.{Work}
use Rattle.total_laws.specs.Reads.{AddsAreOwn, ReadsSeeBeginnings}
use Rattle.run_output.specs.declared.form.Form.{Form}
use Rattle.run_output.specs.declared.form.Form.TheVariants.{Text}
use Rattle.run_output.specs.Outputs.{output_of}
use Rattle.code_runs.specs.Programs.{AreCodesOf, KeepScript}
use Rattle.total_laws.specs.Ends.{EndsWithTotals, HaveFewKeys}
use Rattle.top_refusals.specs.Lines.{SinkUse}
use Rattle.top_jobs.specs.Meanings.{Meaning, IsMeaningFor, replay_by}
use Rattle.top_refusals.specs.Orders.{OperandFile, files_of}
use Rattle.top_jobs.specs.Reads.{ShelfUse, AreContentsOf}
use Rattle.bt_top.specs.declared.report.Report.{Report}
use Rattle.bt_top.specs.Jobs.{IsBigMeaning}
use Rattle.bt_top.specs.Outcomes.{form_of, stats_line, summary_line}

-- the script only adds and prints, and its totals have at most 4,096 keys in each map
pub record OnlyAdds (m : Meaning) (steps : List Step) : Type 0 where
  pub adds : IsAggregationOnly m.typed
  pub few_keys : HaveFewKeys (replay_by m) steps

-- One list of all steps at maps, clock and output, whoever made them, in the order of their stamps, in which each CPU's events keep their order,
-- every answer follows from the steps before it, and each tick comes after every event recorded before it. What is read of a CPU's table while it
-- adds there is a beginning of what it adds, and nobody else adds there. Where the script only adds and prints, the text ends with exactly the totals.
pub record AreStepsOf (m : Meaning) (steps : List Step) : Type 0 where
  pub replayed : IsReplayed (replay_by m) steps
  pub ticks : TicksComeAfter (replay_by m) steps
  pub reads : ReadsSeeBeginnings (replay_by m) steps
  pub own_adds : AddsAreOwn steps
  pub totals : OnlyAdds m steps → EndsWithTotals m.typed m.attached m.recording steps

-- The bytes written are exactly those that the script's own meaning prints under the list of steps that is handed back with them, as text
-- (`printed_text`) or as JSON lines (`json_text_of`), and behind them what else is told of the run.
pub record PrintsItsSteps (form : Form) (m : Meaning) (rest : List ℕ) (out : SinkUse) (steps : List Step) : Type 0 where
  pub made : AreStepsOf m steps
  pub written : Appends out.taken out.taken_after (output_of form m.typed (cpus_of (replay_by m)) steps ++ rest)

-- the steps at each object are those of the serial list, in its order
abbrev pub IsSerialList : Meaning → List Step → Type 0
IsSerialList m steps = (object : ObjectId) → map unstamped (on_object object steps) ≡ on_object object (serial_steps (replay_by m))

-- The programs that are handed back are those that were run: each keeps its body, and the instructions that are counted are those that their codes
-- take under the steps. Of code and the machine nothing else is said here.
pub record RanPrograms (m : Meaning) (programs : List Program) (work : Work) : Type 0 where
  pub kept : KeepScript m.typed programs
  pub instructions : (codes : List (List Insn)) → AreCodesOf programs codes
      → work.instructions ≡ instructions_of (code_replay m.typed codes m.attached m.recording) work.steps

-- So it is of the meaning of the two files that are read, which hold a script and a recording that the rules accept. Behind the text or the JSON
-- lines stands the line of instructions in the same form where it is asked for, and a run on one thread makes the serial list.
pub record PrintsOfFiles (form : Form) (held : List ℕ → Option (List ℕ)) (files : List OperandFile) (serial stats : Bool) (programs : List Program)
    (out : SinkUse) (work : Work) : Type 0 where
  pub contents : List (List ℕ)
  pub read : AreContentsOf held files contents
  pub meaning : Meaning
  pub accepted : IsMeaningFor files contents meaning
  pub prints : PrintsItsSteps form meaning (stats_line form stats work.instructions) out work.steps
  pub on_one_thread : serial ≡ true → IsSerialList meaning work.steps
  pub ran : RanPrograms meaning programs work

-- and of the built-in script over the recording of two numbers, whose text ends with exactly the totals of the script's maps; behind it stands
-- the line that tells how many events and steps there are
pub record PrintsItsTotals (x n : ℕ) (programs : List Program) (out : SinkUse) (work : Work) : Type 0 where
  pub meaning : Meaning
  pub of : IsBigMeaning x n meaning
  pub prints : PrintsItsSteps Text meaning (summary_line n (length work.steps)) out work.steps
  pub totals : EndsWithTotals meaning.typed meaning.attached meaning.recording work.steps
  pub ran : RanPrograms meaning programs work

-- The bytes written are the account of the list of steps that is handed back, and of the text that the script's own meaning prints under it; so
-- they are an account that is true.
pub record AccountsForItsSteps (m : Meaning) (out : SinkUse) (work : Work) : Type 0 where
  pub made : AreStepsOf m work.steps
  pub text : work.text ≡ printed_text m.typed (cpus_of (replay_by m)) work.steps
  pub written : Appends out.taken out.taken_after (account_bytes work.steps work.text)
  pub is_true : IsTrueAccount m.typed m.attached m.recording (account_bytes work.steps work.text) work.steps

-- so it is of the meaning of the two files that are read
pub record AccountsOfFiles (held : List ℕ → Option (List ℕ)) (files : List OperandFile) (serial : Bool) (programs : List Program) (out : SinkUse)
    (work : Work) : Type 0 where
  pub contents : List (List ℕ)
  pub read : AreContentsOf held files contents
  pub meaning : Meaning
  pub accepted : IsMeaningFor files contents meaning
  pub accounts : AccountsForItsSteps meaning out work
  pub on_one_thread : serial ≡ true → IsSerialList meaning work.steps
  pub ran : RanPrograms meaning programs work

-- it holds of every run that ends with status 0, on threads or on one, of its text or, with `--json`, of its JSON lines, and of its account
abbrev pub Headline : Option Order → ShelfUse → SinkUse → Report → Type 0
Headline None shelf out report = Unit {0}
Headline (Some (Run serial stats json script recording)) shelf out report =
    report.status ≡ 0
    → IsSomeAnd report.work
    (PrintsOfFiles (form_of json) shelf.held (files_of (Run serial stats json script recording)) serial stats report.programs out)
Headline (Some (Account serial script recording)) shelf out report =
    report.status ≡ 0
    → IsSomeAnd report.work (AccountsOfFiles shelf.held (files_of (Account serial script recording)) serial report.programs out)
Headline (Some (Big x n)) shelf out report = report.status ≡ 0 → IsSomeAnd report.work (PrintsItsTotals x n report.programs out)
Headline (Some order) shelf out report = Unit {0}
