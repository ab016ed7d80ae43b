-- What each order comes to where its files are not refused: the work that was done, the programs that were run, listed or checked, and the bytes
-- that are written.
use Rattle.std.specs.Prelude.{◌≡◌, ◌≢◌, ℕ, ◌<◌, ◌^◌, ◌⊎◌, Bool, true, false, ◌++◌, List, [], codes, length, Option, Some, None, Result, Ok, Err, if◌then◌else◌}
use Rattle.std.specs.Fmt.{decimal}
use Rattle.std.specs.List.{AllByRecursion}
use Rattle.account_check.specs.Answers.{IsAnswerTo}
use Rattle.account_format.specs.declared.error.AccountError.{AccountError}
use Rattle.account_format.specs.declared.error.AccountError.TheVariants as wrong
use Rattle.account_format.specs.Accounts.{account_bytes}
use Rattle.account_format.specs.Entries.{FitsStep}
use Rattle.bt_core.specs.declared.step.Step.{Step}
use Rattle.bt_core.specs.Want.{out_of_memory}
use Rattle.bt_words.specs.declared.order.Order.{Order}
use Rattle.bt_words.specs.declared.order.Order.TheVariants.{Run, Check, Code, Vet, Account, Verify, Gen, Big}
use Rattle.recordings.specs.declared.recording.Recording.{Recording as Recorded}
use Rattle.recordings.specs.Recordings.{recording_bytes}
use Rattle.rec_gen.specs.Made.{IsMade}
use Rattle.json_out.specs.Lines.{json_stats_line}
use Rattle.run_output.specs.declared.job.Job.{Job}
use Rattle.run_output.specs.declared.job.Work.{Work}
use Rattle.run_output.specs.declared.form.Form.{Form}
use Rattle.run_output.specs.declared.form.Form.TheVariants.{Text, Json}
use Rattle.top_refusals.specs.declared.refusal.CodeRefusal.{CodeRefusal}
use Rattle.top_refusals.specs.declared.refusal.Denial.TheVariants as denial
use Rattle.top_jobs.specs.Jobs.{IsJobFor, account_in}
use Rattle.top_jobs.specs.Listings.{script_listing}
use Rattle.top_refusals.specs.Orders.{on_account, on_script}
use Rattle.top_jobs.specs.Vetting.{AllPass, IsFirstRefused, vet_listing}
use Rattle.bt_top.specs.declared.outcome.Outcome.{Outcome}
use Rattle.bt_top.specs.Jobs.{IsBigJob, IsWorkOf}

-- ---- outcomes

-- the text of the work, where there is work
abbrev pub work_text : Option Work → List ℕ
work_text None = []
work_text (Some work) = work.text

-- and where it is written
abbrev pub shown_text : Outcome → List ℕ
shown_text outcome = if outcome.prints then work_text outcome.work else []

-- the bytes of an outcome: the text that is written, and what stands behind it
abbrev pub bytes_written : Outcome → List ℕ
bytes_written outcome = shown_text outcome ++ outcome.rest

-- of a run: its work, and the programs of its job
abbrev pub run_outcome : Job → Work → List ℕ → Outcome
run_outcome job work rest = record { work = Some work; programs = job.programs; refused = None; prints = true; rest = rest }

-- of a run of which these bytes stand in the place of its text
abbrev pub account_with : Job → Work → List ℕ → Outcome
account_with job work rest = record { work = Some work; programs = job.programs; refused = None; prints = false; rest = rest }

-- and of one whose account stands there
abbrev pub account_outcome : Job → Work → Outcome
account_outcome job work = account_with job work (account_bytes work.steps work.text)

-- of what runs nothing and has no programs: the bytes that it writes
abbrev pub plain_outcome : List ℕ → Outcome
plain_outcome rest = record { work = None; programs = []; refused = None; prints = true; rest = rest }

-- of a check that nothing is refused
abbrev pub check_outcome : Outcome
check_outcome = plain_outcome (codes "ok\n")

-- of a listing of the programs of a job
abbrev pub code_outcome : Job → Outcome
code_outcome job =
    record { work = None; programs = job.programs; refused = None; prints = true; rest = script_listing job.recording.formats job.attached.bodies job.programs }

-- of a check of the programs of a job: they are handed back, with a line for each where all are accepted
abbrev pub accepted_outcome : Job → Outcome
accepted_outcome job =
    record { work = None; programs = job.programs; refused = None; prints = true; rest = vet_listing job.recording.formats job.attached.bodies job.programs }

-- and with the first that is refused where one is; then nothing is written
abbrev pub refused_outcome : Job → CodeRefusal → Outcome
refused_outcome job why = record { work = None; programs = job.programs; refused = Some (denial.Code why); prints = true; rest = [] }

-- of a recording that is made
abbrev pub gen_outcome : Recorded → Outcome
gen_outcome made = plain_outcome (recording_bytes made)

-- what is told of an account that is true: how many steps it has
abbrev pub verified_line : ℕ → List ℕ
verified_line steps = codes "verified: " ++ decimal steps ++ codes " steps\n"

-- of a check of an account: that it is true, or the first thing that is wrong with it; then nothing is written
abbrev pub verify_outcome : Result (List Step) AccountError → Outcome
verify_outcome (Ok steps) = plain_outcome (verified_line (length steps))
verify_outcome (Err error) = record { work = None; programs = []; refused = Some (denial.Account error); prints = true; rest = [] }

-- the form that is asked for: JSON lines with `--json`, and else text
abbrev pub form_of : Bool → Form
form_of true = Json
form_of false = Text

-- the line of instructions: of a text, or a JSON line
abbrev pub instructions_line : Form → ℕ → List ℕ
instructions_line Text instructions = codes "instructions: " ++ decimal instructions ++ codes "\n"
instructions_line Json instructions = json_stats_line instructions

-- it stands behind what a run prints, where it is asked for
abbrev pub stats_line : Form → Bool → ℕ → List ℕ
stats_line form false instructions = []
stats_line form true instructions = instructions_line form instructions

-- the line behind the text of a large run: how many events were asked for, and how many steps were made
abbrev pub summary_line : ℕ → ℕ → List ℕ
summary_line events steps = codes "summary: " ++ decimal events ++ codes " events, " ++ decimal steps ++ codes " steps\n"

-- ---- what each order comes to

-- a run of a job in a form, behind whose text this stands
pub record IsOutcomeOfRun (form : Form) (serial : Bool) (job : Job) (rest : Work → List ℕ) (outcome : Outcome) : Type 0 where
  pub work : Work
  pub done : IsWorkOf form serial job work
  pub is : outcome ≡ run_outcome job work (rest work)

-- a check of the programs of a job
abbrev pub IsOutcomeOfVet : Job → Outcome → Type 0
IsOutcomeOfVet job outcome =
    (AllPass job.typed job.programs × (outcome ≡ accepted_outcome job))
    ⊎ ((why : CodeRefusal) × IsFirstRefused job.attached.bodies job.typed job.programs why × (outcome ≡ refused_outcome job why))

-- a run of a job of which an account is written: each of its steps is as a program holds it, and 64 bits count them and the text
pub record IsOutcomeOfAccount (serial : Bool) (job : Job) (outcome : Outcome) : Type 0 where
  pub work : Work
  pub done : IsWorkOf Text serial job work
  pub fits : AllByRecursion FitsStep work.steps
  pub few : length work.steps < 2 ^ 64
  pub short : length work.text < 2 ^ 64
  pub is : outcome ≡ account_outcome job work

-- a check of an account of a run of a job: the one answer that there is
pub record IsOutcomeOfVerify (job : Job) (account : List ℕ) (outcome : Outcome) : Type 0 where
  pub answer : Result (List Step) AccountError
  pub known : answer ≢ Err (wrong.Memory out_of_memory)
  pub holds : IsAnswerTo job.typed job.attached job.recording account answer
  pub only : (other : Result (List Step) AccountError) → other ≢ Err (wrong.Memory out_of_memory)
      → IsAnswerTo job.typed job.attached job.recording account other → answer ≡ other
  pub is : outcome ≡ verify_outcome answer

-- what an order comes to, over files with these contents: `run` to a run of their job in the form that is asked for, with the line of
-- instructions behind its text where it is asked for; `check` to `ok`; `code` to the listing of their job; `vet` to the check of its programs;
-- `account` to a run of their job with its account in the place of its text; `verify` to the check of the account that is the third file; `gen` to the recording of its two numbers; and `big` to a run on threads of the built-in script over that recording, as text, with the line of
-- its events and steps behind it
abbrev pub ComesTo : Order → List (List ℕ) → Outcome → Type 0
ComesTo (Run serial stats json script recording) contents outcome =
    (job : Job) × IsJobFor (on_script script recording) contents job
    × IsOutcomeOfRun (form_of json) serial job (λ work. stats_line (form_of json) stats work.instructions) outcome
ComesTo (Check script recording) contents outcome = (job : Job) × IsJobFor (on_script script recording) contents job × (outcome ≡ check_outcome)
ComesTo (Code script recording) contents outcome = (job : Job) × IsJobFor (on_script script recording) contents job × (outcome ≡ code_outcome job)
ComesTo (Vet script recording) contents outcome = (job : Job) × IsJobFor (on_script script recording) contents job × IsOutcomeOfVet job outcome
ComesTo (Account serial script recording) contents outcome =
    (job : Job) × IsJobFor (on_script script recording) contents job × IsOutcomeOfAccount serial job outcome
ComesTo (Verify script recording account) contents outcome =
    (job : Job) × IsJobFor (on_account script recording account) contents job × IsOutcomeOfVerify job (account_in contents) outcome
ComesTo (Gen x n) contents outcome = (made : Recorded) × IsMade x n made × (outcome ≡ gen_outcome made)
ComesTo (Big x n) contents outcome = (job : Job) × IsBigJob x n job × IsOutcomeOfRun Text false job (λ work. summary_line n (length work.steps)) outcome
