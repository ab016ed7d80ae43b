-- What a call answers, from what its order comes to and from how that is written.
use Rattle.std.proofs.Common.{◌≡◌, ℕ, ◌⊎◌, List, [], ◌∷◌, refl, sym, ap, subst, ◌∙◌, inl, inr}
use Rattle.std.specs.Prelude.{◌↔◌, ◌≢◌, Bool, false, Option, Some, None, Result, Ok, Err, IfSome, IsSome}
use Rattle.std.specs.Io.KnownBytes.{Keeps}
use Rattle.std.proofs.lemmas.Bool.{false≢true}
use Rattle.bt_words.specs.declared.order.Order.{Order}
use Rattle.bt_words.specs.declared.order.Order.TheVariants.{Run, Check, Code, Vet, Account, Verify, Gen, Big}
use Rattle.run_output.specs.declared.job.Job.{Job}
use Rattle.run_output.specs.declared.job.Work.{Work}
use Rattle.run_output.specs.declared.form.Form.{Form}
use Rattle.run_output.specs.declared.form.Form.TheVariants.{Text}
use Rattle.account_format.specs.declared.error.AccountError.{AccountError}
use Rattle.bt_core.specs.declared.step.Step.{Step}
use Rattle.top_refusals.specs.declared.refusal.Denial.{Denial}
use Rattle.top_refusals.specs.declared.refusal.Denial.TheVariants as denial
use Rattle.top_refusals.specs.declared.refusal.Operand.{Operand}
use Rattle.top_refusals.specs.declared.refusal.Operand.TheVariants as operand
use Rattle.top_refusals.specs.declared.refusal.RecordingRefusal.TheVariants as recording
use Rattle.top_refusals.specs.declared.refusal.ScriptRefusal.TheVariants as script
use Rattle.top_refusals.specs.declared.refusal.Refusal.{Refusal}
use Rattle.top_refusals.specs.declared.refusal.Refusal.TheVariants.{Usage, Script, Recording, ReadFault, WriteFault, Memory, LongAccount, Denied}
use Rattle.top_jobs.specs.Doing.{ComesOfFiles}
use Rattle.top_jobs.specs.Due.{IsDue, IsFinding, IsTooLong}
use Rattle.top_jobs.specs.Jobs.{IsJobFor}
use Rattle.top_refusals.specs.Lines.{SinkUse, SinkFailed}
use Rattle.top_refusals.specs.Orders.{OperandFile, files_of}
use Rattle.top_jobs.specs.Reads.{ShelfUse, ShelfFailed, AreContentsOf, MayCome, MayStandFor, ComesIfDue, OnTold, IsReached, AsksExactly}
use Rattle.top_refusals.specs.Refusals.{status_of, too_long}
use Rattle.top_jobs.proofs.Due.{job_accepted}
use Rattle.top_jobs.proofs.Reading.{are_others, others_of}
use Rattle.bt_top.specs.declared.outcome.Outcome.{Outcome}
use Rattle.bt_top.specs.declared.report.Report.{Report}
use Rattle.bt_top.specs.Writing.{Wrote}
use Rattle.bt_top.specs.Outcomes.{form_of}
use Rattle.bt_top.specs.Outcomes.{ComesTo, IsOutcomeOfRun, IsOutcomeOfVet, accepted_outcome, bytes_written, check_outcome, code_outcome, gen_outcome, refused_outcome, verify_outcome}
use Rattle.bt_top.specs.Serve.{ReadFailed, IsComplete, EndsAsDue, HasWork, IsEndStatus, MayDeny, MayEnd, MayEndFor}
use Rattle.bt_top.specs.Serve.{IsTold, IsWritten, IsDone, IsDoneUnlessRefused, IsNothing, AnswersOrder, AnswersWords, IsRunOrder}
use Rattle.bt_top.proofs.Performing.{on_told-map, plain_end}

-- ---- what was done

abbrev pub report_of : Option Refusal → Outcome → Report
report_of refusal outcome = record { status = status_of refusal; refusal = refusal; work = outcome.work; programs = outcome.programs }

-- of files that ask for a job nothing is refused
job_is_due : (files : List OperandFile) (contents : List (List ℕ)) (job : Job) → IsJobFor files contents job → IsDue files contents None
job_is_due files [] job is = absurd is.of
job_is_due files (text ∷ []) job is = absurd is.of
job_is_due files (text ∷ bytes ∷ more) job is = inr (is.short, job_accepted text bytes job is.of)

nothing_is_due : (held : List ℕ → Option (List ℕ)) (contents : List (List ℕ)) → AreContentsOf held [] contents → IsDue [] contents None
nothing_is_due held [] are = inr (tt, refl)
nothing_is_due held (bytes ∷ contents) are = absurd are

due : (held : List ℕ → Option (List ℕ)) (order : Order) (contents : List (List ℕ)) (outcome : Outcome) → AreContentsOf held (files_of order) contents
    → ComesTo order contents outcome → IsDue (files_of order) contents None
due held (Run serial stats json script recording) contents outcome are comes = job_is_due _ contents comes.0 comes.1
due held (Check script recording) contents outcome are comes = job_is_due _ contents comes.0 comes.1
due held (Code script recording) contents outcome are comes = job_is_due _ contents comes.0 comes.1
due held (Vet script recording) contents outcome are comes = job_is_due _ contents comes.0 comes.1
due held (Account serial script recording) contents outcome are comes = job_is_due _ contents comes.0 comes.1
due held (Verify script recording account) contents outcome are comes = job_is_due _ contents comes.0 comes.1
due held (Gen x n) contents outcome are comes = nothing_is_due held contents are
due held (Big x n) contents outcome are comes = nothing_is_due held contents are

-- work is there exactly of a run
same_work : (outcome other : Outcome) → outcome ≡ other → IsSome outcome.work → IsSome other.work
same_work outcome other is some = subst (λ (o : Outcome). IsSome o.work) is some

ran : (form : Form) (serial : Bool) (job : Job) (rest : Work → List ℕ) (outcome : Outcome) → IsOutcomeOfRun form serial job rest outcome
    → IsSome outcome.work
ran form serial job rest outcome run = subst (λ (o : Outcome). IsSome o.work) (sym run.is) refl

no_work : (job : Job) (outcome : Outcome) → IsOutcomeOfVet job outcome → IsSome outcome.work → ⊥
no_work job outcome (inl e) some = false≢true (same_work outcome (accepted_outcome job) e.1 some)
no_work job outcome (inr e) some = false≢true (same_work outcome (refused_outcome job e.0) e.2 some)

checked_nothing : (answer : Result (List Step) AccountError) → IsSome (verify_outcome answer).work → ⊥
checked_nothing (Ok steps) some = false≢true some
checked_nothing (Err error) some = false≢true some

runs : (order : Order) (contents : List (List ℕ)) (outcome : Outcome) → ComesTo order contents outcome → IsSome outcome.work ↔ IsRunOrder order
runs (Run serial stats json script recording) contents outcome comes = (λ some. tt, λ is. ran (form_of json) serial comes.0 _ outcome comes.2)
runs (Check script recording) contents outcome comes = (λ some. absurd (false≢true (same_work outcome check_outcome comes.2 some)), λ is. absurd is)
runs (Code script recording) contents outcome comes = (λ some. absurd (false≢true (same_work outcome (code_outcome comes.0) comes.2 some)), λ is. absurd is)
runs (Vet script recording) contents outcome comes = (λ some. absurd (no_work comes.0 outcome comes.2 some), λ is. absurd is)
runs (Account serial script recording) contents outcome comes =
    (λ some. tt, λ is. subst (λ (o : Outcome). IsSome o.work) (sym comes.2.is) refl)
runs (Verify script recording account) contents outcome comes =
    (λ some. absurd (checked_nothing comes.2.answer (same_work outcome (verify_outcome comes.2.answer) comes.2.is some)), λ is. absurd is)
runs (Gen x n) contents outcome comes = (λ some. absurd (false≢true (same_work outcome (gen_outcome comes.0) comes.2 some)), λ is. absurd is)
runs (Big x n) contents outcome comes = (λ some. tt, λ is. ran Text false comes.0 _ outcome comes.2)

-- of `vet` alone a program is refused, and of `verify` an account
abbrev pub DeniedBy : Order → Option Denial → Type 0
DeniedBy order found = (found ≡ None) ⊎ ((why : Denial) × (found ≡ Some why) × MayDeny order why)

vet_denies : (job : Job) (script recording : List ℕ) (outcome : Outcome) → IsOutcomeOfVet job outcome → DeniedBy (Vet script recording) outcome.refused
vet_denies job script recording outcome (inl e) = inl (ap (λ (o : Outcome). o.refused) e.1)
vet_denies job script recording outcome (inr e) = inr (denial.Code e.0, ap (λ (o : Outcome). o.refused) e.2, tt)

verify_denies : (script recording account : List ℕ) (answer : Result (List Step) AccountError) (outcome : Outcome) → outcome ≡ verify_outcome answer
    → DeniedBy (Verify script recording account) outcome.refused
verify_denies script recording account (Ok steps) outcome is = inl (ap (λ (o : Outcome). o.refused) is)
verify_denies script recording account (Err error) outcome is = inr (denial.Account error, ap (λ (o : Outcome). o.refused) is, tt)

pub denied_by : (order : Order) (contents : List (List ℕ)) (outcome : Outcome) → ComesTo order contents outcome → DeniedBy order outcome.refused
denied_by (Run serial stats json script recording) contents outcome comes = inl (ap (λ (o : Outcome). o.refused) comes.2.is)
denied_by (Check script recording) contents outcome comes = inl (ap (λ (o : Outcome). o.refused) comes.2)
denied_by (Code script recording) contents outcome comes = inl (ap (λ (o : Outcome). o.refused) comes.2)
denied_by (Vet script recording) contents outcome comes = vet_denies comes.0 script recording outcome comes.2
denied_by (Account serial script recording) contents outcome comes = inl (ap (λ (o : Outcome). o.refused) comes.2.is)
denied_by (Verify script recording account) contents outcome comes = verify_denies script recording account comes.2.answer outcome comes.2.is
denied_by (Gen x n) contents outcome comes = inl (ap (λ (o : Outcome). o.refused) comes.2)
denied_by (Big x n) contents outcome comes = inl (ap (λ (o : Outcome). o.refused) comes.2.is)

pub some_why : (why : Denial) → ◌≡◌ {A = Option Denial} (Some why) None → ⊥
some_why why e = cc

pub same_why : (one other : Denial) → Some one ≡ Some other → one ≡ other
same_why one other e = cc

pub may_deny : (order : Order) (contents : List (List ℕ)) (outcome : Outcome) (why : Denial) → ComesTo order contents outcome → outcome.refused ≡ Some why
    → MayDeny order why
may_deny order contents outcome why comes found = by (denied_by order contents outcome comes)
  where
    by : DeniedBy order outcome.refused → MayDeny order why
    by (inl none) = absurd (some_why why (sym found ∙ none))
    by (inr e) = subst (λ (d : Denial). MayDeny order d) (same_why e.0 why (sym e.1 ∙ found)) e.2

-- neither runs anything
denied_runs : (order : Order) (why : Denial) → MayDeny order why → IsRunOrder order → ⊥
denied_runs (Run serial stats json script recording) why may run = may
denied_runs (Check script recording) why may run = run
denied_runs (Code script recording) why may run = run
denied_runs (Vet script recording) why may run = run
denied_runs (Account serial script recording) why may run = may
denied_runs (Verify script recording account) why may run = run
denied_runs (Gen x n) why may run = run
denied_runs (Big x n) why may run = may

-- what is refused that was checked is not due to files
no_script : (why : Denial) → ◌≡◌ {A = Option Refusal} (Some (Denied why)) (Some (Script script.TooLong)) → ⊥
no_script why e = cc

no_recording : (why : Denial) → ◌≡◌ {A = Option Refusal} (Some (Denied why)) (Some (Recording recording.TooLong)) → ⊥
no_recording why e = cc

no_account : (why : Denial) → ◌≡◌ {A = Option Refusal} (Some (Denied why)) (Some LongAccount) → ⊥
no_account why e = cc

some_none : (why : Denial) → ◌≡◌ {A = Option Refusal} (Some (Denied why)) None → ⊥
some_none why e = cc

too_long_of : (file : Operand) (why : Denial) → Some (Denied why) ≡ Some (too_long file) → ⊥
too_long_of operand.Script why e = no_script why e
too_long_of operand.Recording why e = no_recording why e
too_long_of operand.Account why e = no_account why e

not_too_long : (files : List OperandFile) (contents : List (List ℕ)) (why : Denial) → IsTooLong files contents (Some (Denied why)) → ⊥
not_too_long [] contents why is = is
not_too_long (file ∷ files) [] why is = is
not_too_long (file ∷ files) (bytes ∷ contents) why (inl e) = too_long_of file.operand why e.1
not_too_long (file ∷ files) (bytes ∷ contents) why (inr e) = not_too_long files contents why e.1

not_found : (contents : List (List ℕ)) (why : Denial) → IsFinding contents (Some (Denied why)) → ⊥
not_found [] why e = some_none why e
not_found (text ∷ []) why e = some_none why e
not_found (text ∷ bytes ∷ more) why e = e

pub denial_not_due : (files : List OperandFile) (contents : List (List ℕ)) (why : Denial) → IsDue files contents (Some (Denied why)) → ⊥
denial_not_due files contents why (inl is) = not_too_long files contents why is
denial_not_due files contents why (inr is) = not_found contents why is.1

-- what comes of files is an end of their order
came_end : (order : Order) (contents : List (List ℕ)) (read_failed write_failed : Type 0) (refusal : Refusal)
    → MayCome (files_of order) contents read_failed ⊥ (Some refusal) → MayEnd order contents read_failed write_failed (Some refusal)
came_end order contents read_failed write_failed Usage came = came
came_end order contents read_failed write_failed (Script why) came = came
came_end order contents read_failed write_failed (Recording why) came = came
came_end order contents read_failed write_failed (ReadFault file) came = came
came_end order contents read_failed write_failed WriteFault came = absurd came.0
came_end order contents read_failed write_failed Memory came = came
came_end order contents read_failed write_failed LongAccount came = came
came_end order contents read_failed write_failed (Denied why) came = absurd (denial_not_due (files_of order) contents why came)

stands_end : (order : Order) (refusal due : Option Refusal) → MayStandFor (files_of order) refusal due → MayEndFor order refusal due
stands_end order None due stands = stands
stands_end order (Some Usage) due stands = stands
stands_end order (Some (Script why)) due stands = stands
stands_end order (Some (Recording why)) due stands = stands
stands_end order (Some (ReadFault file)) due stands = stands
stands_end order (Some WriteFault) due stands = stands
stands_end order (Some Memory) due stands = stands
stands_end order (Some LongAccount) due stands = stands
stands_end order (Some (Denied why)) due stands = absurd stands

ends_due : (order : Order) (refusal : Option Refusal) (contents : List (List ℕ)) → ComesIfDue (files_of order) refusal contents → EndsAsDue order refusal contents
ends_due order refusal contents comes = λ due is. by due (comes due is)
  where
    by : (due : Option Refusal) → (refusal ≡ due) ⊎ MayStandFor (files_of order) refusal due → (refusal ≡ due) ⊎ MayEndFor order refusal due
    by due (inl e) = inl e
    by due (inr stands) = inr (stands_end order refusal due stands)

pub files_exact : (held : List ℕ → Option (List ℕ)) (order : Order) (refusal : Option Refusal) → OnTold held (files_of order) (ComesIfDue (files_of order) refusal)
    → OnTold held (files_of order) (EndsAsDue order refusal)
files_exact held order refusal told =
    on_told-map held (files_of order) (ComesIfDue (files_of order) refusal) (EndsAsDue order refusal) (ends_due order refusal) told

module _ (order : Order) (seen : ShelfUse) (out : SinkUse) (outcome : Outcome) (performs : ComesOfFiles (files_of order) (ComesTo order) seen (Ok outcome)) where
  is_done : (refusal : Option Refusal) → IsTold outcome.refused refusal → IsWritten out refusal (bytes_written outcome)
      → IsDone order performs.reads.contents out (report_of refusal outcome)
  is_done refusal told written =
      record { outcome = outcome; comes = performs.reads.value; work = refl; programs = refl; told = told; written = written }

  nothing_due : IsDue (files_of order) performs.reads.contents None
  nothing_due = due seen.held order performs.reads.contents outcome performs.reads.held performs.reads.value

  told_as : (found : Option Denial) (refusal : Option Refusal) → outcome.refused ≡ found → IsTold found refusal → IsTold outcome.refused refusal
  told_as found refusal is told = subst (λ (f : Option Denial). IsTold f refusal) (sym is) told

  denies : (why : Denial) → outcome.refused ≡ Some why → MayDeny order why
  denies why found = may_deny order performs.reads.contents outcome why performs.reads.value found

  answer : (found : Option Denial) (refusal : Option Refusal) → outcome.refused ≡ found → Wrote out found refusal (bytes_written outcome)
      → AnswersOrder order seen out (report_of refusal outcome)
  answer None refusal none (inl e) = subst (λ (r : Option Refusal). AnswersOrder order seen out (report_of r outcome)) (sym e.0) (record {
    contents = performs.reads.contents;
    held = performs.reads.held;
    came = nothing_due;
    done = is_done None (told_as None None none (inl refl)) e.1;
  })
  answer None refusal none (inr e) = subst (λ (r : Option Refusal). AnswersOrder order seen out (report_of r outcome)) (sym e.0) (record {
    contents = performs.reads.contents;
    held = performs.reads.held;
    came = (e.1, nothing_due);
    done = is_done (Some WriteFault) (told_as None (Some WriteFault) none (inr refl)) e.2;
  })
  answer (Some why) refusal found e = subst (λ (r : Option Refusal). AnswersOrder order seen out (report_of r outcome)) (sym e.0) (record {
    contents = performs.reads.contents;
    held = performs.reads.held;
    came = (denies why found, nothing_due);
    done = is_done (Some (Denied why)) (told_as (Some why) (Some (Denied why)) found refl) e.1;
  })

  pub done_answer : (refusal : Option Refusal) → Wrote out outcome.refused refusal (bytes_written outcome) → AnswersOrder order seen out (report_of refusal outcome)
  done_answer refusal wrote = answer outcome.refused refusal refl wrote

  -- what came of the reads stands, also where the write fails, and where programs are refused
  none_due : (due : Option Refusal) → (None ≡ due) ⊎ MayStandFor (files_of order) None due → due ≡ None
  none_due due (inl e) = sym e
  none_due due (inr stands) = absurd stands

  exact_by : (refusal : Option Refusal) → ((due : Option Refusal) → due ≡ None → (refusal ≡ due) ⊎ MayEndFor order refusal due)
      → OnTold seen.held (files_of order) (EndsAsDue order refusal)
  exact_by refusal stands = on_told-map seen.held (files_of order) (ComesIfDue (files_of order) None) (EndsAsDue order refusal)
      (λ contents comes due is. stands due (none_due due (comes due is))) performs.exact

  exact : (found : Option Denial) (refusal : Option Refusal) → outcome.refused ≡ found → Wrote out found refusal (bytes_written outcome)
      → OnTold seen.held (files_of order) (EndsAsDue order refusal)
  exact None refusal none (inl e) = subst (λ (r : Option Refusal). OnTold seen.held (files_of order) (EndsAsDue order r)) (sym e.0)
      (exact_by None (λ due is. inl (sym is)))
  exact None refusal none (inr e) = subst (λ (r : Option Refusal). OnTold seen.held (files_of order) (EndsAsDue order r)) (sym e.0)
      (exact_by (Some WriteFault) (λ due is. inr is))
  exact (Some why) refusal found e = subst (λ (r : Option Refusal). OnTold seen.held (files_of order) (EndsAsDue order r)) (sym e.0)
      (exact_by (Some (Denied why)) (λ due is. inr (denies why found, is)))

  pub done_exact : (refusal : Option Refusal) → Wrote out outcome.refused refusal (bytes_written outcome) → OnTold seen.held (files_of order) (EndsAsDue order refusal)
  done_exact refusal wrote = exact outcome.refused refusal refl wrote

-- ---- what was refused

abbrev pub refused_report : Refusal → Report
refused_report refusal = record { status = status_of (Some refusal); refusal = Some refusal; work = None; programs = [] }

-- the answer to an order whose files are refused, or not read
module _ (order : Order) (seen : ShelfUse) (out : SinkUse) (keeps : Keeps out.taken out.taken_after) where
  is_nothing : (refusal : Refusal) → IsNothing out (refused_report refusal)
  is_nothing refusal = record { work = refl; programs = refl; written = keeps }

  nothing_done : (contents : List (List ℕ)) (refusal : Refusal) → MayCome (files_of order) contents (ShelfFailed seen) ⊥ (Some refusal)
      → IsDoneUnlessRefused (Some refusal) order contents out (refused_report refusal)
  nothing_done contents Usage came = is_nothing Usage
  nothing_done contents (Script why) came = is_nothing (Script why)
  nothing_done contents (Recording why) came = is_nothing (Recording why)
  nothing_done contents (ReadFault file) came = is_nothing (ReadFault file)
  nothing_done contents WriteFault came = absurd came.0
  nothing_done contents Memory came = is_nothing Memory
  nothing_done contents LongAccount came = is_nothing LongAccount
  nothing_done contents (Denied why) came = absurd (denial_not_due (files_of order) contents why came)

  pub refused_answer : (refusal : Refusal) → ComesOfFiles (files_of order) (ComesTo order) seen (Err refusal) → AnswersOrder order seen out (refused_report refusal)
  refused_answer refusal comes = record {
    contents = comes.reads.contents;
    held = comes.reads.held;
    came = came_end order comes.reads.contents (ShelfFailed seen) (SinkFailed out) refusal comes.reads.came;
    done = nothing_done comes.reads.contents refusal comes.reads.came;
  }

-- ---- the whole call

-- what is refused that was checked ends an order with a status of its own
denied_end : (order : Order) (status : ℕ) (why : Denial) → MayDeny order why → status ≡ status_of (Some (Denied why)) → IsEndStatus order status
denied_end (Run serial stats json script recording) status why may is = absurd may
denied_end (Check script recording) status why may is = absurd may
denied_end (Code script recording) status why may is = absurd may
denied_end (Vet script recording) status (denial.Code why) may is = inr (inr is)
denied_end (Vet script recording) status (denial.Account error) may is = absurd may
denied_end (Account serial script recording) status why may is = absurd may
denied_end (Verify script recording account) status (denial.Code why) may is = absurd may
denied_end (Verify script recording account) status (denial.Account error) may is = inr (inr is)
denied_end (Gen x n) status why may is = absurd may
denied_end (Big x n) status why may is = absurd may

-- accepted files are answered with success where nothing failed, or memory ran out, or programs are refused
pub is_complete : (order : Order) (seen : ShelfUse) (out : SinkUse) (report : Report)
    → report.status ≡ status_of report.refusal → AnswersOrder order seen out report → OnTold seen.held (files_of order) (EndsAsDue order report.refusal)
    → OnTold seen.held (files_of order) (IsComplete order (ReadFailed (files_of order) seen) (SinkFailed out) report.status)
is_complete order seen out report status answers exact =
    on_told-map seen.held (files_of order) (EndsAsDue order report.refusal)
    (IsComplete order (ReadFailed (files_of order) seen) (SinkFailed out) report.status)
    (λ contents comes due no_read no_write. ends report.refusal status answers.came no_read no_write (comes None due)) exact
  where
    reached : (files : List OperandFile) (contents : List (List ℕ)) (file : Operand) → ShelfFailed seen → IsReached files contents file → ReadFailed files seen
    reached [] contents file failed is = is
    reached (first ∷ files) contents file failed is = failed

    ends : (refusal : Option Refusal) → report.status ≡ status_of refusal → MayEnd order answers.contents (ShelfFailed seen) (SinkFailed out) refusal
        → ¬ ReadFailed (files_of order) seen → ¬ SinkFailed out
        → (refusal ≡ None) ⊎ MayEndFor order refusal None → IsEndStatus order report.status
    ends None is may no_read no_write due = plain_end order report.status (inl is)
    ends (Some Memory) is may no_read no_write due = plain_end order report.status (inr is)
    ends (Some (ReadFault file)) is may no_read no_write due = absurd (no_read (reached (files_of order) answers.contents file may.0 may.1))
    ends (Some WriteFault) is may no_read no_write due = absurd (no_write may.0)
    ends (Some (Denied why)) is may no_read no_write due = denied_end order report.status why may.0 is
    ends (Some refusal) is may no_read no_write (inl e) = absurd (cc)
    ends (Some refusal) is may no_read no_write (inr stands) = absurd stands

-- ---- want of memory at the words, whatever they ask for

pub words_answer : (order : Option Order) (seen : ShelfUse) (out : SinkUse) → Keeps out.taken out.taken_after → AnswersWords order seen out (refused_report Memory)
words_answer None seen out keeps = record { work = refl; programs = refl; written = keeps }
words_answer (Some order) seen out keeps = record {
  contents = others_of seen.held (files_of order);
  held = are_others seen.held (files_of order);
  came = tt;
  done = record { work = refl; programs = refl; written = keeps };
}

pub on_order : (order : Option Order) (P : Order → Type 0) → ((one : Order) → P one) → IfSome order P
on_order None P p = tt
on_order (Some order) P p = p order

-- ---- of an outcome, however it was written

module _ (order : Order) (seen : ShelfUse) (out : SinkUse) (bytes : List ℕ) where
  -- no refusal of the write tells more of the reads
  denied_asked : (why : Denial) → AsksExactly (files_of order) None seen → AsksExactly (files_of order) (Some (Denied why)) seen
  denied_asked why asked = by order refl asked
    where
      by : (one : Order) → one ≡ order → AsksExactly (files_of one) None seen → AsksExactly (files_of one) (Some (Denied why)) seen
      by (Run serial stats json script recording) e asked = asked
      by (Check script recording) e asked = asked
      by (Code script recording) e asked = asked
      by (Vet script recording) e asked = asked
      by (Account serial script recording) e asked = asked
      by (Verify script recording account) e asked = asked
      by (Gen x n) e asked = asked
      by (Big x n) e asked = asked

  fault_asked : AsksExactly (files_of order) None seen → AsksExactly (files_of order) (Some WriteFault) seen
  fault_asked asked = by order refl asked
    where
      by : (one : Order) → one ≡ order → AsksExactly (files_of one) None seen → AsksExactly (files_of one) (Some WriteFault) seen
      by (Run serial stats json script recording) e asked = asked
      by (Check script recording) e asked = asked
      by (Code script recording) e asked = asked
      by (Vet script recording) e asked = asked
      by (Account serial script recording) e asked = asked
      by (Verify script recording account) e asked = asked
      by (Gen x n) e asked = asked
      by (Big x n) e asked = asked

  pub done_asked : (found : Option Denial) (refusal : Option Refusal) → Wrote out found refusal bytes → AsksExactly (files_of order) None seen
      → AsksExactly (files_of order) refusal seen
  done_asked None refusal (inl e) asked = subst (λ (r : Option Refusal). AsksExactly (files_of order) r seen) (sym e.0) asked
  done_asked None refusal (inr e) asked =
      subst (λ (r : Option Refusal). AsksExactly (files_of order) r seen) (sym e.0) (fault_asked asked)
  done_asked (Some why) refusal e asked =
      subst (λ (r : Option Refusal). AsksExactly (files_of order) r seen) (sym e.0) (denied_asked why asked)

  -- words are refused before
  none_usage : ◌≡◌ {A = Option Refusal} None (Some Usage) → ⊥
  none_usage e = cc

  write_usage : ◌≡◌ {A = Option Refusal} (Some WriteFault) (Some Usage) → ⊥
  write_usage e = cc

  denial_usage : (why : Denial) → ◌≡◌ {A = Option Refusal} (Some (Denied why)) (Some Usage) → ⊥
  denial_usage why e = cc

  pub done_known : (found : Option Denial) (refusal : Option Refusal) → Wrote out found refusal bytes → refusal ≢ Some Usage
  done_known None refusal (inl e) = λ usage. none_usage (sym e.0 ∙ usage)
  done_known None refusal (inr e) = λ usage. write_usage (sym e.0 ∙ usage)
  done_known (Some why) refusal e = λ usage. denial_usage why (sym e.0 ∙ usage)

  -- work is there of a run, whether all of it was written or not
  pub done_worked : (contents : List (List ℕ)) (outcome : Outcome) → ComesTo order contents outcome → (refusal : Option Refusal)
      → Wrote out outcome.refused refusal bytes → IsSome outcome.work ↔ HasWork refusal (Some order)
  done_worked contents outcome comes refusal wrote = by outcome.refused refl refusal wrote
    where
      by : (found : Option Denial) → outcome.refused ≡ found → (refusal : Option Refusal) → Wrote out found refusal bytes
          → IsSome outcome.work ↔ HasWork refusal (Some order)
      by None none refusal (inl e) =
          subst (λ (r : Option Refusal). IsSome outcome.work ↔ HasWork r (Some order)) (sym e.0) (runs order contents outcome comes)
      by None none refusal (inr e) =
          subst (λ (r : Option Refusal). IsSome outcome.work ↔ HasWork r (Some order)) (sym e.0) (runs order contents outcome comes)
      by (Some why) found refusal e =
          subst (λ (r : Option Refusal). IsSome outcome.work ↔ HasWork r (Some order)) (sym e.0)
          ((λ some. denied_runs order why (may_deny order contents outcome why comes found) ((runs order contents outcome comes).0 some)), λ none. absurd none)
