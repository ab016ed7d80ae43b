-- What an order comes to, from what comes of its files.
use Rattle.std.proofs.Common.{◌≡◌, ◌≢◌, ℕ, ◌<◌, ◌^◌, List, [], ◌∷◌, length, refl, sym, ap, subst, ◌∙◌, inl, inr}
use Rattle.std.specs.Prelude.{◌⊎◌, Bool, true, false, Option, Some, None, Result, Ok, Err, IfOk, IfSome, OnOk}
use Rattle.std.specs.List.{AllByRecursion}
use Rattle.account_check.specs.Answers.{IsAnswerTo}
use Rattle.account_format.specs.declared.error.AccountError.{AccountError}
use Rattle.account_format.specs.declared.error.AccountError.TheVariants as wrong
use Rattle.account_format.specs.Accounts.{account_bytes}
use Rattle.account_format.specs.Entries.{FitsStep}
use Rattle.bt_core.specs.declared.memory.Memory.{Memory as NoMemory}
use Rattle.bt_core.specs.declared.step.Step.{Step}
use Rattle.bt_core.specs.Want.{out_of_memory}
use Rattle.bpf_encode.specs.declared.program.Program.{Program}
use Rattle.bt_words.specs.declared.order.Order.{Order}
use Rattle.bt_words.specs.declared.order.Order.TheVariants.{Run, Check, Code, Vet, Account, Verify, Gen, Big}
use Rattle.recordings.specs.declared.recording.Recording.{Recording as Recorded}
use Rattle.recordings.specs.Recordings.{recording_bytes}
use Rattle.run_output.specs.declared.job.Job.{Job}
use Rattle.run_output.specs.declared.job.Work.{Work}
use Rattle.run_output.specs.declared.form.Form.{Form}
use Rattle.run_output.specs.declared.form.Form.TheVariants.{Text}
use Rattle.bt_ast.specs.declared.attached.BodyId.{BodyId}
use Rattle.event_layout.specs.declared.format.Format.{Format}
use Rattle.top_refusals.specs.declared.refusal.Refusal.{Refusal}
use Rattle.top_refusals.specs.declared.refusal.Refusal.TheVariants.{Memory}
use Rattle.top_refusals.specs.declared.refusal.CodeRefusal.{CodeRefusal}
use Rattle.top_refusals.specs.declared.refusal.Denial.{Denial}
use Rattle.top_refusals.specs.declared.refusal.Denial.TheVariants as denial
use Rattle.top_jobs.specs.declared.vetting.Verdict.{Verdict}
use Rattle.top_jobs.specs.declared.vetting.Verdict.TheVariants.{Accepted, Refused}
use Rattle.top_jobs.specs.Doing.{ComesOfFiles}
use Rattle.top_jobs.specs.FailedNames.{FailsNamed}
use Rattle.top_refusals.specs.Lines.{SinkUse}
use Rattle.top_refusals.specs.Orders.{OperandFile, files_of, names_of}
use Rattle.top_jobs.specs.Reads.{ShelfUse, AsksExactly, AsksFirst, ComesIfDue, OnTold}
use Rattle.top_jobs.specs.Vetting.{IsVerdict}
use Rattle.bt_top.specs.declared.outcome.Outcome.{Outcome}
use Rattle.bt_top.specs.Jobs.{IsWorkOf}
use Rattle.bt_top.specs.Outcomes.{IsOutcomeOfAccount, IsOutcomeOfRun, IsOutcomeOfVerify, gen_outcome, plain_outcome, run_outcome, verify_outcome, IsOutcomeOfVet}
use Rattle.bt_top.specs.Serve.{EndsAsDue, IsComplete, IsEndStatus}
use Rattle.bt_top.specs.Writing.{Wrote}

-- ---- outcomes

-- the work of a job with what stands behind its text
pub ran_with : (form : Form) (serial : Bool) (job : Job) (work : Work) (rest : Work → List ℕ) (line : List ℕ) → IsWorkOf form serial job work
    → line ≡ rest work → IsOutcomeOfRun form serial job rest (run_outcome job work line)
ran_with form serial job work rest line done is = record { work = work; done = done; is = ap (λ (l : List ℕ). run_outcome job work l) is }

-- the bytes of a recording, with no programs
pub made_with : (says : Recorded) (programs : List Program) (rest : List ℕ) → programs ≡ [] → rest ≡ recording_bytes says
    → ◌≡◌ {A = Outcome} (record { work = None; programs = programs; refused = None; prints = true; rest = rest }) (gen_outcome says)
made_with says programs rest none spelled = λ i. record { work = None; programs = none i; refused = None; prints = true; rest = spelled i }

-- ---- of a check of programs

-- what is said of a job's programs is what it comes to
abbrev pub said_of : Job → Option Denial → List ℕ → Outcome
said_of job refused rest = record { work = None; programs = job.programs; refused = refused; prints = true; rest = rest }

said_again : (job : Job) (formats : List Format) (ids : List BodyId) (programs : List Program) (verdict : Verdict) → formats ≡ job.recording.formats
    → ids ≡ job.attached.bodies → programs ≡ job.programs → IsVerdict formats ids job.typed programs verdict
    → IsVerdict job.recording.formats job.attached.bodies job.typed job.programs verdict
said_again job formats ids programs verdict a b c is =
    subst (λ (l : List Program). IsVerdict job.recording.formats job.attached.bodies job.typed l verdict) c
    (subst (λ (l : List BodyId). IsVerdict job.recording.formats l job.typed programs verdict) b
    (subst (λ (l : List Format). IsVerdict l ids job.typed programs verdict) a is))

pub accepted_all : (job : Job) (formats : List Format) (ids : List BodyId) (programs : List Program) (lines : List ℕ) → formats ≡ job.recording.formats
    → ids ≡ job.attached.bodies → programs ≡ job.programs → IsVerdict formats ids job.typed programs (Accepted lines)
    → IsOutcomeOfVet job (said_of job None lines)
accepted_all job formats ids programs lines a b c is =
    let said = said_again job formats ids programs (Accepted lines) a b c is in
    inl (said.0, ap (λ (l : List ℕ). said_of job None l) said.1)

pub refused_one : (job : Job) (formats : List Format) (ids : List BodyId) (programs : List Program) (why : CodeRefusal) (rest : List ℕ)
    → formats ≡ job.recording.formats → ids ≡ job.attached.bodies → programs ≡ job.programs → IsVerdict formats ids job.typed programs (Refused why)
    → rest ≡ [] → IsOutcomeOfVet job (said_of job (Some (denial.Code why)) rest)
refused_one job formats ids programs why rest a b c is none =
    inr (why, said_again job formats ids programs (Refused why) a b c is, ap (λ (l : List ℕ). said_of job (Some (denial.Code why)) l) none)

-- ---- how it was written

-- that a write failed is no fault of a read
pub written_failed : (files : List OperandFile) (failed after : List (List ℕ)) (out : SinkUse) (found : Option Denial) (refusal : Option Refusal) (bytes : List ℕ)
    → Wrote out found refusal bytes → after ≡ failed → FailsNamed files refusal failed after
written_failed files failed after out None refusal bytes (inl e) same = subst (λ (r : Option Refusal). FailsNamed files r failed after) (sym e.0) same
written_failed files failed after out None refusal bytes (inr e) same = subst (λ (r : Option Refusal). FailsNamed files r failed after) (sym e.0) same
written_failed files failed after out (Some why) refusal bytes e same = subst (λ (r : Option Refusal). FailsNamed files r failed after) (sym e.0) same

-- ---- of all files alike

pub nothing_asked : (files : List OperandFile) (names : List (List ℕ)) → AsksFirst names names (names_of files)
nothing_asked [] names = refl
nothing_asked (file ∷ files) names = inl refl

pub nothing_asked_exactly : (files : List OperandFile) (seen : ShelfUse) → seen.asked_after ≡ seen.asked → AsksExactly files (Some Memory) seen
nothing_asked_exactly [] seen same = same
nothing_asked_exactly (file ∷ files) seen same = tt

-- what holds of all contents holds of told ones, and what follows of each follows of them
if_told : (o : Option (List ℕ)) (Q : List ℕ → Type 0) → ((bytes : List ℕ) → Q bytes) → IfSome o Q
if_told None Q q = tt
if_told (Some bytes) Q q = q bytes

if_told-map : (o : Option (List ℕ)) (Q R : List ℕ → Type 0) → ((bytes : List ℕ) → Q bytes → R bytes) → IfSome o Q → IfSome o R
if_told-map None Q R f q = tt
if_told-map (Some bytes) Q R f q = f bytes q

on_told : (held : List ℕ → Option (List ℕ)) (files : List OperandFile) (P : List (List ℕ) → Type 0) → ((contents : List (List ℕ)) → P contents) → OnTold held files P
on_told held [] P p = p []
on_told held (file ∷ files) P p =
    if_told (held file.name) (λ bytes. OnTold held files (λ contents. P (bytes ∷ contents)))
    (λ bytes. on_told held files (λ contents. P (bytes ∷ contents)) (λ contents. p (bytes ∷ contents)))

pub on_told-map : (held : List ℕ → Option (List ℕ)) (files : List OperandFile) (P Q : List (List ℕ) → Type 0) → ((contents : List (List ℕ)) → P contents → Q contents)
    → OnTold held files P → OnTold held files Q
on_told-map held [] P Q f p = f [] p
on_told-map held (file ∷ files) P Q f p =
    if_told-map (held file.name) (λ bytes. OnTold held files (λ contents. P (bytes ∷ contents))) (λ bytes. OnTold held files (λ contents. Q (bytes ∷ contents)))
    (λ bytes. on_told-map held files (λ contents. P (bytes ∷ contents)) (λ contents. Q (bytes ∷ contents)) (λ contents. f (bytes ∷ contents))) p

pub memory_exact : (held : List ℕ → Option (List ℕ)) (order : Order) → OnTold held (files_of order) (EndsAsDue order (Some Memory))
memory_exact held order = on_told held (files_of order) (EndsAsDue order (Some Memory)) (λ contents due is. inr tt)

-- success, and want of memory, are ends of every order
pub plain_end : (order : Order) (status : ℕ) → (status ≡ 0) ⊎ (status ≡ 6) → IsEndStatus order status
plain_end (Run serial stats json script recording) status is = is
plain_end (Check script recording) status is = is
plain_end (Code script recording) status is = is
plain_end (Vet script recording) status (inl zero) = inl zero
plain_end (Vet script recording) status (inr six) = inr (inl six)
plain_end (Account serial script recording) status is = is
plain_end (Verify script recording account) status (inl zero) = inl zero
plain_end (Verify script recording account) status (inr six) = inr (inl six)
plain_end (Gen x n) status is = is
plain_end (Big x n) status is = is

pub memory_complete : (held : List ℕ → Option (List ℕ)) (order : Order) (read_failed write_failed : Type 0)
    → OnTold held (files_of order) (IsComplete order read_failed write_failed 6)
memory_complete held order read_failed write_failed =
    on_told held (files_of order) (IsComplete order read_failed write_failed 6) (λ contents due no_read no_write. plain_end order 6 (inr refl))

-- ---- of an order on files

module _ {A B : Type 0} (files : List OperandFile) (Comes : List (List ℕ) → A → Type 0) (Other : List (List ℕ) → B → Type 0) (seen : ShelfUse) where
  -- what is made of what they give
  pub goes_on : (a : A) (b : B) → ComesOfFiles files Comes seen (Ok a) → ((contents : List (List ℕ)) → Comes contents a → Other contents b)
      → ComesOfFiles files Other seen (Ok b)
  goes_on a b p f = record {
    reads = record { contents = p.reads.contents; held = p.reads.held; value = f p.reads.contents p.reads.value; came = tt };
    asked = p.asked;
    asked_exactly = p.asked_exactly;
    exact = p.exact;
  }

-- files that are refused are refused whatever is made of them, and memory may run out where they are not
pub stays_refused : {A B : Type 0} (files : List OperandFile) (Comes : List (List ℕ) → A → Type 0) (Other : List (List ℕ) → B → Type 0) (seen : ShelfUse)
    (refusal : Refusal) → ComesOfFiles files Comes seen (Err refusal) → ComesOfFiles files Other seen (Err refusal)
stays_refused files Comes Other seen refusal p = record {
  reads = record { contents = p.reads.contents; held = p.reads.held; value = tt; came = p.reads.came };
  asked = p.asked;
  asked_exactly = p.asked_exactly;
  exact = p.exact;
}

pub runs_out : {A B : Type 0} (first : OperandFile) (files : List OperandFile) (Comes : List (List ℕ) → A → Type 0) (Other : List (List ℕ) → B → Type 0)
    (seen : ShelfUse) (a : A) → ComesOfFiles (first ∷ files) Comes seen (Ok a) → ComesOfFiles (first ∷ files) Other seen (Err Memory)
runs_out first files Comes Other seen a p = record {
  reads = record { contents = p.reads.contents; held = p.reads.held; value = tt; came = tt };
  asked = p.asked;
  asked_exactly = tt;
  exact = on_told-map seen.held (first ∷ files) (ComesIfDue (first ∷ files) None) (ComesIfDue (first ∷ files) (Some Memory)) (λ contents comes due is. inr tt) p.exact;
}

-- ---- of an order without files

module _ {B : Type 0} (Other : List (List ℕ) → B → Type 0) (seen : ShelfUse) (same : seen.asked_after ≡ seen.asked) where
  pub made : (b : B) → Other [] b → ComesOfFiles [] Other seen (Ok b)
  made b is = record {
    reads = record { contents = []; held = tt; value = is; came = tt };
    asked = same;
    asked_exactly = same;
    exact = λ due is. elim is [
      | inl none ↦ absurd none
      | inr e ↦ inl (sym e.1)
    ];
  }

-- ---- of accounts

pub accounted_for : (serial : Bool) (job : Job) (work : Work) (text rest : List ℕ) → IsWorkOf Text serial job work → text ≡ work.text
    → rest ≡ account_bytes work.steps text → AllByRecursion FitsStep work.steps → length work.steps < 2 ^ 64 → length text < 2 ^ 64
    → IsOutcomeOfAccount serial job (record { work = Some work; programs = job.programs; refused = None; prints = false; rest = rest })
accounted_for serial job work text rest done same spelled fits few short = record {
  work = work;
  done = done;
  fits = fits;
  few = few;
  short = subst (λ (l : List ℕ). length l < 2 ^ 64) same short;
  is = ap (λ (l : List ℕ). record { work = Some work; programs = job.programs; refused = None; prints = false; rest = l })
      (spelled ∙ ap (λ (l : List ℕ). account_bytes work.steps l) same);
}

err_is : (one other : AccountError) → ◌≡◌ {A = Result (List Step) AccountError} (Err one) (Err other) → one ≡ other
err_is one other e = cc

pub ok_known : (steps : List Step) → ◌≡◌ {A = Result (List Step) AccountError} (Ok steps) (Err (wrong.Memory out_of_memory)) → ⊥
ok_known steps e = cc

-- of what has no programs, with a line
pub plain_with : (programs : List Program) (line rest : List ℕ) → programs ≡ [] → line ≡ rest
    → ◌≡◌ {A = Outcome} (record { work = None; programs = programs; refused = None; prints = true; rest = line }) (plain_outcome rest)
plain_with programs line rest none is = λ i. record { work = None; programs = none i; refused = None; prints = true; rest = is i }

-- the one answer to an account
module _ (job : Job) (account : List ℕ) where
  abbrev pub Answers : Result (List Step) AccountError → Type 0
  Answers answer = IsAnswerTo job.typed job.attached job.recording account answer

  abbrev pub OnlyThis : Result (List Step) AccountError → Type 0
  OnlyThis answer = (other : Result (List Step) AccountError) → Answers other → other ≢ Err (wrong.Memory out_of_memory) → (answer ≡ other) ⊎ (answer ≡ Err (wrong.Memory out_of_memory))

  only_one : (answer : Result (List Step) AccountError) → answer ≢ Err (wrong.Memory out_of_memory) → OnlyThis answer → (other : Result (List Step) AccountError)
      → other ≢ Err (wrong.Memory out_of_memory) → Answers other → answer ≡ other
  only_one answer known only other not_memory is = by (only other is not_memory)
    where
      by : (answer ≡ other) ⊎ (answer ≡ Err (wrong.Memory out_of_memory)) → answer ≡ other
      by (inl same) = same
      by (inr memory) = absurd (known memory)

  pub verified_by : (answer : Result (List Step) AccountError) (outcome : Outcome) → answer ≢ Err (wrong.Memory out_of_memory) → Answers answer → OnlyThis answer
      → outcome ≡ verify_outcome answer → IsOutcomeOfVerify job account outcome
  verified_by answer outcome known holds only is =
      record { answer = answer; known = known; holds = holds; only = only_one answer known only; is = is }

  pub denied_verified : (error : AccountError) (found : Result Outcome NoMemory) → Answers (Err error) → OnlyThis (Err error)
      → OnOk found (error ≢ wrong.Memory out_of_memory) → IfOk found (λ outcome. outcome ≡ verify_outcome (Err error)) → IfOk found (IsOutcomeOfVerify job account)
  denied_verified error (Ok outcome) holds only known is = verified_by (Err error) outcome (λ e. known (err_is error (wrong.Memory out_of_memory) e)) holds only is
  denied_verified error (Err memory) holds only known is = tt
