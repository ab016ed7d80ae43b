-- What a run that ends with status 0 promises.
use Rattle.std.proofs.Common.{◌≡◌, ℕ, ◌<◌, ◌^◌, List, [], ◌++◌, length, sym, ap, subst, arith, inl, inr}
use Rattle.std.specs.List.{AllByRecursion}
use Rattle.account_check.specs.Accounts.{IsTrueAccount}
use Rattle.account_format.specs.Accounts.{account_bytes}
use Rattle.account_format.specs.Entries.{FitsStep}
use Rattle.bt_meaning.specs.Prints.{printed_text}
use Rattle.std.specs.Prelude.{Bool, true, false, Option, Some, None, IsSomeAnd}
use Rattle.std.specs.Io.KnownBytes.{Appends}
use Rattle.rec_gen.specs.declared.script.TheConstants.{SCRIPT}
use Rattle.rec_gen.specs.Jobs.{IsAttachedOver, IsTypedOver, HaveFewTotals}
use Rattle.bt_ast.specs.declared.attached.Attached.{Attached}
use Rattle.bt_ast.specs.declared.probe.Script.{Script as Tree}
use Rattle.bt_attach.specs.Attaching.{IsAttachedTo, attach_fault}
use Rattle.bt_core.specs.declared.step.Step.{Step}
use Rattle.bt_meaning.specs.Interleavings.{IsInterleaving, IsReplayed}
use Rattle.bt_meaning.specs.Jobs.{IsJob}
use Rattle.bt_meaning.specs.Replays.{Replay, cpus_of}
use Rattle.bt_meaning.specs.Ticks.{TicksComeAfter}
use Rattle.bt_meaning.specs.Totals.{IsAggregationOnly, who}
use Rattle.bt_meaning.specs.Walks.{replay_of}
use Rattle.bt_types.specs.Script.{IsTypedScript}
use Rattle.bt_words.specs.declared.order.Order.{Order}
use Rattle.bt_words.specs.declared.order.Order.TheVariants.{Run, Check, Code, Vet, Account, Verify, Gen, Big}
use Rattle.run_output.specs.declared.job.Job.{Job}
use Rattle.run_output.specs.declared.job.Work.{Work}
use Rattle.total_laws.specs.Reads.{AddsAreOwn, ReadsSeeBeginnings}
use Rattle.run_output.specs.declared.form.Form.{Form}
use Rattle.run_output.specs.declared.form.Form.TheVariants.{Text}
use Rattle.recordings.specs.declared.recording.Recording.{Recording as Recorded}
use Rattle.recordings.specs.Recordings.{IsValidRecording}
use Rattle.rec_gen.specs.Made.{IsMade}
use Rattle.code_runs.specs.Programs.{KeepScript}
use Rattle.total_laws.specs.Ends.{EndsWithTotals, IsAddingRun}
use Rattle.typed_tree.specs.declared.script.Typed.{Typed}
use Rattle.top_refusals.specs.declared.refusal.Denial.{Denial}
use Rattle.top_refusals.specs.declared.refusal.Denial.TheVariants as denial
use Rattle.top_refusals.specs.declared.refusal.Refusal.{Refusal}
use Rattle.top_refusals.specs.declared.refusal.Refusal.TheVariants.{Usage, Script, Recording, ReadFault, WriteFault, Memory, LongAccount, Denied}
use Rattle.top_jobs.specs.Jobs.{IsJobFor, meaning_in}
use Rattle.top_refusals.specs.Lines.{SinkUse}
use Rattle.top_refusals.specs.Orders.{OperandFile, files_of}
use Rattle.top_jobs.specs.Reads.{ShelfUse, AreContentsOf}
use Rattle.top_refusals.specs.Refusals.{status_of}
use Rattle.top_jobs.proofs.Asked.{can_run, of_files}
use Rattle.top_jobs.proofs.OneMeaning.{means_files, means_job}
use Rattle.bt_top.specs.declared.outcome.Outcome.{Outcome}
use Rattle.bt_top.specs.Writing.{Wrote}
use Rattle.bt_top.specs.Headline.{AccountsOfFiles, AreStepsOf, Headline, IsSerialList, OnlyAdds, PrintsItsSteps, PrintsItsTotals, PrintsOfFiles, RanPrograms}
use Rattle.bt_top.specs.Jobs.{IsBigJob, IsWorkOf, meaning_of, IsBigMeaning}
use Rattle.bt_top.specs.Outcomes.{form_of, ComesTo, IsOutcomeOfAccount, IsOutcomeOfRun, bytes_written, stats_line, summary_line}
use Rattle.bt_top.proofs.Answering.{refused_report, report_of}
use Rattle.bt_top.proofs.Making.{attached_over, of_numbers, typed_over}

-- no refusal has status 0
no_success : (refusal : Refusal) → status_of (Some refusal) ≡ 0 → ⊥
no_success Usage zero = omega (arith, zero)
no_success (Script why) zero = omega (arith, zero)
no_success (Recording why) zero = omega (arith, zero)
no_success (ReadFault file) zero = omega (arith, zero)
no_success WriteFault zero = omega (arith, zero)
no_success Memory zero = omega (arith, zero)
no_success LongAccount zero = omega (arith, zero)
no_success (Denied (denial.Code why)) zero = omega (arith, zero)
no_success (Denied (denial.Account error)) zero = omega (arith, zero)

-- so nothing is promised of a call that is refused
pub refused_headline : (order : Option Order) (seen : ShelfUse) (out : SinkUse) (refusal : Refusal) → Headline order seen out (refused_report refusal)
refused_headline None seen out refusal = tt
refused_headline (Some (Run serial stats json script recording)) seen out refusal = λ zero. absurd (no_success refusal zero)
refused_headline (Some (Check script recording)) seen out refusal = tt
refused_headline (Some (Code script recording)) seen out refusal = tt
refused_headline (Some (Vet script recording)) seen out refusal = tt
refused_headline (Some (Account serial script recording)) seen out refusal = λ zero. absurd (no_success refusal zero)
refused_headline (Some (Verify script recording account)) seen out refusal = tt
refused_headline (Some (Gen x n)) seen out refusal = tt
refused_headline (Some (Big x n)) seen out refusal = λ zero. absurd (no_success refusal zero)

-- the whole was written, or the status is not 0
written_whole : (out : SinkUse) (found : Option Denial) (refusal : Option Refusal) (bytes : List ℕ) → Wrote out found refusal bytes → status_of refusal ≡ 0
    → Appends out.taken out.taken_after bytes
written_whole out None refusal bytes (inl e) zero = e.1
written_whole out None refusal bytes (inr e) zero = absurd (no_success WriteFault (subst (λ (r : Option Refusal). status_of r ≡ 0) e.0 zero))
written_whole out (Some why) refusal bytes e zero = absurd (no_success (Denied why) (subst (λ (r : Option Refusal). status_of r ≡ 0) e.0 zero))

-- what the laws say of jobs, of interleavings, and of scripts that only add
pub record AreRunLaws : Type 0 where
  pub jobs : (tree : Tree) (typed : Typed) (attached : Attached) (r : Recorded) → IsValidRecording r → attach_fault tree r.formats r.start r.end ≡ None
      → IsAttachedTo tree r.formats r.start r.end attached → IsTypedScript tree r.formats attached.bodies typed → IsJob typed attached r
  pub ticks : (script : Typed) (attached : Attached) (r : Recorded) (steps : List Step) → IsJob script attached r
      → IsInterleaving (replay_of script attached r) steps → TicksComeAfter (replay_of script attached r) steps
  pub reads : (p : Replay) (steps : List Step) → IsInterleaving p steps → ReadsSeeBeginnings p steps
  pub own_adds : (script : Typed) (attached : Attached) (r : Recorded) (steps : List Step) → IsJob script attached r
      → IsInterleaving (replay_of script attached r) steps → AddsAreOwn steps
  pub only : (seed count : ℕ) (r : Recorded) (typed : Typed) → IsMade seed count r → IsTypedOver r typed → IsAggregationOnly typed
  pub few : (seed count : ℕ) (r : Recorded) (attached : Attached) (typed : Typed) → IsMade seed count r → IsAttachedOver r attached → IsTypedOver r typed
      → HaveFewTotals typed attached r
  pub totals : (script : Typed) (attached : Attached) (r : Recorded) (steps : List Step) → IsAddingRun script attached r steps
      → EndsWithTotals script attached r steps

-- the meaning of a job is that of the numbers that ask for it
means_numbers : (x n : ℕ) (job : Job) → IsBigJob x n job → IsBigMeaning x n (meaning_in job)
means_numbers x n job of = record { made = of.made; valid = of.valid; means = means_job SCRIPT job of.asks }

-- what is written of a run is true of its steps
true_account : (job : Job) (work : Work) → IsReplayed (meaning_of job) work.steps → work.text ≡ printed_text job.typed (cpus_of (meaning_of job)) work.steps
    → AllByRecursion FitsStep work.steps → length work.steps < 2 ^ 64 → length work.text < 2 ^ 64
    → IsTrueAccount job.typed job.attached job.recording (account_bytes work.steps work.text) work.steps
true_account job work replayed printed fits few short = record {
  replayed = replayed;
  fits = fits;
  few = few;
  short = subst (λ (text : List ℕ). length text < 2 ^ 64) printed short;
  spelled = ap (λ (text : List ℕ). account_bytes work.steps text) printed;
}

module _ (laws : AreRunLaws) (seen : ShelfUse) (out : SinkUse) (outcome : Outcome) (refusal : Option Refusal)
    (wrote : Wrote out outcome.refused refusal (bytes_written outcome)) where
  adds : (job : Job) (steps : List Step) → IsJob job.typed job.attached job.recording
      → IsInterleaving (replay_of job.typed job.attached job.recording) steps → OnlyAdds (meaning_in job) steps
      → EndsWithTotals job.typed job.attached job.recording steps
  adds job steps can interleaving only =
      laws.totals job.typed job.attached job.recording steps
      (record { job = can; only_adds = only.adds; interleaving = interleaving; few_keys = only.few_keys })

  made : (job : Job) (steps : List Step) → IsJob job.typed job.attached job.recording → IsReplayed (meaning_of job) steps → AreStepsOf (meaning_in job) steps
  made job steps can replayed = record {
    replayed = replayed;
    ticks = laws.ticks job.typed job.attached job.recording steps can replayed.interleaving;
    reads = laws.reads (meaning_of job) steps replayed.interleaving;
    own_adds = laws.own_adds job.typed job.attached job.recording steps can replayed.interleaving;
    totals = adds job steps can replayed.interleaving;
  }

  whole : status_of refusal ≡ 0 → Appends out.taken out.taken_after (bytes_written outcome)
  whole zero = written_whole out outcome.refused refusal (bytes_written outcome) wrote zero

  prints : (form : Form) (serial : Bool) (job : Job) (rest : Work → List ℕ) → IsJob job.typed job.attached job.recording
      → (run : IsOutcomeOfRun form serial job rest outcome) → status_of refusal ≡ 0
      → PrintsItsSteps form (meaning_in job) (rest run.work) out run.work.steps
  prints form serial job rest can run zero = record {
    made = made job run.work.steps can run.done.replayed;
    written = subst (λ (text : List ℕ). Appends out.taken out.taken_after (text ++ rest run.work)) run.done.printed
        (subst (λ (o : Outcome). Appends out.taken out.taken_after (bytes_written o)) run.is (whole zero));
  }

  ran_programs : (form : Form) (serial : Bool) (job : Job) (work : Work) → KeepScript job.typed job.programs → IsWorkOf form serial job work
      → RanPrograms (meaning_in job) job.programs work
  ran_programs form serial job work kept done = record { kept = kept; instructions = done.instructions }

  on_one : (form : Form) (serial : Bool) (job : Job) (work : Work) → IsWorkOf form serial job work → serial ≡ true → IsSerialList (meaning_in job) work.steps
  on_one form serial job work done is = (done.on_one_thread is).serial

  big_adds : (x n : ℕ) (job : Job) (of : IsBigJob x n job) (steps : List Step) → OnlyAdds (meaning_in job) steps
  big_adds x n job of steps =
      let over = typed_over of.asks.tree job.recording job.attached job.typed of.asks.script.has of.asks.attached of.asks.typed in
      record {
        adds = laws.only x n job.recording job.typed of.made over;
        few_keys = λ m low. laws.few x n job.recording job.attached job.typed of.made
            (attached_over of.asks.tree job.recording job.attached of.asks.script.has of.asks.attached) over m (who steps);
      }

  files_headline : (form : Form) (serial stats : Bool) (files : List OperandFile) (contents : List (List ℕ)) (job : Job)
      → AreContentsOf seen.held files contents → IsJobFor files contents job
      → IsOutcomeOfRun form serial job (λ work. stats_line form stats work.instructions) outcome → status_of refusal ≡ 0
      → IsSomeAnd outcome.work (PrintsOfFiles form seen.held files serial stats outcome.programs out)
  files_headline form serial stats files contents job held is run zero =
      let asked = of_files files contents job is in
      subst (λ (o : Outcome). IsSomeAnd o.work (PrintsOfFiles form seen.held files serial stats o.programs out)) (sym run.is) (record {
        contents = contents;
        read = held;
        meaning = meaning_in job;
        accepted = means_files files contents job is;
        prints = prints form serial job (λ work. stats_line form stats work.instructions) (can_run job laws.jobs asked) run zero;
        on_one_thread = on_one form serial job run.work run.done;
        ran = ran_programs form serial job run.work asked.asks.programs run.done;
      })

  numbers_headline : (x n : ℕ) (job : Job) (of : IsBigJob x n job)
      → IsOutcomeOfRun Text false job (λ work. summary_line n (length work.steps)) outcome → status_of refusal ≡ 0
      → IsSomeAnd outcome.work (PrintsItsTotals x n outcome.programs out)
  numbers_headline x n job of run zero =
      let can = can_run job laws.jobs (of_numbers x n job of) in
      subst (λ (o : Outcome). IsSomeAnd o.work (PrintsItsTotals x n o.programs out)) (sym run.is) (record {
        meaning = meaning_in job;
        of = means_numbers x n job of;
        prints = prints Text false job (λ work. summary_line n (length work.steps)) can run zero;
        totals = adds job run.work.steps can run.done.replayed.interleaving (big_adds x n job of run.work.steps);
        ran = ran_programs Text false job run.work of.asks.programs run.done;
      })

  account_headline : (serial : Bool) (files : List OperandFile) (contents : List (List ℕ)) (job : Job) → AreContentsOf seen.held files contents
      → IsJobFor files contents job → IsOutcomeOfAccount serial job outcome → status_of refusal ≡ 0
      → IsSomeAnd outcome.work (AccountsOfFiles seen.held files serial outcome.programs out)
  account_headline serial files contents job held is run zero =
      let asked = of_files files contents job is in
      subst (λ (o : Outcome). IsSomeAnd o.work (AccountsOfFiles seen.held files serial o.programs out)) (sym run.is) (record {
        contents = contents;
        read = held;
        meaning = meaning_in job;
        accepted = means_files files contents job is;
        accounts = record {
          made = made job run.work.steps (can_run job laws.jobs asked) run.done.replayed;
          text = run.done.printed;
          written = subst (λ (o : Outcome). Appends out.taken out.taken_after (bytes_written o)) run.is (whole zero);
          is_true = true_account job run.work run.done.replayed run.done.printed run.fits run.few run.short;
        };
        on_one_thread = on_one Text serial job run.work run.done;
        ran = ran_programs Text serial job run.work asked.asks.programs run.done;
      })

  pub done_headline : (order : Order) (contents : List (List ℕ)) → AreContentsOf seen.held (files_of order) contents → ComesTo order contents outcome
      → Headline (Some order) seen out (report_of refusal outcome)
  done_headline (Run serial stats json script recording) contents held comes =
      files_headline (form_of json) serial stats (files_of (Run serial stats json script recording)) contents comes.0 held comes.1 comes.2
  done_headline (Check script recording) contents held comes = tt
  done_headline (Code script recording) contents held comes = tt
  done_headline (Vet script recording) contents held comes = tt
  done_headline (Account serial script recording) contents held comes =
      account_headline serial (files_of (Account serial script recording)) contents comes.0 held comes.1 comes.2
  done_headline (Verify script recording account) contents held comes = tt
  done_headline (Gen x n) contents held comes = tt
  done_headline (Big x n) contents held comes = numbers_headline x n comes.0 comes.1 comes.2
