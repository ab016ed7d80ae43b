-- What `vet` says of programs, from what its order comes to and from how that is written.
use Rattle.std.proofs.Common.{◌≡◌, ◌≢◌, ℕ, ◌⊎◌, List, refl, sym, subst, arith, inl, inr}
use Rattle.std.specs.Prelude.{Option, Some, None}
use Rattle.bpf_encode.specs.declared.program.Program.{Program}
use Rattle.bt_words.specs.declared.order.Order.{Order}
use Rattle.bt_words.specs.declared.order.Order.TheVariants.{Run, Check, Code, Vet, Account, Verify, Gen, Big}
use Rattle.run_output.specs.declared.job.Job.{Job}
use Rattle.typed_tree.specs.declared.script.Typed.{Typed}
use Rattle.top_refusals.specs.declared.refusal.CodeRefusal.{CodeRefusal}
use Rattle.top_refusals.specs.declared.refusal.Denial.{Denial}
use Rattle.top_refusals.specs.declared.refusal.Denial.TheVariants as denial
use Rattle.top_refusals.specs.declared.refusal.Refusal.{Refusal}
use Rattle.top_refusals.specs.declared.refusal.Refusal.TheVariants.{Usage, Script, Recording, ReadFault, WriteFault, Memory, LongAccount, Denied}
use Rattle.top_jobs.specs.Jobs.{IsJobFor}
use Rattle.top_refusals.specs.Lines.{SinkUse}
use Rattle.top_refusals.specs.Orders.{OperandFile, files_of, on_script}
use Rattle.top_jobs.specs.Reads.{ShelfUse, ShelfFailed, AreContentsOf, MayCome}
use Rattle.top_refusals.specs.Refusals.{status_of}
use Rattle.top_jobs.specs.Vetting.{AllPass, IsFirstRefused}
use Rattle.bt_top.specs.declared.outcome.Outcome.{Outcome}
use Rattle.bt_top.specs.Writing.{Wrote, WroteBytes}
use Rattle.bt_top.specs.Outcomes.{ComesTo, IsOutcomeOfVet, accepted_outcome, bytes_written, refused_outcome}
use Rattle.bt_top.specs.Serve.{MayDeny}
use Rattle.bt_top.specs.Vetted.{HasRefused, IsVetted, IsVettedUnlessRefused, Vetted}
use Rattle.bt_top.proofs.Answering.{DeniedBy, denial_not_due, denied_by, refused_report, report_of, same_why, some_why}

-- where all programs are accepted none is refused
none_refused : (typed : Typed) (programs : List Program) → AllPass typed programs → HasRefused typed programs → ⊥
none_refused typed programs pass has =
    let refused = has.2 in
    (pass has.0 refused.body refused.program refused.of_body refused.of_program).not_refused has.1 refused.is

first_is : (one other : CodeRefusal) → Some (Denied (denial.Code one)) ≡ Some (Denied (denial.Code other)) → one ≡ other
first_is one other e = cc

no_code : (why : CodeRefusal) → ◌≡◌ {A = Option Refusal} None (Some (Denied (denial.Code why))) → ⊥
no_code why e = cc

no_code_fault : (why : CodeRefusal) → ◌≡◌ {A = Option Refusal} (Some WriteFault) (Some (Denied (denial.Code why))) → ⊥
no_code_fault why e = cc

-- ---- of `vet`
module _ (held : List ℕ → Option (List ℕ)) (script recording : List ℕ) (out : SinkUse) (contents : List (List ℕ))
    (read : AreContentsOf held (on_script script recording) contents) (job : Job) (is : IsJobFor (on_script script recording) contents job) where
  accepted : AllPass job.typed job.programs → (refusal : Option Refusal) → WroteBytes out refusal (bytes_written (accepted_outcome job))
      → IsVettedUnlessRefused refusal held (on_script script recording) out (report_of refusal (accepted_outcome job))
  accepted pass refusal (inl e) =
      subst (λ (r : Option Refusal). IsVettedUnlessRefused r held (on_script script recording) out (report_of r (accepted_outcome job))) (sym e.0) (record {
        contents = contents;
        read = read;
        job = job;
        accepted = is;
        programs = refl;
        exact = (λ eight. absurd (omega (arith, eight)), λ has. absurd (none_refused job.typed job.programs pass has));
        first = λ why told. absurd (no_code why told);
        passed = λ other. pass;
        lines = λ zero. e.1;
      })
  accepted pass refusal (inr e) =
      subst (λ (r : Option Refusal). IsVettedUnlessRefused r held (on_script script recording) out (report_of r (accepted_outcome job))) (sym e.0) (record {
        contents = contents;
        read = read;
        job = job;
        accepted = is;
        programs = refl;
        exact = (λ eight. absurd (omega (arith, eight)), λ has. absurd (none_refused job.typed job.programs pass has));
        first = λ why told. absurd (no_code_fault why told);
        passed = λ other. pass;
        lines = λ zero. absurd (omega (arith, zero));
      })

  refused : (why : CodeRefusal) → IsFirstRefused job.attached.bodies job.typed job.programs why
      → IsVetted held (on_script script recording) out (report_of (Some (Denied (denial.Code why))) (refused_outcome job why))
  refused why first = record {
    contents = contents;
    read = read;
    job = job;
    accepted = is;
    programs = refl;
    exact = (λ eight. (first.number, why.fault, first.refused), λ has. refl);
    first = λ other told. subst (λ (w : CodeRefusal). IsFirstRefused job.attached.bodies job.typed job.programs w) (first_is why other told) first;
    passed = λ other. absurd (other refl);
    lines = λ zero. absurd (omega (arith, zero));
  }

  pub vet_says : (outcome : Outcome) (refusal : Option Refusal) → IsOutcomeOfVet job outcome → Wrote out outcome.refused refusal (bytes_written outcome)
      → IsVettedUnlessRefused refusal held (on_script script recording) out (report_of refusal outcome)
  vet_says outcome refusal (inl e) wrote =
      subst (λ (o : Outcome). IsVettedUnlessRefused refusal held (on_script script recording) out (report_of refusal o)) (sym e.1)
      (accepted e.0 refusal (subst (λ (o : Outcome). Wrote out o.refused refusal (bytes_written o)) e.1 wrote))
  vet_says outcome refusal (inr e) wrote =
      let told = subst (λ (o : Outcome). Wrote out o.refused refusal (bytes_written o)) e.2 wrote in
      subst (λ (o : Outcome). IsVettedUnlessRefused refusal held (on_script script recording) out (report_of refusal o)) (sym e.2)
      (subst (λ (r : Option Refusal). IsVettedUnlessRefused r held (on_script script recording) out (report_of r (refused_outcome job e.0))) (sym told.0)
      (refused e.0 e.1))

-- ---- of the other orders

-- what other orders end with has another status
other_denial : (order : Order) (why : Denial) → MayDeny order why → ((script recording : List ℕ) → order ≡ Vet script recording → ⊥) → status_of (Some (Denied why)) ≢ 8
other_denial (Run serial stats json script recording) why may other = absurd may
other_denial (Check script recording) why may other = absurd may
other_denial (Code script recording) why may other = absurd may
other_denial (Vet script recording) why may other = absurd (other script recording refl)
other_denial (Account serial script recording) why may other = absurd may
other_denial (Verify script recording account) (denial.Code why) may other = absurd may
other_denial (Verify script recording account) (denial.Account error) may other = λ eight. omega (arith, eight)
other_denial (Gen x n) why may other = absurd may
other_denial (Big x n) why may other = absurd may

module _ (order : Order) (other : (script recording : List ℕ) → order ≡ Vet script recording → ⊥) where
  other_status : (out : SinkUse) (found : Option Denial) (refusal : Option Refusal) (bytes : List ℕ) → DeniedBy order found → Wrote out found refusal bytes
      → status_of refusal ≢ 8
  other_status out None refusal bytes by (inl e) = subst (λ (r : Option Refusal). status_of r ≢ 8) (sym e.0) (λ eight. omega (arith, eight))
  other_status out None refusal bytes by (inr e) = subst (λ (r : Option Refusal). status_of r ≢ 8) (sym e.0) (λ eight. omega (arith, eight))
  other_status out (Some why) refusal bytes (inl none) wrote = absurd (some_why why none)
  other_status out (Some why) refusal bytes (inr e) wrote =
      subst (λ (r : Option Refusal). status_of r ≢ 8) (sym wrote.0)
      (subst (λ (d : Denial). status_of (Some (Denied d)) ≢ 8) (sym (same_why why e.0 e.1)) (other_denial order e.0 e.2 other))

pub done_vetted : (seen : ShelfUse) (out : SinkUse) (outcome : Outcome) (refusal : Option Refusal) → Wrote out outcome.refused refusal (bytes_written outcome)
    → (order : Order) (contents : List (List ℕ)) → AreContentsOf seen.held (files_of order) contents → ComesTo order contents outcome
    → Vetted (Some order) seen out (report_of refusal outcome)
done_vetted seen out outcome refusal wrote (Vet script recording) contents read comes =
    vet_says seen.held script recording out contents read comes.0 comes.1 outcome refusal comes.2 wrote
done_vetted seen out outcome refusal wrote (Run serial stats json script recording) contents read comes =
    other_status (Run serial stats json script recording) (λ s r e. cc) out outcome.refused refusal _ (denied_by (Run serial stats json script recording) contents outcome comes) wrote
done_vetted seen out outcome refusal wrote (Check script recording) contents read comes =
    other_status (Check script recording) (λ s r e. cc) out outcome.refused refusal _ (denied_by (Check script recording) contents outcome comes) wrote
done_vetted seen out outcome refusal wrote (Code script recording) contents read comes =
    other_status (Code script recording) (λ s r e. cc) out outcome.refused refusal _ (denied_by (Code script recording) contents outcome comes) wrote
done_vetted seen out outcome refusal wrote (Account serial script recording) contents read comes =
    other_status (Account serial script recording) (λ s r e. cc) out outcome.refused refusal _ (denied_by (Account serial script recording) contents outcome comes) wrote
done_vetted seen out outcome refusal wrote (Verify script recording account) contents read comes =
    other_status (Verify script recording account) (λ s r e. cc) out outcome.refused refusal _ (denied_by (Verify script recording account) contents outcome comes) wrote
done_vetted seen out outcome refusal wrote (Gen x n) contents read comes =
    other_status (Gen x n) (λ s r e. cc) out outcome.refused refusal _ (denied_by (Gen x n) contents outcome comes) wrote
done_vetted seen out outcome refusal wrote (Big x n) contents read comes =
    other_status (Big x n) (λ s r e. cc) out outcome.refused refusal _ (denied_by (Big x n) contents outcome comes) wrote

-- ---- where something else is refused

module _ (order : Order) (seen : ShelfUse) (out : SinkUse) (contents : List (List ℕ)) where
  refused_status : (refusal : Refusal) → MayCome (files_of order) contents (ShelfFailed seen) ⊥ (Some refusal) → status_of (Some refusal) ≢ 8
  refused_status Usage came = λ eight. omega (arith, eight)
  refused_status (Script why) came = λ eight. omega (arith, eight)
  refused_status (Recording why) came = λ eight. omega (arith, eight)
  refused_status (ReadFault file) came = λ eight. omega (arith, eight)
  refused_status WriteFault came = λ eight. omega (arith, eight)
  refused_status Memory came = λ eight. omega (arith, eight)
  refused_status LongAccount came = λ eight. omega (arith, eight)
  refused_status (Denied why) came = absurd (denial_not_due (files_of order) contents why came)

  refused_unless : (files : List OperandFile) (refusal : Refusal) → MayCome (files_of order) contents (ShelfFailed seen) ⊥ (Some refusal)
      → status_of (Some refusal) ≢ 8 → IsVettedUnlessRefused (Some refusal) seen.held files out (refused_report refusal)
  refused_unless files Usage came other = other
  refused_unless files (Script why) came other = other
  refused_unless files (Recording why) came other = other
  refused_unless files (ReadFault file) came other = other
  refused_unless files WriteFault came other = absurd came.0
  refused_unless files Memory came other = other
  refused_unless files LongAccount came other = other
  refused_unless files (Denied why) came other = absurd (denial_not_due (files_of order) contents why came)

  pub refused_vetted : (refusal : Refusal) → MayCome (files_of order) contents (ShelfFailed seen) ⊥ (Some refusal)
      → Vetted (Some order) seen out (refused_report refusal)
  refused_vetted refusal came = by order refl
    where
      by : (one : Order) → one ≡ order → Vetted (Some one) seen out (refused_report refusal)
      by (Run serial stats json script recording) e = refused_status refusal came
      by (Check script recording) e = refused_status refusal came
      by (Code script recording) e = refused_status refusal came
      by (Vet script recording) e = refused_unless (on_script script recording) refusal came (refused_status refusal came)
      by (Account serial script recording) e = refused_status refusal came
      by (Verify script recording account) e = refused_status refusal came
      by (Gen x n) e = refused_status refusal came
      by (Big x n) e = refused_status refusal came

memory_status : status_of (Some Memory) ≢ 8
memory_status = λ eight. omega (arith, eight)

-- want of memory at the words, and words that give no order
pub memory_vetted : (order : Option Order) (seen : ShelfUse) (out : SinkUse) → Vetted order seen out (refused_report Memory)
memory_vetted None seen out = memory_status
memory_vetted (Some (Run serial stats json script recording)) seen out = memory_status
memory_vetted (Some (Check script recording)) seen out = memory_status
memory_vetted (Some (Code script recording)) seen out = memory_status
memory_vetted (Some (Vet script recording)) seen out = memory_status
memory_vetted (Some (Account serial script recording)) seen out = memory_status
memory_vetted (Some (Verify script recording account)) seen out = memory_status
memory_vetted (Some (Gen x n)) seen out = memory_status
memory_vetted (Some (Big x n)) seen out = memory_status

pub usage_vetted : (seen : ShelfUse) (out : SinkUse) → Vetted None seen out (refused_report Usage)
usage_vetted seen out = λ eight. omega (arith, eight)
