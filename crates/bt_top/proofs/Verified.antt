-- What `verify` says of an account, from what its order comes to and from how that is written.
use Rattle.std.proofs.Common.{◌≡◌, ◌≢◌, ℕ, ◌⊎◌, List, [], ◌∷◌, length, refl, sym, ap, subst, arith, inl, inr, ◌∙◌}
use Rattle.std.specs.Prelude.{◌↔◌, Option, Some, None, Result, Ok, Err}
use Rattle.account_check.specs.Answers.{IsAnswerTo}
use Rattle.account_format.specs.declared.error.AccountError.{AccountError}
use Rattle.account_format.specs.declared.error.AccountError.TheVariants as wrong
use Rattle.bt_core.specs.declared.step.Step.{Step}
use Rattle.bt_core.specs.Want.{out_of_memory}
use Rattle.bt_words.specs.declared.order.Order.{Order}
use Rattle.bt_words.specs.declared.order.Order.TheVariants.{Run, Check, Code, Vet, Account, Verify, Gen, Big}
use Rattle.run_output.specs.declared.job.Job.{Job}
use Rattle.top_refusals.specs.declared.refusal.Denial.{Denial}
use Rattle.top_refusals.specs.declared.refusal.Denial.TheVariants as denial
use Rattle.top_refusals.specs.declared.refusal.Operand.{Operand}
use Rattle.top_refusals.specs.declared.refusal.Operand.TheVariants as operand
use Rattle.top_refusals.specs.declared.refusal.RecordingRefusal.TheVariants as recording
use Rattle.top_refusals.specs.declared.refusal.ScriptRefusal.TheVariants as script
use Rattle.top_refusals.specs.declared.refusal.Refusal.{Refusal}
use Rattle.top_refusals.specs.declared.refusal.Refusal.TheVariants.{Usage, Script, Recording, ReadFault, WriteFault, Memory, LongAccount, Denied}
use Rattle.top_jobs.specs.Due.{IsDue, IsFinding, IsTooLong}
use Rattle.top_jobs.specs.Jobs.{IsJobFor, meaning_in, account_in}
use Rattle.top_refusals.specs.Lines.{SinkUse}
use Rattle.top_refusals.specs.Orders.{OperandFile, files_of, on_account, on_script}
use Rattle.top_jobs.specs.Reads.{ShelfUse, ShelfFailed, AreContentsOf, MayCome}
use Rattle.top_refusals.specs.Refusals.{status_of, too_long}
use Rattle.top_jobs.proofs.OneMeaning.{means_files}
use Rattle.bt_top.specs.declared.outcome.Outcome.{Outcome}
use Rattle.bt_top.specs.Writing.{Wrote, WroteBytes}
use Rattle.bt_top.specs.Outcomes.{ComesTo, IsOutcomeOfVerify, bytes_written, verify_outcome}
use Rattle.bt_top.specs.Serve.{MayDeny}
use Rattle.bt_top.specs.Verified.{IsVerified, IsVerifiedUnlessRefused, IsWrong, IsWrongBy, Verified}
use Rattle.bt_top.proofs.Answering.{DeniedBy, denial_not_due, denied_by, refused_report, report_of, same_why, some_why}

-- ---- of `verify`

ok_err : (steps : List Step) (error : AccountError) → ◌≡◌ {A = Result (List Step) AccountError} (Ok steps) (Err error) → ⊥
ok_err steps error e = cc

err_is : (one other : AccountError) → ◌≡◌ {A = Result (List Step) AccountError} (Err one) (Err other) → one ≡ other
err_is one other e = cc

known_err : (error : AccountError) → (◌≡◌ {A = Result (List Step) AccountError} (Err error) (Err (wrong.Memory out_of_memory)) → ⊥) → error ≢ wrong.Memory out_of_memory
known_err error known e = known (ap (λ (x : AccountError). Err x) e)

known_again : (error : AccountError) → error ≢ wrong.Memory out_of_memory → ◌≡◌ {A = Result (List Step) AccountError} (Err error) (Err (wrong.Memory out_of_memory)) → ⊥
known_again error known e = known (err_is error (wrong.Memory out_of_memory) e)

told_is : (one other : AccountError) → Some (Denied (denial.Account one)) ≡ Some (Denied (denial.Account other)) → one ≡ other
told_is one other e = cc

none_told : (error : AccountError) → ◌≡◌ {A = Option Refusal} None (Some (Denied (denial.Account error))) → ⊥
none_told error e = cc

fault_told : (error : AccountError) → ◌≡◌ {A = Option Refusal} (Some WriteFault) (Some (Denied (denial.Account error))) → ⊥
fault_told error e = cc

-- this answer is the one that there is
abbrev IsOnly : Job → List ℕ → Result (List Step) AccountError → Type 0
IsOnly job bytes answer =
    (other : Result (List Step) AccountError) → other ≢ Err (wrong.Memory out_of_memory) → IsAnswerTo job.typed job.attached job.recording bytes other → answer ≡ other

module _ (held : List ℕ → Option (List ℕ)) (script recording account : List ℕ) (out : SinkUse) (contents : List (List ℕ))
    (read : AreContentsOf held (on_account script recording account) contents) (job : Job)
    (is : IsJobFor (on_account script recording account) contents job) where
  abbrev files : List OperandFile
  files = on_account script recording account

  abbrev bytes : List ℕ
  bytes = account_in contents

  abbrev Answers : Result (List Step) AccountError → Type 0
  Answers answer = IsAnswerTo job.typed job.attached job.recording bytes answer

  -- the account is true
  module _ (steps : List Step) (holds : Answers (Ok steps)) (only : IsOnly job bytes (Ok steps)) where
    none_wrong : IsWrong (meaning_in job) bytes → ⊥
    none_wrong has = ok_err steps has.0 (only (Err has.0) (known_again has.0 has.1.known) has.1.is)

    accepted : (refusal : Option Refusal) → WroteBytes out refusal (bytes_written (verify_outcome (Ok steps)))
        → IsVerifiedUnlessRefused refusal held files out (report_of refusal (verify_outcome (Ok steps)))
    accepted refusal (inl e) =
        subst (λ (r : Option Refusal). IsVerifiedUnlessRefused r held files out (report_of r (verify_outcome (Ok steps)))) (sym e.0) (record {
          contents = contents;
          read = read;
          meaning = meaning_in job;
          accepted = means_files files contents job is;
          exact = (λ seven. absurd (omega (arith, seven)), λ has. absurd (none_wrong has));
          told = λ error. (λ says. absurd (none_told error says), λ by. absurd (none_wrong (error, by)));
          right = λ other. (steps, holds);
          line = λ zero. (steps, holds, e.1);
        })
    accepted refusal (inr e) =
        subst (λ (r : Option Refusal). IsVerifiedUnlessRefused r held files out (report_of r (verify_outcome (Ok steps)))) (sym e.0) (record {
          contents = contents;
          read = read;
          meaning = meaning_in job;
          accepted = means_files files contents job is;
          exact = (λ seven. absurd (omega (arith, seven)), λ has. absurd (none_wrong has));
          told = λ error. (λ says. absurd (fault_told error says), λ by. absurd (none_wrong (error, by)));
          right = λ other. (steps, holds);
          line = λ zero. absurd (omega (arith, zero));
        })

  -- something is wrong with it
  module _ (error : AccountError) (known : ◌≡◌ {A = Result (List Step) AccountError} (Err error) (Err (wrong.Memory out_of_memory)) → ⊥) (holds : Answers (Err error))
      (only : IsOnly job bytes (Err error)) where
    is_wrong : IsWrongBy (meaning_in job) bytes error
    is_wrong = record { known = known_err error known; is = holds }

    same_wrong : (other : AccountError) → IsWrongBy (meaning_in job) bytes other → error ≡ other
    same_wrong other by = err_is error other (only (Err other) (known_again other by.known) by.is)

    refused : IsVerified held files out (report_of (Some (Denied (denial.Account error))) (verify_outcome (Err error)))
    refused = record {
      contents = contents;
      read = read;
      meaning = meaning_in job;
      accepted = means_files files contents job is;
      exact = (λ seven. (error, is_wrong), λ has. refl);
      told = λ other. (
        λ says. subst (λ (x : AccountError). IsWrongBy (meaning_in job) bytes x) (told_is error other says) is_wrong,
        λ by. ap (λ (x : AccountError). Some (Denied (denial.Account x))) (same_wrong other by),
      );
      right = λ other. absurd (other refl);
      line = λ zero. absurd (omega (arith, zero));
    }

  answer_says : (answer : Result (List Step) AccountError) (refusal : Option Refusal) → answer ≢ Err (wrong.Memory out_of_memory) → Answers answer
      → IsOnly job bytes answer → Wrote out (verify_outcome answer).refused refusal (bytes_written (verify_outcome answer))
      → IsVerifiedUnlessRefused refusal held files out (report_of refusal (verify_outcome answer))
  answer_says (Ok steps) refusal known holds only wrote = accepted steps holds only refusal wrote
  answer_says (Err error) refusal known holds only wrote =
      subst (λ (r : Option Refusal). IsVerifiedUnlessRefused r held files out (report_of r (verify_outcome (Err error)))) (sym wrote.0)
      (refused error known holds only)

  pub verify_says : (outcome : Outcome) (refusal : Option Refusal) → IsOutcomeOfVerify job bytes outcome
      → Wrote out outcome.refused refusal (bytes_written outcome) → IsVerifiedUnlessRefused refusal held files out (report_of refusal outcome)
  verify_says outcome refusal of wrote =
      subst (λ (o : Outcome). IsVerifiedUnlessRefused refusal held files out (report_of refusal o)) (sym of.is)
      (answer_says of.answer refusal of.known of.holds of.only
      (subst (λ (o : Outcome). Wrote out o.refused refusal (bytes_written o)) of.is wrote))

-- ---- of the other orders

-- what other orders end with has another status
other_denial : (order : Order) (why : Denial) → MayDeny order why → ((script recording account : List ℕ) → order ≡ Verify script recording account → ⊥) → status_of (Some (Denied why)) ≢ 7
other_denial (Run serial stats json script recording) why may other = absurd may
other_denial (Check script recording) why may other = absurd may
other_denial (Code script recording) why may other = absurd may
other_denial (Vet script recording) (denial.Code why) may other = λ seven. omega (arith, seven)
other_denial (Vet script recording) (denial.Account error) may other = absurd may
other_denial (Account serial script recording) why may other = absurd may
other_denial (Verify script recording account) why may other = absurd (other script recording account refl)
other_denial (Gen x n) why may other = absurd may
other_denial (Big x n) why may other = absurd may

module _ (order : Order) (other : (script recording account : List ℕ) → order ≡ Verify script recording account → ⊥) where
  other_status : (out : SinkUse) (found : Option Denial) (refusal : Option Refusal) (bytes : List ℕ) → DeniedBy order found → Wrote out found refusal bytes
      → status_of refusal ≢ 7
  other_status out None refusal bytes by (inl e) = subst (λ (r : Option Refusal). status_of r ≢ 7) (sym e.0) (λ seven. omega (arith, seven))
  other_status out None refusal bytes by (inr e) = subst (λ (r : Option Refusal). status_of r ≢ 7) (sym e.0) (λ seven. omega (arith, seven))
  other_status out (Some why) refusal bytes (inl none) wrote = absurd (some_why why none)
  other_status out (Some why) refusal bytes (inr e) wrote =
      subst (λ (r : Option Refusal). status_of r ≢ 7) (sym wrote.0)
      (subst (λ (d : Denial). status_of (Some (Denied d)) ≢ 7) (sym (same_why why e.0 e.1)) (other_denial order e.0 e.2 other))

pub done_verified : (seen : ShelfUse) (out : SinkUse) (outcome : Outcome) (refusal : Option Refusal) → Wrote out outcome.refused refusal (bytes_written outcome)
    → (order : Order) (contents : List (List ℕ)) → AreContentsOf seen.held (files_of order) contents → ComesTo order contents outcome
    → Verified (Some order) seen out (report_of refusal outcome)
done_verified seen out outcome refusal wrote (Verify script recording account) contents read comes =
    verify_says seen.held script recording account out contents read comes.0 comes.1 outcome refusal comes.2 wrote
done_verified seen out outcome refusal wrote (Run serial stats json script recording) contents read comes =
    other_status (Run serial stats json script recording) (λ s r a e. cc) out outcome.refused refusal _ (denied_by (Run serial stats json script recording) contents outcome comes) wrote
done_verified seen out outcome refusal wrote (Check script recording) contents read comes =
    other_status (Check script recording) (λ s r a e. cc) out outcome.refused refusal _ (denied_by (Check script recording) contents outcome comes) wrote
done_verified seen out outcome refusal wrote (Code script recording) contents read comes =
    other_status (Code script recording) (λ s r a e. cc) out outcome.refused refusal _ (denied_by (Code script recording) contents outcome comes) wrote
done_verified seen out outcome refusal wrote (Vet script recording) contents read comes =
    other_status (Vet script recording) (λ s r a e. cc) out outcome.refused refusal _ (denied_by (Vet script recording) contents outcome comes) wrote
done_verified seen out outcome refusal wrote (Account serial script recording) contents read comes =
    other_status (Account serial script recording) (λ s r a e. cc) out outcome.refused refusal _ (denied_by (Account serial script recording) contents outcome comes) wrote
done_verified seen out outcome refusal wrote (Gen x n) contents read comes =
    other_status (Gen x n) (λ s r a e. cc) out outcome.refused refusal _ (denied_by (Gen x n) contents outcome comes) wrote
done_verified seen out outcome refusal wrote (Big x n) contents read comes =
    other_status (Big x n) (λ s r a e. cc) out outcome.refused refusal _ (denied_by (Big x n) contents outcome comes) wrote

-- ---- where something else is refused

-- no order but `verify` has an account that may be too long
module _ (contents : List (List ℕ)) where
  no_account : (one : Operand) → (one ≡ operand.Account → ⊥) → Some LongAccount ≡ Some (too_long one) → ⊥
  no_account operand.Script other e = let none : ◌≡◌ {A = Option Refusal} (Some LongAccount) (Some (Script script.TooLong)) → ⊥ = λ x. cc in none e
  no_account operand.Recording other e = let none : ◌≡◌ {A = Option Refusal} (Some LongAccount) (Some (Recording recording.TooLong)) → ⊥ = λ x. cc in none e
  no_account operand.Account other e = other refl

  some_none : ◌≡◌ {A = Option Refusal} (Some LongAccount) None → ⊥
  some_none e = cc

  not_found : (all : List (List ℕ)) → IsFinding all (Some LongAccount) → ⊥
  not_found [] is = some_none is
  not_found (text ∷ []) is = some_none is
  not_found (text ∷ second ∷ more) is = is

  not_long_pair : (script recording : List ℕ) (all : List (List ℕ)) → IsTooLong (on_script script recording) all (Some LongAccount) → ⊥
  not_long_pair script recording [] is = is
  not_long_pair script recording (text ∷ []) (inl e) = no_account operand.Script (λ x. cc) e.1
  not_long_pair script recording (text ∷ []) (inr e) = e.1
  not_long_pair script recording (text ∷ bytes ∷ more) (inl e) = no_account operand.Script (λ x. cc) e.1
  not_long_pair script recording (text ∷ bytes ∷ more) (inr (low, inl e)) = no_account operand.Recording (λ x. cc) e.1
  not_long_pair script recording (text ∷ bytes ∷ more) (inr (low, inr e)) = e.1

  not_long_script : (script recording : List ℕ) → IsDue (on_script script recording) contents (Some LongAccount) → ⊥
  not_long_script script recording (inl is) = not_long_pair script recording contents is
  not_long_script script recording (inr is) = not_found contents is.1

  not_long_none : IsDue [] contents (Some LongAccount) → ⊥
  not_long_none (inl is) = is
  not_long_none (inr is) = not_found contents is.1

module _ (order : Order) (seen : ShelfUse) (out : SinkUse) (contents : List (List ℕ)) where
  plain_status : (refusal : Refusal) → (IsDue (files_of order) contents (Some LongAccount) → ⊥) → MayCome (files_of order) contents (ShelfFailed seen) ⊥ (Some refusal)
      → status_of (Some refusal) ≢ 7
  plain_status Usage short came = λ seven. omega (arith, seven)
  plain_status (Script why) short came = λ seven. omega (arith, seven)
  plain_status (Recording why) short came = λ seven. omega (arith, seven)
  plain_status (ReadFault file) short came = λ seven. omega (arith, seven)
  plain_status WriteFault short came = λ seven. omega (arith, seven)
  plain_status Memory short came = λ seven. omega (arith, seven)
  plain_status LongAccount short came = absurd (short came)
  plain_status (Denied why) short came = absurd (denial_not_due (files_of order) contents why came)

  refused_unless : (files : List OperandFile) (refusal : Refusal) → MayCome (files_of order) contents (ShelfFailed seen) ⊥ (Some refusal)
      → IsVerifiedUnlessRefused (Some refusal) seen.held files out (refused_report refusal)
  refused_unless files Usage came = λ seven. omega (arith, seven)
  refused_unless files (Script why) came = λ seven. omega (arith, seven)
  refused_unless files (Recording why) came = λ seven. omega (arith, seven)
  refused_unless files (ReadFault file) came = λ seven. omega (arith, seven)
  refused_unless files WriteFault came = absurd came.0
  refused_unless files Memory came = λ seven. omega (arith, seven)
  refused_unless files LongAccount came = tt
  refused_unless files (Denied why) came = absurd (denial_not_due (files_of order) contents why came)

pub refused_verified : (order : Order) (seen : ShelfUse) (out : SinkUse) (contents : List (List ℕ)) (refusal : Refusal)
    → MayCome (files_of order) contents (ShelfFailed seen) ⊥ (Some refusal) → Verified (Some order) seen out (refused_report refusal)
refused_verified (Run serial stats json script recording) seen out contents refusal came =
    plain_status (Run serial stats json script recording) seen out contents refusal (not_long_script contents script recording) came
refused_verified (Check script recording) seen out contents refusal came =
    plain_status (Check script recording) seen out contents refusal (not_long_script contents script recording) came
refused_verified (Code script recording) seen out contents refusal came =
    plain_status (Code script recording) seen out contents refusal (not_long_script contents script recording) came
refused_verified (Vet script recording) seen out contents refusal came =
    plain_status (Vet script recording) seen out contents refusal (not_long_script contents script recording) came
refused_verified (Account serial script recording) seen out contents refusal came =
    plain_status (Account serial script recording) seen out contents refusal (not_long_script contents script recording) came
refused_verified (Verify script recording account) seen out contents refusal came =
    refused_unless (Verify script recording account) seen out contents (on_account script recording account) refusal came
refused_verified (Gen x n) seen out contents refusal came = plain_status (Gen x n) seen out contents refusal (not_long_none contents) came
refused_verified (Big x n) seen out contents refusal came = plain_status (Big x n) seen out contents refusal (not_long_none contents) came

memory_status : status_of (Some Memory) ≢ 7
memory_status = λ seven. omega (arith, seven)

-- want of memory at the words
pub memory_verified : (order : Option Order) (seen : ShelfUse) (out : SinkUse) → Verified order seen out (refused_report Memory)
memory_verified None seen out = memory_status
memory_verified (Some (Run serial stats json script recording)) seen out = memory_status
memory_verified (Some (Check script recording)) seen out = memory_status
memory_verified (Some (Code script recording)) seen out = memory_status
memory_verified (Some (Vet script recording)) seen out = memory_status
memory_verified (Some (Account serial script recording)) seen out = memory_status
memory_verified (Some (Verify script recording account)) seen out = memory_status
memory_verified (Some (Gen x n)) seen out = memory_status
memory_verified (Some (Big x n)) seen out = memory_status
