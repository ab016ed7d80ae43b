-- What the output was offered, from how an outcome was written.
use Rattle.std.proofs.Common.{◌≡◌, ℕ, List, [], ◌++◌, length, refl, sym, ap, subst, append-nil, inl, inr}
use Rattle.std.specs.Prelude.{Option, Some, None, Result, Ok, Err}
use Rattle.std.specs.Io.KnownBytes.{Keeps}
use Rattle.bt_io.specs.Offers.{OffersAllLeft}
use Rattle.account_format.specs.declared.error.AccountError.{AccountError}
use Rattle.bt_core.specs.declared.step.Step.{Step}
use Rattle.bt_words.specs.declared.order.Order.{Order}
use Rattle.bt_words.specs.declared.order.Order.TheVariants.{Run, Check, Code, Vet, Account, Verify, Gen, Big}
use Rattle.run_output.specs.declared.job.Job.{Job}
use Rattle.top_refusals.specs.declared.refusal.Denial.{Denial}
use Rattle.top_refusals.specs.declared.refusal.Refusal.{Refusal}
use Rattle.top_refusals.specs.declared.refusal.Refusal.TheVariants.{Usage, Script, Recording, ReadFault, WriteFault, Memory, LongAccount, Denied}
use Rattle.top_refusals.specs.Lines.{SinkUse}
use Rattle.top_refusals.specs.Orders.{OperandFile}
use Rattle.top_jobs.specs.Reads.{MayCome}
use Rattle.bt_top.specs.declared.outcome.Outcome.{Outcome}
use Rattle.bt_top.specs.Writing.{Wrote}
use Rattle.bt_top.specs.Offered.{IsOffered, OffersBoth, text_shown}
use Rattle.bt_top.specs.Outcomes.{ComesTo, IsOutcomeOfVet, accepted_outcome, bytes_written, refused_outcome, shown_text, verify_outcome, work_text}
use Rattle.bt_top.specs.Serve.{IsWritten}
use Rattle.bt_top.proofs.Answering.{refused_report, report_of}

-- where no call took bytes all are left
pub no_offers : (told : Option (List (ℕ × ℕ))) (count : ℕ) → OffersAllLeft told told count
no_offers None count = (count, tt)
no_offers (Some calls) count = (count, record { calls = []; grew = sym (append-nil calls); are_offers = refl })

pub no_offers_both : (told : Option (List (ℕ × ℕ))) (text rest : ℕ) → OffersBoth told told text rest
no_offers_both told text rest = record { between = told; first = no_offers told text; behind = no_offers told rest }

-- however an outcome was written, its bytes were, or a prefix of them
written_by : (out : SinkUse) (found : Option Denial) (refusal : Option Refusal) (bytes : List ℕ) → Wrote out found refusal bytes → IsWritten out refusal bytes
written_by out None refusal bytes (inl e) = subst (λ (r : Option Refusal). IsWritten out r bytes) (sym e.0) e.1
written_by out None refusal bytes (inr e) = subst (λ (r : Option Refusal). IsWritten out r bytes) (sym e.0) e.2
written_by out (Some why) refusal bytes e = subst (λ (r : Option Refusal). IsWritten out r bytes) (sym e.0) e.1

-- the text that is written is that of the work, but for `account`
checked_text : (answer : Result (List Step) AccountError) → work_text (verify_outcome answer).work ≡ shown_text (verify_outcome answer)
checked_text (Ok steps) = refl
checked_text (Err error) = refl

all_shown : (outcome other : Outcome) → outcome ≡ other → work_text other.work ≡ shown_text other → work_text outcome.work ≡ shown_text outcome
all_shown outcome other is same = subst (λ (o : Outcome). work_text o.work ≡ shown_text o) (sym is) same

vet_shown : (job : Job) (outcome : Outcome) → IsOutcomeOfVet job outcome → work_text outcome.work ≡ shown_text outcome
vet_shown job outcome (inl e) = all_shown outcome (accepted_outcome job) e.1 refl
vet_shown job outcome (inr e) = all_shown outcome (refused_outcome job e.0) e.2 refl

same_shown : (order : Order) (contents : List (List ℕ)) (outcome : Outcome) → ComesTo order contents outcome
    → text_shown (Some order) outcome.work ≡ shown_text outcome
same_shown (Run serial stats json script recording) contents outcome comes = all_shown outcome _ comes.2.is refl
same_shown (Check script recording) contents outcome comes = all_shown outcome _ comes.2 refl
same_shown (Code script recording) contents outcome comes = all_shown outcome _ comes.2 refl
same_shown (Vet script recording) contents outcome comes = vet_shown comes.0 outcome comes.2
same_shown (Account serial script recording) contents outcome comes =
    sym (ap (λ (o : Outcome). shown_text o) comes.2.is)
same_shown (Verify script recording account) contents outcome comes = all_shown outcome _ comes.2.is (checked_text comes.2.answer)
same_shown (Gen x n) contents outcome comes = all_shown outcome _ comes.2 refl
same_shown (Big x n) contents outcome comes = all_shown outcome _ comes.2.is refl

pub done_offered : (order : Order) (contents : List (List ℕ)) (out : SinkUse) (old new : Option (List (ℕ × ℕ))) (outcome : Outcome) (refusal : Option Refusal)
    → ComesTo order contents outcome → Wrote out outcome.refused refusal (bytes_written outcome)
    → OffersBoth old new (length (shown_text outcome)) (length outcome.rest) → IsOffered (Some order) out old new (report_of refusal outcome)
done_offered order contents out old new outcome refusal comes wrote both =
    let same = sym (same_shown order contents outcome comes) in
    record {
      rest = outcome.rest;
      written = subst (λ (text : List ℕ). IsWritten out refusal (text ++ outcome.rest)) same
          (written_by out outcome.refused refusal (bytes_written outcome) wrote);
      offered = subst (λ (text : List ℕ). OffersBoth old new (length text) (length outcome.rest)) same both;
    }

-- nothing is written of what is refused
none_shown : (order : Option Order) → text_shown order None ≡ []
none_shown None = refl
none_shown (Some (Run serial stats json script recording)) = refl
none_shown (Some (Check script recording)) = refl
none_shown (Some (Code script recording)) = refl
none_shown (Some (Vet script recording)) = refl
none_shown (Some (Account serial script recording)) = refl
none_shown (Some (Verify script recording account)) = refl
none_shown (Some (Gen x n)) = refl
none_shown (Some (Big x n)) = refl

none_offered : (order : Option Order) (out : SinkUse) (told : Option (List (ℕ × ℕ))) (refusal : Refusal) → IsWritten out (Some refusal) []
    → IsOffered order out told told (refused_report refusal)
none_offered order out told refusal written =
    let same = sym (none_shown order) in
    record {
      rest = [];
      written = subst (λ (text : List ℕ). IsWritten out (Some refusal) (text ++ [])) same written;
      offered = no_offers_both told (length (text_shown order None)) 0;
    }

-- where something is refused before the write nothing is offered
module _ (files : List OperandFile) (contents : List (List ℕ)) (failed : Type 0) (out : SinkUse) (keeps : Keeps out.taken out.taken_after) where
  kept_by : (refusal : Refusal) → MayCome files contents failed ⊥ (Some refusal) → IsWritten out (Some refusal) []
  kept_by Usage came = keeps
  kept_by (Script why) came = keeps
  kept_by (Recording why) came = keeps
  kept_by (ReadFault file) came = keeps
  kept_by WriteFault came = absurd came.0
  kept_by Memory came = keeps
  kept_by LongAccount came = keeps
  kept_by (Denied why) came = keeps

  pub refused_offered : (order : Option Order) (told : Option (List (ℕ × ℕ))) (refusal : Refusal) → MayCome files contents failed ⊥ (Some refusal)
      → IsOffered order out told told (refused_report refusal)
  refused_offered order told refusal came = none_offered order out told refusal (kept_by refusal came)

pub words_offered : (order : Option Order) (out : SinkUse) → Keeps out.taken out.taken_after → (told : Option (List (ℕ × ℕ)))
    → IsOffered order out told told (refused_report Memory)
words_offered order out keeps told = none_offered order out told Memory keeps

pub usage_offered : (order : Option Order) (out : SinkUse) → Keeps out.taken out.taken_after → (told : Option (List (ℕ × ℕ)))
    → IsOffered order out told told (refused_report Usage)
usage_offered order out keeps told = none_offered order out told Usage keeps
