-- What is told of an account whose bytes are not read is so.
use Rattle.std.proofs.Common.{◌≡◌, ℕ, List, Result, Err, refl, sym, ◌∙◌, subst}
use Rattle.std.specs.Prelude.{IfErr}
use Rattle.bt_ast.specs.declared.attached.Attached.{Attached}
use Rattle.bt_core.specs.Ports.{Setting}
use Rattle.recordings.specs.declared.recording.Recording.{Recording}
use Rattle.typed_tree.specs.declared.script.Typed.{Typed}
use Rattle.account_format.specs.declared.error.AccountFault.{AccountFault}
use Rattle.account_format.specs.declared.error.AccountFault.TheVariants as faults
use Rattle.account_format.specs.Wrong.{IsWrongAccount}
use Rattle.account_format.specs.declared.error.AccountError.{AccountError}
use Rattle.account_check.specs.Accounts.{named}
use Rattle.account_check.specs.Answers.{IsAnswerTo}
use Rattle.account_format.specs.Faults.{error_of}

module _ (script : Typed) (attached : Attached) (r : Recording) (bytes : List ℕ) (setting : Setting) (same : setting ≡ named script attached r) where
  told_by : (fault : AccountFault) → ((offset : ℕ) → fault ≡ faults.BadAccount offset → IsWrongAccount setting bytes offset) → IsAnswerTo script attached r bytes (Err (error_of fault))
  told_by (faults.BadAccount offset) wrong = subst (λ (s : Setting). IsWrongAccount s bytes offset) same (wrong offset refl)
  told_by (faults.Memory m) wrong = tt

  pub fault_told : {T : Type 0} (result : Result T AccountError) (e : AccountError) (fault : AccountFault) → result ≡ Err e → e ≡ error_of fault
      → ((offset : ℕ) → fault ≡ faults.BadAccount offset → IsWrongAccount setting bytes offset) → IfErr result (λ error. IsAnswerTo script attached r bytes (Err error))
  fault_told {T = T} result e fault is gives wrong =
      subst (λ (x : Result T AccountError). IfErr x (λ error. IsAnswerTo script attached r bytes (Err error))) (sym (is ∙ (λ i. Err (gives i)))) (told_by fault wrong)
