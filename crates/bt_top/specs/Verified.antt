-- What `verify` says of an account.
use Rattle.std.specs.Prelude.{◌≡◌, ◌≢◌, ◌↔◌, ℕ, List, length, Option, Some, None, Ok, Err}
use Rattle.std.specs.Io.KnownBytes.{Appends}
use Rattle.account_check.specs.Accounts.{IsTrueAccount}
use Rattle.account_check.specs.Answers.{IsAnswerTo}
use Rattle.account_format.specs.declared.error.AccountError.{AccountError}
use Rattle.account_format.specs.declared.error.AccountError.TheVariants as wrong
use Rattle.bt_core.specs.declared.step.Step.{Step}
use Rattle.bt_core.specs.Want.{out_of_memory}
use Rattle.bt_words.specs.declared.order.Order.{Order}
use Rattle.bt_words.specs.declared.order.Order.TheVariants.{Verify}
use Rattle.top_refusals.specs.declared.refusal.Denial.TheVariants as denial
use Rattle.top_refusals.specs.declared.refusal.Refusal.{Refusal}
use Rattle.top_refusals.specs.declared.refusal.Refusal.TheVariants.{WriteFault, LongAccount, Denied}
use Rattle.top_jobs.specs.Jobs.{account_in}
use Rattle.top_refusals.specs.Lines.{SinkUse}
use Rattle.top_jobs.specs.Meanings.{Meaning, IsMeaningFor}
use Rattle.top_refusals.specs.Orders.{OperandFile, on_account}
use Rattle.top_jobs.specs.Reads.{ShelfUse, AreContentsOf}
use Rattle.bt_top.specs.declared.report.Report.{Report}
use Rattle.bt_top.specs.Outcomes.{verified_line}

-- these bytes are the account of these steps, which a run with this meaning can make, and of the text that they print
abbrev pub TellsRun : Meaning → List ℕ → List Step → Type 0
TellsRun m bytes steps = IsTrueAccount m.typed m.attached m.recording bytes steps

-- this is wrong with them
pub record IsWrongBy (m : Meaning) (bytes : List ℕ) (error : AccountError) : Type 0 where
  pub known : error ≢ wrong.Memory out_of_memory
  pub is : IsAnswerTo m.typed m.attached m.recording bytes (Err error)

-- something is wrong with them
abbrev pub IsWrong : Meaning → List ℕ → Type 0
IsWrong m bytes = (error : AccountError) × IsWrongBy m bytes error

-- The three files hold a script and a recording with a meaning, and an account. The status is 7 exactly where something is wrong with the account;
-- that is told, and it is the one thing that can be told. Else the account tells a run with this meaning, and at status 0 the number of its steps
-- was written.
pub record IsVerified (held : List ℕ → Option (List ℕ)) (files : List OperandFile) (out : SinkUse) (report : Report) : Type 0 where
  pub contents : List (List ℕ)
  pub read : AreContentsOf held files contents
  pub meaning : Meaning
  pub accepted : IsMeaningFor files contents meaning
  pub exact : (report.status ≡ 7) ↔ IsWrong meaning (account_in contents)
  pub told : (error : AccountError) → (report.refusal ≡ Some (Denied (denial.Account error))) ↔ IsWrongBy meaning (account_in contents) error
  pub right : report.status ≢ 7 → (steps : List Step) × TellsRun meaning (account_in contents) steps
  pub line : report.status ≡ 0
      → (steps : List Step) × TellsRun meaning (account_in contents) steps × Appends out.taken out.taken_after (verified_line (length steps))

-- So it is wherever the account was checked. Else the status is another, unless the account is too long, as it is told at its read.
abbrev pub IsVerifiedUnlessRefused : Option Refusal → (List ℕ → Option (List ℕ)) → List OperandFile → SinkUse → Report → Type 0
IsVerifiedUnlessRefused None held files out report = IsVerified held files out report
IsVerifiedUnlessRefused (Some WriteFault) held files out report = IsVerified held files out report
IsVerifiedUnlessRefused (Some (Denied (denial.Account error))) held files out report = IsVerified held files out report
IsVerifiedUnlessRefused (Some LongAccount) held files out report = Unit {0}
IsVerifiedUnlessRefused (Some refusal) held files out report = report.status ≢ 7

-- status 7 is of `verify` alone
abbrev pub Verified : Option Order → ShelfUse → SinkUse → Report → Type 0
Verified (Some (Verify script recording account)) shelf out report =
    IsVerifiedUnlessRefused report.refusal shelf.held (on_account script recording account) out report
Verified order shelf out report = report.status ≢ 7
