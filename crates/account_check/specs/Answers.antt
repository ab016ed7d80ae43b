-- What is to be answered of bytes that may be an account of a run.
use Rattle.std.specs.Prelude.{ℕ, List, map, Result, Ok, Err}
use Rattle.bt_ast.specs.declared.attached.Attached.{Attached}
use Rattle.bt_core.specs.declared.step.Step.{Step}
use Rattle.recordings.specs.declared.recording.Recording.{Recording}
use Rattle.typed_tree.specs.declared.script.Typed.{Typed}
use Rattle.step_entries.specs.Blank.{blank}
use Rattle.bt_meaning.specs.Interleavings.{IsReplayed}
use Rattle.begun_meaning.specs.Wrong.{IsWrongStep, IsUnfinished}
use Rattle.account_format.specs.Accounts.{IsAccount}
use Rattle.account_format.specs.Wrong.{IsWrongAccount}
use Rattle.account_format.specs.declared.error.AccountError.{AccountError}
use Rattle.account_format.specs.declared.error.AccountError.TheVariants.{BadAccount, WrongStep, Unfinished, WrongText, Memory}
use Rattle.account_check.specs.Accounts.{named, run, text_after, IsTrueAccount}
use Rattle.account_check.specs.Differences.{DifferAt}

module _ (script : Typed) (attached : Attached) (r : Recording) (bytes : List ℕ) where
  -- the bytes are an account, and no run makes the step that the entry at this place tells, after those before it
  pub record HasWrongStep (place : ℕ) : Type 0 where
    pub entries : List Step
    pub text : List ℕ
    pub account : IsAccount (named script attached r) bytes entries text
    pub wrong : IsWrongStep (run script attached r) entries place

  -- the bytes are an account, and a run can make the steps that its entries tell, and goes on after them
  pub record HasUnfinished : Type 0 where
    pub entries : List Step
    pub text : List ℕ
    pub account : IsAccount (named script attached r) bytes entries text
    pub unfinished : IsUnfinished (run script attached r) entries

  -- the bytes are an account of the steps of a run, and from this byte on its text is not what they print
  pub record HasWrongText (at : ℕ) : Type 0 where
    pub steps : List Step
    pub text : List ℕ
    pub replayed : IsReplayed (run script attached r) steps
    pub account : IsAccount (named script attached r) bytes (map blank steps) text
    pub differ : DifferAt text (text_after script attached r steps) at

  -- the steps are those that a true account tells; and an error says what is wrong, but for want of memory, which tells nothing
  abbrev pub IsAnswerTo : Result (List Step) AccountError → Type 0
  IsAnswerTo (Ok steps) = IsTrueAccount script attached r bytes steps
  IsAnswerTo (Err (BadAccount at)) = IsWrongAccount (named script attached r) bytes at
  IsAnswerTo (Err (WrongStep place)) = HasWrongStep place
  IsAnswerTo (Err Unfinished) = HasUnfinished
  IsAnswerTo (Err (WrongText at)) = HasWrongText at
  IsAnswerTo (Err (Memory _)) = Unit {0}
