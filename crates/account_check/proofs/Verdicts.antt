-- What is answered of an account whose entries were checked.
use Rattle.std.proofs.Common.{◌≡◌, ◌<◌, ◌^◌, ℕ, List, [], ◌∷◌, length, map, refl, sym, ap, ◌∙◌, subst}
use Rattle.std.specs.List.{AllByRecursion}
use Rattle.std.proofs.lemmas.List.{length-map}
use Rattle.bt_ast.specs.declared.attached.Attached.{Attached}
use Rattle.bt_core.specs.declared.step.Step.{Step}
use Rattle.recordings.specs.declared.recording.Recording.{Recording}
use Rattle.typed_tree.specs.declared.script.Typed.{Typed}
use Rattle.step_entries.specs.Blank.{blank}
use Rattle.bt_meaning.specs.Interleavings.{IsReplayed}
use Rattle.bt_meaning.specs.Jobs.{IsJob}
use Rattle.account_format.specs.Entries.{FitsStep, IsEntry}
use Rattle.account_format.specs.Accounts.{IsAccount, account_bytes}
use Rattle.account_format.proofs.BlankLaws.{account_of}
use Rattle.account_check.specs.Accounts.{IsTrueAccount, named, run, text_after}
use Rattle.account_check.specs.Answers.{HasWrongText}
use Rattle.account_check.specs.Differences.{DifferAt}
use Rattle.account_check.proofs.EntryLemmas.{steps_fit}
use Rattle.account_check.proofs.RunsTold.{MakeCalls, steps_told}

module _ (script : Typed) (attached : Attached) (r : Recording) where
  entries_fit : (entries : List Step) → AllByRecursion (IsEntry (named script attached r)) entries → AllByRecursion FitsStep entries
  entries_fit [] each = tt
  entries_fit (s ∷ ss) each = (each.0.told.fits, entries_fit ss each.1)

  module _ (bytes : List ℕ) (entries : List Step) (text : List ℕ) (account : IsAccount (named script attached r) bytes entries text)
      (steps : List Step) (replayed : IsReplayed (run script attached r) steps) (told : map blank steps ≡ entries) (printed : List ℕ) (prints : printed ≡ text_after script attached r steps) where
    -- the text differs from what the steps print
    pub wrong_text : (at : ℕ) → DifferAt text printed at → HasWrongText script attached r bytes at
    wrong_text at differ = record {
      steps = steps;
      text = text;
      replayed = replayed;
      account = subst (λ (l : List Step). IsAccount (named script attached r) bytes l text) (sym told) account;
      differ = subst (λ (t : List ℕ). DifferAt text t at) prints differ;
    }

    -- or it is what they print
    pub true_of : IsJob script attached r → MakeCalls script attached r → text ≡ printed → IsTrueAccount script attached r bytes steps
    true_of job calls same =
        let fits : AllByRecursion FitsStep steps = steps_fit steps (subst (AllByRecursion FitsStep) (sym told) (entries_fit entries account.each)) in
        let few : length steps < 2 ^ 64 = subst (λ (n : ℕ). n < 2 ^ 64) (ap length (sym told) ∙ length-map steps blank) account.few in
        let is : text ≡ text_after script attached r steps = same ∙ prints in
        let short : length (text_after script attached r steps) < 2 ^ 64 = subst (λ (t : List ℕ). length t < 2 ^ 64) is account.short in
        let spelled : account_bytes steps (text_after script attached r steps) ≡ account_bytes (map blank steps) (text_after script attached r steps) =
        (account_of (named script attached r) (account_bytes steps (text_after script attached r steps)) steps (text_after script attached r steps) (steps_told script attached r job steps replayed calls fits) few short refl).spelled in
        record {
          replayed = replayed;
          fits = fits;
          few = few;
          short = short;
          spelled = account.spelled ∙ (λ i. account_bytes (sym told i) (is i)) ∙ sym spelled;
        }
