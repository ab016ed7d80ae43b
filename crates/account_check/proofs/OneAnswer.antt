-- Of bytes there is one answer.
use Rattle.std.proofs.Common.{◌≡◌, ◌≢◌, ◌⊎◌, ℕ, List, map, Result, Ok, Err, inl, inr, refl, sym, ap, ◌∙◌, subst}
use Rattle.bt_ast.specs.declared.attached.Attached.{Attached}
use Rattle.bt_core.specs.declared.step.Step.{Step}
use Rattle.bt_core.specs.Want.{out_of_memory}
use Rattle.recordings.specs.declared.recording.Recording.{Recording}
use Rattle.typed_tree.specs.declared.script.Typed.{Typed}
use Rattle.step_entries.specs.Blank.{blank}
use Rattle.bt_meaning.specs.Interleavings.{IsReplayed}
use Rattle.bt_meaning.specs.Jobs.{IsJob}
use Rattle.begun_meaning.specs.Begun.{AreAllWhole, IsBegun}
use Rattle.begun_meaning.specs.Wrong.{IsWrongStep, IsUnfinished}
use Rattle.begun_meaning.proofs.Determined.{only_one}
use Rattle.begun_meaning.proofs.NoFurther.{none_wrong, not_both, same_wrong_step}
use Rattle.begun_meaning.proofs.WholeLists.{all_whole, begun_of_replayed}
use Rattle.account_format.specs.Accounts.{IsAccount}
use Rattle.account_format.specs.Wrong.{IsWrongAccount}
use Rattle.account_format.proofs.AccountLaws.{account_not_wrong, one_account, one_wrong_place}
use Rattle.account_format.proofs.BlankLaws.{account_of}
use Rattle.account_format.specs.declared.error.AccountError.{AccountError}
use Rattle.account_format.specs.declared.error.AccountError.TheVariants.{BadAccount, WrongStep, Unfinished, WrongText, Memory}
use Rattle.account_check.specs.Accounts.{IsTrueAccount, named, run, text_after}
use Rattle.account_check.specs.Answers.{IsAnswerTo}
use Rattle.account_check.specs.Differences.{DifferAt}
use Rattle.account_check.proofs.Differing.{not_itself, one_difference}
use Rattle.account_check.proofs.RunsTold.{MakeCalls, plans_own, steps_told}

module _ (script : Typed) (attached : Attached) (r : Recording) where
  abbrev Answer : Type 0
  Answer = Result (List Step) AccountError

  -- ---- what is found of the entries and the text of an account

  record Differs (entries : List Step) (text : List ℕ) (at : ℕ) : Type 0 where
    steps : List Step
    replayed : IsReplayed (run script attached r) steps
    told : map blank steps ≡ entries
    differ : DifferAt text (text_after script attached r steps) at

  record Agrees (entries : List Step) (text : List ℕ) (steps : List Step) : Type 0 where
    replayed : IsReplayed (run script attached r) steps
    told : map blank steps ≡ entries
    printed : text ≡ text_after script attached r steps

  abbrev Finds : List Step → List ℕ → Answer → Type 0
  Finds entries text (Ok steps) = Agrees entries text steps
  Finds entries text (Err (BadAccount at)) = ⊥
  Finds entries text (Err (WrongStep place)) = IsWrongStep (run script attached r) entries place
  Finds entries text (Err Unfinished) = IsUnfinished (run script attached r) entries
  Finds entries text (Err (WrongText at)) = Differs entries text at
  Finds entries text (Err (Memory m)) = ⊥

  begun : (steps : List Step) → IsReplayed (run script attached r) steps → IsBegun (run script attached r) steps
  begun steps replayed = begun_of_replayed (run script attached r) (plans_own script attached r) steps replayed

  whole : (steps : List Step) → IsReplayed (run script attached r) steps → AreAllWhole (run script attached r) steps
  whole steps replayed = all_whole (run script attached r) (plans_own script attached r) steps replayed

  same_steps : (steps others : List Step) → IsReplayed (run script attached r) steps → IsReplayed (run script attached r) others → map blank steps ≡ map blank others → steps ≡ others
  same_steps steps others one other same = only_one (run script attached r) steps others (begun steps one) (begun others other) same

  -- no entry of a run's steps is wrong, and they are not unfinished
  no_wrong : (entries steps : List Step) (place : ℕ) → IsReplayed (run script attached r) steps → map blank steps ≡ entries → IsWrongStep (run script attached r) entries place → ⊥
  no_wrong entries steps place replayed told wrong =
      none_wrong (run script attached r) steps place (begun steps replayed) (subst (λ (l : List Step). IsWrongStep (run script attached r) l place) (sym told) wrong)

  no_unfinished : (entries steps : List Step) → IsReplayed (run script attached r) steps → map blank steps ≡ entries → IsUnfinished (run script attached r) entries → ⊥
  no_unfinished entries steps replayed told unfinished =
      not_both (run script attached r) steps (begun steps replayed) (whole steps replayed) (subst (IsUnfinished (run script attached r)) (sym told) unfinished)

  not_wrong_and_unfinished : (entries : List Step) (place : ℕ) → IsWrongStep (run script attached r) entries place → IsUnfinished (run script attached r) entries → ⊥
  not_wrong_and_unfinished entries place wrong unfinished =
      none_wrong (run script attached r) unfinished.made place unfinished.begun (subst (λ (l : List Step). IsWrongStep (run script attached r) l place) (sym unfinished.told) wrong)

  text_agrees : (entries : List Step) (text : List ℕ) (steps : List Step) (at : ℕ) → Agrees entries text steps → Differs entries text at → ⊥
  text_agrees entries text steps at one other =
      let same : steps ≡ other.steps = same_steps steps other.steps one.replayed other.replayed (one.told ∙ sym other.told) in
      not_itself text at (subst (λ (t : List ℕ). DifferAt text t at) (sym (one.printed ∙ ap (text_after script attached r) same)) other.differ)

  module _ (entries : List Step) (text : List ℕ) where
    with_agreed : (steps : List Step) (b : Answer) → Agrees entries text steps → Finds entries text b → Ok steps ≡ b
    with_agreed steps (Ok others) h g = ap (λ (l : List Step). Ok l) (same_steps steps others h.replayed g.replayed (h.told ∙ sym g.told))
    with_agreed steps (Err (BadAccount at)) h g = absurd g
    with_agreed steps (Err (WrongStep place)) h g = absurd (no_wrong entries steps place h.replayed h.told g)
    with_agreed steps (Err Unfinished) h g = absurd (no_unfinished entries steps h.replayed h.told g)
    with_agreed steps (Err (WrongText at)) h g = absurd (text_agrees entries text steps at h g)
    with_agreed steps (Err (Memory m)) h g = absurd g

    with_wrong : (place : ℕ) (b : Answer) → IsWrongStep (run script attached r) entries place → Finds entries text b → Err (WrongStep place) ≡ b
    with_wrong place (Ok steps) h g = absurd (no_wrong entries steps place g.replayed g.told h)
    with_wrong place (Err (BadAccount at)) h g = absurd g
    with_wrong place (Err (WrongStep other)) h g = ap (λ (n : ℕ). Err (WrongStep n)) (same_wrong_step (run script attached r) entries place other h g)
    with_wrong place (Err Unfinished) h g = absurd (not_wrong_and_unfinished entries place h g)
    with_wrong place (Err (WrongText at)) h g = absurd (no_wrong entries g.steps place g.replayed g.told h)
    with_wrong place (Err (Memory m)) h g = absurd g

    with_unfinished : (b : Answer) → IsUnfinished (run script attached r) entries → Finds entries text b → Err Unfinished ≡ b
    with_unfinished (Ok steps) h g = absurd (no_unfinished entries steps g.replayed g.told h)
    with_unfinished (Err (BadAccount at)) h g = absurd g
    with_unfinished (Err (WrongStep place)) h g = absurd (not_wrong_and_unfinished entries place g h)
    with_unfinished (Err Unfinished) h g = refl
    with_unfinished (Err (WrongText at)) h g = absurd (no_unfinished entries g.steps g.replayed g.told h)
    with_unfinished (Err (Memory m)) h g = absurd g

    with_text : (at : ℕ) (b : Answer) → Differs entries text at → Finds entries text b → Err (WrongText at) ≡ b
    with_text at (Ok steps) h g = absurd (text_agrees entries text steps at g h)
    with_text at (Err (BadAccount other)) h g = absurd g
    with_text at (Err (WrongStep place)) h g = absurd (no_wrong entries h.steps place h.replayed h.told g)
    with_text at (Err Unfinished) h g = absurd (no_unfinished entries h.steps h.replayed h.told g)
    with_text at (Err (WrongText other)) h g =
        let same : g.steps ≡ h.steps = same_steps g.steps h.steps g.replayed h.replayed (g.told ∙ sym h.told) in
        ap (λ (n : ℕ). Err (WrongText n))
        (one_difference text (text_after script attached r h.steps) at other h.differ (subst (λ (l : List Step). DifferAt text (text_after script attached r l) other) same g.differ))
    with_text at (Err (Memory m)) h g = absurd g

    one_found : (a b : Answer) → Finds entries text a → Finds entries text b → a ≡ b
    one_found (Ok steps) b h g = with_agreed steps b h g
    one_found (Err (BadAccount at)) b h g = absurd h
    one_found (Err (WrongStep place)) b h g = with_wrong place b h g
    one_found (Err Unfinished) b h g = with_unfinished b h g
    one_found (Err (WrongText at)) b h g = with_text at b h g
    one_found (Err (Memory m)) b h g = absurd h

  -- ---- what is answered of bytes

  module _ (bytes : List ℕ) where
    record IsBad (a : Answer) : Type 0 where
      at : ℕ
      told : a ≡ Err (BadAccount at)
      wrong : IsWrongAccount (named script attached r) bytes at

    record IsRead (a : Answer) : Type 0 where
      entries : List Step
      text : List ℕ
      account : IsAccount (named script attached r) bytes entries text
      finds : Finds entries text a

    abbrev Seen : Answer → Type 0
    Seen a = (a ≡ Err (Memory out_of_memory)) ⊎ (IsBad a ⊎ IsRead a)

    module _ (job : IsJob script attached r) (calls : MakeCalls script attached r) where
      -- a true account is one of its steps as entries
      pub true_account : (steps : List Step) → IsTrueAccount script attached r bytes steps → IsAccount (named script attached r) bytes (map blank steps) (text_after script attached r steps)
      true_account steps h = account_of (named script attached r) bytes steps (text_after script attached r steps) (steps_told script attached r job steps h.replayed calls h.fits) h.few h.short h.spelled

      seen : (a : Answer) → IsAnswerTo script attached r bytes a → Seen a
      seen (Ok steps) h = inr (inr (record {
        entries = map blank steps;
        text = text_after script attached r steps;
        account = true_account steps h;
        finds = record { replayed = h.replayed; told = refl; printed = refl };
      }))
      seen (Err (BadAccount at)) h = inr (inl (record { at = at; told = refl; wrong = h }))
      seen (Err (WrongStep place)) h = inr (inr (record { entries = h.entries; text = h.text; account = h.account; finds = h.wrong }))
      seen (Err Unfinished) h = inr (inr (record { entries = h.entries; text = h.text; account = h.account; finds = h.unfinished }))
      seen (Err (WrongText at)) h = inr (inr (record {
        entries = map blank h.steps;
        text = h.text;
        account = h.account;
        finds = record { steps = h.steps; replayed = h.replayed; told = refl; differ = h.differ };
      }))
      seen (Err (Memory m)) h = inl refl

      both_seen : (a b : Answer) → Seen a → Seen b → b ≢ Err (Memory out_of_memory) → (a ≡ b) ⊎ (a ≡ Err (Memory out_of_memory))
      both_seen a b (inl none) y ne = inr none
      both_seen a b (inr x) (inl none) ne = absurd (ne none)
      both_seen a b (inr (inl one)) (inr (inl other)) ne =
          inl (one.told ∙ ap (λ (n : ℕ). Err (BadAccount n)) (one_wrong_place (named script attached r) bytes one.at other.at one.wrong other.wrong) ∙ sym other.told)
      both_seen a b (inr (inl one)) (inr (inr other)) ne = absurd (account_not_wrong (named script attached r) bytes other.entries other.text one.at other.account one.wrong)
      both_seen a b (inr (inr one)) (inr (inl other)) ne = absurd (account_not_wrong (named script attached r) bytes one.entries one.text other.at one.account other.wrong)
      both_seen a b (inr (inr one)) (inr (inr other)) ne =
          let same = one_account (named script attached r) bytes one.entries other.entries one.text other.text one.account other.account in
          inl (one_found other.entries other.text a b (subst (λ (z : List Step × List ℕ). Finds z.0 z.1 a) (λ i. (same.0 i, same.1 i)) one.finds) other.finds)

      pub one_answer : (a b : Answer) → IsAnswerTo script attached r bytes a → IsAnswerTo script attached r bytes b → b ≢ Err (Memory out_of_memory) → (a ≡ b) ⊎ (a ≡ Err (Memory out_of_memory))
      one_answer a b h g ne = both_seen a b (seen a h) (seen b g) ne

      pub one_true : (steps others : List Step) → IsTrueAccount script attached r bytes steps → IsTrueAccount script attached r bytes others → steps ≡ others
      one_true steps others h g =
          let told = (one_account (named script attached r) bytes (map blank steps) (map blank others) (text_after script attached r steps) (text_after script attached r others) (true_account steps h) (true_account others g)).0 in
          same_steps steps others h.replayed g.replayed told
