-- Where a program that was followed through a list is whole, and what cannot come next in the list.
use Rattle.std.proofs.Common.{◌≡◌, List, [], ◌∷◌, ◌++◌, ap, subst}
use Rattle.std.proofs.lemmas.List.{append-nil}
use Rattle.bt_core.specs.declared.step.Step.{Step}
use Rattle.bt_core.specs.Interaction.{Interaction, Begins, Runs}
use Rattle.bt_core.specs.Steps.{of_actor}
use Rattle.bt_meaning.specs.Interleavings.{IsWhole}
use Rattle.bt_meaning.specs.Replays.{Replay}
use Rattle.step_entries.proofs.Computations.{Runs-Begins-all, whole_ends}
use Rattle.begun_meaning.specs.Begun.{program_of}
use Rattle.begun_meaning.specs.Wrong.{NoneFollows}
use Rattle.account_follow.specs.Followed.{Followed}
use Rattle.account_follow.proofs.FollowedLaws.{never_next}

module _ {A : Type 0} (t : Interaction A) where
  pub followed_whole : (xs rest : List Step) → Followed t xs [] rest → IsWhole t xs
  followed_whole xs rest f = record { value = f.value; runs = subst (λ l. Runs t l f.value) (append-nil xs) f.runs }

  -- the list has nothing next, and it goes on
  pub not_whole : (xs : List Step) (s : Step) (ss rest : List Step) → Followed t xs (s ∷ ss) rest → IsWhole t xs → ⊥
  not_whole xs s ss rest f w = whole_ends t xs s ss w.value w.runs (Runs-Begins-all t (xs ++ s ∷ ss) f.value f.runs)

module _ (p : Replay) where
  -- the actor's program does not go on so
  pub by_program : (us : List Step) (n : Step) (strays rest : List Step) → Followed (program_of p n.actor) (of_actor n.actor us) strays (n ∷ rest) → NoneFollows p us n
  by_program us n strays rest f v e may =
      let a : v.actor ≡ n.actor = ap (λ (s : Step). s.actor) e in
      never_next (program_of p n.actor) (of_actor n.actor us) strays n rest f v
      (λ i. record { object = (e i).object; op = (e i).op })
      (subst (λ m. Begins (program_of p m) (of_actor m us ++ v ∷ [])) a may.asked)
