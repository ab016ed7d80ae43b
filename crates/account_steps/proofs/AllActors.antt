-- How far a written list can be made, by all actors: no further than each of them follows it.
use Rattle.std.proofs.Common.{◌≡◌, min, ℕ, suc, ◌<◌, ◌≤◌, Bool, true, false, List, [], ◌∷◌, ◌++◌, length, map, take, drop, get_or, sym, refl, ap, ◌∙◌, subst, arith, IsTrue}
use Rattle.std.proofs.lemmas.List.{take-append-drop, length-take-le, map-append}
use Rattle.std.proofs.Math.Seq.{drop-cons, take-length}
use mathlib.Core.Logic.{dite}
use native.Mathlib.Decide.{ℕ_discrete}
use Rattle.bt_core.specs.declared.step.Step.{Step}
use Rattle.bt_core.specs.Interaction.{Begins}
use Rattle.bt_core.specs.Steps.{of_actor}
use Rattle.bt_core.proofs.StepLists.{of_actor-append, of_actor-own}
use Rattle.bt_meaning.specs.Interleavings.{IsWhole}
use Rattle.bt_meaning.specs.Replays.{Replay}
use Rattle.step_entries.specs.Blank.{blank}
use Rattle.begun_meaning.specs.Begun.{IsBegun, program_of}
use Rattle.account_follow.specs.Followed.{Followed, IsFollowed}
use Rattle.step_entries.proofs.Computations.{Begins-front}
use Rattle.begun_meaning.specs.Wrong.{IsWrongStep}
use Rattle.begun_meaning.proofs.Cuts.{take_again}
use Rattle.begun_meaning.proofs.NoFurther.{wrong_step}
use Rattle.account_follow.proofs.FollowedLaws.{followed_begins}
use Rattle.account_steps.specs.Limits.{IsLimit}
use Rattle.account_steps.proofs.WholeFollowed.{by_program, followed_whole, not_whole}

module _ (p : Replay) (list : List Step) where
  pub no_limit : IsLimit p list (length list)
  no_limit = record { within = omega arith; none = λ d lt. absurd (omega arith) }

  -- the lesser of two limits is one
  pub less_limit : (j k : ℕ) → IsLimit p list j → IsLimit p list k → IsLimit p list (min j k)
  less_limit j k a b = dite (ℕ_discrete (min j k) j)
      (λ e. subst (IsLimit p list) (sym e) a)
      (λ ne. let e : min j k ≡ k = omega arith in subst (IsLimit p list) (sym e) b)

  -- what an actor followed, up to its next step
  module _ (a at j : ℕ) (on : Bool) (f : IsFollowed (program_of p a) a list at on) (within : j ≤ length list)
      (same : of_actor a (take j list) ≡ of_actor a (take at list)) (rest : of_actor a (drop j list) ≡ of_actor a (drop at list))
      (own : (d : Step) → j < length list → (get_or list j d).actor ≡ a) where
    here : Followed (program_of p a) (of_actor a (take j list)) f.strays (of_actor a (drop j list))
    here = subst (λ (z : List Step × List Step). Followed (program_of p a) z.0 f.strays z.1) (λ i. (sym same i, sym rest i)) f.followed

    pub followed_limit : IsLimit p list j
    followed_limit = record {
      within = within;
      none = λ d lt.
          let n = get_or list j d in
          let e : n.actor ≡ a = own d lt in
          let next : of_actor a (drop j list) ≡ n ∷ of_actor a (drop (suc j) list) = ap (of_actor a) (drop-cons list j d lt) ∙ of_actor-own a [] n (drop (suc j) list) e in
          by_program p (take j list) n f.strays (of_actor a (drop (suc j) list))
          (subst (λ b. Followed (program_of p b) (of_actor b (take j list)) f.strays (n ∷ of_actor a (drop (suc j) list))) (sym e)
          (subst (Followed (program_of p a) (of_actor a (take j list)) f.strays) next here));
    }

    pub followed_to : (k : ℕ) → k ≤ j → Begins (program_of p a) (of_actor a (take k list))
    followed_to k le = Begins-front (program_of p a) (of_actor a (take k list)) (of_actor a (drop k (take j list)))
        (subst (Begins (program_of p a)) (ap (of_actor a) (sym (take-append-drop k (take j list))) ∙ of_actor-append a (take k (take j list)) (drop k (take j list))
        ∙ ap (λ l. of_actor a l ++ of_actor a (drop k (take j list))) (take_again k j list le))
        (followed_begins (program_of p a) (of_actor a (take j list)) f.strays (of_actor a (drop j list)) here))

    -- the whole list was followed: then the program is whole or not, as all steps were made on it
    pub followed_whole_or_not : j ≡ length list → (IsTrue on → IsWhole (program_of p a) (of_actor a list)) × ((on ≡ false) → IsWhole (program_of p a) (of_actor a list) → ⊥)
    followed_whole_or_not e =
        let all : take j list ≡ list = ap (λ k. take k list) e ∙ take-length list in (
          λ t. subst (λ l. IsWhole (program_of p a) (of_actor a l)) all
              (followed_whole (program_of p a) (of_actor a (take j list)) (of_actor a (drop j list))
              (subst (λ s. Followed (program_of p a) (of_actor a (take j list)) s (of_actor a (drop j list))) (f.none.0 t) here)),
          λ no w. strayed f.strays (λ q. absurd (let t : IsTrue on = f.none.1 q in let z : false ≡ true = sym no ∙ t in let bad : ⊥ = cc in bad)) here (subst (λ l. IsWhole (program_of p a) (of_actor a l)) (sym all) w),
        )
      where
        strayed : (ss : List Step) → (ss ≡ [] → ⊥) → Followed (program_of p a) (of_actor a (take j list)) ss (of_actor a (drop j list)) → IsWhole (program_of p a) (of_actor a (take j list)) → ⊥
        strayed [] some g w = some refl
        strayed (s ∷ ss) some g w = not_whole (program_of p a) (of_actor a (take j list)) s ss (of_actor a (drop j list)) g w

  -- ---- the answers

  -- up to a limit the list can be made, and it has more: so that step is wrong
  pub wrong_at : (j : ℕ) (d : Step) → IsLimit p list j → IsBegun p (take j list) → j < length list → IsWrongStep p (map blank list) j
  wrong_at j d limit begun lt =
      let n = get_or list j d in
      let cut : take j list ++ n ∷ drop (suc j) list ≡ list = ap (λ l. take j list ++ l) (sym (drop-cons list j d lt)) ∙ take-append-drop j list in
      subst (λ (z : List Step × ℕ). IsWrongStep p z.0 z.1)
      (λ i. ((sym (map-append blank (take j list) (n ∷ drop (suc j) list)) ∙ ap (map blank) cut) i, length-take-le j list limit.within i))
      (wrong_step p (take j list) n (map blank (drop (suc j) list)) begun (limit.none d lt))
