-- Where BEGIN is done, its place was passed: what code tests by places is what the barriers speak of.
use Rattle.std.proofs.Common.{◌≡◌, ◌⊎◌, ℕ, zero, suc, ◌<◌, ◌≤◌, Bool, List, [], ◌∷◌, ◌++◌, length, take, drop, get_or, slice_index_or, sym, refl, ap, ◌∙◌, subst, arith, IsTrue, inl, inr}
use Rattle.std.proofs.lemmas.List.{append_assoc, take-append-drop, length-append, length-take-le, drop-append-le}
use Rattle.weave.proofs.Less.{less_or_not}
use Rattle.bt_core.specs.declared.step.Step.{Step}
use Rattle.bt_core.specs.Interaction.{Interaction, Begins}
use Rattle.bt_core.specs.Steps.{of_actor}
use Rattle.bt_core.proofs.StepLists.{of_actor-append}
use Rattle.begun_meaning.specs.Begun.{HasDone}
use Rattle.account_follow.specs.Followed.{Followed, IsFollowed}
use Rattle.step_entries.proofs.Computations.{Begins-front, Runs-Begins-all}
use Rattle.account_follow.proofs.FollowLemmas.{take_own}
use Rattle.account_follow.proofs.FollowedLaws.{never_next}
use Rattle.account_steps.proofs.Barriers.{split_front, no_more}

-- of two fronts of one list the one is a front of the other
fronts : (xs ys us vs : List Step) → xs ++ us ≡ ys ++ vs → ((m : List Step) × (ys ≡ xs ++ m)) ⊎ ((y : Step) × ((m : List Step) × (xs ≡ ys ++ y ∷ m) × (vs ≡ y ∷ (m ++ us))))
fronts [] ys us vs e = inl (ys, refl)
fronts (x ∷ xs) [] us vs e = inr (x, (xs, refl, sym e))
fronts (x ∷ xs) (y ∷ ys) us vs e =
    let head : x ≡ y = cc in
    let tail : xs ++ us ≡ ys ++ vs = cc in
    elim (fronts xs ys us vs tail) [
      | inl r ↦ inl (r.0, (λ i. sym head i ∷ r.1 i))
      | inr r ↦ inr (r.0, (r.1.0, (λ i. head i ∷ r.1.1 i), r.1.2))
    ]

not_none : (xs ys : List Step) (s : Step) (zs : List Step) → xs ++ (ys ++ s ∷ zs) ≡ [] → ⊥
not_none xs ys s zs e = let k = ap length e ∙ refl in let m = length-append xs (ys ++ s ∷ zs) in let n = length-append ys (s ∷ zs) in omega arith

module _ {A : Type 0} (t : Interaction A) (a : ℕ) (list : List Step) (at : ℕ) (on : Bool) (f : IsFollowed t a list at on) (room : at ≤ length list)
    (last_own : (n : ℕ) (d : Step) → at ≡ suc n → (slice_index_or list n d).actor ≡ a) (j : ℕ) (le : j ≤ length list) (done : HasDone t (of_actor a (take j list))) where
  begins : Begins t (of_actor a (take at list) ++ f.strays)
  begins = Runs-Begins-all t (of_actor a (take at list) ++ f.strays) f.followed.value f.followed.runs

  passed : at ≤ j
  passed = elim (less_or_not j at) [
    | inl lt ↦ absurd (short at refl lt)
    | inr k ↦ k
  ]
    where
      short : (n : ℕ) → n ≡ at → j < n → ⊥
      short zero e lt = absurd (omega arith)
      short (suc n) e lt =
          let d = first_of list (omega arith) in
          let own = last_own n d (sym e) in
          let g = get_or list n d in
          let cut : of_actor a (take at list) ≡ (done.made ++ done.more) ++ (of_actor a (drop j (take n list)) ++ g ∷ []) =
          ap (λ k. of_actor a (take k list)) (sym e) ∙ take_own a list n d (omega arith) own
          ∙ ap (λ l. l ++ g ∷ []) (split_front a list j n (omega arith) ∙ ap (λ l. l ++ of_actor a (drop j (take n list))) done.parts)
          ∙ append_assoc (done.made ++ done.more) (of_actor a (drop j (take n list))) (g ∷ []) in
          let b = Begins-front t (of_actor a (take at list)) f.strays begins in
          not_none done.more (of_actor a (drop j (take n list))) g []
          (no_more t done.made (done.more ++ (of_actor a (drop j (take n list)) ++ g ∷ [])) done.whole
          (subst (Begins t) (cut ∙ append_assoc done.made done.more (of_actor a (drop j (take n list)) ++ g ∷ [])) b))
        where
          first_of : (l : List Step) → 0 < length l → Step
          first_of [] lt = absurd (omega arith)
          first_of (x ∷ xs) lt = x

  made_on_list : IsTrue on
  made_on_list = by_strays f.strays refl
    where
      rest_is : of_actor a (drop at list) ≡ of_actor a (drop at (take j list)) ++ of_actor a (drop j list)
      rest_is = ap (of_actor a) (ap (drop at) (sym (take-append-drop j list)) ∙ drop-append-le at (take j list) (drop j list) (let k = length-take-le j list le in let q = passed in omega arith))
          ∙ of_actor-append a (drop at (take j list)) (drop j list)

      by_strays : (ss : List Step) → ss ≡ f.strays → IsTrue on
      by_strays [] e = f.none.1 (sym e)
      by_strays (s ∷ ss) e =
          let b : Begins t (of_actor a (take at list) ++ s ∷ ss) = subst (λ l. Begins t (of_actor a (take at list) ++ l)) (sym e) begins in
          let g : Followed t (of_actor a (take at list)) (s ∷ ss) (of_actor a (drop at list)) = subst (λ l. Followed t (of_actor a (take at list)) l (of_actor a (drop at list))) (sym e) f.followed in
          elim (fronts done.made (of_actor a (take at list)) done.more (of_actor a (drop at (take j list))) (sym done.parts ∙ split_front a list at j passed)) [
            | inl r ↦ absurd (not_none r.0 [] s ss (no_more t done.made (r.0 ++ s ∷ ss) done.whole
                (subst (Begins t) (ap (λ l. l ++ s ∷ ss) r.1 ∙ append_assoc done.made r.0 (s ∷ ss)) b)))
            | inr r ↦ absurd (
                let next : of_actor a (drop at list) ≡ r.0 ∷ ((r.1.0 ++ done.more) ++ of_actor a (drop j list)) = rest_is ∙ ap (λ l. l ++ of_actor a (drop j list)) r.1.2 in
                let w = Runs-Begins-all t done.made done.whole.value done.whole.runs in
                never_next t (of_actor a (take at list)) (s ∷ ss) r.0 ((r.1.0 ++ done.more) ++ of_actor a (drop j list))
                (subst (Followed t (of_actor a (take at list)) (s ∷ ss)) next g) r.0 refl
                (Begins-front t (of_actor a (take at list) ++ r.0 ∷ []) r.1.0 (subst (Begins t) (r.1.1 ∙ sym (append_assoc (of_actor a (take at list)) (r.0 ∷ []) r.1.0)) w)))
          ]

  -- where the computation is done, it made all its steps on the list, and its place was passed
  pub place_passed : IsTrue on × (at ≤ j)
  place_passed = (made_on_list, passed)
