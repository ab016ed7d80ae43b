-- What an interleaving has, for lists that are none.
use Rattle.std.proofs.Common.{◌≡◌, ℕ, ◌<◌, List, [], ◌∷◌, ◌++◌, refl, sym, ap, ◌∙◌, subst, inr, arith, append-nil}
use Rattle.std.specs.List.{AllByRecursion}
use Rattle.std.proofs.lemmas.List.Elements.{recursion_from_All}
use Rattle.bt_core.specs.declared.step.Step.{Step}
use Rattle.bt_core.specs.Interaction.{Interaction, Ended, Runs}
use Rattle.bt_core.specs.Steps.{of_actor}
use Rattle.weave.proofs.Among.{Has, has_back}
use Rattle.bt_meaning.specs.Interleavings.{IsInterleaving, IsWhole}
use Rattle.bt_meaning.specs.Replays.{Replay, begin_of, cpu_of, cpus_of, end_of}
use Rattle.bt_meaning.proofs.Eachs.{each_has}

none_made : {A : Type 0} (t : Interaction A) (a b : A) (steps : List Step) → t ≡ Ended a → Runs t steps b → steps ≡ []
none_made t a b steps e r = by_list steps (subst (λ u. Runs u steps b) e r)
  where
    by_list : (l : List Step) → Runs (Ended a) l b → l ≡ []
    by_list [] q = refl
    by_list (s ∷ ss) q = absurd q

module _ (p : Replay) (steps : List Step) (it : IsInterleaving p steps) (begin : begin_of p ≡ Ended 0) where
  from_middle : steps ≡ it.middle ++ it.last
  from_middle = it.parts ∙ ap (λ l. l ++ (it.middle ++ it.last)) (none_made (begin_of p) 0 it.begin.value it.first begin it.begin.runs)

  -- where there is no END either, each CPU makes its whole program
  pub whole_of : end_of p ≡ Ended 0 → (cpu : ℕ) → cpu < cpus_of p → IsWhole (cpu_of p cpu) (of_actor cpu steps)
  whole_of end cpu lt =
      let same : it.middle ≡ steps = sym (from_middle ∙ ap (λ l. it.middle ++ l) (none_made (end_of p) 0 it.end.value it.last end it.end.runs) ∙ append-nil it.middle) in
      subst (λ l. IsWhole (cpu_of p cpu) (of_actor cpu l)) same (it.each_cpu cpu lt)

  late_by : (middle before more : List Step) (last : List Step) (e c : Step) → middle ++ last ≡ before ++ e ∷ more → Has more c → e.actor ≡ cpus_of p → c.actor < cpus_of p
      → AllByRecursion (λ s. s.actor < cpus_of p) middle → AllByRecursion (λ s. s.actor ≡ cpus_of p) last → ⊥
  late_by [] before more last e c q h main cpu all ends =
      let by = each_has (λ (s : Step). s.actor ≡ cpus_of p) last c ends (subst (λ l. Has l c) (sym q) (has_back before (e ∷ more) c (inr h))) in omega arith
  late_by (m ∷ ms) [] more last e c q h main cpu all ends = let same : m ≡ e = cc in let by = ap (λ (s : Step). s.actor) same in let low = all.0 in omega arith
  late_by (m ∷ ms) (b ∷ bs) more last e c q h main cpu all ends =
      let rest : ms ++ last ≡ bs ++ e ∷ more = cc in late_by ms bs more last e c rest h main cpu all.1 ends

  -- no CPU makes a step behind one of END
  pub none_late : (before : List Step) (e : Step) (more : List Step) (c : Step) → steps ≡ before ++ e ∷ more → Has more c → e.actor ≡ cpus_of p → c.actor < cpus_of p → ⊥
  none_late before e more c q h main cpu =
      late_by it.middle before more it.last e c (sym from_middle ∙ q) h main cpu
      (recursion_from_All (λ (s : Step). s.actor < cpus_of p) it.middle it.middle_is_cpus) (recursion_from_All (λ (s : Step). s.actor ≡ cpus_of p) it.last it.end_is_main)
