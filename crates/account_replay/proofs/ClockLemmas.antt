-- The clocks after one step more.
use Rattle.std.proofs.Common.{◌≡◌, ◌≢◌, ℕ, max, ◌<◌, ◌≤◌, List, [], ◌∷◌, ◌++◌, length, slice_index_or, slice_set, sym, ap, ◌∙◌, arith, ◌||◌, cond, Bool, eq-eqb, ne_eqb}
use Rattle.std.specs.List.{filter}
use Rattle.std.proofs.lemmas.List.{append-nil, get_or-set_same, get_or-set_other, length-set}
use mathlib.Core.Logic.{dite}
use native.Mathlib.Decide.{ℕ_discrete}
use Rattle.bt_core.specs.declared.step.Step.{Step}
use Rattle.bt_core.specs.Steps.{is_of, of_actor}
use Rattle.bt_core.proofs.StepLists.{of_actor-own, of_actor-other}
use Rattle.weave.specs.Lists.{greatest}
use Rattle.begun_meaning.specs.Begun.{clock_after}
use Rattle.begun_meaning.proofs.WholeLists.{of_both}
use Rattle.account_replay.specs.declared.clocks.Clocks.{Clocks}
use Rattle.account_replay.specs.Clocks.{TellClocks}

greatest_more : (steps : List Step) (s : Step) → greatest (steps ++ s ∷ []) ≡ max (greatest steps) s.stamp
greatest_more [] s = omega arith
greatest_more (x ∷ xs) s = let r = greatest_more xs s in omega arith

module _ (main : ℕ) (before : List Step) (clocks : Clocks) (tell : TellClocks main before clocks) where
  pub main_clock : (actor : ℕ) → actor ≡ main → clocks.top ≡ clock_after main before actor
  main_clock actor e =
      tell.top ∙ sym (ap (λ (b : Bool). cond b (greatest before) (greatest (filter (λ s. is_of main s || is_of actor s) before))) (eq-eqb actor main e))

  pub cpu_clock : (actor : ℕ) (c d : ℕ) → actor ≢ main → actor ≤ main
      → max (slice_index_or clocks.lasts.items main c) (slice_index_or clocks.lasts.items actor d) ≡ clock_after main before actor
  cpu_clock actor c d ne le =
      let n = tell.count in
      (λ i. max (tell.each main c (omega arith) i) (tell.each actor d (omega arith) i)) ∙ sym (of_both main actor before)
      ∙ sym (ap (λ (b : Bool). cond b (greatest before) (greatest (filter (λ s. is_of main s || is_of actor s) before))) (ne_eqb actor main ne))

  pub noted : (s : Step) (last : ℕ) → s.actor < length clocks.lasts.items → ((d : ℕ) → last ≡ slice_index_or clocks.lasts.items s.actor d)
      → (new : Clocks) → new.lasts.items ≡ slice_set clocks.lasts.items s.actor (max last s.stamp) → new.top ≡ max clocks.top s.stamp → TellClocks main (before ++ s ∷ []) new
  noted s last low is new lasts top = record {
    count = ap length lasts ∙ length-set clocks.lasts.items s.actor (max last s.stamp) ∙ tell.count;
    each = λ actor d lt. ap (λ l. slice_index_or l actor d) lasts ∙ by_actor actor d (let k = ap length lasts in let m = length-set clocks.lasts.items s.actor (max last s.stamp) in omega arith);
    top = top ∙ (let t = tell.top in let g = greatest_more before s in omega arith);
  }
    where
      by_actor : (actor d : ℕ) → actor < length clocks.lasts.items
          → slice_index_or (slice_set clocks.lasts.items s.actor (max last s.stamp)) actor d ≡ greatest (of_actor actor (before ++ s ∷ []))
      by_actor actor d lt = dite (ℕ_discrete s.actor actor)
          (λ e. ap (λ n. slice_index_or (slice_set clocks.lasts.items s.actor (max last s.stamp)) n d) (sym e) ∙ get_or-set_same clocks.lasts.items s.actor (max last s.stamp) d low
          ∙ ap (λ n. max n s.stamp) (is d ∙ ap (λ n. slice_index_or clocks.lasts.items n d) e ∙ tell.each actor d lt)
          ∙ sym (greatest_more (of_actor actor before) s) ∙ ap greatest (sym (of_actor-own actor before s [] e)))
          (λ ne. get_or-set_other clocks.lasts.items s.actor actor (max last s.stamp) d (λ e. ne (sym e)) ∙ tell.each actor d lt
          ∙ ap greatest (sym (of_actor-other actor before s [] ne ∙ append-nil (of_actor actor before))))
