-- Stamps are no part of an interleaving.
use Rattle.std.proofs.Common.{◌≡◌, ℕ, ◌<◌, List, [], ◌∷◌, ◌++◌, map, length, refl, sym, ap, ◌∙◌, subst}
use Rattle.std.specs.Prelude.{All}
use Rattle.std.specs.List.{AllByRecursion}
use Rattle.std.proofs.lemmas.List.Elements.{All-from_recursion, recursion_from_All}
use Rattle.bt_core.specs.declared.step.Step.{Step}
use Rattle.bt_core.specs.Interaction.{Asks, Ended, Interaction, Runs}
use Rattle.bt_core.specs.Steps.{of_actor, on_object, operations, RepliesFollow}
use Rattle.bt_meaning.specs.Interleavings.{IsInterleaving, IsWhole}
use Rattle.bt_meaning.specs.Replays.{Replay, answers_of, begin_of, cpu_of, end_of}
use Rattle.bt_meaning.specs.Serial.{unstamped}
use Rattle.bt_meaning.proofs.Stepping.{unstamped_append, unstamped_of_actor, unstamped_on_object, unstamped_operations}

stamped_runs : {A : Type 0} (t : Interaction A) (steps : List Step) (a : A) → Runs t (map unstamped steps) a → Runs t steps a
stamped_runs (Ended v) [] a r = r
stamped_runs (Ended v) (s ∷ ss) a r = absurd r
stamped_runs (Asks c f) [] a r = absurd r
stamped_runs (Asks c f) (s ∷ ss) a r = (r.0, stamped_runs (f s.reply) ss a r.1)

pub stamped_whole : {A : Type 0} (t : Interaction A) (steps : List Step) → IsWhole t (map unstamped steps) → IsWhole t steps
stamped_whole t steps w = record { value = w.value; runs = stamped_runs t steps w.value w.runs }

-- where the list without stamps is two lists, it is two
record Halves (steps us vs : List Step) : Type 0 where
  front : List Step
  back : List Step
  whole : steps ≡ front ++ back
  first : map unstamped front ≡ us
  rest : map unstamped back ≡ vs

halves : (steps us vs : List Step) → map unstamped steps ≡ us ++ vs → Halves steps us vs
halves steps [] vs e = record { front = []; back = steps; whole = refl; first = refl; rest = e }
halves [] (u ∷ us) vs e = absurd (let t : ⊥ = cc in t)
halves (s ∷ ss) (u ∷ us) vs e =
    let head : unstamped s ≡ u = cc in
    let tail : map unstamped ss ≡ us ++ vs = cc in
    let r = halves ss us vs tail in
    record { front = s ∷ r.front; back = r.back; whole = ap (λ l. s ∷ l) r.whole; first = (λ i. head i ∷ r.first i); rest = r.rest }

each_stamped : (P : ℕ → Type 0) (steps : List Step) → AllByRecursion (λ (s : Step). P s.actor) (map unstamped steps) → AllByRecursion (λ (s : Step). P s.actor) steps
each_stamped P [] h = tt
each_stamped P (s ∷ ss) h = (h.0, each_stamped P ss h.1)

all_stamped : (P : ℕ → Type 0) (steps us : List Step) → map unstamped steps ≡ us → All (λ (s : Step). P s.actor) us → All (λ (s : Step). P s.actor) steps
all_stamped P steps us e h = All-from_recursion (λ (s : Step). P s.actor) steps
    (each_stamped P steps (subst (λ l. AllByRecursion (λ (s : Step). P s.actor) l) (sym e) (recursion_from_All (λ (s : Step). P s.actor) us h)))

module _ (p : Replay) where
  stamped_replies : (steps : List Step) → RepliesFollow (answers_of p) (map unstamped steps) → RepliesFollow (answers_of p) steps
  stamped_replies steps h before s after e =
      let same : operations (on_object s.object (map unstamped before)) ≡ operations (on_object s.object before) =
      ap operations (unstamped_on_object s.object before) ∙ unstamped_operations (on_object s.object before) in
      h (map unstamped before) (unstamped s) (map unstamped after) (ap (map unstamped) e ∙ unstamped_append before (s ∷ after))
      ∙ ap (λ ops. answers_of p s.object ops s.op) same

  whole_of : {A : Type 0} (t : Interaction A) (steps us : List Step) → map unstamped steps ≡ us → IsWhole t us → IsWhole t steps
  whole_of t steps us e w = stamped_whole t steps (subst (λ (l : List Step). IsWhole t l) (sym e) w)

  -- so a list is an interleaving where it is one without its stamps
  pub stamped_interleaves : (steps : List Step) → IsInterleaving p (map unstamped steps) → IsInterleaving p steps
  stamped_interleaves steps it =
      let one = halves steps it.first (it.middle ++ it.last) it.parts in
      let two = halves one.back it.middle it.last one.rest in
      record {
        first = one.front;
        middle = two.front;
        last = two.back;
        parts = one.whole ∙ ap (λ l. one.front ++ l) two.whole;
        begin_is_main = all_stamped (λ a. a ≡ length p.recording.cpus) one.front it.first one.first it.begin_is_main;
        begin = whole_of (begin_of p) one.front it.first one.first it.begin;
        middle_is_cpus = all_stamped (λ a. a < length p.recording.cpus) two.front it.middle two.first it.middle_is_cpus;
        each_cpu = λ cpu lt. whole_of (cpu_of p cpu) (of_actor cpu two.front) (of_actor cpu it.middle)
            (sym (unstamped_of_actor cpu two.front) ∙ ap (of_actor cpu) two.first) (it.each_cpu cpu lt);
        end_is_main = all_stamped (λ a. a ≡ length p.recording.cpus) two.back it.last two.rest it.end_is_main;
        end = whole_of (end_of p) two.back it.last two.rest it.end;
        replies = stamped_replies steps it.replies;
      }
