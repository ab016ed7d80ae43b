-- The steps of the run on one thread, put in order, are an interleaving in the order of its stamps.
use Rattle.std.proofs.Common.{◌≡◌, ◌≢◌, ℕ, ◌<◌, ◌≤◌, not, true, false, List, [], ◌++◌, length, map, take, drop, sym, refl, ap, ◌∙◌, subst, arith, append_assoc, append-nil, ne_eqb, length-append}
use Rattle.std.specs.Prelude.{replicate}
use Rattle.std.specs.List.{AllByRecursion, filter}
use Rattle.std.specs.List.Sorted.{IsPermutation}
use Rattle.std.proofs.lemmas.List.{take-append-drop, length-take-le}
use Rattle.std.proofs.lemmas.List.Filters.{length-filter_both}
use Rattle.std.proofs.lemmas.List.Elements.{filter-append, All-from_recursion, recursion_from_All}
use Rattle.std.proofs.lemmas.List.Sorted.{IsPermutation-sym}
use Rattle.bt_core.specs.declared.step.ObjectId.{ObjectId}
use Rattle.bt_core.specs.declared.step.Step.{Step}
use Rattle.bt_core.specs.Interaction.{Runs}
use Rattle.bt_core.specs.Steps.{is_of, of_actor, on_object, operations}
use Rattle.weave.specs.Lists.{SameLimits}
use Rattle.weave.specs.Order.{InOrder}
use Rattle.weave.specs.Woven.{IsWoven, StandsBetween}
use Rattle.weave.proofs.Among.{each_has as each_member, each_from as each_of}
use Rattle.weave.proofs.Orders.{level}
use Rattle.weave.proofs.Rising.{has_moved}
use Rattle.weave.proofs.Sorting.{limits, replies, woven, stands}
use Rattle.actor_plan.specs.Plans.{Plan}
use Rattle.bt_meaning.specs.Interleavings.{IsInterleaving, IsReplayed}
use Rattle.bt_meaning.specs.Replays.{Replay, begin_of, cpu_of, cpus_of, end_of}
use Rattle.bt_meaning.specs.Schedules.{serial_order}
use Rattle.bt_meaning.specs.Serial.{unstamped, then_value, begun_steps, taken_steps, serial_steps}
use Rattle.bt_meaning.proofs.Eachs.{each_so, each_back, filter_none}
use Rattle.bt_meaning.proofs.ItemByItem.{takes_all}
use Rattle.bt_meaning.proofs.Stepping.{own_part, other_part, takes_whole, unstamped_append, unstamped_length, unstamped_of_actor, unstamped_on_object, unstamped_operations}
use Rattle.run_output.specs.declared.job.Job.{Job}
use Rattle.run_objects.specs.declared.closed.Closed.{Closed}
use Rattle.run_output.specs.Jobs.{cpus_in, replay_with, world_for}
use Rattle.bt_run.specs.Made.{IsMade}
use Rattle.run_objects.specs.Worlds.{answers}
use Rattle.bt_run.proofs.TakeLemmas.{each_recursion}
use Rattle.bt_run.proofs.Splitting.{begin_own, two_parts, own_are, cpus_are, plain_runs, same_runs, same_parts}

-- the serial list begins with BEGIN's steps
begins_so : (p : Replay) → (more : List Step) × (serial_steps p ≡ begun_steps p ++ more)
unfolding serial_steps
begins_so p =
    let middle = takes_all p (serial_order p.recording p.attached) (replicate (cpus_of p) true) (begun_steps p) in
    let last = takes_whole p (cpus_of p) (end_of p) (taken_steps p) in
    (middle.made ++ last.made, last.grew ∙ ap (λ l. l ++ last.made) middle.grew ∙ append_assoc (begun_steps p) middle.made last.made)

module _ (job : Job) (plans : ℕ → Plan) (closed : Closed) (made steps : List Step) (n : ℕ) (is : IsMade job plans closed made n) (moved : IsPermutation made steps) (order : InOrder steps) where
  abbrev P : Replay
  P = replay_with job plans

  abbrev main : ℕ
  main = cpus_in job

  abbrev begun : ℕ
  begun = length (begun_steps P)

  same : SameLimits steps made
  same = limits main begun made is.stamps steps moved (level steps order)

  pub at_objects : (object : ObjectId) → map unstamped (on_object object steps) ≡ on_object object (serial_steps P)
  at_objects object = ap (map unstamped) (same.objects object) ∙ sym (unstamped_on_object object made) ∙ ap (on_object object) (sym is.is_serial)

  pub by_actor : (a : ℕ) → map unstamped (of_actor a steps) ≡ of_actor a (serial_steps P)
  by_actor a = ap (map unstamped) (same.actors a) ∙ sym (unstamped_of_actor a made) ∙ ap (of_actor a) (sym is.is_serial)

  -- operations at an object, before and after the steps were put in order
  pub operations_same : (object : ObjectId) → operations (on_object object made) ≡ operations (on_object object steps)
  operations_same object = ap operations (sym (same.objects object))

  pub operations_serial : (object : ObjectId) → operations (on_object object steps) ≡ operations (on_object object (serial_steps P))
  operations_serial object = sym (unstamped_operations (on_object object steps)) ∙ ap operations (at_objects object)

  is_woven : IsWoven main begun steps
  is_woven = woven main begun made is.stamps steps moved (level steps order) is.between order

  between : StandsBetween main begun steps
  between = stands main begun made is.stamps steps moved (level steps order) is.between

  actors : AllByRecursion (λ (s : Step). s.actor ≤ main) steps
  actors = each_recursion (λ (s : Step). s.actor ≤ main) steps
      (each_of (λ (s : Step). s.actor ≤ main) steps (λ s h. each_member (λ (s : Step). s.actor ≤ main) made s is.actors (has_moved steps made s (IsPermutation-sym made steps moved) h)))

  module _ (i : IsInterleaving P (serial_steps P)) where
    none_of_main : of_actor main i.middle ≡ []
    none_of_main = filter_none (is_of main) i.middle
        (each_so (λ (s : Step). s.actor < main) (λ s. is_of main s ≡ false) (λ s lt. ne_eqb s.actor main (λ e. absurd (omega arith))) i.middle (recursion_from_All (λ (s : Step). s.actor < main) i.middle i.middle_is_cpus))

    first_by : AllByRecursion (λ (s : Step). s.actor ≡ main) i.first
    first_by = recursion_from_All (λ (s : Step). s.actor ≡ main) i.first i.begin_is_main

    last_by : AllByRecursion (λ (s : Step). s.actor ≡ main) i.last
    last_by = recursion_from_All (λ (s : Step). s.actor ≡ main) i.last i.end_is_main

    limited : (a : ℕ) → of_actor a (serial_steps P) ≡ of_actor a i.first ++ (of_actor a i.middle ++ of_actor a i.last)
    limited a = ap (of_actor a) i.parts ∙ filter-append (is_of a) i.first (i.middle ++ i.last) ∙ ap (λ l. of_actor a i.first ++ l) (filter-append (is_of a) i.middle i.last)

    main_is : map unstamped (of_actor main steps) ≡ i.first ++ i.last
    main_is = by_actor main ∙ limited main ∙ (λ k. own_part main i.first first_by k ++ (none_of_main k ++ own_part main i.last last_by k))

    cpu_is : (a : ℕ) → a < main → map unstamped (of_actor a steps) ≡ of_actor a i.middle
    cpu_is a lt = let ne : main ≢ a = λ e. absurd (omega arith) in
        by_actor a ∙ limited a ∙ (λ k. other_part a main i.first ne first_by k ++ (of_actor a i.middle ++ other_part a main i.last ne last_by k)) ∙ append-nil (of_actor a i.middle)

    begin_long : begun ≡ length i.first
    begin_long =
        let b = takes_whole P main (begin_of P) [] in
        let own : of_actor main (begun_steps P) ≡ b.made = ap (of_actor main) b.grew ∙ own_part main b.made b.by in
        let all : b.made ++ of_actor main (begins_so P).0 ≡ i.first ++ i.last =
        ap (λ l. l ++ of_actor main (begins_so P).0) (sym own) ∙ sym (filter-append (is_of main) (begun_steps P) (begins_so P).0) ∙ ap (of_actor main) (sym (begins_so P).1) ∙ sym (by_actor main) ∙ main_is in
        ap length b.grew ∙ same_runs (begin_of P) b.made i.first (of_actor main (begins_so P).0) i.last (then_value P main (begin_of P) []) i.begin.value b.runs i.begin.runs all

    abbrev first : List Step
    first = take begun steps

    abbrev rest : List Step
    rest = drop begun steps

    abbrev middle : List Step
    middle = filter (λ s. not (is_of main s)) rest

    abbrev last : List Step
    last = of_actor main rest

    whole : steps ≡ first ++ rest
    whole = sym (take-append-drop begun steps)

    first_own : of_actor main first ≡ first
    first_own = begin_own main begun steps between

    enough : begun ≤ length (of_actor main steps)
    enough = let e = sym (unstamped_length (of_actor main steps)) ∙ ap length main_is in let l = length-append i.first i.last in let b = begin_long in omega arith

    main_parts : of_actor main steps ≡ first ++ last
    main_parts = ap (of_actor main) whole ∙ filter-append (is_of main) first rest ∙ ap (λ l. l ++ last) first_own

    long : length first ≡ begun
    long = length-take-le begun steps (let l = length-filter_both (is_of main) (λ s. not (is_of main s)) (λ s. refl) steps in let e = enough in omega arith)

    rest_parts : rest ≡ middle ++ last
    rest_parts = two_parts main begun steps between first rest whole (let e = ap length first_own in let l = long in omega arith)

    both : (map unstamped first ≡ i.first) × (map unstamped last ≡ i.last)
    both = same_parts (map unstamped first) i.first (map unstamped last) i.last (unstamped_length first ∙ long ∙ begin_long)
        (sym (unstamped_append first last) ∙ ap (map unstamped) (sym main_parts) ∙ main_is)

    main_are : AllByRecursion (λ (s : Step). s.actor ≡ main) first
    main_are = subst (AllByRecursion (λ (s : Step). s.actor ≡ main)) first_own (own_are main first)

    cpus_all : AllByRecursion (λ (s : Step). s.actor < main) middle
    cpus_all = cpus_are main rest (each_back (λ (s : Step). s.actor ≤ main) first rest (subst (AllByRecursion (λ (s : Step). s.actor ≤ main)) whole actors))

    cpu_middle : (a : ℕ) → a < main → of_actor a steps ≡ of_actor a middle
    cpu_middle a lt = let ne : main ≢ a = λ e. absurd (omega arith) in
        ap (of_actor a) (whole ∙ ap (λ l. first ++ l) rest_parts) ∙ filter-append (is_of a) first (middle ++ last)
        ∙ (λ k. other_part a main first ne main_are k ++ filter-append (is_of a) middle last k)
        ∙ ap (λ l. of_actor a middle ++ l) (other_part a main last ne (own_are main rest)) ∙ append-nil (of_actor a middle)

    interleaves : IsInterleaving P steps
    interleaves = record {
      first = first;
      middle = middle;
      last = last;
      parts = whole ∙ ap (λ l. first ++ l) rest_parts;
      begin_is_main = All-from_recursion (λ (s : Step). s.actor ≡ main) first main_are;
      begin = record { value = i.begin.value; runs = plain_runs (begin_of P) first i.begin.value (subst (λ l. Runs (begin_of P) l i.begin.value) (sym both.0) i.begin.runs) };
      middle_is_cpus = All-from_recursion (λ (s : Step). s.actor < main) middle cpus_all;
      each_cpu = λ a lt. record {
        value = (i.each_cpu a lt).value;
        runs = plain_runs (cpu_of P a) (of_actor a middle) (i.each_cpu a lt).value
            (subst (λ l. Runs (cpu_of P a) l (i.each_cpu a lt).value) (sym (cpu_is a lt) ∙ ap (map unstamped) (cpu_middle a lt)) (i.each_cpu a lt).runs);
      };
      end_is_main = All-from_recursion (λ (s : Step). s.actor ≡ main) last (own_are main rest);
      end = record { value = i.end.value; runs = plain_runs (end_of P) last i.end.value (subst (λ l. Runs (end_of P) l i.end.value) (sym both.1) i.end.runs) };
      replies = replies main begun made is.stamps steps moved (level steps order) (answers (world_for job)) is.replies;
    }

    pub replayed : IsReplayed P steps
    unfolding interleaves
    replayed = record { interleaving = interleaves; woven = subst (λ k. IsWoven main k steps) (sym long) is_woven }
