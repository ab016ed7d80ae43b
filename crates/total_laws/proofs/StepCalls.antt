-- Each step of an interleaving makes a call of its own actor's program.
use Rattle.std.proofs.Common.{◌≡◌, ℕ, ◌<◌, Bool, true, false, cond, eq-eqb, List, [], ◌∷◌, ◌++◌, length, refl, sym, subst}
use Rattle.std.specs.List.{AllByRecursion}
use Rattle.std.proofs.lemmas.List.Elements.{recursion_from_All}
use Rattle.bt_ast.specs.declared.attached.Attached.{Attached}
use Rattle.bt_core.specs.declared.map.MapDecl.{MapDecl}
use Rattle.bt_core.specs.declared.step.ObjectId.{ObjectId}
use Rattle.bt_core.specs.declared.step.Op.{Op}
use Rattle.bt_core.specs.declared.step.Step.{Step}
use Rattle.bt_core.specs.Interaction.{Call, Interaction, Ended, Asks, Runs}
use Rattle.bt_core.specs.Ports.{IsReplyOf}
use Rattle.bt_core.specs.Steps.{is_of, of_actor}
use Rattle.recordings.specs.declared.recording.Recording.{Recording}
use Rattle.typed_tree.specs.declared.script.Typed.{Typed}
use Rattle.actor_plan.specs.Plans.{AsksOf}
use Rattle.bt_meaning.specs.Interleavings.{IsInterleaving}
use Rattle.bt_meaning.specs.Jobs.{IsJob}
use Rattle.bt_meaning.specs.OwnSteps.{IsOwnStep}
use Rattle.bt_meaning.specs.Replays.{Replay, begin_of, cpu_of, end_of}
use Rattle.bt_meaning.specs.Walks.{replay_of}
use Rattle.bt_meaning.proofs.Eachs.{each_so, each_both, each_front, each_back, each_kept}
use Rattle.total_laws.specs.Calls.{IsProgramCall, IsProgramStep}
use Rattle.total_laws.proofs.ProgramCalls.{begin_call, cpu_call, end_call}

abbrev Kind : List MapDecl → Step → Type 0
Kind maps s = IsReplyOf maps s.object s.op s.reply

-- the steps of a run make the calls of its computation, where the replies are of their kinds
runs_call : {A : Type 0} (calls : ObjectId → Op → Type 0) (maps : List MapDecl) (t : Interaction A) (steps : List Step) (v : A) → AsksOf calls maps t → Runs t steps v → AllByRecursion (Kind maps) steps
    → AllByRecursion (λ (s : Step). calls s.object s.op) steps
runs_call calls maps (Ended a) [] v asks runs kinds = tt
runs_call calls maps (Ended a) (s ∷ ss) v asks runs kinds = absurd runs
runs_call calls maps (Asks c f) [] v asks runs kinds = absurd runs
runs_call calls maps (Asks c f) (s ∷ ss) v asks runs kinds = (
  subst (λ (d : Call). calls d.object d.op) (sym runs.0) asks.0,
  runs_call calls maps (f s.reply) ss v (asks.1 s.reply (subst (λ (d : Call). IsReplyOf maps d.object d.op s.reply) runs.0 kinds.0)) runs.1 kinds.1,
)

-- of steps of one actor
of_one : (actor : ℕ) (steps : List Step) → AllByRecursion (λ (s : Step). s.actor ≡ actor) steps → AllByRecursion (λ (s : Step). IsProgramCall actor s.object s.op) steps → AllByRecursion IsProgramStep steps
of_one actor [] is calls = tt
of_one actor (s ∷ ss) is calls = (subst (λ (a : ℕ). IsProgramCall a s.object s.op) (sym is.0) calls.0, of_one actor ss is.1 calls.1)

-- of steps of several actors, from those of each
of_each : (n : ℕ) (steps : List Step) → AllByRecursion (λ (s : Step). s.actor < n) steps → ((actor : ℕ) → actor < n → AllByRecursion (λ (s : Step). IsProgramCall actor s.object s.op) (of_actor actor steps))
    → AllByRecursion IsProgramStep steps
of_each n [] low each = tt
of_each n (s ∷ ss) low each = (own, of_each n ss low.1 (λ actor lt. rest actor (is_of actor s) (each actor lt)))
  where
    own : IsProgramStep s
    own = (subst (λ (b : Bool). AllByRecursion (λ (t : Step). IsProgramCall s.actor t.object t.op) (cond b (s ∷ of_actor s.actor ss) (of_actor s.actor ss))) (eq-eqb s.actor s.actor refl) (each s.actor low.0)).0

    rest : (actor : ℕ) (b : Bool) → AllByRecursion (λ (t : Step). IsProgramCall actor t.object t.op) (cond b (s ∷ of_actor actor ss) (of_actor actor ss)) → AllByRecursion (λ (t : Step). IsProgramCall actor t.object t.op) (of_actor actor ss)
    rest actor true h = h.1
    rest actor false h = h

module _ (script : Typed) (attached : Attached) (r : Recording) (job : IsJob script attached r) (steps : List Step) (i : IsInterleaving (replay_of script attached r) steps) (own : AllByRecursion (IsOwnStep script attached r) steps) where
  abbrev p : Replay
  p = replay_of script attached r

  abbrev n : ℕ
  n = length r.cpus

  kinds : AllByRecursion (Kind script.maps) (i.first ++ (i.middle ++ i.last))
  kinds = subst (AllByRecursion (Kind script.maps)) i.parts (each_so (IsOwnStep script attached r) (Kind script.maps) (λ s h. h.1) steps own)

  later : AllByRecursion (Kind script.maps) (i.middle ++ i.last)
  later = each_back (Kind script.maps) i.first (i.middle ++ i.last) kinds

  first_calls : AllByRecursion IsProgramStep i.first
  first_calls = of_one n i.first (recursion_from_All (λ (s : Step). s.actor ≡ n) i.first i.begin_is_main)
      (runs_call (IsProgramCall n) script.maps (begin_of p) i.first i.begin.value (begin_call script attached r job n) i.begin.runs (each_front (Kind script.maps) i.first (i.middle ++ i.last) kinds))

  middle_calls : AllByRecursion IsProgramStep i.middle
  middle_calls = of_each n i.middle (recursion_from_All (λ (s : Step). s.actor < n) i.middle i.middle_is_cpus) (λ cpu lt.
      let whole = i.each_cpu cpu lt in
      runs_call (IsProgramCall cpu) script.maps (cpu_of p cpu) (of_actor cpu i.middle) whole.value (cpu_call script attached r job cpu) whole.runs
      (each_kept (Kind script.maps) (is_of cpu) i.middle (each_front (Kind script.maps) i.middle i.last later)))

  last_calls : AllByRecursion IsProgramStep i.last
  last_calls = of_one n i.last (recursion_from_All (λ (s : Step). s.actor ≡ n) i.last i.end_is_main)
      (runs_call (IsProgramCall n) script.maps (end_of p) i.last i.end.value (end_call script attached r job n) i.end.runs (each_back (Kind script.maps) i.middle i.last later))

  pub steps_call : AllByRecursion IsProgramStep steps
  steps_call = subst (AllByRecursion IsProgramStep) (sym i.parts) (each_both IsProgramStep i.first (i.middle ++ i.last) first_calls (each_both IsProgramStep i.middle i.last middle_calls last_calls))
