-- Lists of steps that a run of a script can make, up to some moment.
use Rattle.std.specs.Prelude.{◌≡◌, ◌≢◌, ℕ, suc, max, ◌<◌, ◌≤◌, ◌||◌, false, List, [], ◌∷◌, ◌++◌, filter, if◌then◌else◌, ◌==◌}
use Rattle.bt_core.specs.declared.step.Step.{Step}
use Rattle.bt_core.specs.Interaction.{Interaction, Begins}
use Rattle.bt_core.specs.Steps.{is_of, of_actor, on_object, operations, AtEach}
use Rattle.weave.specs.Lists.{greatest}
use Rattle.weave.specs.Order.{comes_before}
use Rattle.actor_plan.specs.declared.outcome.Outcome.{Outcome}
use Rattle.actor_plan.specs.Programs.{actor_program}
use Rattle.bt_meaning.specs.Interleavings.{IsWhole}
use Rattle.bt_meaning.specs.Replays.{Replay, cpus_of, begin_of, answers_of}

-- what an actor does: a CPU its agenda, the main actor BEGIN and then END
abbrev pub program_of : (p : Replay) → ℕ → Interaction Outcome
program_of p actor = actor_program (p.plan actor) p.exits p.recording p.attached

-- the whole of a computation, and perhaps more
pub record HasDone {A : Type 0} (t : Interaction A) (steps : List Step) : Type 0 where
  pub made : List Step
  pub more : List Step
  pub parts : steps ≡ made ++ more
  pub whole : IsWhole t made

-- the clock of an actor after these steps: of the main actor that of all steps, of a CPU that of the main actor's steps and its own
abbrev pub clock_after : ℕ → List Step → ℕ → ℕ
clock_after main before actor =
    if actor == main then greatest before else greatest (filter (λ s. is_of main s || is_of actor s) before)

-- After these steps this one can come next: its actor goes on so, its reply is the object's, it stands where it may, its stamp is one
-- more than the greater of both clocks, and no step before it comes after it in order.
pub record MayFollow (p : Replay) (before : List Step) (s : Step) : Type 0 where
  pub actor : s.actor ≤ cpus_of p
  pub asked : Begins (program_of p s.actor) (of_actor s.actor before ++ s ∷ [])
  pub reply : s.reply ≡ answers_of p s.object (operations (on_object s.object before)) s.op
  pub after_begin : s.actor ≢ cpus_of p → IsWhole (begin_of p) (of_actor (cpus_of p) before)
  pub before_end : s.actor ≡ cpus_of p → HasDone (begin_of p) (of_actor (cpus_of p) before)
      → (cpu : ℕ) → cpu < cpus_of p → IsWhole (program_of p cpu) (of_actor cpu before)
  pub stamp : s.stamp ≡ suc (max (clock_after (cpus_of p) before s.actor) (greatest (on_object s.object before)))
  pub order : (earlier : List Step) (t : Step) → before ≡ earlier ++ t ∷ [] → comes_before s t ≡ false

-- each step can follow those before it
abbrev pub IsBegun : Replay → List Step → Type 0
IsBegun p steps = AtEach (MayFollow p) steps

-- each actor made the whole of its program
abbrev pub AreAllWhole : Replay → List Step → Type 0
AreAllWhole p steps = (actor : ℕ) → actor ≤ cpus_of p → IsWhole (program_of p actor) (of_actor actor steps)
