-- What a read of an actor's tables sees of what the actor adds.
use Rattle.std.specs.Prelude.{◌≡◌, ℕ, ◌&&◌, not, Bool, true, false, List, ◌++◌, filter}
use Rattle.bt_core.specs.declared.map.MapId.{MapId}
use Rattle.bt_core.specs.declared.step.ObjectId.TheVariants.{Cpu}
use Rattle.bt_core.specs.declared.step.Op.{Op}
use Rattle.bt_core.specs.declared.step.Op.TheVariants.{Add, Read}
use Rattle.bt_core.specs.declared.step.Step.{Step}
use Rattle.bt_core.specs.Steps.{of_actor, is_on, on_object, operations, AtEach}
use Rattle.bt_meaning.specs.Replays.{Replay, answers_of}

abbrev pub is_add : Op → Bool
is_add (Add map key number) = true
is_add op = false

abbrev pub is_read : Op → Bool
is_read (Read map) = true
is_read op = false

-- the steps by which an actor adds at its own tables
abbrev pub add_steps_of : ℕ → List Step → List Step
add_steps_of actor steps = filter (λ s. is_on (Cpu actor) s && is_add s.op) (of_actor actor steps)

-- the list begins with the other
abbrev pub BeginsWith : List Step → List Step → Type 0
BeginsWith steps front = (rest : List Step) × (steps ≡ front ++ rest)

-- the operations at an actor's tables, but the reads
abbrev pub changes_at : ℕ → List Step → List Op
changes_at actor steps = filter (λ op. not (is_read op)) (operations (on_object (Cpu actor) steps))

-- A step reads at an actor's tables: of what the actor adds there in all, a beginning stands before it; a beginning of that stands before
-- each earlier step; and the reply is the answer after what changed the tables before it.
pub record SeesBeginning (p : Replay) (actor : ℕ) (steps before : List Step) (s : Step) : Type 0 where
  pub sees : BeginsWith (add_steps_of actor steps) (add_steps_of actor before)
  pub grows : AtEach (λ earlier r. BeginsWith (add_steps_of actor before) (add_steps_of actor earlier)) before
  pub reply : s.reply ≡ answers_of p (Cpu actor) (changes_at actor before) s.op

-- so it is of each read at an actor's tables
abbrev pub ReadsSeeBeginnings : Replay → List Step → Type 0
ReadsSeeBeginnings p steps =
    (actor : ℕ) (map : MapId) → AtEach (λ before s. s.object ≡ Cpu actor → s.op ≡ Read map → SeesBeginning p actor steps before s) steps

-- The adds among the operations at an actor's tables are exactly those of the actor itself, a CPU or the main actor, in its order, up to each
-- place of the list. So the reply of a read there is the answer after what the actor itself added before it, and what was cleared and
-- zeroed there.
abbrev pub AddsAreOwn : List Step → Type 0
AddsAreOwn steps =
    (actor : ℕ) (before after : List Step) → steps ≡ before ++ after → filter is_add (changes_at actor before) ≡ operations (add_steps_of actor before)
