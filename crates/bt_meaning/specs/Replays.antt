-- What is run over a recording, and what each actor of it does.
use Rattle.std.specs.Prelude.{◌≡◌, ℕ, Bool, List, length}
use Rattle.bt_ast.specs.declared.attached.Attached.{Attached}
use Rattle.bt_core.specs.declared.map.MapDecl.{MapDecl}
use Rattle.bt_core.specs.declared.step.ObjectId.{ObjectId}
use Rattle.bt_core.specs.declared.step.Op.{Op}
use Rattle.bt_core.specs.declared.step.Reply.{Reply}
use Rattle.bt_core.specs.Interaction.{Interaction}
use Rattle.recordings.specs.declared.recording.Recording.{Recording}
use Rattle.agg_core.specs.Answers.{answer}
use Rattle.actor_plan.specs.declared.outcome.Outcome.{Outcome}
use Rattle.actor_plan.specs.Plans.{Plan}
use Rattle.actor_plan.specs.Programs.{begin_program, end_program, cpu_program}

-- A recording, what a script is attached to in it, whether the script has an exit, its maps, and what each actor's runs of the
-- bodies do. The CPUs are the actors below their number, and the next one is the main actor.
pub record Replay : Type 0 where
  pub recording : Recording
  pub attached : Attached
  pub exits : Bool
  pub maps : List MapDecl
  pub plan : ℕ → Plan

-- each plan is the one of its actor
abbrev pub PlansAreOwn : Replay → Type 0
PlansAreOwn p = (actor : ℕ) → (p.plan actor).actor ≡ actor

-- how many CPUs there are, which is also the main actor's number
abbrev pub cpus_of : Replay → ℕ
cpus_of p = length p.recording.cpus

-- the main actor's runs of the bodies of BEGIN
abbrev pub begin_of : Replay → Interaction ℕ
begin_of p = begin_program (p.plan (cpus_of p)) p.recording p.attached

-- a CPU's whole agenda
abbrev pub cpu_of : Replay → ℕ → Interaction Outcome
cpu_of p cpu = cpu_program (p.plan cpu) p.exits p.recording p.attached

-- the main actor's runs of the bodies of END
abbrev pub end_of : Replay → Interaction ℕ
end_of p = end_program (p.plan (cpus_of p)) p.recording p.attached

-- what an object answers to an operation after these earlier ones
abbrev pub answers_of : Replay → ObjectId → List Op → Op → Reply
answers_of p = answer p.maps (cpus_of p)
