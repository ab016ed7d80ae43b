-- What an actor leaves that made steps through a port.
use Rattle.std.proofs.Common.{◌≡◌, ℕ, ◌<◌, Bool, true, List, [], ◌++◌, length, sym, ap, ◌∙◌, subst, arith, Result, Ok, Err, IfOk, OnErr, if◌then◌else◌}
use Rattle.std.specs.Prelude.{nat_lt}
use Rattle.std.proofs.lemmas.Bool.Decides.{nat_tests}
use Rattle.bt_ast.specs.declared.attached.Attached.{Attached}
use Rattle.bt_core.specs.declared.memory.Memory.{Memory}
use Rattle.bt_core.specs.declared.step.Step.{Step}
use Rattle.bt_core.specs.Ports.{Setting}
use Rattle.bt_core.specs.Interaction.{Interaction, Performed, Runs, Begins}
use Rattle.recordings.specs.declared.recording.Recording.{Recording}
use Rattle.actor_plan.specs.Plans.{Plan}
use Rattle.actor_plan.specs.Programs.{actor_program, cpu_program, main_program}
use Rattle.cpu_worker.specs.declared.world_port.Start.{Start}
use Rattle.cpu_worker.specs.AtWork.{AtWork, IsAtWork}
use Rattle.cpu_worker.specs.Starts.{start_of}

-- the same actor, of whom it is known where it began
abbrev pub begun : Setting → Start → AtWork → AtWork
begun setting start p = record {
  sets = record { maps = start.maps; tables = start.tables; sides = start.sides };
  setting = setting;
  first_turns = start.turns;
  first_trace = start.trace;
  turns = p.turns;
  trace = p.trace;
}

pub left : (setting : Setting) (start : Start) (p : AtWork) → p.setting ≡ setting → start_of p ≡ start → IsAtWork p → IsAtWork (begun setting start p)
left setting start p same_setting same h = subst (λ (z : Setting × Start). IsAtWork (begun z.0 z.1 p)) (λ i. (same_setting i, same i)) h

-- from no steps on, the whole of a computation is all steps, and else its first steps are
module _ {A : Type 0} (t : Interaction A) (old new : List Step) (empty : old ≡ []) where
  pub whole_runs : (r : Result A Memory) → Performed t old new r → IfOk r (λ a. Runs t new a)
  whole_runs (Ok a) h = subst (λ ss. Runs t ss a) (sym (h.grew ∙ ap (λ (l : List Step). l ++ h.made) empty)) h.runs
  whole_runs (Err e) h = tt

  pub part_begins : (r : Result A Memory) → Performed t old new r → OnErr r (Begins t new)
  part_begins (Ok a) h = tt
  part_begins (Err e) h = subst (Begins t) (sym (h.grew ∙ ap (λ (l : List Step). l ++ h.made) empty)) h.begins

below : (a b : ℕ) → a < b → nat_lt a b ≡ true
below a b h = grind (arith, nat_tests)

-- the program of an actor below the number of CPUs is that of its CPU
pub actor_is_cpu : (plan : Plan) (exits : Bool) (r : Recording) (attached : Attached) → plan.actor < length r.cpus → actor_program plan exits r attached ≡ cpu_program plan exits r attached
unfolding actor_program
actor_is_cpu plan exits r attached lt = ap (λ b. if b then cpu_program plan exits r attached else main_program plan r attached) (below plan.actor (length r.cpus) lt)
