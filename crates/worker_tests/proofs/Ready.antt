-- A worker with a CPU's bodies and turns and an empty trace can run.
use Rattle.std.proofs.Common.{◌≡◌, ℕ, ◌<◌, [], sym, ap, ◌∙◌, subst}
use Rattle.stamped.specs.declared.trace.Trace.{Trace}
use Rattle.stamped.specs.Traces.{actor_of, steps_of}
use Rattle.actor_plan.specs.Plans.{Plan}
use Rattle.cpu_worker.specs.declared.worker.CpuWorker.{CpuWorker}
use Rattle.cpu_worker.specs.declared.world.SharedWorld.{SharedWorld}
use Rattle.cpu_worker.specs.declared.world.WorkerTurns.{WorkerTurns}
use Rattle.cpu_worker.specs.Worlds.{world_cpus, sets_in, AreTurnsOf, IsReplayable, IsPlanIn}
use Rattle.cpu_worker.specs.Workers.{IsReadyWorker}

pub is_ready : {B G : Type 0} (plan : B → Plan) (world : SharedWorld) (w : CpuWorker B G) (cpu : ℕ) (bodies : B) (turns : WorkerTurns) (trace : Trace)
    → w.cpu ≡ cpu → w.bodies ≡ bodies → w.turns ≡ turns → w.trace ≡ trace → actor_of trace ≡ cpu → steps_of trace ≡ []
    → IsReplayable world → cpu < world_cpus world → IsPlanIn world cpu (plan bodies) → AreTurnsOf (sets_in world) cpu turns → IsReadyWorker plan world w
is_ready plan world w cpu bodies turns trace at by with_turns with_trace actor empty replay known made own = record {
  replay = replay;
  known = subst (λ a. a < world_cpus world) (sym at) known;
  turns_are = subst (λ (z : ℕ × WorkerTurns). AreTurnsOf (sets_in world) z.0 z.1) (λ i. (sym at i, sym with_turns i)) own;
  actor = ap actor_of with_trace ∙ actor ∙ sym at;
  empty = ap steps_of with_trace ∙ empty;
  plan_is = subst (λ (z : ℕ × Plan). IsPlanIn world z.0 z.1) (λ i. (sym at i, plan (sym by i))) made;
}
