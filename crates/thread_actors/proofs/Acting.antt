-- The main actor: what its bodies need to run, and what is kept of it beside an answer.
use Rattle.std.proofs.Common.{◌≡◌, ℕ, sym, subst, Result, Ok, Err}
use Rattle.std.specs.Prelude.{IfOk, MatchResult}
use Rattle.bt_core.specs.declared.memory.Memory.{Memory}
use Rattle.bt_core.specs.Ports.{Setting}
use Rattle.actor_plan.specs.Plans.{Plan}
use Rattle.actor_plan.specs.Ready.{IsReady}
use Rattle.cpu_worker.specs.declared.world.SharedWorld.{SharedWorld}
use Rattle.cpu_worker.specs.Worlds.{setting_in, IsReplayable, IsPlanIn}
use Rattle.cpu_worker.proofs.WorldLemmas.{ready}

-- the same of a plan and of a setting that are these
pub ready_as : (world : SharedWorld) (actor : ℕ) (plan same : Plan) (setting : Setting) → IsReplayable world → IsPlanIn world actor plan → same ≡ plan → setting ≡ setting_in world actor
    → IsReady same world.recording.now world.attached.now setting
ready_as world actor plan same setting can is p s =
    subst (λ (z : Plan × Setting). IsReady z.0 world.recording.now world.attached.now z.1) (λ i. (sym p i, sym s i)) (ready world actor plan can is)

pub kept_so : {K T : Type 0} (Q : K → T → Type 0) (kept : K) (answer : Result T Memory) (result : Result (K × T) Memory)
    → MatchResult result (λ both. (both.0 ≡ kept) × (answer ≡ Ok both.1)) (λ e. answer ≡ Err e) → IfOk answer (Q kept) → IfOk result (λ both. Q both.0 both.1)
kept_so Q kept answer (Ok both) h p = subst (λ k. Q k both.1) (sym h.0) (subst (λ a. IfOk a (Q kept)) h.1 p)
kept_so Q kept answer (Err e) h p = tt
