-- Jobs whose actors' bodies do what plans say. No public contract speaks of it.
use Rattle.std.specs.Prelude.{ℕ, ◌+◌, List, length}
use Rattle.actor_plan.specs.Plans.{Plan}
use Rattle.actor_plan.specs.Ready.{CanReplay, IsPlanFor}
use Rattle.bt_meaning.specs.Replays.{Replay}
use Rattle.bpf_insn.specs.declared.insn.Insn.{Insn}
use Rattle.code_runs.specs.Coding.{coding}
use Rattle.run_output.specs.declared.job.Job.{Job}
use Rattle.run_objects.specs.Worlds.{World}

abbrev pub cpus_in : Job → ℕ
cpus_in job = length job.recording.cpus

-- what is run
abbrev pub replay_with : Job → (ℕ → Plan) → Replay
replay_with job plans = record {
  recording = job.recording;
  attached = job.attached;
  exits = job.typed.uses_exit;
  maps = job.typed.maps;
  plan = plans;
}

-- the plans of the actors of a job whose bodies are run by these codes
abbrev pub plans_by : Job → List (List Insn) → ℕ → Plan
plans_by job codes = coding job.typed codes (cpus_in job + 1)

-- what is run by them
abbrev pub coded_by : Job → List (List Insn) → Replay
coded_by job codes = replay_with job (plans_by job codes)

-- the world that it is run in
abbrev pub world_for : Job → World
world_for job = record { cpus = cpus_in job; ticks = length job.attached.ticks; maps = job.typed.maps }

-- the job can be run, by the plans of all actors
pub record CanRunAll (job : Job) (plans : ℕ → Plan) : Type 0 where
  pub replay : CanReplay job.recording job.attached
  pub plans_are : (actor : ℕ) → IsPlanFor job.recording job.attached job.typed.maps actor (plans actor)
