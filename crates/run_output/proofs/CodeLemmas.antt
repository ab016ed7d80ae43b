-- Codes can be run for each actor of a job.
use Rattle.std.proofs.Common.{ℕ, ◌+◌, ◌≤◌, List, length, refl}
use Rattle.std.specs.List.{AllByRecursion}
use Rattle.bpf_insn.specs.declared.insn.Insn.{Insn}
use Rattle.bt_meaning.specs.Jobs.{IsJob}
use Rattle.bt_meaning.proofs.Eachs.{each_so}
use Rattle.code_runs.specs.Coding.{CanRunCode, coding}
use Rattle.actor_plan.specs.Plans.{TakesFew}
use Rattle.run_output.specs.declared.job.Job.{Job}
use Rattle.run_output.specs.Jobs.{cpus_in, CanRunAll}

pub few_slots : (codes : List (List Insn)) → AllByRecursion CanRunCode codes → AllByRecursion (λ (code : List Insn). length code ≤ 4096) codes
few_slots codes can = each_so CanRunCode (λ (code : List Insn). length code ≤ 4096) (λ code c. c.few) codes can

pub jobs_run : (job : Job) (codes : List (List Insn)) → IsJob job.typed job.attached job.recording → ((actor : ℕ) → TakesFew (coding job.typed codes (cpus_in job + 1) actor))
    → CanRunAll job (coding job.typed codes (cpus_in job + 1))
jobs_run job codes is few = record {
  replay = record {
    valid = is.valid;
    in_turn = is.in_turn;
    few_ticks = is.few_ticks;
    few_at_events = is.few_at_events;
    few_begin = is.few_begin;
    few_end = is.few_end;
  };
  plans_are = λ actor. record {
    actor_is = refl;
    actors = refl;
    served = λ number low. refl;
    bodies = record { by_format = (is.bodies actor).by_format; ticks = (is.bodies actor).ticks; begin = (is.bodies actor).begin; finish = (is.bodies actor).finish };
    takes_few = few actor;
  };
}
