-- From what a run on threads makes to what it tells.
use Rattle.std.proofs.Common.{◌≡◌, ℕ, ◌+◌, List}
use Rattle.std.specs.List.{AllByRecursion}
use Rattle.bt_core.specs.declared.step.Step.{Step}
use Rattle.map_rows.specs.Items.{IsItemOf}
use Rattle.map_rows.proofs.MergedFitting.{merged_fit}
use Rattle.walk_meaning.specs.Admits.{EmitsOnly}
use Rattle.bt_meaning.specs.Jobs.{IsJob}
use Rattle.bt_meaning.specs.OwnSteps.{IsOwnStep}
use Rattle.bt_meaning.specs.Texts.{EmitOwn}
use Rattle.bt_meaning.specs.Walks.{replay_of}
use Rattle.bt_meaning.proofs.Eachs.{each_so}
use Rattle.bt_meaning.proofs.OwnCalls.{script_steps}
use Rattle.bpf_insn.specs.declared.insn.Insn.{Insn}
use Rattle.bt_meaning.specs.Instructions.{instructions_of}
use Rattle.bt_meaning.specs.Interleavings.{IsReplayed}
use Rattle.code_runs.specs.Coding.{code_replay, coding}
use Rattle.run_output.specs.declared.job.Job.{Job}
use Rattle.run_output.specs.Jobs.{cpus_in}
use Rattle.run_objects.specs.declared.closed.Closed.{Closed}
use Rattle.thread_run.specs.Made.{IsMade}

module _ (job : Job) (is_job : IsJob job.typed job.attached job.recording) (codes : List (List Insn))
    (closed : Closed) (steps : List Step) (n : ℕ) (is : IsMade job (coding job.typed codes (cpus_in job + 1)) closed steps n)
    (means : IsReplayed (code_replay job.typed codes job.attached job.recording) steps → IsReplayed (replay_of job.typed job.attached job.recording) steps) where
  pub run_replayed : IsReplayed (replay_of job.typed job.attached job.recording) steps
  run_replayed = means is.replayed

  own_steps : AllByRecursion (IsOwnStep job.typed job.attached job.recording) steps
  own_steps = script_steps job.typed job.attached job.recording is_job merged_fit steps run_replayed.interleaving

  pub emit_own : EmitOwn job.typed steps
  emit_own = each_so (IsOwnStep job.typed job.attached job.recording) (λ (s : Step). EmitsOnly (IsItemOf job.typed.formats job.typed.maps) s.op) (λ s own. own.0.1) steps own_steps

  pub run_counts : n ≡ instructions_of (code_replay job.typed codes job.attached job.recording) steps
  run_counts = is.counted
