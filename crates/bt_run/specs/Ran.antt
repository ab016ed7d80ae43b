-- Runs on one thread that have ended. No public contract speaks of it.
use Rattle.std.specs.Prelude.{◌≡◌, List, map}
use Rattle.bt_core.specs.declared.step.ObjectId.{ObjectId}
use Rattle.bt_core.specs.Steps.{on_object}
use Rattle.bpf_insn.specs.declared.insn.Insn.{Insn}
use Rattle.step_list.specs.Lists.{steps_in}
use Rattle.bt_meaning.specs.Instructions.{instructions_of}
use Rattle.bt_meaning.specs.Interleavings.{IsReplayed}
use Rattle.bt_meaning.specs.Prints.{operations_at}
use Rattle.bt_meaning.specs.Serial.{serial_steps, unstamped}
use Rattle.bt_meaning.specs.Texts.{EmitOwn}
use Rattle.bt_meaning.specs.Walks.{replay_of}
use Rattle.code_runs.specs.Coding.{code_replay}
use Rattle.code_runs.specs.Programs.{AreCodesOf}
use Rattle.run_output.specs.declared.job.Job.{Job}
use Rattle.run_output.specs.Jobs.{cpus_in, world_for}
use Rattle.run_output.specs.declared.form.Form.{Form}
use Rattle.run_output.specs.Outputs.{output_of}
use Rattle.bt_run.specs.declared.run.Ran.{Ran}
use Rattle.run_objects.specs.Closed.{AreClosedAt}

-- its steps are those of the serial list, each emits what has a text, and its objects stand for them
pub record HasRun (job : Job) (ran : Ran) : Type 0 where
  pub replayed : IsReplayed (replay_of job.typed job.attached job.recording) ran.steps
  pub serial : (object : ObjectId) → map unstamped (on_object object ran.steps) ≡ on_object object (serial_steps (replay_of job.typed job.attached job.recording))
  pub printed_serial : (form : Form) → output_of form job.typed (cpus_in job) ran.steps
      ≡ output_of form job.typed (cpus_in job) (serial_steps (replay_of job.typed job.attached job.recording))
  pub counted : (codes : List (List Insn)) → AreCodesOf job.programs codes → ran.instructions ≡ instructions_of (code_replay job.typed codes job.attached job.recording) ran.steps
  pub own : EmitOwn job.typed ran.steps
  -- as they were made, which at each object is the order of the steps
  pub moment : AreClosedAt (record { world = world_for job; steps = steps_in ran.made.value }) ran.objects
  pub same : (object : ObjectId) → operations_at object (steps_in ran.made.value) ≡ operations_at object ran.steps
