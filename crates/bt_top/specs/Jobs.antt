-- What the built-in script asks for, and the work of a run.
use Rattle.std.specs.Prelude.{◌≡◌, ℕ, Bool, true, List, map}
use Rattle.rec_gen.specs.declared.script.TheConstants.{SCRIPT}
use Rattle.bpf_insn.specs.declared.insn.Insn.{Insn}
use Rattle.bt_core.specs.declared.step.ObjectId.{ObjectId}
use Rattle.bt_core.specs.Steps.{on_object}
use Rattle.bt_meaning.specs.Instructions.{instructions_of}
use Rattle.bt_meaning.specs.Interleavings.{IsReplayed}
use Rattle.bt_meaning.specs.Replays.{Replay, cpus_of}
use Rattle.bt_meaning.specs.Serial.{serial_steps, unstamped}
use Rattle.bt_meaning.specs.Walks.{replay_of}
use Rattle.code_runs.specs.Coding.{code_replay}
use Rattle.recordings.specs.Recordings.{IsValidRecording}
use Rattle.rec_gen.specs.Made.{IsMade}
use Rattle.run_output.specs.declared.job.Job.{Job}
use Rattle.run_output.specs.declared.job.Work.{Work}
use Rattle.run_output.specs.declared.form.Form.{Form}
use Rattle.run_output.specs.Outputs.{output_of}
use Rattle.code_runs.specs.Programs.{AreCodesOf}
use Rattle.top_jobs.specs.Jobs.{AsksFor}
use Rattle.top_jobs.specs.Meanings.{Meaning, Means}

-- ---- the built-in script

-- what the built-in script asks for over the recording that is made of a seed and a count of events
pub record IsBigJob (seed count : ℕ) (job : Job) : Type 0 where
  pub made : IsMade seed count job.recording
  pub valid : IsValidRecording job.recording
  pub asks : AsksFor SCRIPT job

-- the meaning of the built-in script over the recording that is made of a seed and a count of events
pub record IsBigMeaning (seed count : ℕ) (m : Meaning) : Type 0 where
  pub made : IsMade seed count m.recording
  pub valid : IsValidRecording m.recording
  pub means : Means SCRIPT m

-- ---- work

-- a job as the script's own meaning: its bodies are walked
abbrev pub meaning_of : Job → Replay
meaning_of job = replay_of job.typed job.attached job.recording

-- The work of a run on one thread: at each object its steps are those of the serial list, in its order, and its text is what the script
-- prints under the serial list, in the form.
pub record IsSerialWork (form : Form) (job : Job) (work : Work) : Type 0 where
  pub serial : (object : ObjectId) → map unstamped (on_object object work.steps) ≡ on_object object (serial_steps (meaning_of job))
  pub printed : work.text ≡ output_of form job.typed (cpus_of (meaning_of job)) (serial_steps (meaning_of job))

-- The work of a job. Its steps are an interleaving in the order of their stamps; its text is what the script prints under them, in the
-- form; its instructions are those that the code of the job's programs takes under them; and it is that of a run on one thread where it
-- was one.
pub record IsWorkOf (form : Form) (serial : Bool) (job : Job) (work : Work) : Type 0 where
  pub replayed : IsReplayed (meaning_of job) work.steps
  pub printed : work.text ≡ output_of form job.typed (cpus_of (meaning_of job)) work.steps
  pub instructions : (codes : List (List Insn)) → AreCodesOf job.programs codes
      → work.instructions ≡ instructions_of (code_replay job.typed codes job.attached job.recording) work.steps
  pub on_one_thread : serial ≡ true → IsSerialWork form job work
