-- Jobs, as what some script asks for over a valid recording.
use Rattle.std.proofs.Common.{◌≡◌, ℕ, List, [], ◌∷◌}
use Rattle.std.specs.Prelude.{None}
use Rattle.bt_ast.specs.declared.attached.Attached.{Attached}
use Rattle.bt_ast.specs.declared.probe.Script.{Script as Tree}
use Rattle.bt_attach.specs.Attaching.{IsAttachedTo, attach_fault}
use Rattle.bt_meaning.specs.Jobs.{IsJob}
use Rattle.bt_types.specs.Script.{IsTypedScript}
use Rattle.recordings.specs.declared.recording.Recording.{Recording as Recorded}
use Rattle.recordings.specs.Recordings.{IsValidRecording}
use Rattle.run_output.specs.declared.job.Job.{Job}
use Rattle.typed_tree.specs.declared.script.Typed.{Typed}
use Rattle.top_jobs.specs.Jobs.{AsksFor, IsJobFor, IsJobOf}
use Rattle.top_refusals.specs.Orders.{OperandFile}

pub record IsAskedFor (job : Job) : Type 0 where
  pub text : List ℕ
  pub valid : IsValidRecording job.recording
  pub asks : AsksFor text job

-- the job of a script and a recording, that of files, and that of the built-in script
pub of_both : (text bytes : List ℕ) (job : Job) → IsJobOf text bytes job → IsAskedFor job
of_both text bytes job of = record { text = text; valid = of.is.valid; asks = of.asks }

pub of_files : (files : List OperandFile) (contents : List (List ℕ)) (job : Job) → IsJobFor files contents job → IsAskedFor job
of_files files [] job is = absurd is.of
of_files files (text ∷ []) job is = absurd is.of
of_files files (text ∷ bytes ∷ more) job is = of_both text bytes job is.of

-- each can be run
pub can_run : (job : Job)
    → ((tree : Tree) (typed : Typed) (attached : Attached) (r : Recorded) → IsValidRecording r → attach_fault tree r.formats r.start r.end ≡ None
    → IsAttachedTo tree r.formats r.start r.end attached → IsTypedScript tree r.formats attached.bodies typed → IsJob typed attached r)
    → IsAskedFor job → IsJob job.typed job.attached job.recording
can_run job law is =
    law is.asks.tree job.typed job.attached job.recording is.valid is.asks.script.attached is.asks.attached is.asks.typed
