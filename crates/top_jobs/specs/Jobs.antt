-- What a script and a recording ask for: a job.
use Rattle.std.specs.Prelude.{◌≡◌, ℕ, List, [], ◌∷◌, None}
use Rattle.bt_ast.specs.declared.probe.Script.{Script as Tree}
use Rattle.bt_attach.specs.Attaching.{IsAttachedTo}
use Rattle.bt_types.specs.Script.{IsTypedScript}
use Rattle.run_output.specs.declared.job.Job.{Job}
use Rattle.code_runs.specs.Programs.{KeepScript}
use Rattle.script_programs.specs.Sizes.{first_size_fault}
use Rattle.top_jobs.specs.Due.{AreShort, IsRecording, IsAcceptedScript}
use Rattle.top_jobs.specs.Meanings.{Meaning}
use Rattle.top_refusals.specs.Orders.{OperandFile}

-- What a script asks for over the recording of a job: what the script, with its tree, is attached to in it; the script with its types, of
-- which no body is too large; and a program for each body, which keeps it.
pub record AsksFor (text : List ℕ) (job : Job) : Type 0 where
  pub tree : Tree
  pub script : IsAcceptedScript text job.recording tree
  pub attached : IsAttachedTo tree job.recording.formats job.recording.start job.recording.end job.attached
  pub typed : IsTypedScript tree job.recording.formats job.attached.bodies job.typed
  pub fits : first_size_fault 0 job.typed.bodies ≡ None
  pub programs : KeepScript job.typed job.programs

-- what a script and a recording ask for that are accepted: the recording is the one that the bytes spell
pub record IsJobOf (text bytes : List ℕ) (job : Job) : Type 0 where
  pub is : IsRecording bytes job.recording
  pub asks : AsksFor text job

-- what the contents of files ask for: the first two are a script and a recording
abbrev pub IsJobIn : List (List ℕ) → Job → Type 0
IsJobIn (text ∷ bytes ∷ more) job = IsJobOf text bytes job
IsJobIn contents job = ⊥

-- what files with these contents ask for, of which none is too long
pub record IsJobFor (files : List OperandFile) (contents : List (List ℕ)) (job : Job) : Type 0 where
  pub short : AreShort files contents
  pub of : IsJobIn contents job

-- the meaning of a job: the same without programs
abbrev pub meaning_in : Job → Meaning
meaning_in job = record { recording = job.recording; attached = job.attached; typed = job.typed }

-- the bytes of the account, which is the third of the files
abbrev pub account_in : List (List ℕ) → List ℕ
account_in (text ∷ bytes ∷ account ∷ more) = account
account_in contents = []
