-- Of what is due to a script and a recording there is only one thing, so it comes.
use Rattle.std.proofs.Common.{◌≡◌, ◌≢◌, ℕ, List, refl, sym, ap, subst, ◌∙◌, inl, inr}
use Rattle.std.specs.Prelude.{Option, Some, None, Result, Ok, Err, IfOk, IfErr}
use Rattle.recordings.specs.declared.recording.Recording.{Recording as Recorded}
use Rattle.recordings.specs.declared.error.RecordingError.{RecordingError}
use Rattle.recordings.specs.declared.error.RecordingError.TheVariants as fault
use Rattle.recordings.specs.Recordings.{recording_bytes, IsValidRecording}
use Rattle.rec_format.specs.Faults.{IsRecordingFault}
use Rattle.typed_tree.specs.declared.script.Typed.{Typed}
use Rattle.bt_ast.specs.declared.attached.Attached.{Attached}
use Rattle.bt_ast.specs.declared.probe.Script.{Script as Tree}
use Rattle.bt_attach.specs.Attaching.{IsAttachedTo, attach_fault}
use Rattle.bt_meaning.specs.Jobs.{IsJob}
use Rattle.bt_types.specs.Script.{IsTypedScript}
use Rattle.run_output.specs.declared.job.Job.{Job}
use Rattle.top_refusals.specs.declared.refusal.ScriptRefusal.TheVariants as script
use Rattle.top_refusals.specs.declared.refusal.RecordingRefusal.TheVariants as recording
use Rattle.top_refusals.specs.declared.refusal.Refusal.{Refusal}
use Rattle.top_refusals.specs.declared.refusal.Refusal.TheVariants.{Script, Recording}
use Rattle.top_jobs.specs.Doing.{IsExact, IsFaultRefusal, IsScriptRefusal, refusal_in}
use Rattle.top_jobs.specs.Due.{IsRecording, AreAccepted, IsFirstRefusal, IsJudged}
use Rattle.top_jobs.specs.Jobs.{AsksFor, IsJobOf}
use Rattle.top_refusals.specs.Refusals.{recording_refusal}
use Rattle.top_jobs.specs.Script.{IsScriptFault}
use Rattle.top_jobs.proofs.Asked.{can_run, of_both}
use Rattle.top_jobs.proofs.Scripts.{AreScriptLaws, one_script_fault, no_script_fault}

-- what the laws of the container, the lexer and the parser say of a script and a recording
pub record AreLaws (text bytes : List ℕ) : Type 0 where
  pub recording : (one other : Recorded) → IsValidRecording one → IsValidRecording other → recording_bytes one ≡ recording_bytes other → one ≡ other
  pub fault : (one other : RecordingError) → IsRecordingFault bytes one → IsRecordingFault bytes other → one ≡ other
  pub no_fault : (says : Recorded) (error : RecordingError) → IsValidRecording says → bytes ≡ recording_bytes says → IsRecordingFault bytes error → ⊥
  pub script : AreScriptLaws text

one_recording : (text bytes : List ℕ) (one other : Recorded) → AreLaws text bytes → IsRecording bytes one → IsRecording bytes other → one ≡ other
one_recording text bytes one other laws a b = laws.recording one other a.valid b.valid (sym a.spelled ∙ b.spelled)

-- ---- what refuses them

valid : (text bytes : List ℕ) (says : Recorded) (error : RecordingError) → AreLaws text bytes → IsRecording bytes says → IsRecordingFault bytes error → ⊥
valid text bytes says error laws is wrong = laws.no_fault says error is.valid is.spelled wrong

-- of one valid recording the script has one first fault
one_fault_over : (text bytes : List ℕ) (one other : Recorded) (a b : Refusal) → AreLaws text bytes → IsRecording bytes one
    → IsRecording bytes other → IsScriptFault text one a → IsScriptFault text other b → a ≡ b
one_fault_over text bytes one other a b laws is was first second =
    one_script_fault text other a b laws.script
    (subst (λ (r : Recorded). IsScriptFault text r a) (one_recording text bytes one other laws is was) first) second

one_fault : (text bytes : List ℕ) (one other : Refusal) → AreLaws text bytes → IsFirstRefusal text bytes one → IsFirstRefusal text bytes other → one ≡ other
one_fault text bytes (Recording (recording.Fault e1)) (Recording (recording.Fault e2)) laws a b =
    ap (λ (e : RecordingError). Recording (recording.Fault e)) (laws.fault e1 e2 a b)
one_fault text bytes (Recording (recording.Fault e1)) (Script (script.Fault w2 p2)) laws a b = absurd (valid text bytes b.0 e1 laws b.1 a)
one_fault text bytes (Recording (recording.Fault e1)) other laws a b = absurd b
one_fault text bytes (Script (script.Fault w1 p1)) (Recording (recording.Fault e2)) laws a b = absurd (valid text bytes a.0 e2 laws a.1 b)
one_fault text bytes (Script (script.Fault w1 p1)) (Script (script.Fault w2 p2)) laws a b =
    one_fault_over text bytes a.0 b.0 _ _ laws a.1 b.1 a.2 b.2
one_fault text bytes (Script (script.Fault w1 p1)) other laws a b = absurd b
one_fault text bytes one other laws a b = absurd a

-- what is accepted has no fault
no_fault : (text bytes : List ℕ) (refusal : Refusal) → AreLaws text bytes → IsFirstRefusal text bytes refusal → AreAccepted text bytes → ⊥
no_fault text bytes (Recording (recording.Fault error)) laws a b = valid text bytes b.says error laws b.is a
no_fault text bytes (Script (script.Fault wrong place)) laws a b =
    no_script_fault text b.says _ b.tree laws.script
    (subst (λ (r : Recorded). IsScriptFault text r (Script (script.Fault wrong place))) (one_recording text bytes a.0 b.says laws a.1 b.is) a.2)
    b.script.has b.script.attached b.script.typed b.script.sized
no_fault text bytes refusal laws a b = a

-- of what is due there is only one thing
one_judged : (text bytes : List ℕ) (one other : Option Refusal) → AreLaws text bytes → IsJudged text bytes one → IsJudged text bytes other → one ≡ other
one_judged text bytes None None laws a b = refl
one_judged text bytes None (Some other) laws a b = absurd (no_fault text bytes other laws b a)
one_judged text bytes (Some one) None laws a b = absurd (no_fault text bytes one laws a b)
one_judged text bytes (Some one) (Some other) laws a b = ap (λ (r : Refusal). Some r) (one_fault text bytes one other laws a b)

-- ---- both at hand

-- a refusal of the script refuses both, where the recording is valid
script_is_fault : (text bytes : List ℕ) (says : Recorded) (refusal : Refusal) → IsRecording bytes says → IsScriptRefusal text says refusal
    → IsFaultRefusal text bytes refusal
script_is_fault text bytes says refusal is (inl memory) = inl memory
script_is_fault text bytes says refusal is (inr wrong) = inr (subst (λ (r : Refusal). IsFirstRefusal text bytes r) (sym wrong.told) (says, is, wrong.first))

pub script_refuses : (text bytes : List ℕ) (says : Recorded) (answer : Result Job Refusal) → IsRecording bytes says → IfErr answer (IsScriptRefusal text says)
    → IfErr answer (IsFaultRefusal text bytes)
script_refuses text bytes says (Ok job) is wrong = tt
script_refuses text bytes says (Err refusal) is wrong = script_is_fault text bytes says refusal is wrong

-- what the script asks for over the recording is what both ask for
pub script_asks : (text bytes : List ℕ) (says : Recorded) (answer : Result Job Refusal) → IsRecording bytes says → IfOk answer (λ job. job.recording ≡ says)
    → IfOk answer (AsksFor text) → IfOk answer (IsJobOf text bytes)
script_asks text bytes says (Ok job) is same asks = record { is = subst (λ (r : Recorded). IsRecording bytes r) (sym same) is; asks = asks }
script_asks text bytes says (Err refusal) is same asks = tt

-- a refusal of the bytes of a recording refuses both
pub recording_is_fault : (text bytes : List ℕ) (error : RecordingError) → (error ≢ fault.Memory → IsRecordingFault bytes error)
    → IsFaultRefusal text bytes (recording_refusal error)
recording_is_fault text bytes fault.Memory found = inl refl
recording_is_fault text bytes error found = inr (found (λ e. cc))

-- what asks for a job is accepted
pub job_accepted : (text bytes : List ℕ) (job : Job) → IsJobOf text bytes job → AreAccepted text bytes
job_accepted text bytes job of = record { says = job.recording; tree = of.asks.tree; is = of.is; script = of.asks.script }

-- what is due comes, unless memory runs out
pub is_exact : (text bytes : List ℕ) (answer : Result Job Refusal) → AreLaws text bytes → IfOk answer (IsJobOf text bytes)
    → IfErr answer (IsFaultRefusal text bytes) → IsExact text bytes (refusal_in answer)
is_exact text bytes (Ok job) laws asked refused = λ due is. inl (one_judged text bytes None due laws (job_accepted text bytes job asked) is)
is_exact text bytes (Err refusal) laws asked (inl memory) = λ due is. inr (ap (λ (r : Refusal). Some r) memory)
is_exact text bytes (Err refusal) laws asked (inr here) = λ due is. inl (one_judged text bytes (Some refusal) due laws here is)

-- what is accepted can be run
pub jobs_can_run : (text bytes : List ℕ) (answer : Result Job Refusal)
    → ((tree : Tree) (typed : Typed) (attached : Attached) (r : Recorded) → IsValidRecording r → attach_fault tree r.formats r.start r.end ≡ None
    → IsAttachedTo tree r.formats r.start r.end attached → IsTypedScript tree r.formats attached.bodies typed → IsJob typed attached r)
    → IfOk answer (IsJobOf text bytes) → IfOk answer (λ job. IsJob job.typed job.attached job.recording)
jobs_can_run text bytes (Ok job) law of = can_run job law (of_both text bytes job of)
jobs_can_run text bytes (Err refusal) law of = tt
