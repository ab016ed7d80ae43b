-- What the built-in script asks for over a made recording.
use Rattle.std.proofs.Common.{◌≡◌, ℕ, List, sym, subst, inl, inr}
use Rattle.std.specs.Prelude.{Option, Some, None, Result, Ok, Err, IfOk, IfErr}
use Rattle.rec_gen.specs.declared.script.TheConstants.{SCRIPT}
use Rattle.rec_gen.specs.Jobs.{IsAttachedOver, IsTypedOver}
use Rattle.rec_gen.specs.Tree.{IsScriptFor as IsBuiltIn, IsTree}
use Rattle.bt_ast.specs.declared.attached.Attached.{Attached}
use Rattle.bt_ast.specs.declared.attached.BodyId.{BodyId}
use Rattle.bt_ast.specs.declared.probe.Script.{Script as Tree}
use Rattle.bt_attach.specs.Attaching.{IsAttachedTo}
use Rattle.run_output.specs.declared.job.Job.{Job}
use Rattle.bt_types.specs.Script.{IsTypedScript}
use Rattle.recordings.specs.declared.recording.Recording.{Recording as Recorded}
use Rattle.script_programs.specs.declared.error.SizeFault.{SizeFault}
use Rattle.script_programs.specs.Sizes.{first_size_fault}
use Rattle.typed_tree.specs.declared.script.Typed.{Typed}
use Rattle.bt_attach.specs.Attaching.{attach_fault}
use Rattle.bt_meaning.specs.Jobs.{IsJob}
use Rattle.recordings.specs.Recordings.{IsValidRecording}
use Rattle.rec_gen.specs.Made.{IsMade}
use Rattle.top_refusals.specs.declared.refusal.Refusal.{Refusal}
use Rattle.top_refusals.specs.declared.refusal.Refusal.TheVariants.{Memory}
use Rattle.top_jobs.specs.Doing.{IsScriptRefusal}
use Rattle.top_jobs.specs.Jobs.{AsksFor}
use Rattle.top_jobs.specs.Script.{HasTree, IsScriptFault, IsSizeFault}
use Rattle.top_jobs.proofs.Asked.{can_run, IsAskedFor}
use Rattle.top_jobs.proofs.Scripts.{AreScriptLaws, attach_apart, no_tree, type_apart}
use Rattle.bt_top.specs.Jobs.{IsBigJob}

-- the job of the built-in script
pub of_numbers : (x n : ℕ) (job : Job) → IsBigJob x n job → IsAskedFor job
of_numbers x n job of = record { text = SCRIPT; valid = of.valid; asks = of.asks }

has_tree : (tree : Tree) → IsTree tree → HasTree SCRIPT tree
has_tree tree has = record { tokens = has.tokens; are = has.are; is = has.is }

is_tree : (tree : Tree) → HasTree SCRIPT tree → IsTree tree
is_tree tree has = record { tokens = has.tokens; are = has.are; is = has.is }

pub typed_over : (tree : Tree) (r : Recorded) (attached : Attached) (typed : Typed) → HasTree SCRIPT tree
    → IsAttachedTo tree r.formats r.start r.end attached → IsTypedScript tree r.formats attached.bodies typed → IsTypedOver r typed
typed_over tree r attached typed has to is = record {
  tree = tree;
  has = is_tree tree has;
  is = subst (λ (bodies : List BodyId). IsTypedScript tree r.formats bodies typed) to.bodies is;
}

pub attached_over : (tree : Tree) (r : Recorded) (attached : Attached) → HasTree SCRIPT tree → IsAttachedTo tree r.formats r.start r.end attached
    → IsAttachedOver r attached
attached_over tree r attached has to = record { tree = tree; has = is_tree tree has; is = to }

-- nothing refuses it
module _ (r : Recorded) (laws : AreScriptLaws SCRIPT) (accepted : IsBuiltIn r)
    (small : (typed : Typed) → IsTypedOver r typed → first_size_fault 0 typed.bodies ≡ None) where
  some_is_not : (found : Option (ℕ × SizeFault)) (p : ℕ × SizeFault) → found ≡ Some p → found ≡ None → ⊥
  some_is_not found p some none = cc

  no_size_fault : (refusal : Refusal) → IsSizeFault SCRIPT r refusal → ⊥
  no_size_fault refusal a =
      some_is_not _ (a.large.large.body, a.large.large.much) a.large.large.first
      (small a.large.typed (typed_over a.tree r a.large.attached a.large.typed a.has a.large.types.attached_to a.large.types.typed_of))

  no_fault : (refusal : Refusal) → IsScriptFault SCRIPT r refusal → ⊥
  no_fault refusal (inl a) = no_tree SCRIPT refusal accepted.tree laws a (has_tree accepted.tree accepted.has)
  no_fault refusal (inr (inl a)) = attach_apart SCRIPT r refusal accepted.tree laws a (has_tree accepted.tree accepted.has) accepted.attached
  no_fault refusal (inr (inr (inl a))) = type_apart SCRIPT r refusal accepted.tree laws a (has_tree accepted.tree accepted.has) accepted.typed
  no_fault refusal (inr (inr (inr a))) = no_size_fault refusal a

  pub only_memory : (answer : Result Job Refusal) → IfErr answer (IsScriptRefusal SCRIPT r) → IfErr answer (λ refusal. refusal ≡ Memory)
  only_memory (Ok job) refused = tt
  only_memory (Err refusal) (inl memory) = memory
  only_memory (Err refusal) (inr told) = absurd (no_fault _ told.first)

-- what it asks for over the recording of two numbers, which can be run
pub big_asked : (x n : ℕ) (r : Recorded) (answer : Result Job Refusal) → IsMade x n r → IsValidRecording r → IfOk answer (λ job. job.recording ≡ r)
    → IfOk answer (AsksFor SCRIPT) → IfOk answer (IsBigJob x n)
big_asked x n r (Ok job) made valid same asks = record {
  made = subst (λ (says : Recorded). IsMade x n says) (sym same) made;
  valid = subst (λ (says : Recorded). IsValidRecording says) (sym same) valid;
  asks = asks;
}
big_asked x n r (Err refusal) made valid same asks = tt

pub big_can_run : (x n : ℕ) (answer : Result Job Refusal)
    → ((tree : Tree) (typed : Typed) (attached : Attached) (r : Recorded) → IsValidRecording r → attach_fault tree r.formats r.start r.end ≡ None
    → IsAttachedTo tree r.formats r.start r.end attached → IsTypedScript tree r.formats attached.bodies typed → IsJob typed attached r)
    → IfOk answer (IsBigJob x n) → IfOk answer (λ job. IsJob job.typed job.attached job.recording)
big_can_run x n (Ok job) law of = can_run job law (of_numbers x n job of)
big_can_run x n (Err refusal) law of = tt
