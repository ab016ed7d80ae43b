-- Files have one meaning.
use Rattle.std.proofs.Common.{◌≡◌, ℕ, List, [], ◌∷◌, sym, subst, ◌∙◌}
use Rattle.bt_ast.specs.declared.attached.Attached.{Attached}
use Rattle.bt_ast.specs.declared.attached.BodyId.{BodyId}
use Rattle.bt_ast.specs.declared.probe.Script.{Script as Tree}
use Rattle.bt_attach.specs.Attaching.{IsAttachedTo}
use Rattle.bt_grammar.specs.Form.{Item}
use Rattle.bt_grammar.specs.Grammar.{IsTreeOf}
use Rattle.bt_grammar.specs.Tokens.{items}
use Rattle.bt_lexer.specs.declared.token.Token.{Token}
use Rattle.bt_lexer.specs.Tokens.{IsTokensOf}
use Rattle.bt_types.specs.Script.{IsTypedScript}
use Rattle.recordings.specs.declared.recording.Recording.{Recording as Recorded}
use Rattle.recordings.specs.Recordings.{IsValidRecording, recording_bytes}
use Rattle.event_layout.specs.declared.format.Format.{Format}
use Rattle.typed_tree.specs.declared.script.Typed.{Typed}
use Rattle.top_jobs.specs.Meanings.{IsMeaningFor, Meaning, Means}
use Rattle.top_refusals.specs.Orders.{OperandFile}
use Rattle.top_jobs.specs.Script.{HasTree}
use Rattle.run_output.specs.declared.job.Job.{Job}
use Rattle.top_jobs.specs.Jobs.{AsksFor, IsJobFor, meaning_in}

-- what the laws of the steps say: bytes spell one recording, a text has one list of tokens and that one tree, which is attached in one way, and
-- has one typing
pub record AreOne : Type 0 where
  pub recordings : (a b : Recorded) → IsValidRecording a → IsValidRecording b → recording_bytes a ≡ recording_bytes b → a ≡ b
  pub tokens : (text : List ℕ) (one other : List Token) → IsTokensOf text one → IsTokensOf text other → one ≡ other
  pub trees : (tokens : List Item) (one other : Tree) → IsTreeOf tokens one → IsTreeOf tokens other → one ≡ other
  pub attached : (tree : Tree) (formats : List Format) (start end : ℕ) (one other : Attached)
      → IsAttachedTo tree formats start end one → IsAttachedTo tree formats start end other → one ≡ other
  pub typed : (tree : Tree) (formats : List Format) (bodies : List BodyId) (one other : Typed)
      → IsTypedScript tree formats bodies one → IsTypedScript tree formats bodies other → one ≡ other

module _ (are : AreOne) where
  one_tree : (text : List ℕ) (one other : Tree) → HasTree text one → HasTree text other → one ≡ other
  one_tree text one other a b =
      let same = are.tokens text a.tokens b.tokens a.are b.are in
      are.trees (items b.tokens) one other (subst (λ (tokens : List Token). IsTreeOf (items tokens) one) same a.is.tree) b.is.tree

  -- a text means one thing over a recording
  means_one : (text : List ℕ) (one other : Meaning) → one.recording ≡ other.recording → Means text one → Means text other → one ≡ other
  means_one text one other same a b =
      let tree = one_tree text a.tree b.tree a.has b.has in
      let moved = subst (λ (t : Tree). IsAttachedTo t one.recording.formats one.recording.start one.recording.end one.attached) tree a.attached in
      let over = subst (λ (r : Recorded). IsAttachedTo b.tree r.formats r.start r.end one.attached) same moved in
      let attached = are.attached b.tree other.recording.formats other.recording.start other.recording.end one.attached other.attached over b.attached in
      let typed_tree = subst (λ (t : Tree). IsTypedScript t one.recording.formats one.attached.bodies one.typed) tree a.typed in
      let typed_over = subst (λ (r : Recorded). IsTypedScript b.tree r.formats one.attached.bodies one.typed) same typed_tree in
      let typed_at = subst (λ (l : Attached). IsTypedScript b.tree other.recording.formats l.bodies one.typed) attached typed_over in
      let typed = are.typed b.tree other.recording.formats other.attached.bodies one.typed other.typed typed_at b.typed in
      λ i. record { recording = same i; attached = attached i; typed = typed i }

  pub one_meaning : (files : List OperandFile) (contents : List (List ℕ)) (one other : Meaning)
      → IsMeaningFor files contents one → IsMeaningFor files contents other → one ≡ other
  one_meaning files [] one other a b = absurd a.of
  one_meaning files (text ∷ []) one other a b = absurd a.of
  one_meaning files (text ∷ bytes ∷ more) one other a b =
      means_one text one other
      (are.recordings one.recording other.recording a.of.is.valid b.of.is.valid (sym a.of.is.spelled ∙ b.of.is.spelled))
      a.of.means b.of.means

-- the meaning of a job is that of what asks for it
pub means_job : (text : List ℕ) (job : Job) → AsksFor text job → Means text (meaning_in job)
means_job text job asks = record {
  tree = asks.tree;
  has = asks.script.has;
  can_attach = asks.script.attached;
  attached = asks.attached;
  well_typed = asks.script.typed;
  typed = asks.typed;
}

pub means_files : (files : List OperandFile) (contents : List (List ℕ)) (job : Job) → IsJobFor files contents job
    → IsMeaningFor files contents (meaning_in job)
means_files files [] job is = absurd is.of
means_files files (text ∷ []) job is = absurd is.of
means_files files (text ∷ bytes ∷ more) job is =
    record { short = is.short; of = record { is = is.of.is; means = means_job text job is.of.asks } }
