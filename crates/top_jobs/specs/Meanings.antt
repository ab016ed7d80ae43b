-- What a script means over a recording, and that files hold a script and a recording with such a meaning. Neither code nor the machine stands in it.
use Rattle.std.specs.Prelude.{◌≡◌, ℕ, List, ◌∷◌, None}
use Rattle.bt_ast.specs.declared.attached.Attached.{Attached}
use Rattle.bt_ast.specs.declared.probe.Script.{Script as Tree}
use Rattle.bt_attach.specs.Attaching.{IsAttachedTo, attach_fault}
use Rattle.bt_meaning.specs.Replays.{Replay}
use Rattle.bt_meaning.specs.Walks.{replay_of}
use Rattle.bt_types.specs.Script.{IsTypedScript}
use Rattle.recordings.specs.declared.recording.Recording.{Recording as Recorded}
use Rattle.typed_tree.specs.declared.script.Typed.{Typed}
use Rattle.top_jobs.specs.Due.{AreShort, IsRecording}
use Rattle.top_refusals.specs.Orders.{OperandFile}
use Rattle.top_jobs.specs.Script.{HasTree, body_fault}

-- a recording, what a script is attached to in it, and the script with its types
pub record Meaning : Type 0 where
  pub recording : Recorded
  pub attached : Attached
  pub typed : Typed

-- each body is walked, at the events, ticks and moments that it is attached to
abbrev pub replay_by : Meaning → Replay
replay_by m = replay_of m.typed m.attached m.recording

-- The text means this over the recording: it has tokens with this tree; none of the tree's points breaks a rule over the recording, and it is
-- attached so; none of its bodies breaks a rule of types, and it has these types.
pub record Means (text : List ℕ) (m : Meaning) : Type 0 where
  pub tree : Tree
  pub has : HasTree text tree
  pub can_attach : attach_fault tree m.recording.formats m.recording.start m.recording.end ≡ None
  pub attached : IsAttachedTo tree m.recording.formats m.recording.start m.recording.end m.attached
  pub well_typed : body_fault tree m.recording ≡ None
  pub typed : IsTypedScript tree m.recording.formats m.attached.bodies m.typed

-- the bytes spell the recording, which is valid, and the text means this over it
pub record IsMeaningOf (text bytes : List ℕ) (m : Meaning) : Type 0 where
  pub is : IsRecording bytes m.recording
  pub means : Means text m

-- the first two contents are the text and the bytes
abbrev pub IsMeaningIn : List (List ℕ) → Meaning → Type 0
IsMeaningIn (text ∷ bytes ∷ more) m = IsMeaningOf text bytes m
IsMeaningIn contents m = ⊥

-- files with these contents, of which none is too long, have this meaning
pub record IsMeaningFor (files : List OperandFile) (contents : List (List ℕ)) (m : Meaning) : Type 0 where
  pub short : AreShort files contents
  pub of : IsMeaningIn contents m
