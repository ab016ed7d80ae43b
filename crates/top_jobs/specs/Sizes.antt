-- Bodies that are too large.
use Rattle.std.specs.Prelude.{◌≡◌, ℕ, Some, None, slice_get}
use Rattle.bt_ast.specs.declared.attached.Attached.{Attached}
use Rattle.bt_ast.specs.declared.attached.BodyId.{BodyId}
use Rattle.bt_ast.specs.declared.probe.Probe.{Probe}
use Rattle.bt_ast.specs.declared.probe.Script.{Script as Tree}
use Rattle.bt_attach.specs.Attaching.{IsAttachedTo}
use Rattle.bt_core.specs.declared.place.Place.{Place}
use Rattle.bt_types.specs.Script.{IsTypedScript}
use Rattle.recordings.specs.declared.recording.Recording.{Recording as Recorded}
use Rattle.script_programs.specs.declared.error.SizeFault.{SizeFault}
use Rattle.script_programs.specs.declared.error.SizeFault.TheVariants as size
use Rattle.script_programs.specs.Sizes.{first_size_fault}
use Rattle.typed_tree.specs.declared.script.Typed.{Typed}
use Rattle.top_refusals.specs.declared.refusal.Refusal.{Refusal}
use Rattle.top_refusals.specs.declared.refusal.Refusal.TheVariants.{Script}
use Rattle.top_refusals.specs.declared.refusal.ScriptFault.{ScriptFault}
use Rattle.top_refusals.specs.declared.refusal.ScriptFault.TheVariants.{FrameTooLarge, CodeTooLarge}
use Rattle.top_refusals.specs.declared.refusal.ScriptRefusal.TheVariants.{Fault}

-- what is too large of a body, as a fault of its script
abbrev pub size_wrong : SizeFault → ScriptFault
size_wrong (size.FrameTooLarge bytes) = FrameTooLarge bytes
size_wrong (size.CodeTooLarge slots) = CodeTooLarge slots

-- why a script is refused of which a body is too large, whose probe begins at this place
abbrev pub size_refusal : SizeFault → Place → Refusal
size_refusal much place = Script (Fault (size_wrong much) place)

-- the place of the first token of a body's probe
pub record IsProbePlace (tree : Tree) (attached : Attached) (body : ℕ) (place : Place) : Type 0 where
  pub id : BodyId
  pub of_body : slice_get attached.bodies body ≡ Some id
  pub probe : Probe
  pub of_probe : slice_get tree.probes id.probe ≡ Some probe
  pub at : place ≡ probe.place

-- the first body that is too large, of a script with these types, is told by this refusal, at the place of its probe
pub record TellsLarge (tree : Tree) (attached : Attached) (typed : Typed) (refusal : Refusal) : Type 0 where
  pub body : ℕ
  pub much : SizeFault
  pub place : Place
  pub first : first_size_fault 0 typed.bodies ≡ Some (body, much)
  pub at : IsProbePlace tree attached body place
  pub told : refusal ≡ size_refusal much place

-- what a script is attached to over a recording, and the script with its types
pub record HasTypes (tree : Tree) (says : Recorded) (attached : Attached) (typed : Typed) : Type 0 where
  pub attached_to : IsAttachedTo tree says.formats says.start says.end attached
  pub typed_of : IsTypedScript tree says.formats attached.bodies typed

-- with its types a body of the script is too large
pub record IsLarge (tree : Tree) (says : Recorded) (refusal : Refusal) : Type 0 where
  pub attached : Attached
  pub typed : Typed
  pub types : HasTypes tree says attached typed
  pub large : TellsLarge tree attached typed refusal

-- with its types no body of the script is too large
pub record IsSized (tree : Tree) (says : Recorded) : Type 0 where
  pub attached : Attached
  pub typed : Typed
  pub types : HasTypes tree says attached typed
  pub fits : first_size_fault 0 typed.bodies ≡ None
