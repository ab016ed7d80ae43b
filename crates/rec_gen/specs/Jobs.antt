-- The script over a made recording: what it is attached to, the script with its types, and how many keys its maps have.
use Rattle.std.specs.Prelude.{ℕ, ◌≤◌, length}
use Rattle.bt_ast.specs.declared.attached.Attached.{Attached}
use Rattle.bt_ast.specs.declared.probe.Script.{Script}
use Rattle.bt_attach.specs.Attaching.{IsAttachedTo, bodies_from}
use Rattle.bt_core.specs.declared.limits.TheConstants.{KEYS}
use Rattle.bt_core.specs.declared.map.MapId.{MapId}
use Rattle.bt_meaning.specs.Totals.{totals}
use Rattle.bt_meaning.specs.Walks.{replay_of}
use Rattle.bt_types.specs.Script.{IsTypedScript}
use Rattle.recordings.specs.declared.recording.Recording.{Recording}
use Rattle.typed_tree.specs.declared.script.Typed.{Typed}
use Rattle.rec_gen.specs.Tree.{IsTree}

-- the script with its types over this recording
pub record IsTypedOver (r : Recording) (typed : Typed) : Type 0 where
  pub tree : Script
  pub has : IsTree tree
  pub is : IsTypedScript tree r.formats (bodies_from r.formats 0 tree.probes) typed

-- what the script is attached to in this recording
pub record IsAttachedOver (r : Recording) (attached : Attached) : Type 0 where
  pub tree : Script
  pub has : IsTree tree
  pub is : IsAttachedTo tree r.formats r.start r.end attached

-- whoever runs the ticks, the totals of each map have no more keys than an object can hold
abbrev pub HaveFewTotals : Typed → Attached → Recording → Type 0
HaveFewTotals typed attached r = (m : MapId) (who : ℕ → ℕ) → length (totals (replay_of typed attached r) m who) ≤ KEYS
