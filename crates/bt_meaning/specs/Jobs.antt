-- Scripts that can be run over a recording.
use Rattle.std.specs.Prelude.{ℕ, ◌+◌, ◌≤◌, List, All, length}
use Rattle.bt_ast.specs.declared.attached.Attached.{Attached}
use Rattle.bt_core.specs.declared.limits.TheConstants.{BODIES, TICKS}
use Rattle.recordings.specs.declared.recording.Recording.{Recording}
use Rattle.recordings.specs.Recordings.{IsValidRecording}
use Rattle.typed_tree.specs.declared.script.Typed.{Typed}
use Rattle.actor_plan.specs.Agendas.{AreInTurn}
use Rattle.actor_plan.specs.Plans.{HasBodies}
use Rattle.bt_meaning.specs.Walks.{walking}

-- The recording is valid; what is attached are bodies of the script, those of a format with no greater a layout than its own, and the
-- others with none; the ticks stand in their order; and there are no more bodies and ticks than a script may have.
pub record IsJob (script : Typed) (attached : Attached) (r : Recording) : Type 0 where
  pub valid : IsValidRecording r
  pub bodies : (actor : ℕ) → HasBodies (walking script (length r.cpus + 1) actor) r.formats attached
  pub in_turn : AreInTurn attached.ticks
  pub few_ticks : length attached.ticks ≤ TICKS
  pub few_at_events : All (λ (which : List ℕ). length which ≤ BODIES) attached.by_format
  pub few_begin : length attached.begin ≤ BODIES
  pub few_end : length attached.end ≤ BODIES
