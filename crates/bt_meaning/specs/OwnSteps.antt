-- Steps that a script can make.
use Rattle.std.specs.Prelude.{ℕ, ◌+◌, length}
use Rattle.bt_ast.specs.declared.attached.Attached.{Attached}
use Rattle.bt_core.specs.declared.step.ObjectId.{ObjectId}
use Rattle.bt_core.specs.declared.step.Op.{Op}
use Rattle.bt_core.specs.declared.step.Step.{Step}
use Rattle.bt_core.specs.Ports.{Setting, CanStep, IsReplyOf}
use Rattle.map_rows.specs.Items.{IsItemOf}
use Rattle.recordings.specs.declared.recording.Recording.{Recording}
use Rattle.typed_tree.specs.declared.script.Typed.{Typed}
use Rattle.walk_meaning.specs.Admits.{EmitsOnly}

-- what an actor sees of a run: itself, all actors, the ticks that are attached, and the script's maps
abbrev pub setting_of : Typed → Attached → Recording → ℕ → Setting
setting_of script attached r actor = record { actor = actor; actors = length r.cpus + 1; ticks = length attached.ticks; maps = script.maps }

-- an operation that the object takes, of whichever actor; and what it emits is an item of the script's formats and maps
abbrev pub IsOwnCall : Typed → Attached → Recording → ObjectId → Op → Type 0
IsOwnCall script attached r object op = CanStep (setting_of script attached r 0) object op × EmitsOnly (IsItemOf script.formats script.maps) op

-- such an operation, with a reply of its kind
abbrev pub IsOwnStep : Typed → Attached → Recording → Step → Type 0
IsOwnStep script attached r s = IsOwnCall script attached r s.object s.op × IsReplyOf script.maps s.object s.op s.reply
