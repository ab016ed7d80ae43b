-- Runs on one thread over recordings with marks of lost events.
use Rattle.std.specs.Prelude.{ℕ, ◌+◌, Bool, true, false, List, [], ◌∷◌, length}
use Rattle.bt_core.specs.declared.item.Item.TheVariants as items
use Rattle.bt_core.specs.declared.map.MapDecl.{MapDecl}
use Rattle.bt_core.specs.declared.step.ObjectId.TheVariants.{Clock, Out}
use Rattle.bt_core.specs.declared.step.Op.TheVariants.{Emit, Stop}
use Rattle.bt_core.specs.declared.step.Reply.TheVariants.{Done}
use Rattle.bt_core.specs.declared.step.Step.{Step}
use Rattle.bt_core.specs.Interaction.{Interaction}
use Rattle.recordings.specs.declared.recording.CpuTrack.{CpuTrack}
use Rattle.bt_meaning.specs.Replays.{Replay}
use Rattle.meaning_tests.specs.Serial.{checks}
use Rattle.meaning_tests.specs.Written.{attached_with, event_at, lost_at, counts_decl, counts_one, step, adds, stops}

-- one body, which is run at events of these CPUs
abbrev pub over_marks : List CpuTrack → Bool → List MapDecl → (ℕ → Interaction ℕ) → Replay
over_marks cpus exits maps run = record {
  recording = record { version = 2; start = 0; end = 10; formats = []; cpus = cpus };
  attached = attached_with [];
  exits = exits;
  maps = maps;
  plan = λ actor. record { actor = actor; actors = length cpus + 1; maps = maps; sizes = 0 ∷ []; run = λ body context payload. run actor };
}

-- a CPU tells of lost events
abbrev pub tells : ℕ → ℕ → ℕ → Step
tells actor number count = step actor Out (Emit (items.Lost number count)) Done

-- tracepoint:t:e { @ = count(); }, with an event at 1, a mark of 5 at 2, and an event at 3
abbrev pub marked_between : Replay
marked_between = over_marks (record { number = 0; entries = event_at 1 ∷ lost_at 2 5 ∷ event_at 3 ∷ [] } ∷ []) false (counts_decl ∷ []) (λ actor. counts_one actor [] 5)

abbrev pub told_between : List Step
told_between = adds 0 ∷ tells 0 0 5 ∷ adds 0 ∷ []

-- tracepoint:t:e { exit(); }, with an event at 1 and a mark at 2, which is not told of any more
abbrev pub stopped_before : Replay
stopped_before = over_marks (record { number = 0; entries = event_at 1 ∷ lost_at 2 1 ∷ [] } ∷ []) true [] (λ actor. stops 7)

abbrev pub untold : List Step
untold = checks 0 false ∷ step 0 Clock Stop Done ∷ checks 0 true ∷ []

-- two CPUs, of which the second has the earlier mark
abbrev pub marked_twice : Replay
marked_twice = over_marks (record { number = 0; entries = lost_at 9 1 ∷ [] } ∷ record { number = 1; entries = lost_at 4 2 ∷ [] } ∷ []) false [] (λ actor. stops 7)

abbrev pub told_by_time : List Step
told_by_time = tells 1 1 2 ∷ tells 0 0 1 ∷ []
