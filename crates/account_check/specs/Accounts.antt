-- Accounts of the runs of a script over a recording.
use Rattle.std.specs.Prelude.{◌≡◌, ℕ, ◌<◌, ◌^◌, List, length}
use Rattle.std.specs.List.{AllByRecursion}
use Rattle.bt_ast.specs.declared.attached.Attached.{Attached}
use Rattle.bt_core.specs.declared.step.Step.{Step}
use Rattle.bt_core.specs.Ports.{Setting}
use Rattle.recordings.specs.declared.recording.Recording.{Recording}
use Rattle.typed_tree.specs.declared.script.Typed.{Typed}
use Rattle.bt_meaning.specs.Interleavings.{IsReplayed}
use Rattle.bt_meaning.specs.OwnSteps.{setting_of}
use Rattle.bt_meaning.specs.Prints.{printed_text}
use Rattle.bt_meaning.specs.Replays.{Replay, cpus_of}
use Rattle.bt_meaning.specs.Walks.{replay_of}
use Rattle.account_format.specs.Entries.{FitsStep}
use Rattle.account_format.specs.Accounts.{account_bytes}

module _ (script : Typed) (attached : Attached) (r : Recording) where
  -- what entries may name: the CPUs and the main actor, the ticks that are attached, and the script's maps
  abbrev pub named : Setting
  named = setting_of script attached r 0

  -- the script over the recording
  abbrev pub run : Replay
  run = replay_of script attached r

  -- what steps print
  abbrev pub text_after : List Step → List ℕ
  text_after steps = printed_text script (cpus_of run) steps

  -- the bytes tell the steps of a run, and what they print
  pub record IsTrueAccount (bytes : List ℕ) (steps : List Step) : Type 0 where
    pub replayed : IsReplayed run steps
    pub fits : AllByRecursion FitsStep steps
    pub few : length steps < 2 ^ 64
    pub short : length (text_after steps) < 2 ^ 64
    pub spelled : bytes ≡ account_bytes steps (text_after steps)
