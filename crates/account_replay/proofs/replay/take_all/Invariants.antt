use Rattle.std.proofs.Common.{◌≡◌, ◌-◌, length, map}
use Rattle.step_entries.specs.Blank.{blank}
use Rattle.account_replay.specs.Replaying.{IsReplaying, world_of}
use Rattle.account_replay.proofs.replay.take_all.Given as goal

-- so far all entries were made
abbrev pub invariant-loop-state : goal.invariant-loop-state
invariant-loop-state l = record {
  replaying : IsReplaying l.state;
  world : world_of l.state ≡ world_of l.fn.state;
  told : map blank l.state.entries ≡ map blank l.fn.state.entries;
}

abbrev pub decreases-loop-state : goal.decreases-loop-state
decreases-loop-state l = length l.state.entries - l.state.at
