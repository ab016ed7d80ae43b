use Rattle.std.proofs.Common.{◌≡◌, ◌+◌, true, map, length}
use Rattle.std.specs.Prelude.{replicate}
use Rattle.bt_meaning.specs.Serial.{unstamped, taken}
use Rattle.bt_run.specs.Counts.{taken_count}
use Rattle.run_output.specs.Jobs.{cpus_in, plans_by, replay_with, world_for}
use Rattle.bt_run.proofs.serial.take_all.Given as goal

abbrev pub invariant-loop-item : goal.invariant-loop-item
invariant-loop-item l = record {
  left : taken (replay_with l.job (plans_by l.job l.codes)) l.schedule l.going.items (map unstamped l.port.steps)
      ≡ taken (replay_with l.job (plans_by l.job l.codes)) l.fn.schedule (replicate (cpus_in l.job) true) (map unstamped l.fn.port.steps);
  counted : l.total + taken_count (replay_with l.job (plans_by l.job l.codes)) l.schedule l.going.items (map unstamped l.port.steps)
      ≡ taken_count (replay_with l.job (plans_by l.job l.codes)) l.fn.schedule (replicate (cpus_in l.job) true) (map unstamped l.fn.port.steps);
  long : length l.going.items ≡ cpus_in l.job;
  world : l.port.world ≡ world_for l.job;
  among : l.port.turn.among ≡ true;
  begun : l.port.turn.begun ≡ l.fn.port.turn.begun;
}

abbrev pub decreases-loop-item : goal.decreases-loop-item
decreases-loop-item l = length l.schedule
