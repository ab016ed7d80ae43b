use Rattle.std.proofs.Common.{◌≡◌, max, drop}
use Rattle.weave.specs.Ends.{latest}
use Rattle.thread_actors.proofs.tasks.latest_clock.Given as goal

abbrev pub invariant-loop-trace : goal.invariant-loop-trace
invariant-loop-trace l = max l.most (latest (drop l.trace-index l.traces)) ≡ latest l.traces
