use denote.Param.Send.{sendable}
use Rattle.std.proofs.Crossing.{crosses}
use Rattle.cpu_worker.proofs.ScriptShared.{sync_typed}
use Rattle.worker_tests.proofs.runs.run_two.Goals as goal

pub run_both-requires-send-B : goal.run_both-requires-send-B
run_both-requires-send-B g c κs within = search (sync_typed, crosses, sendable) depth 60 fits 20000
