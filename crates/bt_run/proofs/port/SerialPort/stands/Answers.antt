use Rattle.std.proofs.Common.{subst}
use Rattle.bt_run.specs.Runs.{IsSeen}
use Rattle.bt_run.proofs.port.SerialPort.stands.Goals as goal

pub returns : goal.returns
returns c = let r = c.self.inside.run in subst IsSeen c.self.view_is (record { objects = r.objects; lasts = r.lasts.items; top = r.top; run = c.self.invariant })
