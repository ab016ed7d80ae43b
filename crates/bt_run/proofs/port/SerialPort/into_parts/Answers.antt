use Rattle.std.proofs.Common.{sym, ap, subst}
use Rattle.run_objects.specs.declared.objects.Objects.{Objects}
use Rattle.step_list.specs.Lists.{steps_in}
use Rattle.bt_run.specs.Runs.{Seen, IsLeft, IsRunOf, world_of}
use Rattle.bt_run.proofs.port.SerialPort.into_parts.Goals as goal

pub returns : goal.returns
returns c =
    let r = c.self.inside.run in
    subst (λ (p : Seen). IsLeft p c.into_parts.result.0 (steps_in c.into_parts.result.1)) c.self.view_is (record {
      lasts = r.lasts.items;
      top = r.top;
      same = ap steps_in c.into_parts.ensures.steps;
      run = subst (λ (o : Objects). IsRunOf (world_of r) o r.lasts.items r.top (steps_in r.steps) r.turn) (sym c.into_parts.ensures.objects) c.self.invariant;
    })
