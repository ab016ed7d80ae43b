use Rattle.std.proofs.Common.{◌∙◌, sym, subst}
use Rattle.bt_core.specs.Ports.{CanStep}
use Rattle.stamped.specs.Traces.{actor_of}
use Rattle.cpu_worker.specs.AtWork.{AtWork}
use Rattle.cpu_worker.specs.Worlds.{sets_in, setting_in, AreTurnsOf}
use Rattle.cpu_worker.proofs.ChainLemmas.{since_step}
use Rattle.cpu_worker.proofs.WorldLemmas.{keeps_more}
use Rattle.cpu_worker.proofs.world_port.WorldPortPort.step.Goals as goal

pub invariant_of-self : goal.invariant_of-self
invariant_of-self g c = let p = c.self.inside in let i = c.self.invariant in let m = c.make_step in let w = p.world.now in record {
  actor = m.ensures.actor ∙ i.actor;
  turns_are = subst (λ a. AreTurnsOf (sets_in w) a m.new.turns) i.actor m.ensures.turns;
  own = keeps_more (sets_in w) p.first_turns.value p.first_trace.value p.turns p.trace m.new.turns m.new.trace i.own m.ensures.own;
  since = since_step (setting_in w (actor_of p.first_trace.value)) c.args.object c.args.op.now
      (subst (λ (v : AtWork). CanStep v.setting c.args.object c.args.op.now) (sym c.self.view_is) c.requires)
      p.first_trace.value p.trace m.new.trace i.actor i.since m.result m.ensures.done m.ensures.memory;
}
