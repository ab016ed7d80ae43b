use Rattle.std.proofs.Common.{◌≡◌, ℕ, ◌<◌, List, [], sym, ap, ◌∙◌, subst}
use Rattle.bt_core.specs.declared.step.Step.{Step}
use Rattle.bt_core.specs.Interaction.{Interaction, Performed}
use Rattle.stamped.specs.Traces.{steps_of}
use Rattle.actor_plan.specs.declared.outcome.Outcome.{Outcome}
use Rattle.cpu_worker.specs.AtWork.{AtWork}
use Rattle.cpu_worker.specs.Worlds.{world_cpus}
use Rattle.cpu_worker.specs.Workers.{program_in}
use Rattle.cpu_worker.proofs.PortLemmas.{whole_runs, part_begins, actor_is_cpu}
use Rattle.cpu_worker.proofs.worker.CpuWorker.run.Goals as goal

pub returns-clause-whole : goal.returns-clause-whole
returns-clause-whole g c =
    let w = c.args.world.now in let plan = g.B.Bodies.plan c.args.self.now.bodies in let r = c.run_cpu-outcome.result in
    let old = steps_of c.new-port.result.trace in let left = c.into_parts-turns.result.1 in
    let empty : old ≡ [] = ap (λ (p : AtWork). steps_of p.trace) c.new-port.ensures ∙ ap steps_of c.replace-trace.ensures.value ∙ c.requires.empty in
    let low : plan.actor < world_cpus w = subst (λ (n : ℕ). n < world_cpus w) (sym c.requires.plan_is.actor_is) c.requires.known in
    let same = actor_is_cpu plan w.typed.now.uses_exit w.recording.now w.attached.now low in
    whole_runs (program_in g.B.Bodies.plan w c.args.self.now) old (steps_of left) empty r
    (subst (λ (ss : List Step). Performed (program_in g.B.Bodies.plan w c.args.self.now) old ss r) (sym (ap steps_of c.into_parts-turns.ensures.parts.1))
    (subst (λ (t : Interaction Outcome). Performed t old (steps_of c.run_cpu-outcome.new.port.trace) r) same c.run_cpu-outcome.ensures.performed))

pub returns-clause-part : goal.returns-clause-part
returns-clause-part g c =
    let w = c.args.world.now in let plan = g.B.Bodies.plan c.args.self.now.bodies in let r = c.run_cpu-outcome.result in
    let old = steps_of c.new-port.result.trace in let left = c.into_parts-turns.result.1 in
    let empty : old ≡ [] = ap (λ (p : AtWork). steps_of p.trace) c.new-port.ensures ∙ ap steps_of c.replace-trace.ensures.value ∙ c.requires.empty in
    let low : plan.actor < world_cpus w = subst (λ (n : ℕ). n < world_cpus w) (sym c.requires.plan_is.actor_is) c.requires.known in
    let same = actor_is_cpu plan w.typed.now.uses_exit w.recording.now w.attached.now low in
    part_begins (program_in g.B.Bodies.plan w c.args.self.now) old (steps_of left) empty r
    (subst (λ (ss : List Step). Performed (program_in g.B.Bodies.plan w c.args.self.now) old ss r) (sym (ap steps_of c.into_parts-turns.ensures.parts.1))
    (subst (λ (t : Interaction Outcome). Performed t old (steps_of c.run_cpu-outcome.new.port.trace) r) same c.run_cpu-outcome.ensures.performed))
