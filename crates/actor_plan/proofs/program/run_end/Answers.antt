use Rattle.std.proofs.Common.{subst, ℕ, []}
use Rattle.bt_core.specs.Interaction.{Interaction, Performed}
use Rattle.actor_plan.specs.Programs.{in_turn}
use Rattle.actor_plan.proofs.program.run_end.Goals as goal

pub returns-clause-performed : goal.returns-clause-performed
returns-clause-performed g c =
    let r = c.args.recording.now in let plan = g.B.Bodies.plan c.args.bodies.now in
    let context = c.context_of_end-context.ensures in
    subst (λ (t : Interaction ℕ). Performed t (g.P.Port.steps c.args.port.now) (g.P.Port.steps c.run_in_turn.new.port) c.run_in_turn.result)
    (λ i. in_turn (λ body. plan.run body (context i) []) (c.as_slice.ensures i)) c.run_in_turn.ensures.performed
