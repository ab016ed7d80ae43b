use Rattle.std.proofs.Common.{◌≡◌, ℕ, ◌≤◌, ◌*◌, drop}
use Rattle.bt_core.specs.Interaction.{Interaction, Left}
use Rattle.actor_plan.specs.declared.limits.TheConstants.{RUN_INSTRUCTIONS}
use Rattle.actor_plan.specs.Programs.{in_turn}
use Rattle.actor_plan.proofs.InTurnLaws.{counted}
use Rattle.actor_plan.proofs.in_turn.run_in_turn.Given as goal

abbrev pub invariant-loop-body : goal.invariant-loop-body
invariant-loop-body g l = let run : ℕ → Interaction ℕ = (λ body. (g.B.Bodies.plan l.fn.bodies).run body l.context l.payload) in record {
  left : Left (in_turn run l.which) (g.P.Port.steps l.fn.port) (g.P.Port.steps l.port) (counted run l.total (drop l.body-index l.which));
  few : l.total ≤ l.body-index * RUN_INSTRUCTIONS;
  port : g.P.Port.fixed l.port ≡ g.P.Port.fixed l.fn.port;
  plan : g.B.Bodies.plan l.bodies ≡ g.B.Bodies.plan l.fn.bodies;
}
