use Rattle.std.proofs.Common.{◌≡◌, ℕ, ◌+◌, ◌≤◌, ◌*◌, length}
use Rattle.bt_core.specs.declared.limits.TheConstants.{BODIES}
use Rattle.bt_core.specs.Interaction.{Interaction, Left}
use Rattle.actor_plan.specs.declared.agenda.AgendaItem.{AgendaItem}
use Rattle.actor_plan.specs.declared.limits.TheConstants.{RUN_INSTRUCTIONS}
use Rattle.actor_plan.specs.Programs.{item_work, items_program}
use Rattle.actor_plan.proofs.TakingLaws.{counted}
use Rattle.actor_plan.proofs.program.run_items.Given as goal

abbrev pub invariant-loop-item : goal.invariant-loop-item
invariant-loop-item g l = let work : AgendaItem → Interaction ℕ = item_work (g.B.Bodies.plan l.fn.bodies) l.recording l.attached l.track in record {
  left : Left (items_program l.exits work l.fn.items) (g.P.Port.steps l.fn.port) (g.P.Port.steps l.port) (counted l.exits work l.instructions l.items);
  few : l.instructions + length l.items * (BODIES * RUN_INSTRUCTIONS) ≤ length l.fn.items * (BODIES * RUN_INSTRUCTIONS);
  port : g.P.Port.fixed l.port ≡ g.P.Port.fixed l.fn.port;
  plan : g.B.Bodies.plan l.bodies ≡ g.B.Bodies.plan l.fn.bodies;
}

abbrev pub decreases-loop-item : goal.decreases-loop-item
decreases-loop-item g l = length l.items
