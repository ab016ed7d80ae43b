use Rattle.std.proofs.Common.{◌≡◌}
use Rattle.ir_code.specs.Meaning.{blocks_run}
use Rattle.bt_ir.specs.Running.{scene_in}
use Rattle.bt_ir.proofs.Ranks.{Going, rank}
use Rattle.bt_ir.proofs.run.run_blocks.Given as goal

abbrev pub invariant-loop-state : goal.invariant-loop-state
invariant-loop-state g l = record {
  going : Going (blocks_run l.fn.blocks (scene_in l.view) l.fn.state) (g.P.Port.fixed l.fn.port).setting (g.P.Port.steps l.fn.port) (g.P.Port.steps l.port) l.blocks (scene_in l.view) l.at l.state;
  kept : g.P.Port.fixed l.port ≡ g.P.Port.fixed l.fn.port;
}

abbrev pub decreases-loop-state : goal.decreases-loop-state
decreases-loop-state g l = rank l.blocks l.state.turns l.at
