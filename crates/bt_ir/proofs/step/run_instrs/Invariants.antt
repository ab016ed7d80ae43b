use Rattle.std.proofs.Common.{◌≡◌, drop}
use Rattle.bt_core.specs.Interaction.{Left}
use Rattle.ir_code.specs.Meaning.{instrs_run}
use Rattle.bt_ir.specs.Running.{MayAsk, AreReady, scene_in}
use Rattle.bt_ir.proofs.step.run_instrs.Given as goal

abbrev pub invariant-loop-instr : goal.invariant-loop-instr
invariant-loop-instr g l = record {
  left : Left (instrs_run l.fn.instrs (scene_in l.view) l.fn.state) (g.P.Port.steps l.fn.port) (g.P.Port.steps l.port) (instrs_run (drop l.instr-index l.instrs) (scene_in l.view) l.state);
  ready : AreReady (g.P.Port.fixed l.fn.port).setting l.view (drop l.instr-index l.instrs);
  can : MayAsk (g.P.Port.fixed l.fn.port).setting (instrs_run (drop l.instr-index l.instrs) (scene_in l.view) l.state);
  kept : g.P.Port.fixed l.port ≡ g.P.Port.fixed l.fn.port;
}
