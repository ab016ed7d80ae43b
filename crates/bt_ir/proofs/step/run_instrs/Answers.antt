use Rattle.std.proofs.Common.{refl, ◌∙◌}
use Rattle.std.proofs.lemmas.Result.{err_from_is_err_and}
use Rattle.bt_core.proofs.InteractionLaws.{Left-here}
use Rattle.bt_ir.specs.Running.{scene_in}
use Rattle.bt_ir.proofs.Asks.{each-ready, each-can, each-stops, each-left, each-can-on, all-end}
use Rattle.bt_ir.proofs.step.run_instrs.Goals as goal

pub loop-instr-init : goal.loop-instr-init
loop-instr-init g c = record { left = Left-here _ _; ready = c.requires.ready; can = c.requires.can; kept = refl }

pub run_instr-requires-clause-ready : goal.run_instr-requires-clause-ready
run_instr-requires-clause-ready g c = rw c.loop-instr.invariant.kept ((each-ready (g.P.Port.fixed c.args.port.now).setting c.args.view.now _ _ _ c.loop-instr-test.true c.instr-item.is c.loop-instr.invariant.ready).0)

pub run_instr-requires-clause-can : goal.run_instr-requires-clause-can
run_instr-requires-clause-can g c = rw c.loop-instr.invariant.kept (each-can (g.P.Port.fixed c.args.port.now).setting (scene_in c.args.view.now) _ _ _ _ c.loop-instr-test.true c.instr-item.is c.loop-instr.invariant.can)

pub returns-in_err-run_instr-clause-performed : goal.returns-in_err-run_instr-clause-performed
returns-in_err-run_instr-clause-performed g c =
    let p = err_from_is_err_and c.from_residual.result c.from_residual.ensures.1 in
    rw p.1 (each-stops _ (scene_in c.args.view.now) _ _ _ _ _ _ _ c.loop-instr-test.true c.instr-item.is c.loop-instr.invariant.left c.in_err-run_instr.ensures.performed)

pub loop-instr-preserved : goal.loop-instr-preserved
loop-instr-preserved g c = record {
  left = each-left _ (scene_in c.args.view.now) _ _ _ _ _ _ _ _ c.loop-instr-test.true c.instr-item.is c.loop-instr.invariant.left c.in_ok-run_instr.ensures.performed;
  ready = (each-ready (g.P.Port.fixed c.args.port.now).setting c.args.view.now _ _ _ c.loop-instr-test.true c.instr-item.is c.loop-instr.invariant.ready).1;
  can = each-can-on (g.P.Port.fixed c.args.port.now).setting (scene_in c.args.view.now) _ _ _ _ _ _ _ c.loop-instr-test.true c.instr-item.is c.loop-instr.invariant.can c.in_ok-run_instr.ensures.performed;
  kept = c.in_ok-run_instr.ensures.kept ∙ c.loop-instr.invariant.kept;
}

pub returns-clause-performed : goal.returns-clause-performed
returns-clause-performed g c = all-end _ (scene_in c.args.view.now) _ _ _ _ _ c.loop-instr-test.false c.loop-instr.invariant.left
