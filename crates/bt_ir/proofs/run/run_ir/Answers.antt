use Rattle.std.proofs.Common.{◌≡◌, refl, ap, ◌∙◌, subst}
use Rattle.std.specs.Prelude.{List}
use Rattle.std.proofs.lemmas.Result.{err_from_is_err_and}
use Rattle.bt_core.specs.declared.map.MapDecl.{MapDecl}
use Rattle.bt_core.specs.Interaction.{Part, Whole}
use Rattle.bt_core.proofs.InteractionLaws.{Performed-none}
use Rattle.ir_code.specs.declared.blocks.Block.{Block}
use Rattle.ir_code.specs.declared.state.State.{State}
use Rattle.bt_ir.specs.declared.step.View.{View}
use Rattle.ir_code.specs.Meaning.{blocks_run, fresh, ir_run}
use Rattle.bt_ir.specs.Running.{scene_in}
use Rattle.bt_ir.proofs.Served.{probe_ready, probe_asks}
use Rattle.bt_ir.proofs.run.run_ir.Goals as goal

pub returns-in_err-state-clause-performed : goal.returns-in_err-state-clause-performed
returns-in_err-state-clause-performed g c =
    let p = err_from_is_err_and c.from_residual.result c.from_residual.ensures.1 in
    rw p.1 (Performed-none _ _ _ refl)

pub run_blocks-requires-clause-ready : goal.run_blocks-requires-clause-ready
run_blocks-requires-clause-ready g c =
    rw (c.as_slice-3).ensures (probe_ready (g.P.Port.fixed c.args.port.now).setting c.args.probe.now (record { context = c.args.context; payload = c.args.payload; actor = c.args.actor; actors = c.args.actors; maps = (c.as_slice-2).result }) c.args.context.now (c.as_slice-2).ensures c.requires)

pub run_blocks-requires-clause-can : goal.run_blocks-requires-clause-can
run_blocks-requires-clause-can g c =
    let start : c.in_ok-state.state ≡ fresh c.args.probe.now.variables = c.in_ok-state.ensures ∙ ap fresh c.as_slice.ensures in
    rw (c.as_slice-3).ensures (probe_asks (g.P.Port.fixed c.args.port.now).setting c.args.probe.now (scene_in (record { context = c.args.context; payload = c.args.payload; actor = c.args.actor; actors = c.args.actors; maps = (c.as_slice-2).result })) c.args.context.now c.in_ok-state.state (c.as_slice-2).ensures (ap (λ (s : State). s.stack) start) c.requires)

pub returns-in_err-ending-clause-performed : goal.returns-in_err-ending-clause-performed
unfolding ir_run
returns-in_err-ending-clause-performed g c =
    let p = err_from_is_err_and c.from_residual-in_err-ending.result c.from_residual-in_err-ending.ensures.1 in
    let start : c.in_ok-state.state ≡ fresh c.args.probe.now.variables = c.in_ok-state.ensures ∙ ap fresh c.as_slice.ensures in
    let view : View = record { context = c.args.context; payload = c.args.payload; actor = c.args.actor; actors = c.args.actors; maps = (c.as_slice-2).result } in
    let a = subst (λ (bs : List Block). Part (blocks_run bs (scene_in view) c.in_ok-state.state) (g.P.Port.steps c.args.port.now) (g.P.Port.steps c.run_blocks.new.port)) (c.as_slice-3).ensures c.in_err-ending.ensures.performed in
    let b = subst (λ (s : State). Part (blocks_run c.args.probe.now.blocks.list (scene_in view) s) (g.P.Port.steps c.args.port.now) (g.P.Port.steps c.run_blocks.new.port)) start a in
    rw p.1 (subst (λ (ms : List MapDecl). Part (blocks_run c.args.probe.now.blocks.list (record { context = c.args.context.now; payload = c.args.payload.now; actor = c.args.actor; actors = c.args.actors; maps = ms }) (fresh c.args.probe.now.variables)) (g.P.Port.steps c.args.port.now) (g.P.Port.steps c.run_blocks.new.port)) (c.as_slice-2).ensures b)

pub returns-clause-performed : goal.returns-clause-performed
unfolding ir_run
returns-clause-performed g c =
    let start : c.in_ok-state.state ≡ fresh c.args.probe.now.variables = c.in_ok-state.ensures ∙ ap fresh c.as_slice.ensures in
    let view : View = record { context = c.args.context; payload = c.args.payload; actor = c.args.actor; actors = c.args.actors; maps = (c.as_slice-2).result } in
    let a = subst (λ (bs : List Block). Whole (blocks_run bs (scene_in view) c.in_ok-state.state) (g.P.Port.steps c.args.port.now) (g.P.Port.steps c.run_blocks.new.port) c.in_ok-ending.ending) (c.as_slice-3).ensures c.in_ok-ending.ensures.performed in
    let b = subst (λ (s : State). Whole (blocks_run c.args.probe.now.blocks.list (scene_in view) s) (g.P.Port.steps c.args.port.now) (g.P.Port.steps c.run_blocks.new.port) c.in_ok-ending.ending) start a in
    subst (λ (ms : List MapDecl). Whole (blocks_run c.args.probe.now.blocks.list (record { context = c.args.context.now; payload = c.args.payload.now; actor = c.args.actor; actors = c.args.actors; maps = ms }) (fresh c.args.probe.now.variables)) (g.P.Port.steps c.args.port.now) (g.P.Port.steps c.run_blocks.new.port) c.in_ok-ending.ending) (c.as_slice-2).ensures b
