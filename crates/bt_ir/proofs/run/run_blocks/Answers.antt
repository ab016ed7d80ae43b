use Rattle.std.proofs.Common.{◌≡◌, refl, sym, ◌∙◌, subst, Some}
use Rattle.std.specs.Prelude.{slice_get, List}
use Rattle.std.proofs.lemmas.Result.{err_from_is_err_and}
use Rattle.bt_core.specs.Interaction.{Part, Whole}
use Rattle.ir_code.specs.declared.instr.Instr.{Instr}
use Rattle.ir_code.specs.Meaning.{instrs_run}
use Rattle.bt_ir.specs.Running.{scene_in}
use Rattle.bt_ir.proofs.Ranks.{Going-starts, Going-can, Going-stops, Going-drops, Going-ends, Going-next, Going-falls, ready_at}
use Rattle.bt_ir.proofs.Served.{here_of}
use Rattle.bt_ir.proofs.run.run_blocks.Goals as goal

pub loop-state-init : goal.loop-state-init
loop-state-init g c = record { going = Going-starts (g.P.Port.fixed c.args.port.now).setting (g.P.Port.steps c.args.port.now) c.args.blocks.now (scene_in c.args.view.now) c.args.state.now c.requires.led c.requires.can; kept = refl }

pub run_instrs-requires-clause-ready : goal.run_instrs-requires-clause-ready
run_instrs-requires-clause-ready g c =
    let here : slice_get c.args.blocks.now c.loop-state.at ≡ Some c.index-blocks-at.result = here_of c.args.blocks.now c.loop-state.at c.index-blocks-at.result c.loop-state.invariant.going.there c.index-blocks-at.is in
    rw (c.loop-state.invariant.kept, c.as_slice.ensures) (ready_at (g.P.Port.fixed c.args.port.now).setting c.args.view.now c.args.blocks.now c.loop-state.at c.index-blocks-at.result c.requires.ready here)

pub run_instrs-requires-clause-can : goal.run_instrs-requires-clause-can
run_instrs-requires-clause-can g c =
    let here : slice_get c.args.blocks.now c.loop-state.at ≡ Some c.index-blocks-at.result = here_of c.args.blocks.now c.loop-state.at c.index-blocks-at.result c.loop-state.invariant.going.there c.index-blocks-at.is in
    rw (c.loop-state.invariant.kept, c.as_slice.ensures) (Going-can _ _ _ _ _ _ _ _ _ here c.loop-state.invariant.going)

pub returns-in_err-run_instrs-clause-performed : goal.returns-in_err-run_instrs-clause-performed
returns-in_err-run_instrs-clause-performed g c =
    let p = err_from_is_err_and c.from_residual.result c.from_residual.ensures.1 in
    let here : slice_get c.args.blocks.now c.loop-state.at ≡ Some c.index-blocks-at.result = here_of c.args.blocks.now c.loop-state.at c.index-blocks-at.result c.loop-state.invariant.going.there c.index-blocks-at.is in
    let part = subst (λ (l : List Instr). Part (instrs_run l (scene_in c.args.view.now) c.loop-state.state) (g.P.Port.steps c.loop-state.port) (g.P.Port.steps c.run_instrs.new.port)) c.as_slice.ensures c.in_err-run_instrs.ensures.performed in
    rw p.1 (Going-stops _ _ _ _ _ _ _ _ _ here _ c.loop-state.invariant.going part)

pub returns-in_err-next-clause-performed : goal.returns-in_err-next-clause-performed
returns-in_err-next-clause-performed g c =
    let p = err_from_is_err_and c.from_residual-in_err-next.result c.from_residual-in_err-next.ensures.1 in
    let here : slice_get c.args.blocks.now c.loop-state.at ≡ Some c.index-blocks-at.result = here_of c.args.blocks.now c.loop-state.at c.index-blocks-at.result c.loop-state.invariant.going.there c.index-blocks-at.is in
    let whole = subst (λ (l : List Instr). Whole (instrs_run l (scene_in c.args.view.now) c.loop-state.state) (g.P.Port.steps c.loop-state.port) (g.P.Port.steps c.run_instrs.new.port) c.run_instrs.new.state) c.as_slice.ensures c.in_ok-run_instrs.ensures.performed in
    rw p.1 (Going-drops _ _ _ _ _ _ _ _ _ here _ _ whole c.loop-state.invariant.going)

pub loop-state-smaller : goal.loop-state-smaller
loop-state-smaller g c =
    let here : slice_get c.args.blocks.now c.loop-state.at ≡ Some c.index-blocks-at.result = here_of c.args.blocks.now c.loop-state.at c.index-blocks-at.result c.loop-state.invariant.going.there c.index-blocks-at.is in
    let whole = subst (λ (l : List Instr). Whole (instrs_run l (scene_in c.args.view.now) c.loop-state.state) (g.P.Port.steps c.loop-state.port) (g.P.Port.steps c.run_instrs.new.port) c.run_instrs.new.state) c.as_slice.ensures c.in_ok-run_instrs.ensures.performed in
    Going-falls _ _ _ _ _ _ _ _ _ here _ _ whole _ _ c.requires.led (sym c.in_ok-next.ensures.way ∙ c.in-To.is) c.in_ok-next.ensures.state c.loop-state.invariant.going

pub loop-state-preserved : goal.loop-state-preserved
loop-state-preserved g c =
    let here : slice_get c.args.blocks.now c.loop-state.at ≡ Some c.index-blocks-at.result = here_of c.args.blocks.now c.loop-state.at c.index-blocks-at.result c.loop-state.invariant.going.there c.index-blocks-at.is in
    let whole = subst (λ (l : List Instr). Whole (instrs_run l (scene_in c.args.view.now) c.loop-state.state) (g.P.Port.steps c.loop-state.port) (g.P.Port.steps c.run_instrs.new.port) c.run_instrs.new.state) c.as_slice.ensures c.in_ok-run_instrs.ensures.performed in
    record {
      going = Going-next _ _ _ _ _ _ _ _ _ here _ _ whole _ _ c.requires.led (sym c.in_ok-next.ensures.way ∙ c.in-To.is) c.in_ok-next.ensures.state c.loop-state.invariant.going;
      kept = c.in_ok-run_instrs.ensures.kept ∙ c.loop-state.invariant.kept;
    }

pub returns-in-Ends-clause-performed : goal.returns-in-Ends-clause-performed
returns-in-Ends-clause-performed g c =
    let here : slice_get c.args.blocks.now c.loop-state.at ≡ Some c.index-blocks-at.result = here_of c.args.blocks.now c.loop-state.at c.index-blocks-at.result c.loop-state.invariant.going.there c.index-blocks-at.is in
    let whole = subst (λ (l : List Instr). Whole (instrs_run l (scene_in c.args.view.now) c.loop-state.state) (g.P.Port.steps c.loop-state.port) (g.P.Port.steps c.run_instrs.new.port) c.run_instrs.new.state) c.as_slice.ensures c.in_ok-run_instrs.ensures.performed in
    Going-ends _ _ _ _ _ _ _ _ _ here _ _ whole _ (sym c.in_ok-next.ensures.way ∙ c.in-Ends.is) c.loop-state.invariant.going
