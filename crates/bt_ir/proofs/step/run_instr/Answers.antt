use Rattle.std.proofs.Common.{refl, sym, subst, SFits, w64, rules}
use Rattle.std.proofs.lemmas.Int.{to_z-of_z}
use Rattle.std.proofs.lemmas.Result.{err_from_is_err_and}
use Rattle.bt_core.specs.Interaction.{Whole, Part}
use Rattle.bt_core.proofs.InteractionLaws.{Part-and_then, Whole-and_then, Whole-Ended}
use Rattle.ir_code.specs.declared.instr.Instr.{Instr}
use Rattle.ir_code.specs.Meaning.{instr_run}
use Rattle.bt_ir.specs.Running.{scene_in}
use Rattle.bt_ir.proofs.step.run_instr.Goals as goal

pub returns-in_err-print-in-Print-clause-performed : goal.returns-in_err-print-in-Print-clause-performed
returns-in_err-print-in-Print-clause-performed g c =
    let p = err_from_is_err_and c.from_residual-in_err-print-in-Print.result c.from_residual-in_err-print-in-Print.ensures.1 in
    let fits : SFits w64 c.in-Print.div = search rules in
    let made = simp to_z-of_z at c.in_err-print-in-Print.ensures.performed in
    rw p.1 (subst (λ (i : Instr). Part (instr_run i (scene_in c.args.view.now) c.args.state.now) (g.P.Port.steps c.args.port.now) (g.P.Port.steps c.print.new.port)) (sym c.in-Print.is) (Part-and_then _ _ _ _ made))

pub returns-in_ok-print-in-Print-clause-performed : goal.returns-in_ok-print-in-Print-clause-performed
returns-in_ok-print-in-Print-clause-performed g c =
    let fits : SFits w64 c.in-Print.div = search rules in
    let made = simp to_z-of_z at c.in_ok-print-in-Print.ensures.performed in
    subst (λ (i : Instr). Whole (instr_run i (scene_in c.args.view.now) c.args.state.now) (g.P.Port.steps c.args.port.now) (g.P.Port.steps c.print.new.port) c.args.state.now) (sym c.in-Print.is)
    (Whole-and_then _ _ _ _ _ _ _ made (Whole-Ended _ _ _ refl))

pub returns-in_err-get_on-in-Get-clause-performed : goal.returns-in_err-get_on-in-Get-clause-performed
returns-in_err-get_on-in-Get-clause-performed g c =
    let p = err_from_is_err_and c.from_residual-in_err-get_on-in-Get.result c.from_residual-in_err-get_on-in-Get.ensures.1 in
    let made = simp c.as_slice.ensures at c.in_err-get_on-in-Get.ensures.performed in
    rw p.1 (subst (λ (i : Instr). Part (instr_run i (scene_in c.args.view.now) c.args.state.now) (g.P.Port.steps c.args.port.now) (g.P.Port.steps c.get_on.new.port)) (sym c.in-Get.is) made)

pub returns-in_ok-get_on-in-Get-clause-performed : goal.returns-in_ok-get_on-in-Get-clause-performed
returns-in_ok-get_on-in-Get-clause-performed g c =
    let made = simp c.as_slice.ensures at c.in_ok-get_on-in-Get.ensures.performed in
    subst (λ (i : Instr). Whole (instr_run i (scene_in c.args.view.now) c.args.state.now) (g.P.Port.steps c.args.port.now) (g.P.Port.steps c.get_on.new.port) c.get_on.new.state) (sym c.in-Get.is) made

pub returns-in_err-sum_on-in-ReadAgg-clause-performed : goal.returns-in_err-sum_on-in-ReadAgg-clause-performed
returns-in_err-sum_on-in-ReadAgg-clause-performed g c =
    let p = err_from_is_err_and c.from_residual-in_err-sum_on-in-ReadAgg.result c.from_residual-in_err-sum_on-in-ReadAgg.ensures.1 in
    let made = simp c.as_slice-in-ReadAgg.ensures at c.in_err-sum_on-in-ReadAgg.ensures.performed in
    rw p.1 (subst (λ (i : Instr). Part (instr_run i (scene_in c.args.view.now) c.args.state.now) (g.P.Port.steps c.args.port.now) (g.P.Port.steps c.sum_on.new.port)) (sym c.in-ReadAgg.is) made)

pub returns-in_ok-sum_on-in-ReadAgg-clause-performed : goal.returns-in_ok-sum_on-in-ReadAgg-clause-performed
returns-in_ok-sum_on-in-ReadAgg-clause-performed g c =
    let made = simp c.as_slice-in-ReadAgg.ensures at c.in_ok-sum_on-in-ReadAgg.ensures.performed in
    subst (λ (i : Instr). Whole (instr_run i (scene_in c.args.view.now) c.args.state.now) (g.P.Port.steps c.args.port.now) (g.P.Port.steps c.sum_on.new.port) c.sum_on.new.state) (sym c.in-ReadAgg.is) made

pub returns-in_err-set_on-in-Set-clause-performed : goal.returns-in_err-set_on-in-Set-clause-performed
returns-in_err-set_on-in-Set-clause-performed g c =
    let p = err_from_is_err_and c.from_residual-in_err-set_on-in-Set.result c.from_residual-in_err-set_on-in-Set.ensures.1 in
    let made = simp c.as_slice-in-Set.ensures at c.in_err-set_on-in-Set.ensures.performed in
    rw p.1 (subst (λ (i : Instr). Part (instr_run i (scene_in c.args.view.now) c.args.state.now) (g.P.Port.steps c.args.port.now) (g.P.Port.steps c.set_on.new.port)) (sym c.in-Set.is) made)

pub returns-in_ok-set_on-in-Set-clause-performed : goal.returns-in_ok-set_on-in-Set-clause-performed
returns-in_ok-set_on-in-Set-clause-performed g c =
    let made = simp c.as_slice-in-Set.ensures at c.in_ok-set_on-in-Set.ensures.performed in
    subst (λ (i : Instr). Whole (instr_run i (scene_in c.args.view.now) c.args.state.now) (g.P.Port.steps c.args.port.now) (g.P.Port.steps c.set_on.new.port) c.set_on.new.state) (sym c.in-Set.is) made

pub returns-in_err-delete_on-in-Delete-clause-performed : goal.returns-in_err-delete_on-in-Delete-clause-performed
returns-in_err-delete_on-in-Delete-clause-performed g c =
    let p = err_from_is_err_and c.from_residual-in_err-delete_on-in-Delete.result c.from_residual-in_err-delete_on-in-Delete.ensures.1 in
    let made = simp c.as_slice-in-Delete.ensures at c.in_err-delete_on-in-Delete.ensures.performed in
    rw p.1 (subst (λ (i : Instr). Part (instr_run i (scene_in c.args.view.now) c.args.state.now) (g.P.Port.steps c.args.port.now) (g.P.Port.steps c.delete_on.new.port)) (sym c.in-Delete.is) made)

pub returns-in_ok-delete_on-in-Delete-clause-performed : goal.returns-in_ok-delete_on-in-Delete-clause-performed
returns-in_ok-delete_on-in-Delete-clause-performed g c =
    let made = simp c.as_slice-in-Delete.ensures at c.in_ok-delete_on-in-Delete.ensures.performed in
    subst (λ (i : Instr). Whole (instr_run i (scene_in c.args.view.now) c.args.state.now) (g.P.Port.steps c.args.port.now) (g.P.Port.steps c.delete_on.new.port) c.delete_on.new.state) (sym c.in-Delete.is) made

pub returns-in_err-update_on-in-Update-clause-performed : goal.returns-in_err-update_on-in-Update-clause-performed
returns-in_err-update_on-in-Update-clause-performed g c =
    let p = err_from_is_err_and c.from_residual-in_err-update_on-in-Update.result c.from_residual-in_err-update_on-in-Update.ensures.1 in
    let made = simp c.as_slice-in-Update.ensures at c.in_err-update_on-in-Update.ensures.performed in
    rw p.1 (subst (λ (i : Instr). Part (instr_run i (scene_in c.args.view.now) c.args.state.now) (g.P.Port.steps c.args.port.now) (g.P.Port.steps c.update_on.new.port)) (sym c.in-Update.is) made)

pub returns-in_ok-update_on-in-Update-clause-performed : goal.returns-in_ok-update_on-in-Update-clause-performed
returns-in_ok-update_on-in-Update-clause-performed g c =
    let made = simp c.as_slice-in-Update.ensures at c.in_ok-update_on-in-Update.ensures.performed in
    subst (λ (i : Instr). Whole (instr_run i (scene_in c.args.view.now) c.args.state.now) (g.P.Port.steps c.args.port.now) (g.P.Port.steps c.update_on.new.port) c.update_on.new.state) (sym c.in-Update.is) made

pub returns-in_err-step_on-in-StepMap-clause-performed : goal.returns-in_err-step_on-in-StepMap-clause-performed
returns-in_err-step_on-in-StepMap-clause-performed g c =
    let p = err_from_is_err_and c.from_residual-in_err-step_on-in-StepMap.result c.from_residual-in_err-step_on-in-StepMap.ensures.1 in
    let made = simp c.as_slice-in-StepMap.ensures at c.in_err-step_on-in-StepMap.ensures.performed in
    rw p.1 (subst (λ (i : Instr). Part (instr_run i (scene_in c.args.view.now) c.args.state.now) (g.P.Port.steps c.args.port.now) (g.P.Port.steps c.step_on.new.port)) (sym c.in-StepMap.is) made)

pub returns-in_ok-step_on-in-StepMap-clause-performed : goal.returns-in_ok-step_on-in-StepMap-clause-performed
returns-in_ok-step_on-in-StepMap-clause-performed g c =
    let made = simp c.as_slice-in-StepMap.ensures at c.in_ok-step_on-in-StepMap.ensures.performed in
    subst (λ (i : Instr). Whole (instr_run i (scene_in c.args.view.now) c.args.state.now) (g.P.Port.steps c.args.port.now) (g.P.Port.steps c.step_on.new.port) c.step_on.new.state) (sym c.in-StepMap.is) made
