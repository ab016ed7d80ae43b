use Rattle.std.proofs.Common.{◌≡◌, ◌<◌, ◌-◌, ◌∙◌, suc, List, Option, Some, None, option_map, map, refl, sym, ap, subst, arith, rules, SFits, w64}
use Rattle.std.proofs.lemmas.Int.{to_z-of_z}
use Rattle.std.proofs.lemmas.Result.{err_from_is_err_and, IfOk-weaker}
use Rattle.bt_core.proofs.InteractionLaws.{Left-here, Left-is}
use Rattle.typed_tree.specs.declared.stmt.TypedBlock as blocks
use Rattle.typed_tree.specs.declared.stmt.TypedStmt as stmts
use Rattle.typed_tree.specs.declared.stmt.TypedBlock.{TypedBlock}
use Rattle.typed_tree.specs.declared.stmt.TypedStmt.{TypedStmt}
use Rattle.typed_tree.specs.declared.stmt.TypedStmt.TheVariants.{If}
use Rattle.walk_meaning.specs.declared.flow.Flow.{Flow}
use Rattle.walk_meaning.specs.declared.flow.Flow.TheVariants.{Stop}
use Rattle.bt_core.specs.declared.ending.Ending.TheVariants.{Cut}
use Rattle.walk_meaning.specs.Does.{Does}
use Rattle.bt_walk.specs.Flows.{leaves}
use Rattle.walk_meaning.specs.Stmts.{stmt_does, block_does, in_sequence, block_or_next}
use Rattle.walk_meaning.specs.Served.{IsServed, StmtFits, scene_in}
use Rattle.bt_walk.proofs.Binds.{Walked-next, Looked-done, Changed-done, Stopped}
use Rattle.bt_walk.proofs.Loops.{Left-Walked, done_with, block-stop, block-next, block-leaves, block-end, arm-stop, arm-yes, arm-no, arms-end, turns-start, turns-stop, turns-next, turns-leaves, turns-end, while-starts, while-stop, while-ends, while-breaks, while-leaves, while-again}
use Rattle.bt_walk.proofs.WalkedAs.{Walked-stmt}
use Rattle.walk_meaning.proofs.StmtDoes.{print_stmt, if_stmt, arms_fit, otherwise_fits, block_is, stmts_fit}
use Rattle.bt_walk.proofs.Statements.{same_turns, clear_does, delete_does, delete_fits, gather_does, gather_fits, jump_does, printf_does, printf_fits, setmap_does, setmap_fits, setvar_does, setvar_fits, step_does, step_fits, unroll_does, unroll_fits, updatemap_does, updatemap_fits, updatevar_does, updatevar_fits, while_does, while_fits, zero_does}
use Rattle.bt_walk.proofs.Fitting.{served_still}
use Rattle.bt_walk.proofs.walk.+walk.Goals as goal

stopped : (flow : Flow) → flow ≡ Stop Cut → leaves flow ≡ None → ⊥
stopped flow e none = let some : leaves flow ≡ Some (Stop Cut) = ap leaves e in cc

pub walk_block-loop-stmt-init : goal.walk_block-loop-stmt-init
walk_block-loop-stmt-init g t c =
    let is = block_is c.args.block.now ∙ ap (λ (l : List TypedStmt). in_sequence (map stmt_does l)) (sym c.as_slice-stmt-items.ensures) in
    record { left = Left-is _ _ _ _ _ (Left-here _ _) (ap (λ (d : Does Flow). d (scene_in c.args.view.now) c.args.frame.now) is); kept = refl; turns = omega arith }

pub walk_block-walk_stmt-requires : goal.walk_block-walk_stmt-requires
walk_block-walk_stmt-requires g t c κs within =
    let fit : StmtFits c.args.view.now c.stmt-item.result = stmts_fit c.args.view.now c.args.block.now _ _ _ c.as_slice-stmt-items.ensures c.loop-stmt-test.true c.stmt-item.is c.requires.fits in
    let same : IsServed c.args.view.now (g.P.Port.fixed c.loop-stmt.port).setting = rw c.loop-stmt.invariant.kept c.requires.served in
    (search (rules, stmts.the_lemmas, blocks.the_lemmas), (within.0, (within.1, (same, fit))))

pub walk_block-returns-in_err-flow-clause-walked : goal.walk_block-returns-in_err-flow-clause-walked
walk_block-returns-in_err-flow-clause-walked g t c =
    let p = err_from_is_err_and c.from_residual.result c.from_residual.ensures.1 in
    Stopped _ _ _ _ p.1 (block-stop _ _ _ _ _ _ _ _ _ c.loop-stmt-test.true c.stmt-item.is c.loop-stmt.invariant.left c.in_err-flow.ensures.walked)

pub walk_block-returns-else-is_next-clause-walked : goal.walk_block-returns-else-is_next-clause-walked
walk_block-returns-else-is_next-clause-walked g t c = block-leaves _ _ _ _ _ _ _ _ _ c.loop-stmt-test.true c.stmt-item.is c.loop-stmt.invariant.left _ _ c.in_ok-flow.ensures.walked (sym c.is_next.ensures ∙ c.if-is_next.false)

pub walk_block-loop-stmt-preserved : goal.walk_block-loop-stmt-preserved
walk_block-loop-stmt-preserved g t c =
    record {
      left = block-next _ _ _ _ _ _ _ _ _ c.loop-stmt-test.true c.stmt-item.is c.loop-stmt.invariant.left _ _ c.in_ok-flow.ensures.walked (sym c.is_next.ensures ∙ c.if-is_next.true);
      kept = c.in_ok-flow.ensures.kept ∙ c.loop-stmt.invariant.kept;
      turns = omega (arith, c.in_ok-flow.ensures.turns, c.loop-stmt.invariant.turns);
    }

pub walk_block-returns-clause-walked : goal.walk_block-returns-clause-walked
walk_block-returns-clause-walked g t c = block-end _ _ _ _ _ _ _ c.loop-stmt-test.false c.loop-stmt.invariant.left

pub walk_if-loop-arm-init : goal.walk_if-loop-arm-init
walk_if-loop-arm-init g t c =
    record {
      left = Left-is _ _ _ _ _ (Left-here _ _) (ap (λ (d : Does Flow). d (scene_in c.args.view.now) c.args.frame.now) (if_stmt _ _ _ _ refl c.as_slice-arm-items.ensures));
      kept = refl;
      turns = omega arith;
    }

pub walk_if-number-requires-clause-served : goal.walk_if-number-requires-clause-served
walk_if-number-requires-clause-served g t c = rw c.loop-arm.invariant.kept c.requires.served

pub walk_if-number-requires-clause-fits : goal.walk_if-number-requires-clause-fits
walk_if-number-requires-clause-fits g t c = (arms_fit c.args.view.now _ _ _ _ _ _ refl c.as_slice-arm-items.ensures c.loop-arm-test.true c.arm-item.is c.requires.fits).0

pub walk_if-returns-in_err-test-clause-walked : goal.walk_if-returns-in_err-test-clause-walked
walk_if-returns-in_err-test-clause-walked g t c =
    let p = err_from_is_err_and c.from_residual.result c.from_residual.ensures.1 in
    Stopped _ _ _ _ p.1 (arm-stop _ _ _ _ _ _ _ _ _ _ c.loop-arm-test.true c.arm-item.is c.loop-arm.invariant.left c.in_err-test.ensures.walked)

pub walk_if-returns-in_err-test-clause-kept : goal.walk_if-returns-in_err-test-clause-kept
walk_if-returns-in_err-test-clause-kept g t c = c.in_err-test.ensures.kept ∙ c.loop-arm.invariant.kept

pub walk_if-returns-in_err-test-clause-turns : goal.walk_if-returns-in_err-test-clause-turns
walk_if-returns-in_err-test-clause-turns g t c = omega (arith, c.in_err-test.ensures.turns, c.loop-arm.invariant.turns)

pub walk_if-walk_block-requires : goal.walk_if-walk_block-requires
walk_if-walk_block-requires g t c κs within =
    let fits = (arms_fit c.args.view.now _ _ _ _ _ _ refl c.as_slice-arm-items.ensures c.loop-arm-test.true c.arm-item.is c.requires.fits) in
    let same : IsServed c.args.view.now (g.P.Port.fixed c.number.new.port).setting = rw (c.in_ok-test.ensures.kept, c.loop-arm.invariant.kept) c.requires.served in
    (search (rules, stmts.the_lemmas, blocks.the_lemmas), (within.0, (within.1, (same, fits.1))))

pub walk_if-returns-then-holds-clause-walked : goal.walk_if-returns-then-holds-clause-walked
walk_if-returns-then-holds-clause-walked g t c =
    let tested : SFits w64 c.in_ok-test.test = search rules in
    let test = simp to_z-of_z at c.holds.ensures in
    let e = sym test ∙ c.if-holds.true in
    Left-Walked (stmt_does (If c.args.arms.now c.args.otherwise.now)) (scene_in c.args.view.now) c.args.frame.now (block_does c.arm-item.result.1) _ _ _ _ _ _ (arm-yes _ _ _ _ _ _ _ _ _ _ c.loop-arm-test.true c.arm-item.is c.loop-arm.invariant.left _ _ c.in_ok-test.ensures.walked e) c.walk_block.ensures.walked

pub walk_if-returns-then-holds-clause-kept : goal.walk_if-returns-then-holds-clause-kept
walk_if-returns-then-holds-clause-kept g t c = c.walk_block.ensures.kept ∙ (c.in_ok-test.ensures.kept ∙ c.loop-arm.invariant.kept)

pub walk_if-returns-then-holds-clause-turns : goal.walk_if-returns-then-holds-clause-turns
walk_if-returns-then-holds-clause-turns g t c = omega (arith, c.walk_block.ensures.turns, c.in_ok-test.ensures.turns, c.loop-arm.invariant.turns)

pub walk_if-loop-arm-preserved : goal.walk_if-loop-arm-preserved
walk_if-loop-arm-preserved g t c =
    let tested : SFits w64 c.in_ok-test.test = search rules in
    let test = simp to_z-of_z at c.holds.ensures in
    let e = sym test ∙ c.if-holds.false in
    record {
      left = arm-no _ _ _ _ _ _ _ _ _ _ c.loop-arm-test.true c.arm-item.is c.loop-arm.invariant.left _ _ c.in_ok-test.ensures.walked e;
      kept = c.in_ok-test.ensures.kept ∙ c.loop-arm.invariant.kept;
      turns = omega (arith, c.in_ok-test.ensures.turns, c.loop-arm.invariant.turns);
    }

pub walk_if-walk_block-requires-in-Some : goal.walk_if-walk_block-requires-in-Some
walk_if-walk_block-requires-in-Some g t c κs within =
    let fit = otherwise_fits c.args.view.now _ _ _ _ refl c.in-Some.is c.requires.fits in
    let same : IsServed c.args.view.now (g.P.Port.fixed c.loop-arm.port).setting = rw c.loop-arm.invariant.kept c.requires.served in
    (search (rules, stmts.the_lemmas, blocks.the_lemmas), (within.0, (within.1, (same, fit))))

pub walk_stmt-returns-in-Print-clause-walked : goal.walk_stmt-returns-in-Print-clause-walked
walk_stmt-returns-in-Print-clause-walked g t c =
    let fits : SFits w64 c.in-Print.div = search rules in
    let shown = simp to_z-of_z at c.print.ensures.walked in
    Walked-stmt _ _ _ _ _ _ _ _ (print_stmt _ _ _ _ c.in-Print.is) (shown _)

pub walk_if-returns-in-Some-clause-walked : goal.walk_if-returns-in-Some-clause-walked
walk_if-returns-in-Some-clause-walked g t c =
    Left-Walked (stmt_does (If c.args.arms.now c.args.otherwise.now)) (scene_in c.args.view.now) c.args.frame.now (block_does c.in-Some.block) _ _ _ _ _ _ (Left-is _ _ _ _ _ (arms-end _ _ _ _ _ _ _ _ c.loop-arm-test.false c.loop-arm.invariant.left) (ap (λ (o : Option TypedBlock). block_or_next (option_map block_does o) (scene_in c.args.view.now) c.loop-arm.frame) c.in-Some.is)) c.walk_block-in-Some.ensures.walked

pub walk_if-returns-in-Some-clause-kept : goal.walk_if-returns-in-Some-clause-kept
walk_if-returns-in-Some-clause-kept g t c = c.walk_block-in-Some.ensures.kept ∙ c.loop-arm.invariant.kept

pub walk_if-returns-in-Some-clause-turns : goal.walk_if-returns-in-Some-clause-turns
walk_if-returns-in-Some-clause-turns g t c = omega (arith, c.walk_block-in-Some.ensures.turns, c.loop-arm.invariant.turns)

pub walk_if-returns-in-None-clause-walked : goal.walk_if-returns-in-None-clause-walked
walk_if-returns-in-None-clause-walked g t c =
    done_with _ _ _ _ _ _ _ (ap (λ (o : Option TypedBlock). block_or_next (option_map block_does o)) c.in-None.is) (arms-end _ _ _ _ _ _ _ _ c.loop-arm-test.false c.loop-arm.invariant.left)

pub walk_if-returns-in-None-clause-kept : goal.walk_if-returns-in-None-clause-kept
walk_if-returns-in-None-clause-kept g t c = c.loop-arm.invariant.kept

pub walk_if-returns-in-None-clause-turns : goal.walk_if-returns-in-None-clause-turns
walk_if-returns-in-None-clause-turns g t c = c.loop-arm.invariant.turns

pub walk_turn-returns-then-frame-eq0-clause-walked : goal.walk_turn-returns-then-frame-eq0-clause-walked
walk_turn-returns-then-frame-eq0-clause-walked g t c = (Walked-next _ _ _ _ _ _ _ _ (Looked-done _ 0 _ _ _ c.if-frame-eq0.true) _ _ _ (c.cut.ensures.made _ _))

pub walk_turn-returns-then-frame-eq0-clause-fewer : goal.walk_turn-returns-then-frame-eq0-clause-fewer
walk_turn-returns-then-frame-eq0-clause-fewer g t c = IfOk-weaker c.cut.result (λ flow. flow ≡ Stop Cut) (λ flow. leaves flow ≡ None → c.args.frame.now.turns < c.args.frame.now.turns) (λ flow e none. absurd (stopped flow e none)) c.cut.ensures.stops

pub walk_turn-returns-else-frame-eq0-clause-walked : goal.walk_turn-returns-else-frame-eq0-clause-walked
walk_turn-returns-else-frame-eq0-clause-walked g t c = (Walked-next _ _ _ _ _ _ _ _ (Looked-done _ (suc (c.args.frame.now.turns - 1)) _ _ _ (omega (arith, c.if-frame-eq0.false))) _ _ _ (Walked-next _ _ _ _ _ _ _ _ (Changed-done _ _ _ _ _ tt refl) _ _ _ c.walk_block.ensures.walked))

pub walk_turns-loop-made-init : goal.walk_turns-loop-made-init
walk_turns-loop-made-init g t c = record { left = turns-start _ _ _ _ _ _; kept = refl; turns = omega arith }

pub walk_turns-returns-in_err-flow-clause-walked : goal.walk_turns-returns-in_err-flow-clause-walked
walk_turns-returns-in_err-flow-clause-walked g t c =
    let p = err_from_is_err_and c.from_residual.result c.from_residual.ensures.1 in
    Stopped _ _ _ _ p.1 (turns-stop _ _ _ _ _ _ _ _ _ _ c.loop-made-test.true c.loop-made.invariant.left c.in_err-flow.ensures.walked)

pub walk_turns-returns-in-Some-clause-walked : goal.walk_turns-returns-in-Some-clause-walked
walk_turns-returns-in-Some-clause-walked g t c = turns-leaves _ _ _ _ _ _ _ _ _ _ c.loop-made-test.true c.loop-made.invariant.left _ _ c.in_ok-flow.ensures.walked _ (sym c.leaves.ensures ∙ c.in-Some.is)

pub walk_turns-loop-made-preserved : goal.walk_turns-loop-made-preserved
walk_turns-loop-made-preserved g t c =
    record {
      left = turns-next _ _ _ _ _ _ _ _ _ _ c.loop-made-test.true c.loop-made.invariant.left _ _ c.in_ok-flow.ensures.walked (sym c.leaves.ensures ∙ c.in-None.is);
      kept = c.in_ok-flow.ensures.kept ∙ c.loop-made.invariant.kept;
      turns = omega (arith, c.in_ok-flow.ensures.turns, c.loop-made.invariant.turns);
    }

pub walk_turns-returns-clause-walked : goal.walk_turns-returns-clause-walked
walk_turns-returns-clause-walked g t c = turns-end _ _ _ _ _ _ _ _ _ c.loop-made-test.false c.loop-made.invariant.left

pub walk_while-loop-value-init : goal.walk_while-loop-value-init
walk_while-loop-value-init g t c = record { looping = while-starts _ _ _ _ _ _; kept = refl; turns = omega arith }

pub walk_while-returns-in_err-value-clause-walked : goal.walk_while-returns-in_err-value-clause-walked
walk_while-returns-in_err-value-clause-walked g t c =
    let p = err_from_is_err_and c.from_residual.result c.from_residual.ensures.1 in
    Stopped _ _ _ _ p.1 (while-stop _ _ _ _ _ _ _ _ c.loop-value.invariant.looping _ c.in_err-value.ensures.walked)

pub walk_while-returns-in_err-flow-clause-walked : goal.walk_while-returns-in_err-flow-clause-walked
walk_while-returns-in_err-flow-clause-walked g t c =
    let p = err_from_is_err_and c.from_residual-in_err-flow.result c.from_residual-in_err-flow.ensures.1 in
    let tested : SFits w64 c.in_ok-value.value = search rules in
    let test = simp to_z-of_z at c.holds.ensures in
    let e = sym test ∙ c.if-holds.true in
    Stopped _ _ _ _ p.1 (while-breaks _ _ _ _ _ _ _ _ c.loop-value.invariant.looping _ _ _ c.in_ok-value.ensures.walked _ e c.in_err-flow.ensures.walked)

pub walk_while-returns-in-Some-clause-walked : goal.walk_while-returns-in-Some-clause-walked
walk_while-returns-in-Some-clause-walked g t c =
    let tested : SFits w64 c.in_ok-value.value = search rules in
    let test = simp to_z-of_z at c.holds.ensures in
    let e = sym test ∙ c.if-holds.true in
    while-leaves _ _ _ _ _ _ _ _ c.loop-value.invariant.looping _ _ _ c.in_ok-value.ensures.walked _ _ _ e c.in_ok-flow.ensures.walked _ (sym c.leaves.ensures ∙ c.in-Some.is)

pub walk_while-loop-value-preserved : goal.walk_while-loop-value-preserved
walk_while-loop-value-preserved g t c =
    let tested : SFits w64 c.in_ok-value.value = search rules in
    let test = simp to_z-of_z at c.holds.ensures in
    let e = sym test ∙ c.if-holds.true in
    record {
      looping = while-again _ _ _ _ _ _ _ _ c.loop-value.invariant.looping _ _ _ c.in_ok-value.ensures.walked _ _ _ e c.in_ok-flow.ensures.walked (sym c.leaves.ensures ∙ c.in-None.is) c.in_ok-value.ensures.turns (c.in_ok-flow.ensures.fewer (sym c.leaves.ensures ∙ c.in-None.is));
      kept = c.in_ok-flow.ensures.kept ∙ (c.in_ok-value.ensures.kept ∙ c.loop-value.invariant.kept);
      turns = omega (arith, c.in_ok-flow.ensures.turns, c.in_ok-value.ensures.turns, c.loop-value.invariant.turns);
    }

pub walk_while-returns-else-holds-clause-walked : goal.walk_while-returns-else-holds-clause-walked
walk_while-returns-else-holds-clause-walked g t c =
    let tested : SFits w64 c.in_ok-value.value = search rules in
    let test = simp to_z-of_z at c.holds.ensures in
    let e = sym test ∙ c.if-holds.false in
    while-ends _ _ _ _ _ _ _ _ c.loop-value.invariant.looping _ _ _ c.in_ok-value.ensures.walked e

pub walk_stmt-set_variable-requires-clause-served : goal.walk_stmt-set_variable-requires-clause-served
walk_stmt-set_variable-requires-clause-served g t c = c.requires.served

pub walk_stmt-set_variable-requires-clause-fits : goal.walk_stmt-set_variable-requires-clause-fits
walk_stmt-set_variable-requires-clause-fits g t c = setvar_fits c.args.view.now c.args.s.now _ _ c.in-SetVar.is c.requires.fits

pub walk_stmt-returns-in-SetVar-clause-walked : goal.walk_stmt-returns-in-SetVar-clause-walked
walk_stmt-returns-in-SetVar-clause-walked g t c = Walked-stmt _ _ _ _ _ _ _ _ (setvar_does c.args.s.now _ _ c.in-SetVar.is) c.set_variable.ensures.walked

pub walk_stmt-returns-in-SetVar-clause-kept : goal.walk_stmt-returns-in-SetVar-clause-kept
walk_stmt-returns-in-SetVar-clause-kept g t c = c.set_variable.ensures.kept

pub walk_stmt-returns-in-SetVar-clause-turns : goal.walk_stmt-returns-in-SetVar-clause-turns
walk_stmt-returns-in-SetVar-clause-turns g t c = same_turns _ _ c.set_variable.ensures.turns

pub walk_stmt-set_map-requires-clause-served : goal.walk_stmt-set_map-requires-clause-served
walk_stmt-set_map-requires-clause-served g t c = c.requires.served

pub walk_stmt-set_map-requires-clause-fits : goal.walk_stmt-set_map-requires-clause-fits
walk_stmt-set_map-requires-clause-fits g t c = setmap_fits c.args.view.now c.args.s.now _ _ _ _ c.in-SetMap.is c.as_slice.ensures c.requires.fits

pub walk_stmt-returns-in-SetMap-clause-walked : goal.walk_stmt-returns-in-SetMap-clause-walked
walk_stmt-returns-in-SetMap-clause-walked g t c = Walked-stmt _ _ _ _ _ _ _ _ (setmap_does c.args.s.now _ _ _ _ c.in-SetMap.is c.as_slice.ensures) c.set_map.ensures.walked

pub walk_stmt-returns-in-SetMap-clause-kept : goal.walk_stmt-returns-in-SetMap-clause-kept
walk_stmt-returns-in-SetMap-clause-kept g t c = c.set_map.ensures.kept

pub walk_stmt-returns-in-SetMap-clause-turns : goal.walk_stmt-returns-in-SetMap-clause-turns
walk_stmt-returns-in-SetMap-clause-turns g t c = same_turns _ _ c.set_map.ensures.turns

pub walk_stmt-update_variable-requires-clause-served : goal.walk_stmt-update_variable-requires-clause-served
walk_stmt-update_variable-requires-clause-served g t c = c.requires.served

pub walk_stmt-update_variable-requires-clause-fits : goal.walk_stmt-update_variable-requires-clause-fits
walk_stmt-update_variable-requires-clause-fits g t c = updatevar_fits c.args.view.now c.args.s.now _ _ _ c.in-UpdateVar.is c.requires.fits

pub walk_stmt-returns-in-UpdateVar-clause-walked : goal.walk_stmt-returns-in-UpdateVar-clause-walked
walk_stmt-returns-in-UpdateVar-clause-walked g t c = Walked-stmt _ _ _ _ _ _ _ _ (updatevar_does c.args.s.now _ _ _ c.in-UpdateVar.is) c.update_variable.ensures.walked

pub walk_stmt-returns-in-UpdateVar-clause-kept : goal.walk_stmt-returns-in-UpdateVar-clause-kept
walk_stmt-returns-in-UpdateVar-clause-kept g t c = c.update_variable.ensures.kept

pub walk_stmt-returns-in-UpdateVar-clause-turns : goal.walk_stmt-returns-in-UpdateVar-clause-turns
walk_stmt-returns-in-UpdateVar-clause-turns g t c = same_turns _ _ c.update_variable.ensures.turns

pub walk_stmt-update_map-requires-clause-served : goal.walk_stmt-update_map-requires-clause-served
walk_stmt-update_map-requires-clause-served g t c = c.requires.served

pub walk_stmt-update_map-requires-clause-fits : goal.walk_stmt-update_map-requires-clause-fits
walk_stmt-update_map-requires-clause-fits g t c = updatemap_fits c.args.view.now c.args.s.now _ _ _ _ _ c.in-UpdateMap.is c.as_slice-in-UpdateMap.ensures c.requires.fits

pub walk_stmt-returns-in-UpdateMap-clause-walked : goal.walk_stmt-returns-in-UpdateMap-clause-walked
walk_stmt-returns-in-UpdateMap-clause-walked g t c = Walked-stmt _ _ _ _ _ _ _ _ (updatemap_does c.args.s.now _ _ _ _ _ c.in-UpdateMap.is c.as_slice-in-UpdateMap.ensures) c.update_map.ensures.walked

pub walk_stmt-returns-in-UpdateMap-clause-kept : goal.walk_stmt-returns-in-UpdateMap-clause-kept
walk_stmt-returns-in-UpdateMap-clause-kept g t c = c.update_map.ensures.kept

pub walk_stmt-returns-in-UpdateMap-clause-turns : goal.walk_stmt-returns-in-UpdateMap-clause-turns
walk_stmt-returns-in-UpdateMap-clause-turns g t c = same_turns _ _ c.update_map.ensures.turns

pub walk_stmt-gather-requires-clause-served : goal.walk_stmt-gather-requires-clause-served
walk_stmt-gather-requires-clause-served g t c = c.requires.served

pub walk_stmt-gather-requires-clause-fits : goal.walk_stmt-gather-requires-clause-fits
walk_stmt-gather-requires-clause-fits g t c = gather_fits c.args.view.now c.args.s.now _ _ _ _ _ c.in-Gather.is c.as_slice-in-Gather.ensures c.requires.fits

pub walk_stmt-returns-in-Gather-clause-walked : goal.walk_stmt-returns-in-Gather-clause-walked
walk_stmt-returns-in-Gather-clause-walked g t c = Walked-stmt _ _ _ _ _ _ _ _ (gather_does c.args.s.now _ _ _ _ _ c.in-Gather.is c.as_slice-in-Gather.ensures) c.gather.ensures.walked

pub walk_stmt-returns-in-Gather-clause-kept : goal.walk_stmt-returns-in-Gather-clause-kept
walk_stmt-returns-in-Gather-clause-kept g t c = c.gather.ensures.kept

pub walk_stmt-returns-in-Gather-clause-turns : goal.walk_stmt-returns-in-Gather-clause-turns
walk_stmt-returns-in-Gather-clause-turns g t c = same_turns _ _ c.gather.ensures.turns

pub walk_stmt-step-requires-clause-served : goal.walk_stmt-step-requires-clause-served
walk_stmt-step-requires-clause-served g t c = c.requires.served

pub walk_stmt-step-requires-clause-fits : goal.walk_stmt-step-requires-clause-fits
walk_stmt-step-requires-clause-fits g t c = step_fits c.args.view.now c.args.s.now _ c.in-Step.is c.requires.fits

pub walk_stmt-returns-in-Step-clause-walked : goal.walk_stmt-returns-in-Step-clause-walked
walk_stmt-returns-in-Step-clause-walked g t c = Walked-stmt _ _ _ _ _ _ _ _ (step_does c.args.s.now _ c.in-Step.is) c.step.ensures.walked

pub walk_stmt-returns-in-Step-clause-kept : goal.walk_stmt-returns-in-Step-clause-kept
walk_stmt-returns-in-Step-clause-kept g t c = c.step.ensures.kept

pub walk_stmt-returns-in-Step-clause-turns : goal.walk_stmt-returns-in-Step-clause-turns
walk_stmt-returns-in-Step-clause-turns g t c = same_turns _ _ c.step.ensures.turns

pub walk_stmt-printf-requires-clause-served : goal.walk_stmt-printf-requires-clause-served
walk_stmt-printf-requires-clause-served g t c = c.requires.served

pub walk_stmt-printf-requires-clause-fits : goal.walk_stmt-printf-requires-clause-fits
walk_stmt-printf-requires-clause-fits g t c = printf_fits c.args.view.now c.args.s.now _ _ _ c.in-Printf.is c.as_slice-in-Printf.ensures c.requires.fits

pub walk_stmt-returns-in-Printf-clause-walked : goal.walk_stmt-returns-in-Printf-clause-walked
walk_stmt-returns-in-Printf-clause-walked g t c = Walked-stmt _ _ _ _ _ _ _ _ (printf_does c.args.s.now _ _ _ c.in-Printf.is c.as_slice-in-Printf.ensures) c.printf.ensures.walked

pub walk_stmt-returns-in-Printf-clause-kept : goal.walk_stmt-returns-in-Printf-clause-kept
walk_stmt-returns-in-Printf-clause-kept g t c = c.printf.ensures.kept

pub walk_stmt-returns-in-Printf-clause-turns : goal.walk_stmt-returns-in-Printf-clause-turns
walk_stmt-returns-in-Printf-clause-turns g t c = same_turns _ _ c.printf.ensures.turns

pub walk_stmt-delete_at-requires-clause-served : goal.walk_stmt-delete_at-requires-clause-served
walk_stmt-delete_at-requires-clause-served g t c = c.requires.served

pub walk_stmt-delete_at-requires-clause-fits : goal.walk_stmt-delete_at-requires-clause-fits
walk_stmt-delete_at-requires-clause-fits g t c = delete_fits c.args.view.now c.args.s.now _ _ _ c.in-Delete.is c.as_slice-in-Delete.ensures c.requires.fits

pub walk_stmt-returns-in-Delete-clause-walked : goal.walk_stmt-returns-in-Delete-clause-walked
walk_stmt-returns-in-Delete-clause-walked g t c = Walked-stmt _ _ _ _ _ _ _ _ (delete_does c.args.s.now _ _ _ c.in-Delete.is c.as_slice-in-Delete.ensures) c.delete_at.ensures.walked

pub walk_stmt-returns-in-Delete-clause-kept : goal.walk_stmt-returns-in-Delete-clause-kept
walk_stmt-returns-in-Delete-clause-kept g t c = c.delete_at.ensures.kept

pub walk_stmt-returns-in-Delete-clause-turns : goal.walk_stmt-returns-in-Delete-clause-turns
walk_stmt-returns-in-Delete-clause-turns g t c = same_turns _ _ c.delete_at.ensures.turns

pub walk_stmt-returns-in-Clear-clause-walked : goal.walk_stmt-returns-in-Clear-clause-walked
walk_stmt-returns-in-Clear-clause-walked g t c = Walked-stmt _ _ _ _ _ _ _ _ (clear_does c.args.s.now _ c.in-Clear.is) (c.clear.ensures.walked _)

pub walk_stmt-returns-in-Zero-clause-walked : goal.walk_stmt-returns-in-Zero-clause-walked
walk_stmt-returns-in-Zero-clause-walked g t c = Walked-stmt _ _ _ _ _ _ _ _ (zero_does c.args.s.now _ c.in-Zero.is) (c.zero.ensures.walked _)

pub walk_stmt-returns-in-Print-clause-kept : goal.walk_stmt-returns-in-Print-clause-kept
walk_stmt-returns-in-Print-clause-kept g t c = c.print.ensures.kept

pub walk_stmt-returns-in-Print-clause-turns : goal.walk_stmt-returns-in-Print-clause-turns
walk_stmt-returns-in-Print-clause-turns g t c = same_turns _ _ refl

pub walk_stmt-returns-in-Clear-clause-kept : goal.walk_stmt-returns-in-Clear-clause-kept
walk_stmt-returns-in-Clear-clause-kept g t c = c.clear.ensures.kept

pub walk_stmt-returns-in-Clear-clause-turns : goal.walk_stmt-returns-in-Clear-clause-turns
walk_stmt-returns-in-Clear-clause-turns g t c = same_turns _ _ refl

pub walk_stmt-returns-in-Zero-clause-kept : goal.walk_stmt-returns-in-Zero-clause-kept
walk_stmt-returns-in-Zero-clause-kept g t c = c.zero.ensures.kept

pub walk_stmt-returns-in-Zero-clause-turns : goal.walk_stmt-returns-in-Zero-clause-turns
walk_stmt-returns-in-Zero-clause-turns g t c = same_turns _ _ refl

pub walk_stmt-returns-in-Jump-clause-kept : goal.walk_stmt-returns-in-Jump-clause-kept
walk_stmt-returns-in-Jump-clause-kept g t c = c.jump.ensures.kept

pub walk_stmt-returns-in-Jump-clause-turns : goal.walk_stmt-returns-in-Jump-clause-turns
walk_stmt-returns-in-Jump-clause-turns g t c = same_turns _ _ refl

pub walk_stmt-returns-in-Jump-clause-walked : goal.walk_stmt-returns-in-Jump-clause-walked
walk_stmt-returns-in-Jump-clause-walked g t c = Walked-stmt _ _ _ _ _ _ _ _ (jump_does c.args.s.now _ c.in-Jump.is) (c.jump.ensures.made _ _)

pub walk_stmt-returns-in-While-clause-walked : goal.walk_stmt-returns-in-While-clause-walked
walk_stmt-returns-in-While-clause-walked g t c = Walked-stmt _ _ _ _ _ _ _ _ (while_does c.args.s.now _ _ _ c.in-While.is) c.walk_while.ensures.walked

pub walk_stmt-returns-in-While-clause-kept : goal.walk_stmt-returns-in-While-clause-kept
walk_stmt-returns-in-While-clause-kept g t c = c.walk_while.ensures.kept

pub walk_stmt-returns-in-While-clause-turns : goal.walk_stmt-returns-in-While-clause-turns
walk_stmt-returns-in-While-clause-turns g t c = c.walk_while.ensures.turns

pub walk_stmt-returns-in-Unroll-clause-walked : goal.walk_stmt-returns-in-Unroll-clause-walked
walk_stmt-returns-in-Unroll-clause-walked g t c = Walked-stmt _ _ _ _ _ _ _ _ (unroll_does c.args.s.now _ _ _ c.in-Unroll.is) c.walk_turns.ensures.walked

pub walk_stmt-returns-in-Unroll-clause-kept : goal.walk_stmt-returns-in-Unroll-clause-kept
walk_stmt-returns-in-Unroll-clause-kept g t c = c.walk_turns.ensures.kept

pub walk_stmt-returns-in-Unroll-clause-turns : goal.walk_stmt-returns-in-Unroll-clause-turns
walk_stmt-returns-in-Unroll-clause-turns g t c = c.walk_turns.ensures.turns

pub walk_stmt-walk_while-requires : goal.walk_stmt-walk_while-requires
walk_stmt-walk_while-requires g t c κs within =
    let fit = while_fits c.args.view.now c.args.s.now _ _ _ c.in-While.is c.requires.fits in
    (search (rules, stmts.the_lemmas, blocks.the_lemmas), (within.0, (within.1, (c.requires.served, (fit.1, fit.0)))))

pub walk_stmt-walk_turns-requires : goal.walk_stmt-walk_turns-requires
walk_stmt-walk_turns-requires g t c κs within =
    let fit = unroll_fits c.args.view.now c.args.s.now _ _ _ c.in-Unroll.is c.requires.fits in
    (search (rules, stmts.the_lemmas, blocks.the_lemmas), (within.0, (within.1, (c.requires.served, fit))))

pub walk_block-returns-in_err-flow-clause-kept : goal.walk_block-returns-in_err-flow-clause-kept
walk_block-returns-in_err-flow-clause-kept g t c = c.in_err-flow.ensures.kept ∙ c.loop-stmt.invariant.kept

pub walk_block-returns-in_err-flow-clause-turns : goal.walk_block-returns-in_err-flow-clause-turns
walk_block-returns-in_err-flow-clause-turns g t c = omega (arith, c.in_err-flow.ensures.turns, c.loop-stmt.invariant.turns)

pub walk_block-returns-else-is_next-clause-kept : goal.walk_block-returns-else-is_next-clause-kept
walk_block-returns-else-is_next-clause-kept g t c = c.in_ok-flow.ensures.kept ∙ c.loop-stmt.invariant.kept

pub walk_block-returns-else-is_next-clause-turns : goal.walk_block-returns-else-is_next-clause-turns
walk_block-returns-else-is_next-clause-turns g t c = omega (arith, c.in_ok-flow.ensures.turns, c.loop-stmt.invariant.turns)

pub walk_block-returns-clause-kept : goal.walk_block-returns-clause-kept
walk_block-returns-clause-kept g t c = c.loop-stmt.invariant.kept

pub walk_block-returns-clause-turns : goal.walk_block-returns-clause-turns
walk_block-returns-clause-turns g t c = c.loop-stmt.invariant.turns

pub walk_turns-returns-in_err-flow-clause-kept : goal.walk_turns-returns-in_err-flow-clause-kept
walk_turns-returns-in_err-flow-clause-kept g t c = c.in_err-flow.ensures.kept ∙ c.loop-made.invariant.kept

pub walk_turns-returns-in_err-flow-clause-turns : goal.walk_turns-returns-in_err-flow-clause-turns
walk_turns-returns-in_err-flow-clause-turns g t c = omega (arith, c.in_err-flow.ensures.turns, c.loop-made.invariant.turns)

pub walk_turns-returns-in-Some-clause-kept : goal.walk_turns-returns-in-Some-clause-kept
walk_turns-returns-in-Some-clause-kept g t c = c.in_ok-flow.ensures.kept ∙ c.loop-made.invariant.kept

pub walk_turns-returns-in-Some-clause-turns : goal.walk_turns-returns-in-Some-clause-turns
walk_turns-returns-in-Some-clause-turns g t c = omega (arith, c.in_ok-flow.ensures.turns, c.loop-made.invariant.turns)

pub walk_turns-returns-clause-kept : goal.walk_turns-returns-clause-kept
walk_turns-returns-clause-kept g t c = c.loop-made.invariant.kept

pub walk_turns-returns-clause-turns : goal.walk_turns-returns-clause-turns
walk_turns-returns-clause-turns g t c = c.loop-made.invariant.turns

pub walk_while-returns-in_err-value-clause-kept : goal.walk_while-returns-in_err-value-clause-kept
walk_while-returns-in_err-value-clause-kept g t c = c.in_err-value.ensures.kept ∙ c.loop-value.invariant.kept

pub walk_while-returns-in_err-value-clause-turns : goal.walk_while-returns-in_err-value-clause-turns
walk_while-returns-in_err-value-clause-turns g t c = omega (arith, c.in_err-value.ensures.turns, c.loop-value.invariant.turns)

pub walk_while-returns-in_err-flow-clause-kept : goal.walk_while-returns-in_err-flow-clause-kept
walk_while-returns-in_err-flow-clause-kept g t c = c.in_err-flow.ensures.kept ∙ c.in_ok-value.ensures.kept ∙ c.loop-value.invariant.kept

pub walk_while-returns-in_err-flow-clause-turns : goal.walk_while-returns-in_err-flow-clause-turns
walk_while-returns-in_err-flow-clause-turns g t c = omega (arith, c.in_err-flow.ensures.turns, c.in_ok-value.ensures.turns, c.loop-value.invariant.turns)

pub walk_while-returns-in-Some-clause-kept : goal.walk_while-returns-in-Some-clause-kept
walk_while-returns-in-Some-clause-kept g t c = c.in_ok-flow.ensures.kept ∙ c.in_ok-value.ensures.kept ∙ c.loop-value.invariant.kept

pub walk_while-returns-in-Some-clause-turns : goal.walk_while-returns-in-Some-clause-turns
walk_while-returns-in-Some-clause-turns g t c = omega (arith, c.in_ok-flow.ensures.turns, c.in_ok-value.ensures.turns, c.loop-value.invariant.turns)

pub walk_while-returns-else-holds-clause-kept : goal.walk_while-returns-else-holds-clause-kept
walk_while-returns-else-holds-clause-kept g t c = c.in_ok-value.ensures.kept ∙ c.loop-value.invariant.kept

pub walk_while-returns-else-holds-clause-turns : goal.walk_while-returns-else-holds-clause-turns
walk_while-returns-else-holds-clause-turns g t c = omega (arith, c.in_ok-value.ensures.turns, c.loop-value.invariant.turns)

pub walk_stmt-walk_if-requires : goal.walk_stmt-walk_if-requires
walk_stmt-walk_if-requires g t c κs within =
    (search (rules, stmts.the_lemmas, blocks.the_lemmas), (within.0, (within.1, (c.requires.served, subst (λ (s : TypedStmt). StmtFits c.args.view.now s) c.in-If.is c.requires.fits))))

pub walk_stmt-returns-in-If-clause-walked : goal.walk_stmt-returns-in-If-clause-walked
walk_stmt-returns-in-If-clause-walked g t c = Walked-stmt _ _ _ _ _ _ _ _ (ap stmt_does c.in-If.is) c.walk_if.ensures.walked

pub walk_stmt-returns-in-If-clause-kept : goal.walk_stmt-returns-in-If-clause-kept
walk_stmt-returns-in-If-clause-kept g t c = c.walk_if.ensures.kept

pub walk_stmt-returns-in-If-clause-turns : goal.walk_stmt-returns-in-If-clause-turns
walk_stmt-returns-in-If-clause-turns g t c = c.walk_if.ensures.turns

pub walk_turn-walk_block-requires : goal.walk_turn-walk_block-requires
walk_turn-walk_block-requires g t c κs within = (omega (arith, c.decreases), (within.0, (within.1, (c.requires.served, c.requires.fits))))

pub walk_turns-walk_turn-requires : goal.walk_turns-walk_turn-requires
walk_turns-walk_turn-requires g t c κs within = (omega (arith, c.decreases), (within.0, (within.1, (served_still c.args.view.now _ _ c.loop-made.invariant.kept c.requires.served, c.requires.fits))))

pub walk_while-walk_turn-requires : goal.walk_while-walk_turn-requires
walk_while-walk_turn-requires g t c κs within = (omega (arith, c.decreases), (within.0, (within.1, (served_still c.args.view.now _ _ (c.in_ok-value.ensures.kept ∙ c.loop-value.invariant.kept) c.requires.served, c.requires.fits))))

pub walk_while-loop-value-smaller : goal.walk_while-loop-value-smaller
walk_while-loop-value-smaller g t c =
    let fewer : c.walk_turn.new.frame.turns < c.number.new.frame.turns = c.in_ok-flow.ensures.fewer (sym c.leaves.ensures ∙ c.in-None.is) in
    omega (arith, fewer, c.in_ok-value.ensures.turns)

pub walk_while-number-requires-clause-served : goal.walk_while-number-requires-clause-served
walk_while-number-requires-clause-served g t c = served_still c.args.view.now _ _ c.loop-value.invariant.kept c.requires.served

pub walk_while-number-requires-clause-fits : goal.walk_while-number-requires-clause-fits
walk_while-number-requires-clause-fits g t c = c.requires.test

pub walk_stmt-print-requires-clause-served : goal.walk_stmt-print-requires-clause-served
walk_stmt-print-requires-clause-served g t c = c.requires.served

pub walk_stmt-clear-requires-clause-served : goal.walk_stmt-clear-requires-clause-served
walk_stmt-clear-requires-clause-served g t c = c.requires.served

pub walk_stmt-zero-requires-clause-served : goal.walk_stmt-zero-requires-clause-served
walk_stmt-zero-requires-clause-served g t c = c.requires.served
