use Rattle.std.proofs.Common.{length, ◌∙◌, ap, arith, SFits, w64, rules, refl, subst, ◌<◌, ◌≡◌, ℕ, drop}
use Rattle.std.proofs.lemmas.Int.{to_z-of_z}
use Rattle.typed_tree.specs.Parts.{key_shapes}
use Rattle.ir_code.specs.declared.instr.Instr.TheVariants as i
use Rattle.bt_core.specs.declared.value.Value.TheVariants.{Str}
use Rattle.bt_lower.specs.Code.{pushed}
use Rattle.bt_lower.specs.Lowers.{LowersNumber, all_made, LowersList}
use Rattle.bt_lower.specs.declared.code.Code.{Code}
use Rattle.bt_lower.proofs.Arms.{A-Num, A-Str, N-Number, N-Builtin, N-Field, N-Var, N-Map, N-Agg, N-StepVar, N-StepMap, N-Unary, N-Binary, N-Compare, N-AndThen, N-OrElse, N-Choose, S-Text, S-Comm, S-Field, S-Var, S-Map, S-Choose, List-start, List-next, Tested-arm, at-ok, with-number}
use Rattle.bt_lower.proofs.Choices.{Lowers-arm}
use Rattle.bt_lower.proofs.Measured.{failed as if-failed, on-failed as failed}
use denote.Param.Weighed.{most}
use Rattle.typed_tree.proofs.expr.AnyExpr.TheLaws.{the_size as any_size}
use Rattle.typed_tree.proofs.expr.NumExpr.TheLaws.{the_size as num_size}
use Rattle.typed_tree.proofs.expr.StrExpr.TheLaws.{the_size as str_size}
use Rattle.bt_lower.proofs.Sizes.{agg_keys, and_left, and_right, binary_left, binary_right, choose_no, choose_test, choose_yes, compare_left, compare_right, map_keys, or_left, or_right, step_map_keys, text_choose_no, text_choose_test, text_choose_yes, text_map_keys, unary_below}
use Rattle.bt_lower.proofs.value.+value.Goals as goal

pub lower_number-returns-in-Number : goal.lower_number-returns-in-Number
lower_number-returns-in-Number t c =
    let fits : SFits w64 c.in-Number.n = search rules in
    let made = simp to_z-of_z at c.push.ensures in
    at-ok c.push.result made (N-Number _ c.in-Number.n _ _ c.in-Number.is)

pub lower_number-returns-in-Builtin : goal.lower_number-returns-in-Builtin
lower_number-returns-in-Builtin t c = at-ok c.push-in-Builtin.result c.push-in-Builtin.ensures (N-Builtin _ _ _ _ c.in-Builtin.is)

pub lower_number-returns-in-Field : goal.lower_number-returns-in-Field
lower_number-returns-in-Field t c = at-ok c.push_number_field.result c.push_number_field.ensures (N-Field _ _ _ _ c.in-Field.is)

pub lower_number-returns-in-Var : goal.lower_number-returns-in-Var
lower_number-returns-in-Var t c = at-ok c.push-in-Var.result c.push-in-Var.ensures (N-Var _ _ _ _ c.in-Var.is)

pub lower_number-returns-in_ok-push_get-in-Map : goal.lower_number-returns-in_ok-push_get-in-Map
lower_number-returns-in_ok-push_get-in-Map t c =
    let key = ap (λ l. key_shapes (all_made l)) c.as_slice.ensures in
    at-ok c.lower_values.result c.lower_values.ensures (N-Map _ _ _ _ _ _ _ _ c.in-Map.is c.as_slice-in-Map.ensures key c.in_ok-push_get-in-Map.ensures)

pub lower_number-returns-in_ok-push_read_agg-in-Agg : goal.lower_number-returns-in_ok-push_read_agg-in-Agg
lower_number-returns-in_ok-push_read_agg-in-Agg t c =
    let key = ap (λ l. key_shapes (all_made l)) c.as_slice-in-Agg.ensures in
    at-ok c.lower_values-in-Agg.result c.lower_values-in-Agg.ensures (N-Agg _ _ _ _ _ _ _ _ c.in-Agg.is (c.as_slice-in-Agg-2).ensures key c.in_ok-push_read_agg-in-Agg.ensures)

pub lower_number-returns-in-StepVar : goal.lower_number-returns-in-StepVar
lower_number-returns-in-StepVar t c = at-ok c.push-in-StepVar.result c.push-in-StepVar.ensures (N-StepVar _ _ _ _ _ _ c.in-StepVar.is)

pub lower_number-returns-in_ok-push_step_map-in-StepMap : goal.lower_number-returns-in_ok-push_step_map-in-StepMap
lower_number-returns-in_ok-push_step_map-in-StepMap t c =
    let key = ap (λ l. key_shapes (all_made l)) c.as_slice-in-StepMap.ensures in
    at-ok c.lower_values-in-StepMap.result c.lower_values-in-StepMap.ensures (N-StepMap _ _ _ _ _ _ _ _ _ _ c.in-StepMap.is (c.as_slice-in-StepMap-2).ensures key c.in_ok-push_step_map-in-StepMap.ensures)

pub lower_number-returns-in_ok-push-in-Unary : goal.lower_number-returns-in_ok-push-in-Unary
lower_number-returns-in_ok-push-in-Unary t c = at-ok c.lower_number.result c.lower_number.ensures (N-Unary _ _ _ _ _ _ _ c.in-Unary.is c.get.ensures c.in_ok-push-in-Unary.ensures)

pub lower_number-returns-in_ok-lower_number-in-Binary : goal.lower_number-returns-in_ok-lower_number-in-Binary
lower_number-returns-in_ok-lower_number-in-Binary t c = at-ok (c.lower_number-in-Binary-2).result (c.lower_number-in-Binary-2).ensures
    (N-Binary _ _ _ _ _ _ _ _ _ _ c.in-Binary.is (c.get-in-Binary-2).ensures c.get-in-Binary.ensures c.in_ok-push-in-Binary.ensures c.in_ok-lower_number-in-Binary.ensures)

pub lower_number-returns-in_ok-lower_text-in-Compare : goal.lower_number-returns-in_ok-lower_text-in-Compare
lower_number-returns-in_ok-lower_text-in-Compare t c = at-ok c.lower_text-in-Compare.result c.lower_text-in-Compare.ensures
    (N-Compare _ _ _ _ _ _ _ _ _ _ c.in-Compare.is (c.get-in-Compare-2).ensures c.get-in-Compare.ensures c.in_ok-push-in-Compare.ensures c.in_ok-lower_text-in-Compare.ensures)

pub lower_number-returns-in_ok-first-in-AndThen : goal.lower_number-returns-in_ok-first-in-AndThen
lower_number-returns-in_ok-first-in-AndThen t c =
    at-ok c.lower_test.result c.lower_test.ensures
    (N-AndThen _ _ _ _ _ _ _ _ _ _ _ _ _ _ _ _ c.in-AndThen.is (c.get-in-AndThen-2).ensures c.get-in-AndThen.ensures refl refl c.in_ok-after-in-AndThen.ensures.number c.in_ok-after-in-AndThen.ensures.closed c.in_ok-second-in-AndThen.ensures c.in_ok-first-in-AndThen.ensures refl)

pub lower_number-returns-in_ok-first-in-OrElse : goal.lower_number-returns-in_ok-first-in-OrElse
lower_number-returns-in_ok-first-in-OrElse t c =
    at-ok c.lower_test-in-OrElse.result c.lower_test-in-OrElse.ensures
    (N-OrElse _ _ _ _ _ _ _ _ _ _ _ _ _ _ _ _ c.in-OrElse.is (c.get-in-OrElse-2).ensures c.get-in-OrElse.ensures refl refl c.in_ok-after-in-OrElse.ensures.number c.in_ok-after-in-OrElse.ensures.closed c.in_ok-second-in-OrElse.ensures c.in_ok-first-in-OrElse.ensures refl)

pub lower_number-returns-in_ok-first-in-Choose : goal.lower_number-returns-in_ok-first-in-Choose
lower_number-returns-in_ok-first-in-Choose t c =
    at-ok c.lower_test-in-Choose.result c.lower_test-in-Choose.ensures
    (N-Choose _ _ _ _ _ _ _ _ _ _ _ _ _ _ _ _ _ c.in-Choose.is (c.get-in-Choose-3).ensures (c.get-in-Choose-2).ensures c.get-in-Choose.ensures refl c.in_ok-after-in-Choose.ensures.number c.in_ok-after-in-Choose.ensures.closed c.in_ok-second-in-Choose.ensures c.in_ok-first-in-Choose.ensures refl)

pub lower_number_arm-returns : goal.lower_number_arm-returns
lower_number_arm-returns t c = with-number _ _ c.close.result c.close.ensures.closed c.close.ensures.number (λ closed number is. Lowers-arm _ _ _ _ _ _ _ _ _ _ c.in_ok-begin.ensures c.in_ok-lower_number.ensures closed is)

pub lower_text_arm-returns : goal.lower_text_arm-returns
lower_text_arm-returns t c = with-number _ _ c.close.result c.close.ensures.closed c.close.ensures.number (λ closed number is. Lowers-arm _ _ _ _ _ _ _ _ _ _ c.in_ok-begin.ensures c.in_ok-lower_text.ensures closed is)

pub tested_arm-returns : goal.tested_arm-returns
tested_arm-returns t c = with-number _ _ c.close.result c.close.ensures.closed c.close.ensures.number (λ closed number is. Tested-arm _ _ _ _ _ _ _ _ c.in_ok-begin.ensures c.in_ok-push.ensures c.in_ok-lower_number.ensures closed is)

pub lower_text-returns-in-Text : goal.lower_text-returns-in-Text
lower_text-returns-in-Text t c = at-ok c.push.result c.push.ensures (λ made. S-Text _ _ _ _ c.in-Text.is (made ∙ ap (λ s. pushed (i.Put (Str s)) c.args.code.now) c.copy.ensures))

pub lower_text-returns-in-Comm : goal.lower_text-returns-in-Comm
lower_text-returns-in-Comm t c = at-ok c.push-in-Comm.result c.push-in-Comm.ensures (S-Comm _ _ _ c.in-Comm.is)

pub lower_text-returns-in-Field : goal.lower_text-returns-in-Field
lower_text-returns-in-Field t c = at-ok c.push_text_field.result c.push_text_field.ensures (S-Field _ _ _ _ c.in-Field.is)

pub lower_text-returns-in-Var : goal.lower_text-returns-in-Var
lower_text-returns-in-Var t c = at-ok c.push-in-Var.result c.push-in-Var.ensures (S-Var _ _ _ _ c.in-Var.is)

pub lower_text-returns-in_ok-push_get-in-Map : goal.lower_text-returns-in_ok-push_get-in-Map
lower_text-returns-in_ok-push_get-in-Map t c =
    let key = ap (λ l. key_shapes (all_made l)) c.as_slice.ensures in
    at-ok c.lower_values.result c.lower_values.ensures (S-Map _ _ _ _ _ _ _ _ c.in-Map.is c.as_slice-in-Map.ensures key c.in_ok-push_get-in-Map.ensures)

pub lower_text-returns-in_ok-first-in-Choose : goal.lower_text-returns-in_ok-first-in-Choose
lower_text-returns-in_ok-first-in-Choose t c =
    at-ok c.lower_test.result c.lower_test.ensures
    (S-Choose _ _ _ _ _ _ _ _ _ _ _ _ _ _ _ _ _ c.in-Choose.is (c.get-in-Choose-2).ensures c.get-in-Choose.ensures c.get.ensures refl c.in_ok-after-in-Choose.ensures.number c.in_ok-after-in-Choose.ensures.closed c.in_ok-second-in-Choose.ensures c.in_ok-first-in-Choose.ensures refl)

pub lower_values-loop-left-init : goal.lower_values-loop-left-init
lower_values-loop-left-init t c = record { within = omega arith; lowered = List-start c.args.es.now (length c.args.es.now) c.args.code.now refl }

pub lower_values-loop-left-preserved : goal.lower_values-loop-left-preserved
lower_values-loop-left-preserved t c = record { within = omega (arith, c.loop-left.invariant.within); lowered = List-next _ _ _ _ _ _ c.loop-left-test.true c.loop-left.invariant.within c.index-es-left.is c.loop-left.invariant.lowered c.in_ok-lower_value.ensures }

pub lower_number-returns-in_err-after-in-AndThen : goal.lower_number-returns-in_err-after-in-AndThen
lower_number-returns-in_err-after-in-AndThen t c = failed _ _ c.from_residual-in_err-after-in-AndThen.result c.from_residual-in_err-after-in-AndThen.ensures.1

pub lower_number-returns-in_err-after-in-Choose : goal.lower_number-returns-in_err-after-in-Choose
lower_number-returns-in_err-after-in-Choose t c = failed _ _ c.from_residual-in_err-after-in-Choose.result c.from_residual-in_err-after-in-Choose.ensures.1

pub lower_number-returns-in_err-after-in-OrElse : goal.lower_number-returns-in_err-after-in-OrElse
lower_number-returns-in_err-after-in-OrElse t c = failed _ _ c.from_residual-in_err-after-in-OrElse.result c.from_residual-in_err-after-in-OrElse.ensures.1

pub lower_number-returns-in_err-first-in-AndThen : goal.lower_number-returns-in_err-first-in-AndThen
lower_number-returns-in_err-first-in-AndThen t c = failed _ _ c.from_residual-in_err-first-in-AndThen.result c.from_residual-in_err-first-in-AndThen.ensures.1

pub lower_number-returns-in_err-first-in-Choose : goal.lower_number-returns-in_err-first-in-Choose
lower_number-returns-in_err-first-in-Choose t c = failed _ _ c.from_residual-in_err-first-in-Choose.result c.from_residual-in_err-first-in-Choose.ensures.1

pub lower_number-returns-in_err-first-in-OrElse : goal.lower_number-returns-in_err-first-in-OrElse
lower_number-returns-in_err-first-in-OrElse t c = failed _ _ c.from_residual-in_err-first-in-OrElse.result c.from_residual-in_err-first-in-OrElse.ensures.1

pub lower_number-returns-in_err-lower_number-in-Binary : goal.lower_number-returns-in_err-lower_number-in-Binary
lower_number-returns-in_err-lower_number-in-Binary t c = failed _ _ c.from_residual-in_err-lower_number-in-Binary.result c.from_residual-in_err-lower_number-in-Binary.ensures.1

pub lower_number-returns-in_err-lower_text-in-Compare : goal.lower_number-returns-in_err-lower_text-in-Compare
lower_number-returns-in_err-lower_text-in-Compare t c = failed _ _ c.from_residual-in_err-lower_text-in-Compare.result c.from_residual-in_err-lower_text-in-Compare.ensures.1

pub lower_number-returns-in_err-push-in-Binary : goal.lower_number-returns-in_err-push-in-Binary
lower_number-returns-in_err-push-in-Binary t c = failed _ _ c.from_residual-in_err-push-in-Binary.result c.from_residual-in_err-push-in-Binary.ensures.1

pub lower_number-returns-in_err-push-in-Compare : goal.lower_number-returns-in_err-push-in-Compare
lower_number-returns-in_err-push-in-Compare t c = failed _ _ c.from_residual-in_err-push-in-Compare.result c.from_residual-in_err-push-in-Compare.ensures.1

pub lower_number-returns-in_err-push-in-Unary : goal.lower_number-returns-in_err-push-in-Unary
lower_number-returns-in_err-push-in-Unary t c = failed _ _ c.from_residual-in_err-push-in-Unary.result c.from_residual-in_err-push-in-Unary.ensures.1

pub lower_number-returns-in_err-push_get-in-Map : goal.lower_number-returns-in_err-push_get-in-Map
lower_number-returns-in_err-push_get-in-Map t c = failed _ _ c.from_residual.result c.from_residual.ensures.1

pub lower_number-returns-in_err-push_read_agg-in-Agg : goal.lower_number-returns-in_err-push_read_agg-in-Agg
lower_number-returns-in_err-push_read_agg-in-Agg t c = failed _ _ c.from_residual-in_err-push_read_agg-in-Agg.result c.from_residual-in_err-push_read_agg-in-Agg.ensures.1

pub lower_number-returns-in_err-push_step_map-in-StepMap : goal.lower_number-returns-in_err-push_step_map-in-StepMap
lower_number-returns-in_err-push_step_map-in-StepMap t c = failed _ _ c.from_residual-in_err-push_step_map-in-StepMap.result c.from_residual-in_err-push_step_map-in-StepMap.ensures.1

pub lower_number-returns-in_err-second-in-AndThen : goal.lower_number-returns-in_err-second-in-AndThen
lower_number-returns-in_err-second-in-AndThen t c = failed _ _ c.from_residual-in_err-second-in-AndThen.result c.from_residual-in_err-second-in-AndThen.ensures.1

pub lower_number-returns-in_err-second-in-Choose : goal.lower_number-returns-in_err-second-in-Choose
lower_number-returns-in_err-second-in-Choose t c = failed _ _ c.from_residual-in_err-second-in-Choose.result c.from_residual-in_err-second-in-Choose.ensures.1

pub lower_number-returns-in_err-second-in-OrElse : goal.lower_number-returns-in_err-second-in-OrElse
lower_number-returns-in_err-second-in-OrElse t c = failed _ _ c.from_residual-in_err-second-in-OrElse.result c.from_residual-in_err-second-in-OrElse.ensures.1

pub lower_number_arm-returns-in_err-begin : goal.lower_number_arm-returns-in_err-begin
lower_number_arm-returns-in_err-begin t c = if-failed _ _ c.from_residual.result c.from_residual.ensures.1

pub lower_number_arm-returns-in_err-lower_number : goal.lower_number_arm-returns-in_err-lower_number
lower_number_arm-returns-in_err-lower_number t c = if-failed _ _ c.from_residual-in_err-lower_number.result c.from_residual-in_err-lower_number.ensures.1

pub lower_text-returns-in_err-after-in-Choose : goal.lower_text-returns-in_err-after-in-Choose
lower_text-returns-in_err-after-in-Choose t c = failed _ _ c.from_residual-in_err-after-in-Choose.result c.from_residual-in_err-after-in-Choose.ensures.1

pub lower_text-returns-in_err-first-in-Choose : goal.lower_text-returns-in_err-first-in-Choose
lower_text-returns-in_err-first-in-Choose t c = failed _ _ c.from_residual-in_err-first-in-Choose.result c.from_residual-in_err-first-in-Choose.ensures.1

pub lower_text-returns-in_err-push_get-in-Map : goal.lower_text-returns-in_err-push_get-in-Map
lower_text-returns-in_err-push_get-in-Map t c = failed _ _ c.from_residual.result c.from_residual.ensures.1

pub lower_text-returns-in_err-second-in-Choose : goal.lower_text-returns-in_err-second-in-Choose
lower_text-returns-in_err-second-in-Choose t c = failed _ _ c.from_residual-in_err-second-in-Choose.result c.from_residual-in_err-second-in-Choose.ensures.1

pub lower_text_arm-returns-in_err-begin : goal.lower_text_arm-returns-in_err-begin
lower_text_arm-returns-in_err-begin t c = if-failed _ _ c.from_residual.result c.from_residual.ensures.1

pub lower_text_arm-returns-in_err-lower_text : goal.lower_text_arm-returns-in_err-lower_text
lower_text_arm-returns-in_err-lower_text t c = if-failed _ _ c.from_residual-in_err-lower_text.result c.from_residual-in_err-lower_text.ensures.1

pub lower_values-returns-in_err-lower_value : goal.lower_values-returns-in_err-lower_value
lower_values-returns-in_err-lower_value t c = failed _ _ c.from_residual.result c.from_residual.ensures.1

pub tested_arm-returns-in_err-begin : goal.tested_arm-returns-in_err-begin
tested_arm-returns-in_err-begin t c = if-failed _ _ c.from_residual.result c.from_residual.ensures.1

pub tested_arm-returns-in_err-lower_number : goal.tested_arm-returns-in_err-lower_number
tested_arm-returns-in_err-lower_number t c = if-failed _ _ c.from_residual-in_err-lower_number.result c.from_residual-in_err-lower_number.ensures.1

pub tested_arm-returns-in_err-push : goal.tested_arm-returns-in_err-push
tested_arm-returns-in_err-push t c = if-failed _ _ c.from_residual-in_err-push.result c.from_residual-in_err-push.ensures.1

pub lower_test-returns : goal.lower_test-returns
lower_test-returns t c = at-ok c.lower_number.result c.lower_number.ensures (λ lowered. subst (λ (from : Code). LowersNumber c.args.test.now from c.lower_number.new.code) c.in_ok-begin.ensures lowered)

pub lower_test-returns-in_err-begin : goal.lower_test-returns-in_err-begin
lower_test-returns-in_err-begin t c = failed _ _ c.from_residual.result c.from_residual.ensures.1

pub lower_value-returns-in-Num : goal.lower_value-returns-in-Num
lower_value-returns-in-Num t c = at-ok c.lower_number.result c.lower_number.ensures (A-Num _ _ _ _ _ c.in-Num.is refl)

pub lower_value-returns-in-Str : goal.lower_value-returns-in-Str
lower_value-returns-in-Str t c = at-ok c.lower_text.result c.lower_text.ensures (A-Str _ _ _ _ _ c.in-Str.is refl)

pub lower_number-lower_number-requires : goal.lower_number-lower_number-requires
lower_number-lower_number-requires t c =
    let below : num_size c.get.result.now < num_size c.args.e.now = unary_below _ _ _ _ c.in-Unary.is c.get.ensures in
    omega (arith, below, c.decreases)

pub lower_number-lower_number-requires-in-Binary : goal.lower_number-lower_number-requires-in-Binary
lower_number-lower_number-requires-in-Binary t c =
    let below : num_size c.get-in-Binary.result.now < num_size c.args.e.now = binary_right _ _ _ _ _ c.in-Binary.is c.get-in-Binary.ensures in
    omega (arith, below, c.decreases)

pub lower_number-lower_number-requires-in-Binary-2 : goal.lower_number-lower_number-requires-in-Binary-2
lower_number-lower_number-requires-in-Binary-2 t c =
    let below : num_size (c.get-in-Binary-2).result.now < num_size c.args.e.now = binary_left _ _ _ _ _ c.in-Binary.is (c.get-in-Binary-2).ensures in
    omega (arith, below, c.decreases)

pub lower_number-lower_text-requires : goal.lower_number-lower_text-requires
lower_number-lower_text-requires t c =
    let below : str_size c.get-in-Compare.result.now < num_size c.args.e.now = compare_right _ _ _ _ _ c.in-Compare.is c.get-in-Compare.ensures in
    omega (arith, below, c.decreases)

pub lower_number-lower_text-requires-in-Compare : goal.lower_number-lower_text-requires-in-Compare
lower_number-lower_text-requires-in-Compare t c =
    let below : str_size (c.get-in-Compare-2).result.now < num_size c.args.e.now = compare_left _ _ _ _ _ c.in-Compare.is (c.get-in-Compare-2).ensures in
    omega (arith, below, c.decreases)

pub lower_number-tested_arm-requires : goal.lower_number-tested_arm-requires
lower_number-tested_arm-requires t c =
    let below : num_size c.get-in-AndThen.result.now < num_size c.args.e.now = and_right _ _ _ _ c.in-AndThen.is c.get-in-AndThen.ensures in
    omega (arith, below, c.decreases)

pub lower_number-lower_test-requires : goal.lower_number-lower_test-requires
lower_number-lower_test-requires t c =
    let below : num_size (c.get-in-AndThen-2).result.now < num_size c.args.e.now = and_left _ _ _ _ c.in-AndThen.is (c.get-in-AndThen-2).ensures in
    omega (arith, below, c.decreases)

pub lower_number-tested_arm-requires-in-OrElse : goal.lower_number-tested_arm-requires-in-OrElse
lower_number-tested_arm-requires-in-OrElse t c =
    let below : num_size c.get-in-OrElse.result.now < num_size c.args.e.now = or_right _ _ _ _ c.in-OrElse.is c.get-in-OrElse.ensures in
    omega (arith, below, c.decreases)

pub lower_number-lower_test-requires-in-OrElse : goal.lower_number-lower_test-requires-in-OrElse
lower_number-lower_test-requires-in-OrElse t c =
    let below : num_size (c.get-in-OrElse-2).result.now < num_size c.args.e.now = or_left _ _ _ _ c.in-OrElse.is (c.get-in-OrElse-2).ensures in
    omega (arith, below, c.decreases)

pub lower_number-lower_number_arm-requires : goal.lower_number-lower_number_arm-requires
lower_number-lower_number_arm-requires t c =
    let below : num_size c.get-in-Choose.result.now < num_size c.args.e.now = choose_no _ _ _ _ _ c.in-Choose.is c.get-in-Choose.ensures in
    omega (arith, below, c.decreases)

pub lower_number-lower_number_arm-requires-in-Choose : goal.lower_number-lower_number_arm-requires-in-Choose
lower_number-lower_number_arm-requires-in-Choose t c =
    let below : num_size (c.get-in-Choose-2).result.now < num_size c.args.e.now = choose_yes _ _ _ _ _ c.in-Choose.is (c.get-in-Choose-2).ensures in
    omega (arith, below, c.decreases)

pub lower_number-lower_test-requires-in-Choose : goal.lower_number-lower_test-requires-in-Choose
lower_number-lower_test-requires-in-Choose t c =
    let below : num_size (c.get-in-Choose-3).result.now < num_size c.args.e.now = choose_test _ _ _ _ _ c.in-Choose.is (c.get-in-Choose-3).ensures in
    omega (arith, below, c.decreases)

pub lower_text-lower_text_arm-requires : goal.lower_text-lower_text_arm-requires
lower_text-lower_text_arm-requires t c =
    let below : str_size c.get.result.now < str_size c.args.e.now = text_choose_no _ _ _ _ _ c.in-Choose.is c.get.ensures in
    omega (arith, below, c.decreases)

pub lower_text-lower_text_arm-requires-in-Choose : goal.lower_text-lower_text_arm-requires-in-Choose
lower_text-lower_text_arm-requires-in-Choose t c =
    let below : str_size (c.get-in-Choose).result.now < str_size c.args.e.now = text_choose_yes _ _ _ _ _ c.in-Choose.is (c.get-in-Choose).ensures in
    omega (arith, below, c.decreases)

pub lower_text-lower_test-requires : goal.lower_text-lower_test-requires
lower_text-lower_test-requires t c =
    let below : num_size (c.get-in-Choose-2).result.now < str_size c.args.e.now = text_choose_test _ _ _ _ _ c.in-Choose.is (c.get-in-Choose-2).ensures in
    omega (arith, below, c.decreases)

pub lower_number-lower_values-requires : goal.lower_number-lower_values-requires
lower_number-lower_values-requires t c =
    let below : most any_size (c.as_slice-in-Map).result.now < num_size c.args.e.now = map_keys _ _ _ _ c.in-Map.is (c.as_slice-in-Map).ensures in
    omega (arith, below, c.decreases)

pub lower_number-lower_values-requires-in-Agg : goal.lower_number-lower_values-requires-in-Agg
lower_number-lower_values-requires-in-Agg t c =
    let below : most any_size (c.as_slice-in-Agg-2).result.now < num_size c.args.e.now = agg_keys _ _ _ _ c.in-Agg.is (c.as_slice-in-Agg-2).ensures in
    omega (arith, below, c.decreases)

pub lower_number-lower_values-requires-in-StepMap : goal.lower_number-lower_values-requires-in-StepMap
lower_number-lower_values-requires-in-StepMap t c =
    let below : most any_size (c.as_slice-in-StepMap-2).result.now < num_size c.args.e.now = step_map_keys _ _ _ _ _ _ c.in-StepMap.is (c.as_slice-in-StepMap-2).ensures in
    omega (arith, below, c.decreases)

pub lower_text-lower_values-requires : goal.lower_text-lower_values-requires
lower_text-lower_values-requires t c =
    let below : most any_size (c.as_slice-in-Map).result.now < str_size c.args.e.now = text_map_keys _ _ _ _ c.in-Map.is (c.as_slice-in-Map).ensures in
    omega (arith, below, c.decreases)

pub lower_values-returns : goal.lower_values-returns
lower_values-returns t c =
    let done : c.loop-left.left ≡ 0 = omega (arith, c.loop-left-test.false) in
    subst (λ (k : ℕ). LowersList (drop k c.args.es.now) c.args.code.now c.loop-left.code) done c.loop-left.invariant.lowered
