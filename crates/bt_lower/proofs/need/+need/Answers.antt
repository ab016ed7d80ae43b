use Rattle.std.proofs.Common.{arith, refl, sym, ap, subst, ◌∙◌, ◌<◌, List, length}
use Rattle.bt_lower.specs.declared.need.Listed.{Listed}
use Rattle.bt_lower.specs.declared.need.Valued.{Valued}
use Rattle.bt_lower.specs.Needs.{IsTooMuch, listed, values_need, value_need, number_need, text_need, valued, under, more, Need}
use Rattle.bt_lower.proofs.Measured.{same, same-beyond, roomy, at-least, at-err, failed, part-more, part-keys, part-first, part-second, greater-are, greater-room, leaf-is, text-leaf-is, keyed-is, either-is, part-left, part-right, part-test, part-one, part-other, beside-are, one-of-are, under-room, beside-room, test-room, one-room, step-map-is, unary-is, binary-is, compare-is, choose-is, text-map-is, text-choose-is}
use Rattle.bt_lower.proofs.Needing.{frame_from, codes_from, listed_from, room_before}
use Rattle.bt_lower.proofs.Trees as tree
use Rattle.typed_tree.proofs.expr.NumExpr.TheLaws.{the_size as num_size}
use Rattle.typed_tree.proofs.expr.StrExpr.TheLaws.{the_size as str_size}
use Rattle.bt_lower.proofs.Sizes.{binary_left, binary_right, choose_no, choose_test, choose_yes, compare_left, compare_right, text_choose_no, text_choose_test, text_choose_yes, unary_below}
use Rattle.std.proofs.lemmas.List.{drop_all}
use Rattle.typed_tree.specs.declared.expr.AnyExpr.{AnyExpr}
use Rattle.bt_lower.proofs.need.+need.Goals as goal

pub values_need-returns-in_err-value-clause-beyond : goal.values_need-returns-in_err-value-clause-beyond
values_need-returns-in_err-value-clause-beyond t c =
    let frame = frame_from c.args.es.now _ c.loop-left.left _ (omega arith) (omega arith) c.index-es-left.is in
    let codes = codes_from c.args.es.now _ c.loop-left.left _ (omega arith) (omega arith) c.index-es-left.is in
    grind (arith, frame, codes)

pub values_need-returns-in_err-all-clause-beyond : goal.values_need-returns-in_err-all-clause-beyond
values_need-returns-in_err-all-clause-beyond t c =
    let frame = frame_from c.args.es.now _ c.loop-left.left _ (omega arith) (omega arith) c.index-es-left.is in
    let codes = codes_from c.args.es.now _ c.loop-left.left _ (omega arith) (omega arith) c.index-es-left.is in
    grind (arith, frame, codes)

pub value_need-returns-in_err-need-in-Num-clause-need : goal.value_need-returns-in_err-need-in-Num-clause-need
value_need-returns-in_err-need-in-Num-clause-need t c = failed _ _ c.from_residual.result c.from_residual.ensures.1

pub value_need-returns-in_err-need-in-Num-clause-room : goal.value_need-returns-in_err-need-in-Num-clause-room
value_need-returns-in_err-need-in-Num-clause-room t c = failed _ _ c.from_residual.result c.from_residual.ensures.1

pub value_need-returns-in_err-need-in-Num-clause-beyond : goal.value_need-returns-in_err-need-in-Num-clause-beyond
value_need-returns-in_err-need-in-Num-clause-beyond t c = at-err c.from_residual.result (subst IsTooMuch (sym (ap (λ (v : Valued). v.need) (ap value_need c.in-Num.is ∙ tree.any-Num-need _))) c.in_err-need-in-Num.ensures.beyond)

pub value_need-returns-in_err-need-in-Str-clause-need : goal.value_need-returns-in_err-need-in-Str-clause-need
value_need-returns-in_err-need-in-Str-clause-need t c = failed _ _ c.from_residual-in_err-need-in-Str.result c.from_residual-in_err-need-in-Str.ensures.1

pub value_need-returns-in_err-need-in-Str-clause-room : goal.value_need-returns-in_err-need-in-Str-clause-room
value_need-returns-in_err-need-in-Str-clause-room t c = failed _ _ c.from_residual-in_err-need-in-Str.result c.from_residual-in_err-need-in-Str.ensures.1

pub value_need-returns-in_err-need-in-Str-clause-beyond : goal.value_need-returns-in_err-need-in-Str-clause-beyond
value_need-returns-in_err-need-in-Str-clause-beyond t c = at-err c.from_residual-in_err-need-in-Str.result (subst IsTooMuch (sym (ap (λ (v : Valued). v.need) (ap value_need c.in-Str.is ∙ tree.any-Str-need _))) c.in_err-need-in-Str.ensures.beyond)

pub number_need-returns-in_err-value-in-Unary-clause-need : goal.number_need-returns-in_err-value-in-Unary-clause-need
number_need-returns-in_err-value-in-Unary-clause-need t c = failed _ _ c.from_residual.result c.from_residual.ensures.1

pub number_need-returns-in_err-value-in-Unary-clause-room : goal.number_need-returns-in_err-value-in-Unary-clause-room
number_need-returns-in_err-value-in-Unary-clause-room t c = failed _ _ c.from_residual.result c.from_residual.ensures.1

pub number_need-returns-in_err-value-in-Unary-clause-beyond : goal.number_need-returns-in_err-value-in-Unary-clause-beyond
number_need-returns-in_err-value-in-Unary-clause-beyond t c = at-err c.from_residual.result (part-more 8 _ _ c.in_err-value-in-Unary.ensures.beyond (unary-is _ _ _ _ c.in-Unary.is c.get.ensures))

pub number_need-returns-in_err-left-in-Binary-clause-need : goal.number_need-returns-in_err-left-in-Binary-clause-need
number_need-returns-in_err-left-in-Binary-clause-need t c = failed _ _ c.from_residual-in_err-left-in-Binary.result c.from_residual-in_err-left-in-Binary.ensures.1

pub number_need-returns-in_err-left-in-Binary-clause-room : goal.number_need-returns-in_err-left-in-Binary-clause-room
number_need-returns-in_err-left-in-Binary-clause-room t c = failed _ _ c.from_residual-in_err-left-in-Binary.result c.from_residual-in_err-left-in-Binary.ensures.1

pub number_need-returns-in_err-left-in-Binary-clause-beyond : goal.number_need-returns-in_err-left-in-Binary-clause-beyond
number_need-returns-in_err-left-in-Binary-clause-beyond t c = at-err c.from_residual-in_err-left-in-Binary.result (part-left 8 12 _ _ _ c.in_err-left-in-Binary.ensures.beyond (binary-is _ _ _ _ _ _ c.in-Binary.is c.get-in-Binary.ensures refl))

pub number_need-returns-in_err-right-in-Binary-clause-need : goal.number_need-returns-in_err-right-in-Binary-clause-need
number_need-returns-in_err-right-in-Binary-clause-need t c = failed _ _ c.from_residual-in_err-right-in-Binary.result c.from_residual-in_err-right-in-Binary.ensures.1

pub number_need-returns-in_err-right-in-Binary-clause-room : goal.number_need-returns-in_err-right-in-Binary-clause-room
number_need-returns-in_err-right-in-Binary-clause-room t c = failed _ _ c.from_residual-in_err-right-in-Binary.result c.from_residual-in_err-right-in-Binary.ensures.1

pub number_need-returns-in_err-right-in-Binary-clause-beyond : goal.number_need-returns-in_err-right-in-Binary-clause-beyond
number_need-returns-in_err-right-in-Binary-clause-beyond t c = at-err c.from_residual-in_err-right-in-Binary.result (part-right 8 12 _ _ _ c.in_err-right-in-Binary.ensures.beyond (binary-is _ _ _ _ _ _ c.in-Binary.is c.get-in-Binary.ensures (c.get-in-Binary-2).ensures))

pub number_need-returns-in_err-left-in-Compare-clause-need : goal.number_need-returns-in_err-left-in-Compare-clause-need
number_need-returns-in_err-left-in-Compare-clause-need t c = failed _ _ c.from_residual-in_err-left-in-Compare.result c.from_residual-in_err-left-in-Compare.ensures.1

pub number_need-returns-in_err-left-in-Compare-clause-room : goal.number_need-returns-in_err-left-in-Compare-clause-room
number_need-returns-in_err-left-in-Compare-clause-room t c = failed _ _ c.from_residual-in_err-left-in-Compare.result c.from_residual-in_err-left-in-Compare.ensures.1

pub number_need-returns-in_err-left-in-Compare-clause-beyond : goal.number_need-returns-in_err-left-in-Compare-clause-beyond
number_need-returns-in_err-left-in-Compare-clause-beyond t c = at-err c.from_residual-in_err-left-in-Compare.result (part-left 64 48 _ _ _ c.in_err-left-in-Compare.ensures.beyond (compare-is _ _ _ _ _ _ c.in-Compare.is c.get-in-Compare.ensures refl))

pub number_need-returns-in_err-right-in-Compare-clause-need : goal.number_need-returns-in_err-right-in-Compare-clause-need
number_need-returns-in_err-right-in-Compare-clause-need t c = failed _ _ c.from_residual-in_err-right-in-Compare.result c.from_residual-in_err-right-in-Compare.ensures.1

pub number_need-returns-in_err-right-in-Compare-clause-room : goal.number_need-returns-in_err-right-in-Compare-clause-room
number_need-returns-in_err-right-in-Compare-clause-room t c = failed _ _ c.from_residual-in_err-right-in-Compare.result c.from_residual-in_err-right-in-Compare.ensures.1

pub number_need-returns-in_err-right-in-Compare-clause-beyond : goal.number_need-returns-in_err-right-in-Compare-clause-beyond
number_need-returns-in_err-right-in-Compare-clause-beyond t c = at-err c.from_residual-in_err-right-in-Compare.result (part-right 64 48 _ _ _ c.in_err-right-in-Compare.ensures.beyond (compare-is _ _ _ _ _ _ c.in-Compare.is c.get-in-Compare.ensures (c.get-in-Compare-2).ensures))

pub number_need-returns-in_err-condition-in-Choose-clause-need : goal.number_need-returns-in_err-condition-in-Choose-clause-need
number_need-returns-in_err-condition-in-Choose-clause-need t c = failed _ _ c.from_residual-in_err-condition-in-Choose.result c.from_residual-in_err-condition-in-Choose.ensures.1

pub number_need-returns-in_err-condition-in-Choose-clause-room : goal.number_need-returns-in_err-condition-in-Choose-clause-room
number_need-returns-in_err-condition-in-Choose-clause-room t c = failed _ _ c.from_residual-in_err-condition-in-Choose.result c.from_residual-in_err-condition-in-Choose.ensures.1

pub number_need-returns-in_err-condition-in-Choose-clause-beyond : goal.number_need-returns-in_err-condition-in-Choose-clause-beyond
number_need-returns-in_err-condition-in-Choose-clause-beyond t c = at-err c.from_residual-in_err-condition-in-Choose.result (part-test _ _ _ _ c.in_err-condition-in-Choose.ensures.beyond (choose-is _ _ _ _ _ _ _ c.in-Choose.is c.get-in-Choose.ensures refl refl))

pub number_need-returns-in_err-yes-in-Choose-clause-need : goal.number_need-returns-in_err-yes-in-Choose-clause-need
number_need-returns-in_err-yes-in-Choose-clause-need t c = failed _ _ c.from_residual-in_err-yes-in-Choose.result c.from_residual-in_err-yes-in-Choose.ensures.1

pub number_need-returns-in_err-yes-in-Choose-clause-room : goal.number_need-returns-in_err-yes-in-Choose-clause-room
number_need-returns-in_err-yes-in-Choose-clause-room t c = failed _ _ c.from_residual-in_err-yes-in-Choose.result c.from_residual-in_err-yes-in-Choose.ensures.1

pub number_need-returns-in_err-yes-in-Choose-clause-beyond : goal.number_need-returns-in_err-yes-in-Choose-clause-beyond
number_need-returns-in_err-yes-in-Choose-clause-beyond t c = at-err c.from_residual-in_err-yes-in-Choose.result (part-one _ _ _ _ c.in_err-yes-in-Choose.ensures.beyond (choose-is _ _ _ _ _ _ _ c.in-Choose.is c.get-in-Choose.ensures (c.get-in-Choose-2).ensures refl))

pub number_need-returns-in_err-no-in-Choose-clause-need : goal.number_need-returns-in_err-no-in-Choose-clause-need
number_need-returns-in_err-no-in-Choose-clause-need t c = failed _ _ c.from_residual-in_err-no-in-Choose.result c.from_residual-in_err-no-in-Choose.ensures.1

pub number_need-returns-in_err-no-in-Choose-clause-room : goal.number_need-returns-in_err-no-in-Choose-clause-room
number_need-returns-in_err-no-in-Choose-clause-room t c = failed _ _ c.from_residual-in_err-no-in-Choose.result c.from_residual-in_err-no-in-Choose.ensures.1

pub number_need-returns-in_err-no-in-Choose-clause-beyond : goal.number_need-returns-in_err-no-in-Choose-clause-beyond
number_need-returns-in_err-no-in-Choose-clause-beyond t c = at-err c.from_residual-in_err-no-in-Choose.result (part-other _ _ _ _ c.in_err-no-in-Choose.ensures.beyond (choose-is _ _ _ _ _ _ _ c.in-Choose.is c.get-in-Choose.ensures (c.get-in-Choose-2).ensures (c.get-in-Choose-3).ensures))

pub number_need-returns-in_err-left-in-AndThen-clause-need : goal.number_need-returns-in_err-left-in-AndThen-clause-need
number_need-returns-in_err-left-in-AndThen-clause-need t c = failed _ _ c.from_residual-in_err-left-in-AndThen.result c.from_residual-in_err-left-in-AndThen.ensures.1

pub number_need-returns-in_err-left-in-AndThen-clause-room : goal.number_need-returns-in_err-left-in-AndThen-clause-room
number_need-returns-in_err-left-in-AndThen-clause-room t c = failed _ _ c.from_residual-in_err-left-in-AndThen.result c.from_residual-in_err-left-in-AndThen.ensures.1

pub number_need-returns-in_err-right-in-AndThen-clause-need : goal.number_need-returns-in_err-right-in-AndThen-clause-need
number_need-returns-in_err-right-in-AndThen-clause-need t c = failed _ _ c.from_residual-in_err-right-in-AndThen.result c.from_residual-in_err-right-in-AndThen.ensures.1

pub number_need-returns-in_err-right-in-AndThen-clause-room : goal.number_need-returns-in_err-right-in-AndThen-clause-room
number_need-returns-in_err-right-in-AndThen-clause-room t c = failed _ _ c.from_residual-in_err-right-in-AndThen.result c.from_residual-in_err-right-in-AndThen.ensures.1

pub text_need-returns-in_err-condition-in-Choose-clause-need : goal.text_need-returns-in_err-condition-in-Choose-clause-need
text_need-returns-in_err-condition-in-Choose-clause-need t c = failed _ _ c.from_residual.result c.from_residual.ensures.1

pub text_need-returns-in_err-condition-in-Choose-clause-room : goal.text_need-returns-in_err-condition-in-Choose-clause-room
text_need-returns-in_err-condition-in-Choose-clause-room t c = failed _ _ c.from_residual.result c.from_residual.ensures.1

pub text_need-returns-in_err-condition-in-Choose-clause-beyond : goal.text_need-returns-in_err-condition-in-Choose-clause-beyond
text_need-returns-in_err-condition-in-Choose-clause-beyond t c = at-err c.from_residual.result (part-test _ _ _ _ c.in_err-condition-in-Choose.ensures.beyond (text-choose-is _ _ _ _ _ _ _ c.in-Choose.is c.get.ensures refl refl))

pub text_need-returns-in_err-yes-in-Choose-clause-need : goal.text_need-returns-in_err-yes-in-Choose-clause-need
text_need-returns-in_err-yes-in-Choose-clause-need t c = failed _ _ c.from_residual-in_err-yes-in-Choose.result c.from_residual-in_err-yes-in-Choose.ensures.1

pub text_need-returns-in_err-yes-in-Choose-clause-room : goal.text_need-returns-in_err-yes-in-Choose-clause-room
text_need-returns-in_err-yes-in-Choose-clause-room t c = failed _ _ c.from_residual-in_err-yes-in-Choose.result c.from_residual-in_err-yes-in-Choose.ensures.1

pub text_need-returns-in_err-yes-in-Choose-clause-beyond : goal.text_need-returns-in_err-yes-in-Choose-clause-beyond
text_need-returns-in_err-yes-in-Choose-clause-beyond t c = at-err c.from_residual-in_err-yes-in-Choose.result (part-one _ _ _ _ c.in_err-yes-in-Choose.ensures.beyond (text-choose-is _ _ _ _ _ _ _ c.in-Choose.is c.get.ensures c.get-in-Choose.ensures refl))

pub text_need-returns-in_err-no-in-Choose-clause-need : goal.text_need-returns-in_err-no-in-Choose-clause-need
text_need-returns-in_err-no-in-Choose-clause-need t c = failed _ _ c.from_residual-in_err-no-in-Choose.result c.from_residual-in_err-no-in-Choose.ensures.1

pub text_need-returns-in_err-no-in-Choose-clause-room : goal.text_need-returns-in_err-no-in-Choose-clause-room
text_need-returns-in_err-no-in-Choose-clause-room t c = failed _ _ c.from_residual-in_err-no-in-Choose.result c.from_residual-in_err-no-in-Choose.ensures.1

pub text_need-returns-in_err-no-in-Choose-clause-beyond : goal.text_need-returns-in_err-no-in-Choose-clause-beyond
text_need-returns-in_err-no-in-Choose-clause-beyond t c = at-err c.from_residual-in_err-no-in-Choose.result (part-other _ _ _ _ c.in_err-no-in-Choose.ensures.beyond (text-choose-is _ _ _ _ _ _ _ c.in-Choose.is c.get.ensures c.get-in-Choose.ensures (c.get-in-Choose-2).ensures))

pub values_need-returns-in_err-value-clause-need : goal.values_need-returns-in_err-value-clause-need
values_need-returns-in_err-value-clause-need t c = failed _ _ c.from_residual.result c.from_residual.ensures.1

pub values_need-returns-in_err-all-clause-need : goal.values_need-returns-in_err-all-clause-need
values_need-returns-in_err-all-clause-need t c = failed _ _ c.from_residual-in_err-all.result c.from_residual-in_err-all.ensures.1

pub number_need-returns-in-Field-clause-need : goal.number_need-returns-in-Field-clause-need
number_need-returns-in-Field-clause-need t c = c.figures.ensures ∙ sym (ap number_need c.in-Field.is ∙ tree.num-Field-need _)

pub number_need-returns-in-Field-clause-room : goal.number_need-returns-in-Field-clause-room
number_need-returns-in-Field-clause-room t c = at-least _ _ 8 c.figures.ensures (omega arith)

pub number_need-returns-in-Field-clause-beyond : goal.number_need-returns-in-Field-clause-beyond
number_need-returns-in-Field-clause-beyond t c = tt

pub number_need-returns-in-StepVar-clause-need : goal.number_need-returns-in-StepVar-clause-need
number_need-returns-in-StepVar-clause-need t c = c.figures-in-StepVar.ensures ∙ sym (ap number_need c.in-StepVar.is ∙ tree.num-StepVar-need _ _ _)

pub number_need-returns-in-StepVar-clause-room : goal.number_need-returns-in-StepVar-clause-room
number_need-returns-in-StepVar-clause-room t c = at-least _ _ 8 c.figures-in-StepVar.ensures (omega arith)

pub number_need-returns-in-StepVar-clause-beyond : goal.number_need-returns-in-StepVar-clause-beyond
number_need-returns-in-StepVar-clause-beyond t c = tt

pub text_need-returns-in-Text-clause-need : goal.text_need-returns-in-Text-clause-need
text_need-returns-in-Text-clause-need t c = c.figures.ensures ∙ sym (ap text_need c.in-Text.is ∙ tree.str-Text-need _)

pub text_need-returns-in-Text-clause-room : goal.text_need-returns-in-Text-clause-room
text_need-returns-in-Text-clause-room t c = at-least _ _ 64 c.figures.ensures (omega arith)

pub text_need-returns-in-Text-clause-beyond : goal.text_need-returns-in-Text-clause-beyond
text_need-returns-in-Text-clause-beyond t c = tt

pub number_need-returns-in_ok-value-in-Unary-clause-need : goal.number_need-returns-in_ok-value-in-Unary-clause-need
number_need-returns-in_ok-value-in-Unary-clause-need t c = same _ _ _ c.more.ensures.more (ap (more 8) c.in_ok-value-in-Unary.ensures.need ∙ sym (unary-is _ _ _ _ c.in-Unary.is c.get.ensures))

pub number_need-returns-in_ok-value-in-Unary-clause-beyond : goal.number_need-returns-in_ok-value-in-Unary-clause-beyond
number_need-returns-in_ok-value-in-Unary-clause-beyond t c = same-beyond _ _ _ c.more.ensures.beyond (ap (more 8) c.in_ok-value-in-Unary.ensures.need ∙ sym (unary-is _ _ _ _ c.in-Unary.is c.get.ensures))

pub number_need-returns-in_ok-value-in-Unary-clause-room : goal.number_need-returns-in_ok-value-in-Unary-clause-room
number_need-returns-in_ok-value-in-Unary-clause-room t c = roomy _ _ 8 c.more.ensures.more (c.in_ok-value-in-Unary.ensures.room)

pub number_need-returns-in_ok-right-in-Binary-clause-need : goal.number_need-returns-in_ok-right-in-Binary-clause-need
number_need-returns-in_ok-right-in-Binary-clause-need t c = same _ _ _ c.operands.ensures.both (beside-are 8 12 _ _ _ _ c.in_ok-left-in-Binary.ensures.need c.in_ok-right-in-Binary.ensures.need ∙ sym (binary-is _ _ _ _ _ _ c.in-Binary.is c.get-in-Binary.ensures (c.get-in-Binary-2).ensures))

pub number_need-returns-in_ok-right-in-Binary-clause-beyond : goal.number_need-returns-in_ok-right-in-Binary-clause-beyond
number_need-returns-in_ok-right-in-Binary-clause-beyond t c = same-beyond _ _ _ c.operands.ensures.beyond (beside-are 8 12 _ _ _ _ c.in_ok-left-in-Binary.ensures.need c.in_ok-right-in-Binary.ensures.need ∙ sym (binary-is _ _ _ _ _ _ c.in-Binary.is c.get-in-Binary.ensures (c.get-in-Binary-2).ensures))

pub number_need-returns-in_ok-right-in-Binary-clause-room : goal.number_need-returns-in_ok-right-in-Binary-clause-room
number_need-returns-in_ok-right-in-Binary-clause-room t c = roomy _ _ 8 c.operands.ensures.both (beside-room 8 12 c.in_ok-left-in-Binary.left c.in_ok-right-in-Binary.right 8 (omega arith))

pub number_need-returns-in_ok-right-in-Compare-clause-need : goal.number_need-returns-in_ok-right-in-Compare-clause-need
number_need-returns-in_ok-right-in-Compare-clause-need t c = same _ _ _ c.operands-in-Compare.ensures.both (beside-are 64 48 _ _ _ _ c.in_ok-left-in-Compare.ensures.need c.in_ok-right-in-Compare.ensures.need ∙ sym (compare-is _ _ _ _ _ _ c.in-Compare.is c.get-in-Compare.ensures (c.get-in-Compare-2).ensures))

pub number_need-returns-in_ok-right-in-Compare-clause-beyond : goal.number_need-returns-in_ok-right-in-Compare-clause-beyond
number_need-returns-in_ok-right-in-Compare-clause-beyond t c = same-beyond _ _ _ c.operands-in-Compare.ensures.beyond (beside-are 64 48 _ _ _ _ c.in_ok-left-in-Compare.ensures.need c.in_ok-right-in-Compare.ensures.need ∙ sym (compare-is _ _ _ _ _ _ c.in-Compare.is c.get-in-Compare.ensures (c.get-in-Compare-2).ensures))

pub number_need-returns-in_ok-right-in-Compare-clause-room : goal.number_need-returns-in_ok-right-in-Compare-clause-room
number_need-returns-in_ok-right-in-Compare-clause-room t c = roomy _ _ 8 c.operands-in-Compare.ensures.both (beside-room 64 48 c.in_ok-left-in-Compare.left c.in_ok-right-in-Compare.right 8 (omega arith))

pub number_need-returns-in_ok-no-in-Choose-clause-need : goal.number_need-returns-in_ok-no-in-Choose-clause-need
number_need-returns-in_ok-no-in-Choose-clause-need t c = same _ _ _ c.chosen.ensures.need (one-of-are _ _ _ _ _ _ c.in_ok-condition-in-Choose.ensures.need c.in_ok-yes-in-Choose.ensures.need c.in_ok-no-in-Choose.ensures.need ∙ sym (choose-is _ _ _ _ _ _ _ c.in-Choose.is c.get-in-Choose.ensures (c.get-in-Choose-2).ensures (c.get-in-Choose-3).ensures))

pub number_need-returns-in_ok-no-in-Choose-clause-beyond : goal.number_need-returns-in_ok-no-in-Choose-clause-beyond
number_need-returns-in_ok-no-in-Choose-clause-beyond t c = same-beyond _ _ _ c.chosen.ensures.beyond (one-of-are _ _ _ _ _ _ c.in_ok-condition-in-Choose.ensures.need c.in_ok-yes-in-Choose.ensures.need c.in_ok-no-in-Choose.ensures.need ∙ sym (choose-is _ _ _ _ _ _ _ c.in-Choose.is c.get-in-Choose.ensures (c.get-in-Choose-2).ensures (c.get-in-Choose-3).ensures))

pub number_need-returns-in_ok-no-in-Choose-clause-room : goal.number_need-returns-in_ok-no-in-Choose-clause-room
number_need-returns-in_ok-no-in-Choose-clause-room t c = roomy _ _ 8 c.chosen.ensures.need (test-room c.in_ok-condition-in-Choose.condition c.in_ok-yes-in-Choose.yes c.in_ok-no-in-Choose.no 8 c.in_ok-condition-in-Choose.ensures.room)

pub text_need-returns-in_ok-no-in-Choose-clause-need : goal.text_need-returns-in_ok-no-in-Choose-clause-need
text_need-returns-in_ok-no-in-Choose-clause-need t c = same _ _ _ c.chosen.ensures.need (one-of-are _ _ _ _ _ _ c.in_ok-condition-in-Choose.ensures.need c.in_ok-yes-in-Choose.ensures.need c.in_ok-no-in-Choose.ensures.need ∙ sym (text-choose-is _ _ _ _ _ _ _ c.in-Choose.is c.get.ensures c.get-in-Choose.ensures (c.get-in-Choose-2).ensures))

pub text_need-returns-in_ok-no-in-Choose-clause-beyond : goal.text_need-returns-in_ok-no-in-Choose-clause-beyond
text_need-returns-in_ok-no-in-Choose-clause-beyond t c = same-beyond _ _ _ c.chosen.ensures.beyond (one-of-are _ _ _ _ _ _ c.in_ok-condition-in-Choose.ensures.need c.in_ok-yes-in-Choose.ensures.need c.in_ok-no-in-Choose.ensures.need ∙ sym (text-choose-is _ _ _ _ _ _ _ c.in-Choose.is c.get.ensures c.get-in-Choose.ensures (c.get-in-Choose-2).ensures))

pub text_need-returns-in_ok-no-in-Choose-clause-room : goal.text_need-returns-in_ok-no-in-Choose-clause-room
text_need-returns-in_ok-no-in-Choose-clause-room t c = roomy _ _ 64 c.chosen.ensures.need (one-room c.in_ok-condition-in-Choose.condition c.in_ok-yes-in-Choose.yes c.in_ok-no-in-Choose.no 64 c.in_ok-yes-in-Choose.ensures.room)

pub value_need-returns-in_ok-need-in-Num-clause-need : goal.value_need-returns-in_ok-need-in-Num-clause-need
value_need-returns-in_ok-need-in-Num-clause-need t c = ap (valued 8) c.in_ok-need-in-Num.ensures.need ∙ sym (ap value_need c.in-Num.is ∙ tree.any-Num-need _)

pub value_need-returns-in_ok-need-in-Num-clause-room : goal.value_need-returns-in_ok-need-in-Num-clause-room
value_need-returns-in_ok-need-in-Num-clause-room t c = c.in_ok-need-in-Num.ensures.room

pub value_need-returns-in_ok-need-in-Num-clause-beyond : goal.value_need-returns-in_ok-need-in-Num-clause-beyond
value_need-returns-in_ok-need-in-Num-clause-beyond t c = tt

pub value_need-returns-in_ok-need-in-Str-clause-need : goal.value_need-returns-in_ok-need-in-Str-clause-need
value_need-returns-in_ok-need-in-Str-clause-need t c = ap (valued 64) c.in_ok-need-in-Str.ensures.need ∙ sym (ap value_need c.in-Str.is ∙ tree.any-Str-need _)

pub value_need-returns-in_ok-need-in-Str-clause-room : goal.value_need-returns-in_ok-need-in-Str-clause-room
value_need-returns-in_ok-need-in-Str-clause-room t c = c.in_ok-need-in-Str.ensures.room

pub value_need-returns-in_ok-need-in-Str-clause-beyond : goal.value_need-returns-in_ok-need-in-Str-clause-beyond
value_need-returns-in_ok-need-in-Str-clause-beyond t c = tt

pub number_need-returns-in-StepMap-clause-need : goal.number_need-returns-in-StepMap-clause-need
number_need-returns-in-StepMap-clause-need t c = same _ _ _ c.keyed_need.ensures.need (sym (step-map-is _ _ _ _ _ _ c.in-StepMap.is c.as_slice.ensures))

pub number_need-returns-in-StepMap-clause-beyond : goal.number_need-returns-in-StepMap-clause-beyond
number_need-returns-in-StepMap-clause-beyond t c = same-beyond _ _ _ c.keyed_need.ensures.beyond (sym (step-map-is _ _ _ _ _ _ c.in-StepMap.is c.as_slice.ensures))

pub number_need-returns-in-StepMap-clause-room : goal.number_need-returns-in-StepMap-clause-room
number_need-returns-in-StepMap-clause-room t c = roomy _ _ 8 c.keyed_need.ensures.need (under-room (listed (values_need c.as_slice.result.now)) 16 32 8 (omega arith))

pub text_need-returns-in-Map-clause-need : goal.text_need-returns-in-Map-clause-need
text_need-returns-in-Map-clause-need t c = same _ _ _ c.keyed_need.ensures.need (sym (text-map-is _ _ _ _ c.in-Map.is c.as_slice.ensures))

pub text_need-returns-in-Map-clause-beyond : goal.text_need-returns-in-Map-clause-beyond
text_need-returns-in-Map-clause-beyond t c = same-beyond _ _ _ c.keyed_need.ensures.beyond (sym (text-map-is _ _ _ _ c.in-Map.is c.as_slice.ensures))

pub text_need-returns-in-Map-clause-room : goal.text_need-returns-in-Map-clause-room
text_need-returns-in-Map-clause-room t c = roomy _ _ 64 c.keyed_need.ensures.need (under-room (listed (values_need c.as_slice.result.now)) 64 40 64 (omega arith))

pub keyed_need-returns-clause-need : goal.keyed_need-returns-clause-need
keyed_need-returns-clause-need t c = same _ _ _ c.under.ensures.under (ap (λ (l : Listed). under l c.args.frame c.args.slots) c.in_ok-keys.ensures.need)

pub keyed_need-returns-clause-beyond : goal.keyed_need-returns-clause-beyond
keyed_need-returns-clause-beyond t c = same-beyond _ _ _ c.under.ensures.beyond (ap (λ (l : Listed). under l c.args.frame c.args.slots) c.in_ok-keys.ensures.need)

pub keyed_need-returns-in_err-keys-clause-need : goal.keyed_need-returns-in_err-keys-clause-need
keyed_need-returns-in_err-keys-clause-need t c = failed _ _ c.from_residual.result c.from_residual.ensures.1

pub keyed_need-returns-in_err-keys-clause-beyond : goal.keyed_need-returns-in_err-keys-clause-beyond
keyed_need-returns-in_err-keys-clause-beyond t c = at-err c.from_residual.result (part-keys c.args.frame c.args.slots _ _ c.in_err-keys.ensures.beyond refl)

pub number_need-returns-in-Map-clause-need : goal.number_need-returns-in-Map-clause-need
number_need-returns-in-Map-clause-need t c = same _ _ _ c.keyed_need-in-Map.ensures.need (sym (keyed-is _ _ _ c.in-Map.is c.as_slice-in-Map.ensures))

pub number_need-returns-in-Map-clause-beyond : goal.number_need-returns-in-Map-clause-beyond
number_need-returns-in-Map-clause-beyond t c = same-beyond _ _ _ c.keyed_need-in-Map.ensures.beyond (sym (keyed-is _ _ _ c.in-Map.is c.as_slice-in-Map.ensures))

pub number_need-returns-in-Map-clause-room : goal.number_need-returns-in-Map-clause-room
number_need-returns-in-Map-clause-room t c = roomy _ _ 8 c.keyed_need-in-Map.ensures.need (under-room (listed (values_need c.as_slice-in-Map.result.now)) 8 16 8 (omega arith))

pub number_need-returns-in_ok-right-in-AndThen-clause-need : goal.number_need-returns-in_ok-right-in-AndThen-clause-need
number_need-returns-in_ok-right-in-AndThen-clause-need t c = same _ _ _ c.greater_and.ensures.both (greater-are 16 _ _ _ _ c.in_ok-left-in-AndThen.ensures.need c.in_ok-right-in-AndThen.ensures.need ∙ sym (either-is _ _ _ _ _ c.in-AndThen.is c.get-in-AndThen.ensures (c.get-in-AndThen-2).ensures))

pub number_need-returns-in_ok-right-in-AndThen-clause-beyond : goal.number_need-returns-in_ok-right-in-AndThen-clause-beyond
number_need-returns-in_ok-right-in-AndThen-clause-beyond t c = same-beyond _ _ _ c.greater_and.ensures.beyond (greater-are 16 _ _ _ _ c.in_ok-left-in-AndThen.ensures.need c.in_ok-right-in-AndThen.ensures.need ∙ sym (either-is _ _ _ _ _ c.in-AndThen.is c.get-in-AndThen.ensures (c.get-in-AndThen-2).ensures))

pub number_need-returns-in_ok-right-in-AndThen-clause-room : goal.number_need-returns-in_ok-right-in-AndThen-clause-room
number_need-returns-in_ok-right-in-AndThen-clause-room t c = roomy _ _ 8 c.greater_and.ensures.both (greater-room 16 c.in_ok-left-in-AndThen.left c.in_ok-right-in-AndThen.right 8 c.in_ok-left-in-AndThen.ensures.room)

pub number_need-returns-in_err-left-in-AndThen-clause-beyond : goal.number_need-returns-in_err-left-in-AndThen-clause-beyond
number_need-returns-in_err-left-in-AndThen-clause-beyond t c = at-err c.from_residual-in_err-left-in-AndThen.result (part-first 16 _ _ _ c.in_err-left-in-AndThen.ensures.beyond (either-is _ _ _ _ _ c.in-AndThen.is c.get-in-AndThen.ensures refl))

pub number_need-returns-in_err-right-in-AndThen-clause-beyond : goal.number_need-returns-in_err-right-in-AndThen-clause-beyond
number_need-returns-in_err-right-in-AndThen-clause-beyond t c = at-err c.from_residual-in_err-right-in-AndThen.result (part-second 16 _ _ _ c.in_err-right-in-AndThen.ensures.beyond (either-is _ _ _ _ _ c.in-AndThen.is c.get-in-AndThen.ensures (c.get-in-AndThen-2).ensures))

pub number_need-returns-in-Number-clause-room : goal.number_need-returns-in-Number-clause-room
number_need-returns-in-Number-clause-room t c = at-least _ _ 8 c.figures-in-Number.ensures (omega arith)

pub number_need-returns-in-Number-clause-beyond : goal.number_need-returns-in-Number-clause-beyond
number_need-returns-in-Number-clause-beyond t c = tt

pub number_need-returns-in-Number-clause-need : goal.number_need-returns-in-Number-clause-need
number_need-returns-in-Number-clause-need t c = c.figures-in-Number.ensures ∙ sym (leaf-is _ c.in-Number.is)

pub text_need-returns-in-Comm-clause-room : goal.text_need-returns-in-Comm-clause-room
text_need-returns-in-Comm-clause-room t c = at-least _ _ 64 c.figures-in-Comm.ensures (omega arith)

pub text_need-returns-in-Comm-clause-beyond : goal.text_need-returns-in-Comm-clause-beyond
text_need-returns-in-Comm-clause-beyond t c = tt

pub text_need-returns-in-Comm-clause-need : goal.text_need-returns-in-Comm-clause-need
text_need-returns-in-Comm-clause-need t c = c.figures-in-Comm.ensures ∙ sym (text-leaf-is _ c.in-Comm.is)

pub number_need-number_need-requires : goal.number_need-number_need-requires
number_need-number_need-requires t c =
    let below : num_size c.get.result.now < num_size c.args.e.now = unary_below _ _ _ _ c.in-Unary.is c.get.ensures in
    omega (arith, below, c.decreases)

pub number_need-number_need-requires-in-Binary : goal.number_need-number_need-requires-in-Binary
number_need-number_need-requires-in-Binary t c =
    let below : num_size c.get-in-Binary.result.now < num_size c.args.e.now = binary_left _ _ _ _ _ c.in-Binary.is c.get-in-Binary.ensures in
    omega (arith, below, c.decreases)

pub number_need-number_need-requires-in-Binary-2 : goal.number_need-number_need-requires-in-Binary-2
number_need-number_need-requires-in-Binary-2 t c =
    let below : num_size (c.get-in-Binary-2).result.now < num_size c.args.e.now = binary_right _ _ _ _ _ c.in-Binary.is (c.get-in-Binary-2).ensures in
    omega (arith, below, c.decreases)

pub number_need-text_need-requires : goal.number_need-text_need-requires
number_need-text_need-requires t c =
    let below : str_size c.get-in-Compare.result.now < num_size c.args.e.now = compare_left _ _ _ _ _ c.in-Compare.is c.get-in-Compare.ensures in
    omega (arith, below, c.decreases)

pub number_need-text_need-requires-in-Compare : goal.number_need-text_need-requires-in-Compare
number_need-text_need-requires-in-Compare t c =
    let below : str_size (c.get-in-Compare-2).result.now < num_size c.args.e.now = compare_right _ _ _ _ _ c.in-Compare.is (c.get-in-Compare-2).ensures in
    omega (arith, below, c.decreases)

pub number_need-number_need-requires-in-Choose : goal.number_need-number_need-requires-in-Choose
number_need-number_need-requires-in-Choose t c =
    let below : num_size c.get-in-Choose.result.now < num_size c.args.e.now = choose_test _ _ _ _ _ c.in-Choose.is c.get-in-Choose.ensures in
    omega (arith, below, c.decreases)

pub number_need-number_need-requires-in-Choose-2 : goal.number_need-number_need-requires-in-Choose-2
number_need-number_need-requires-in-Choose-2 t c =
    let below : num_size (c.get-in-Choose-2).result.now < num_size c.args.e.now = choose_yes _ _ _ _ _ c.in-Choose.is (c.get-in-Choose-2).ensures in
    omega (arith, below, c.decreases)

pub number_need-number_need-requires-in-Choose-3 : goal.number_need-number_need-requires-in-Choose-3
number_need-number_need-requires-in-Choose-3 t c =
    let below : num_size (c.get-in-Choose-3).result.now < num_size c.args.e.now = choose_no _ _ _ _ _ c.in-Choose.is (c.get-in-Choose-3).ensures in
    omega (arith, below, c.decreases)

pub text_need-number_need-requires : goal.text_need-number_need-requires
text_need-number_need-requires t c =
    let below : num_size c.get.result.now < str_size c.args.e.now = text_choose_test _ _ _ _ _ c.in-Choose.is c.get.ensures in
    omega (arith, below, c.decreases)

pub text_need-text_need-requires : goal.text_need-text_need-requires
text_need-text_need-requires t c =
    let below : str_size (c.get-in-Choose).result.now < str_size c.args.e.now = text_choose_yes _ _ _ _ _ c.in-Choose.is (c.get-in-Choose).ensures in
    omega (arith, below, c.decreases)

pub text_need-text_need-requires-in-Choose : goal.text_need-text_need-requires-in-Choose
text_need-text_need-requires-in-Choose t c =
    let below : str_size (c.get-in-Choose-2).result.now < str_size c.args.e.now = text_choose_no _ _ _ _ _ c.in-Choose.is (c.get-in-Choose-2).ensures in
    omega (arith, below, c.decreases)

pub values_need-loop-left-init : goal.values_need-loop-left-init
values_need-loop-left-init t c =
    let none = ap (λ (n : Need). let l : Listed = record { sizes = 0; need = n } in l) c.figures.ensures in
    record {
      within = omega arith;
      sums = none ∙ ap (λ (l : List AnyExpr). listed (values_need l)) (sym (drop_all (length c.args.es.now) c.args.es.now (omega arith)));
      room = omega arith;
    }

pub values_need-loop-left-preserved : goal.values_need-loop-left-preserved
values_need-loop-left-preserved t c =
    record {
      within = omega (arith, c.loop-left.invariant.within);
      sums = listed_from c.args.es.now _ c.loop-left.left _ _ _ _ (omega arith) (omega (arith, c.loop-left.invariant.within)) c.index-es-left.is c.loop-left.invariant.sums c.in_ok-value.ensures.need c.in_ok-all.ensures.before;
      room = room_before _ _ _ c.in_ok-all.ensures.before c.loop-left.invariant.room;
    }
