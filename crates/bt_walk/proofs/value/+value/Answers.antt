use Rattle.std.proofs.Common.{◌≡◌, ◌<◌, ◌≤◌, ℤ, refl, sym, ap, subst, ◌∙◌, SFits, w64, rules, arith}
use Rattle.std.proofs.lemmas.Int.{to_z-of_z}
use Rattle.std.proofs.lemmas.Result.{err_from_is_err_and}
use Rattle.bt_core.specs.declared.map.Shape.TheVariants as shapes
use Rattle.bt_core.specs.declared.value.Value.TheVariants.{Int}
use Rattle.bt_core.specs.Arithmetic.{truth}
use Rattle.typed_tree.specs.Parts.{made_of, num_parts, key_shapes}
use Rattle.typed_tree.specs.Scope.{decl_of}
use Rattle.map_ops.specs.Values.{number_of, text_of, holds}
use Rattle.walk_meaning.specs.Served.{Fits, IsServed, all_made}
use Rattle.bt_walk.proofs.Binds.{Part-first, Part-next, Whole-next, Walked-next, Given-done, Looked-done, Changed-done, Number-done, Number-seen, Whole-yes, Whole-no, Part-yes, Part-no, Walked-yes, Walked-no, Lifted-walked, Stopped}
use Rattle.map_ops.proofs.PartLaws.{part_below}
use Rattle.walk_meaning.proofs.Declared.{shared, summing, summed_here, valued, few_values, keyed, held, field_inside}
use Rattle.typed_tree.proofs.Summed.{summed_there}
use Rattle.walk_meaning.proofs.TreeParts.{num_field_parts, str_field_parts, step_map_parts, one_fits, one_size}
use Rattle.typed_tree.proofs.expr.AnyExpr.TheLaws.{the_size}
use Rattle.typed_tree.proofs.expr.NumExpr.TheLaws.{the_size as num_size}
use Rattle.typed_tree.proofs.expr.StrExpr.TheLaws.{the_size as str_size}
use Rattle.walk_meaning.specs.declared.flow.Frame.{Frame}
use Rattle.bt_walk.proofs.Sizes.{unary_below, binary_left, binary_right, compare_left, compare_right, and_left, and_right, or_left, or_right, choose_test, choose_yes, choose_no, text_choose_test, text_choose_yes, text_choose_no}
use denote.Param.Weighed.{most}
use Rattle.bt_walk.proofs.Gathers.{gathers-start, gathers-stop, gathers-next, gathers-drop, gathers-end, shapes-next, shapes-end}
use Rattle.walk_meaning.proofs.ExprDoes as does
use Rattle.bt_walk.proofs.WalkedAs as told
use Rattle.bt_walk.proofs.Fitting.{held_still, unary_fits, binary_fits, compare_fits, and_fits, or_fits, choose_fits, choose_text_fits, num_same, str_same, served_still}
use Rattle.typed_tree.specs.declared.expr.NumExpr.{NumExpr}
use Rattle.typed_tree.specs.declared.expr.NumExpr.TheVariants as exprs
use Rattle.walk_meaning.specs.Exprs.{number_does}
use Rattle.bt_walk.proofs.value.+value.Goals as goal

pub number-int_field-requires-clause-inside : goal.number-int_field-requires-clause-inside
number-int_field-requires-clause-inside g t c =
    let f = rw c.in-Field.is at c.requires.fits in
    field_inside c.args.view.now _ c.in-Field.f shapes.Int c.requires.served (num_field_parts c.args.view.now c.args.e.now c.in-Field.f c.in-Field.is c.requires.fits)

pub number-returns-in_err-read-in-Map-clause-walked : goal.number-returns-in_err-read-in-Map-clause-walked
number-returns-in_err-read-in-Map-clause-walked g t c =
    let p = err_from_is_err_and c.from_residual.result c.from_residual.ensures.1 in
    Stopped _ _ _ _ p.1 (told.Part-num _ _ _ _ _ _ (does.map_num _ _ _ _ c.in-Map.is c.as_slice.ensures) (Part-first _ _ _ _ _ _ c.in_err-read-in-Map.ensures.walked))

pub number-returns-in_err-parts-in-StepMap-clause-walked : goal.number-returns-in_err-parts-in-StepMap-clause-walked
number-returns-in_err-parts-in-StepMap-clause-walked g t c =
    let p = err_from_is_err_and c.from_residual-in_err-parts-in-StepMap.result c.from_residual-in_err-parts-in-StepMap.ensures.1 in
    Stopped _ _ _ _ p.1 (told.Part-num _ _ _ _ _ _ (does.stepmap_num _ _ _ _ _ _ c.in-StepMap.is c.as_slice-in-StepMap.ensures) (Part-first _ _ _ _ _ _ c.in_err-parts-in-StepMap.ensures.walked))

pub number-of-key-requires : goal.number-of-key-requires
number-of-key-requires g t c =
    let found = valued c.args.view.now (g.P.Port.fixed c.args.port.now).setting c.in-StepMap.map (key_shapes (all_made c.in-StepMap.keys)) shapes.Int c.requires.served (step_map_parts c.args.view.now c.args.e.now _ _ _ _ c.in-StepMap.is c.requires.fits) in
    let shaped = rw c.as_slice-in-StepMap.ensures at c.in_ok-parts-in-StepMap.ensures.shaped in
    rw c.into_vec.ensures (few_values _ _ _ _ _ found shaped)

pub number-step_map-requires : goal.number-step_map-requires
number-step_map-requires g t c =
    let found = valued c.args.view.now (g.P.Port.fixed c.args.port.now).setting c.in-StepMap.map (key_shapes (all_made c.in-StepMap.keys)) shapes.Int c.requires.served (step_map_parts c.args.view.now c.args.e.now _ _ _ _ c.in-StepMap.is c.requires.fits) in
    let shaped = rw c.as_slice-in-StepMap.ensures at c.in_ok-parts-in-StepMap.ensures.shaped in
    held_still _ _ _ _ _ c.in_ok-parts-in-StepMap.ensures.kept (c.of-key.ensures ∙ c.into_vec.ensures) (held _ _ _ shapes.Int _ found shaped)

pub number-returns-in_err-a-in-Unary-clause-walked : goal.number-returns-in_err-a-in-Unary-clause-walked
number-returns-in_err-a-in-Unary-clause-walked g t c =
    let p = err_from_is_err_and c.from_residual-in_err-a-in-Unary.result c.from_residual-in_err-a-in-Unary.ensures.1 in
    Stopped _ _ _ _ p.1 (told.Part-num _ _ _ _ _ _ (does.unary_num _ _ _ _ c.in-Unary.is c.get.ensures) (Part-first _ _ _ _ _ _ c.in_err-a-in-Unary.ensures.walked))

pub number_binary-returns-in_err-a-clause-walked : goal.number_binary-returns-in_err-a-clause-walked
number_binary-returns-in_err-a-clause-walked g t c =
    let p = err_from_is_err_and c.from_residual.result c.from_residual.ensures.1 in
    Stopped _ _ _ _ p.1 (told.Part-num _ _ _ _ _ _ (does.binary_num _ _ _ _ _ _ refl c.get.ensures refl) (Part-first _ _ _ _ _ _ c.in_err-a.ensures.walked))

pub number_binary-returns-in_err-b-clause-walked : goal.number_binary-returns-in_err-b-clause-walked
number_binary-returns-in_err-b-clause-walked g t c =
    let p = err_from_is_err_and c.from_residual-in_err-b.result c.from_residual-in_err-b.ensures.1 in
    Stopped _ _ _ _ p.1 (told.Part-num _ _ _ _ _ _ (does.binary_num _ _ _ _ _ _ refl c.get.ensures c.get-2.ensures) (Part-next _ _ _ _ _ _ _ _ c.in_ok-a.ensures.walked _ (Part-first _ _ _ _ _ _ c.in_err-b.ensures.walked)))

pub number_compare-returns-in_err-a-clause-walked : goal.number_compare-returns-in_err-a-clause-walked
number_compare-returns-in_err-a-clause-walked g t c =
    let p = err_from_is_err_and c.from_residual.result c.from_residual.ensures.1 in
    Stopped _ _ _ _ p.1 (told.Part-num _ _ _ _ _ _ (does.compare_num _ _ _ _ _ _ refl c.get.ensures refl) (Part-first _ _ _ _ _ _ c.in_err-a.ensures.walked))

pub number_compare-returns-in_err-b-clause-walked : goal.number_compare-returns-in_err-b-clause-walked
number_compare-returns-in_err-b-clause-walked g t c =
    let p = err_from_is_err_and c.from_residual-in_err-b.result c.from_residual-in_err-b.ensures.1 in
    Stopped _ _ _ _ p.1 (told.Part-num _ _ _ _ _ _ (does.compare_num _ _ _ _ _ _ refl c.get.ensures c.get-2.ensures) (Part-next _ _ _ _ _ _ _ _ c.in_ok-a.ensures.walked _ (Part-first _ _ _ _ _ _ c.in_err-b.ensures.walked)))

pub number_and-returns-in_err-a-clause-walked : goal.number_and-returns-in_err-a-clause-walked
number_and-returns-in_err-a-clause-walked g t c =
    let p = err_from_is_err_and c.from_residual.result c.from_residual.ensures.1 in
    Stopped _ _ _ _ p.1 (told.Part-num _ _ _ _ _ _ (does.andthen_num _ _ _ _ _ refl c.get.ensures refl) (Part-first _ _ _ _ _ _ c.in_err-a.ensures.walked))

pub number_and-returns-in_err-b-clause-walked : goal.number_and-returns-in_err-b-clause-walked
number_and-returns-in_err-b-clause-walked g t c =
    let p = err_from_is_err_and c.from_residual-in_err-b.result c.from_residual-in_err-b.ensures.1 in
    let tested : SFits w64 c.in_ok-a.a = search rules in
    let test = c.holds.ensures ∙ ap holds (to_z-of_z w64 c.in_ok-a.a tested) in
    let e = sym test ∙ c.if-holds.true in
    Stopped _ _ _ _ p.1 (told.Part-num _ _ _ _ _ _ (does.andthen_num _ _ _ _ _ refl c.get.ensures c.get-then-holds.ensures) (Part-next _ _ _ _ _ _ _ _ c.in_ok-a.ensures.walked _ (Part-yes _ _ _ _ _ _ _ e (Part-first _ _ _ _ _ _ c.in_err-b.ensures.walked))))

pub number_or-returns-in_err-a-clause-walked : goal.number_or-returns-in_err-a-clause-walked
number_or-returns-in_err-a-clause-walked g t c =
    let p = err_from_is_err_and c.from_residual.result c.from_residual.ensures.1 in
    Stopped _ _ _ _ p.1 (told.Part-num _ _ _ _ _ _ (does.orelse_num _ _ _ _ _ refl c.get.ensures refl) (Part-first _ _ _ _ _ _ c.in_err-a.ensures.walked))

pub number_or-returns-in_err-b-clause-walked : goal.number_or-returns-in_err-b-clause-walked
number_or-returns-in_err-b-clause-walked g t c =
    let p = err_from_is_err_and c.from_residual-in_err-b.result c.from_residual-in_err-b.ensures.1 in
    let tested : SFits w64 c.in_ok-a.a = search rules in
    let test = c.holds.ensures ∙ ap holds (to_z-of_z w64 c.in_ok-a.a tested) in
    let e = sym test ∙ c.if-holds.false in
    Stopped _ _ _ _ p.1 (told.Part-num _ _ _ _ _ _ (does.orelse_num _ _ _ _ _ refl c.get.ensures c.get-else-holds.ensures) (Part-next _ _ _ _ _ _ _ _ c.in_ok-a.ensures.walked _ (Part-no _ _ _ _ _ _ _ e (Part-first _ _ _ _ _ _ c.in_err-b.ensures.walked))))

pub number_choose-returns-in_err-test-clause-walked : goal.number_choose-returns-in_err-test-clause-walked
number_choose-returns-in_err-test-clause-walked g t c =
    let p = err_from_is_err_and c.from_residual.result c.from_residual.ensures.1 in
    Stopped _ _ _ _ p.1 (told.Part-num _ _ _ _ _ _ (does.choose_num _ _ _ _ _ _ _ refl c.get.ensures refl refl) (Part-first _ _ _ _ _ _ c.in_err-test.ensures.walked))

pub number-returns-in-Number-clause-walked : goal.number-returns-in-Number-clause-walked
number-returns-in-Number-clause-walked g t c =
    let f : SFits w64 c.in-Number.n = search rules in
    (told.Whole-num _ _ _ _ _ _ _ (does.number_num _ _ c.in-Number.is) (Number-done _ _ _ _ _ f refl))

pub number-returns-in-Builtin-clause-walked : goal.number-returns-in-Builtin-clause-walked
number-returns-in-Builtin-clause-walked g t c =
    let f : SFits w64 c.builtin_value.result = record { sfits = c.builtin_value.type_inv } in
    (told.Whole-num _ _ _ _ _ _ _ (does.builtin_num _ _ c.in-Builtin.is) (Number-seen _ _ _ _ _ f (sym c.builtin_value.ensures)))

pub number-returns-in-Field-clause-walked : goal.number-returns-in-Field-clause-walked
number-returns-in-Field-clause-walked g t c =
    let f : SFits w64 c.int_field.result = record { sfits = c.int_field.type_inv } in
    (told.Whole-num _ _ _ _ _ _ _ (does.field_num _ _ c.in-Field.is) (Number-seen _ _ _ _ _ f (sym c.int_field.ensures)))

pub number-returns-in-Var-clause-walked : goal.number-returns-in-Var-clause-walked
number-returns-in-Var-clause-walked g t c =
    let f : SFits w64 c.number_of.result = record { sfits = c.number_of.type_inv } in
    (told.Whole-num _ _ _ _ _ _ _ (does.var_num _ _ c.in-Var.is) (Number-seen _ _ _ _ _ f (sym (c.number_of.ensures ∙ ap number_of c.variable.ensures))))

pub number-returns-in_ok-read-in-Map-clause-walked : goal.number-returns-in_ok-read-in-Map-clause-walked
number-returns-in_ok-read-in-Map-clause-walked g t c =
    let f : SFits w64 c.number_of-in-Map.result = record { sfits = c.number_of-in-Map.type_inv } in
    (told.Whole-num _ _ _ _ _ _ _ (does.map_num _ _ _ _ c.in-Map.is c.as_slice.ensures) (Whole-next _ _ _ _ _ _ _ _ c.in_ok-read-in-Map.ensures.walked _ _ (Number-done _ _ _ _ _ f (sym c.number_of-in-Map.ensures))))

pub number-returns-in-StepVar-clause-walked : goal.number-returns-in-StepVar-clause-walked
number-returns-in-StepVar-clause-walked g t c =
    let f : SFits w64 c.step_variable.result = record { sfits = c.step_variable.type_inv } in
    (told.Whole-num _ _ _ _ _ _ _ (does.stepvar_num _ _ _ _ c.in-StepVar.is) (Whole-next _ _ _ _ _ _ _ _ (Looked-done _ _ _ _ _ refl) _ _ (Whole-next _ _ _ _ _ _ _ _ (Changed-done _ _ _ _ _ tt (sym c.step_variable.ensures.frame)) _ _ (Number-done _ _ _ _ _ f (sym c.step_variable.ensures.value)))))

pub number-returns-in_ok-parts-in-StepMap-clause-walked : goal.number-returns-in_ok-parts-in-StepMap-clause-walked
number-returns-in_ok-parts-in-StepMap-clause-walked g t c =
    let made = rw (c.of-key.ensures, c.into_vec.ensures) at c.step_map.ensures.made in
    (told.Walked-num _ _ _ _ _ _ _ _ (does.stepmap_num _ _ _ _ _ _ c.in-StepMap.is c.as_slice-in-StepMap.ensures) (Walked-next _ _ _ _ _ _ _ _ c.in_ok-parts-in-StepMap.ensures.walked _ _ _ (made _ _)))

pub number-returns-in_ok-a-in-Unary-clause-walked : goal.number-returns-in_ok-a-in-Unary-clause-walked
number-returns-in_ok-a-in-Unary-clause-walked g t c =
    let fa : SFits w64 c.in_ok-a-in-Unary.a = search rules in
    let f : SFits w64 c.unary.result = record { sfits = c.unary.type_inv } in
    let e = simp to_z-of_z at c.unary.ensures in
    (told.Whole-num _ _ _ _ _ _ _ (does.unary_num _ _ _ _ c.in-Unary.is c.get.ensures) (Whole-next _ _ _ _ _ _ _ _ c.in_ok-a-in-Unary.ensures.walked _ _ (Number-done _ _ _ _ _ f (sym e))))

pub number_binary-returns-clause-walked : goal.number_binary-returns-clause-walked
number_binary-returns-clause-walked g t c =
    let fa : SFits w64 c.in_ok-a.a = search rules in
    let fb : SFits w64 c.in_ok-b.b = search rules in
    let f : SFits w64 c.binary.result = record { sfits = c.binary.type_inv } in
    let e = simp to_z-of_z at c.binary.ensures in
    (told.Whole-num _ _ _ _ _ _ _ (does.binary_num _ _ _ _ _ _ refl c.get.ensures c.get-2.ensures) (Whole-next _ _ _ _ _ _ _ _ c.in_ok-a.ensures.walked _ _ (Whole-next _ _ _ _ _ _ _ _ c.in_ok-b.ensures.walked _ _ (Number-done _ _ _ _ _ f (sym e)))))

pub number_compare-returns-clause-walked : goal.number_compare-returns-clause-walked
number_compare-returns-clause-walked g t c =
    let f : SFits w64 c.truth.result = record { sfits = c.truth.type_inv } in
    (told.Whole-num _ _ _ _ _ _ _ (does.compare_num _ _ _ _ _ _ refl c.get.ensures c.get-2.ensures) (Whole-next _ _ _ _ _ _ _ _ c.in_ok-a.ensures.walked _ _ (Whole-next _ _ _ _ _ _ _ _ c.in_ok-b.ensures.walked _ _ (Number-done _ _ _ _ _ f (sym (c.truth.ensures ∙ ap truth c.compared.ensures))))))

pub number_and-returns-in_ok-b-clause-walked : goal.number_and-returns-in_ok-b-clause-walked
number_and-returns-in_ok-b-clause-walked g t c =
    let tested : SFits w64 c.in_ok-a.a = search rules in
    let test = c.holds.ensures ∙ ap holds (to_z-of_z w64 c.in_ok-a.a tested) in
    let e = sym test ∙ c.if-holds.true in
    let fb : SFits w64 c.in_ok-b.b = search rules in
    let f : SFits w64 c.truth.result = record { sfits = c.truth.type_inv } in
    let right = c.holds-then-holds.ensures ∙ ap holds (to_z-of_z w64 c.in_ok-b.b fb) in
    (told.Whole-num _ _ _ _ _ _ _ (does.andthen_num _ _ _ _ _ refl c.get.ensures c.get-then-holds.ensures) (Whole-next _ _ _ _ _ _ _ _ c.in_ok-a.ensures.walked _ _ (Whole-yes _ _ _ _ _ _ _ _ e (Whole-next _ _ _ _ _ _ _ _ c.in_ok-b.ensures.walked _ _ (Number-done _ _ _ _ _ f (sym (c.truth.ensures ∙ ap truth right)))))))

pub number_and-returns-else-holds-clause-walked : goal.number_and-returns-else-holds-clause-walked
number_and-returns-else-holds-clause-walked g t c =
    let tested : SFits w64 c.in_ok-a.a = search rules in
    let test = c.holds.ensures ∙ ap holds (to_z-of_z w64 c.in_ok-a.a tested) in
    let e = sym test ∙ c.if-holds.false in
    (told.Whole-num _ _ _ _ _ _ _ (does.andthen_num _ _ _ _ _ refl c.get.ensures refl) (Whole-next _ _ _ _ _ _ _ _ c.in_ok-a.ensures.walked _ _ (Whole-no _ _ _ _ _ _ _ _ e (Given-done _ _ _ _ _ _ refl refl))))

pub number_or-returns-then-holds-clause-walked : goal.number_or-returns-then-holds-clause-walked
number_or-returns-then-holds-clause-walked g t c =
    let tested : SFits w64 c.in_ok-a.a = search rules in
    let test = c.holds.ensures ∙ ap holds (to_z-of_z w64 c.in_ok-a.a tested) in
    let e = sym test ∙ c.if-holds.true in
    (told.Whole-num _ _ _ _ _ _ _ (does.orelse_num _ _ _ _ _ refl c.get.ensures refl) (Whole-next _ _ _ _ _ _ _ _ c.in_ok-a.ensures.walked _ _ (Whole-yes _ _ _ _ _ _ _ _ e (Given-done _ _ _ _ _ _ refl refl))))

pub number_or-returns-in_ok-b-clause-walked : goal.number_or-returns-in_ok-b-clause-walked
number_or-returns-in_ok-b-clause-walked g t c =
    let tested : SFits w64 c.in_ok-a.a = search rules in
    let test = c.holds.ensures ∙ ap holds (to_z-of_z w64 c.in_ok-a.a tested) in
    let e = sym test ∙ c.if-holds.false in
    let fb : SFits w64 c.in_ok-b.b = search rules in
    let f : SFits w64 c.truth.result = record { sfits = c.truth.type_inv } in
    let right = c.holds-else-holds.ensures ∙ ap holds (to_z-of_z w64 c.in_ok-b.b fb) in
    (told.Whole-num _ _ _ _ _ _ _ (does.orelse_num _ _ _ _ _ refl c.get.ensures c.get-else-holds.ensures) (Whole-next _ _ _ _ _ _ _ _ c.in_ok-a.ensures.walked _ _ (Whole-no _ _ _ _ _ _ _ _ e (Whole-next _ _ _ _ _ _ _ _ c.in_ok-b.ensures.walked _ _ (Number-done _ _ _ _ _ f (sym (c.truth.ensures ∙ ap truth right)))))))

pub number_choose-returns-then-holds-clause-walked : goal.number_choose-returns-then-holds-clause-walked
number_choose-returns-then-holds-clause-walked g t c =
    let tested : SFits w64 c.in_ok-test.test = search rules in
    let test = c.holds.ensures ∙ ap holds (to_z-of_z w64 c.in_ok-test.test tested) in
    let e = sym test ∙ c.if-holds.true in
    (told.Walked-num _ _ _ _ _ _ _ _ (does.choose_num _ _ _ _ _ _ _ refl c.get.ensures c.get-then-holds.ensures refl) (Walked-next _ _ _ _ _ _ _ _ c.in_ok-test.ensures.walked _ _ _ (Walked-yes _ _ _ _ _ _ _ _ _ e c.number-then-holds.ensures.walked)))

pub number_choose-returns-else-holds-clause-walked : goal.number_choose-returns-else-holds-clause-walked
number_choose-returns-else-holds-clause-walked g t c =
    let tested : SFits w64 c.in_ok-test.test = search rules in
    let test = c.holds.ensures ∙ ap holds (to_z-of_z w64 c.in_ok-test.test tested) in
    let e = sym test ∙ c.if-holds.false in
    (told.Walked-num _ _ _ _ _ _ _ _ (does.choose_num _ _ _ _ _ _ _ refl c.get.ensures refl c.get-else-holds.ensures) (Walked-next _ _ _ _ _ _ _ _ c.in_ok-test.ensures.walked _ _ _ (Walked-no _ _ _ _ _ _ _ _ _ e c.number-else-holds.ensures.walked)))

pub read-returns-in_err-parts-clause-walked : goal.read-returns-in_err-parts-clause-walked
read-returns-in_err-parts-clause-walked g t c =
    let p = err_from_is_err_and c.from_residual.result c.from_residual.ensures.1 in
    Stopped _ _ _ _ p.1 (Part-first _ _ _ _ _ _ c.in_err-parts.ensures.walked)

pub read-of-key-requires : goal.read-of-key-requires
read-of-key-requires g t c =
    let found = shared c.args.view.now (g.P.Port.fixed c.args.port.now).setting c.args.map (key_shapes (all_made c.args.keys.now)) c.requires.served c.requires.declared in
    rw c.into_vec.ensures (few_values _ _ _ _ _ found c.in_ok-parts.ensures.shaped)

pub read-get-requires : goal.read-get-requires
read-get-requires g t c =
    let found = shared c.args.view.now (g.P.Port.fixed c.args.port.now).setting c.args.map (key_shapes (all_made c.args.keys.now)) c.requires.served c.requires.declared in
    rw (c.in_ok-parts.ensures.kept, c.of-key.ensures, c.into_vec.ensures) (part_below c.in_ok-parts.parts, keyed _ _ _ _ _ found c.in_ok-parts.ensures.shaped)

pub read-returns-clause-walked : goal.read-returns-clause-walked
read-returns-clause-walked g t c =
    let got = rw (c.of-key.ensures, c.into_vec.ensures) at c.get.ensures.performed in
    (Walked-next _ _ _ _ _ _ _ _ c.in_ok-parts.ensures.walked _ _ _ (Lifted-walked _ _ _ _ _ _ got))

pub text-str_field-requires-clause-inside : goal.text-str_field-requires-clause-inside
text-str_field-requires-clause-inside g t c =
    field_inside c.args.view.now _ c.in-Field.f shapes.Str c.requires.served (str_field_parts c.args.view.now c.args.e.now c.in-Field.f c.in-Field.is c.requires.fits)

pub text-returns-in_err-read-in-Map-clause-walked : goal.text-returns-in_err-read-in-Map-clause-walked
text-returns-in_err-read-in-Map-clause-walked g t c =
    let p = err_from_is_err_and c.from_residual.result c.from_residual.ensures.1 in
    Stopped _ _ _ _ p.1 (told.Part-str _ _ _ _ _ _ (does.map_str _ _ _ _ c.in-Map.is c.as_slice.ensures) (Part-first _ _ _ _ _ _ c.in_err-read-in-Map.ensures.walked))

pub text-returns-in_err-test-in-Choose-clause-walked : goal.text-returns-in_err-test-in-Choose-clause-walked
text-returns-in_err-test-in-Choose-clause-walked g t c =
    let p = err_from_is_err_and c.from_residual-in_err-test-in-Choose.result c.from_residual-in_err-test-in-Choose.ensures.1 in
    Stopped _ _ _ _ p.1 (told.Part-str _ _ _ _ _ _ (does.choose_str _ _ _ _ _ _ _ c.in-Choose.is c.get.ensures refl refl) (Part-first _ _ _ _ _ _ c.in_err-test-in-Choose.ensures.walked))

pub text-returns-in-Text-clause-walked : goal.text-returns-in-Text-clause-walked
text-returns-in-Text-clause-walked g t c = (told.Whole-str _ _ _ _ _ _ _ (does.text_str _ _ c.in-Text.is) (Given-done _ _ _ _ _ _ (sym c.copy.ensures) refl))

pub text-returns-in-Comm-clause-walked : goal.text-returns-in-Comm-clause-walked
text-returns-in-Comm-clause-walked g t c = (told.Whole-str _ _ _ _ _ _ _ (does.comm_str _ c.in-Comm.is) (Looked-done _ _ _ _ _ (sym c.copy-in-Comm.ensures)))

pub text-returns-in-Field-clause-walked : goal.text-returns-in-Field-clause-walked
text-returns-in-Field-clause-walked g t c = (told.Whole-str _ _ _ _ _ _ _ (does.field_str _ _ c.in-Field.is) (Looked-done _ _ _ _ _ (sym c.str_field.ensures)))

pub text-returns-in-Var-clause-walked : goal.text-returns-in-Var-clause-walked
text-returns-in-Var-clause-walked g t c = (told.Whole-str _ _ _ _ _ _ _ (does.var_str _ _ c.in-Var.is) (Looked-done _ _ _ _ _ (sym (c.text_of.ensures ∙ ap text_of c.variable.ensures))))

pub text-returns-in_ok-read-in-Map-clause-walked : goal.text-returns-in_ok-read-in-Map-clause-walked
text-returns-in_ok-read-in-Map-clause-walked g t c = (told.Whole-str _ _ _ _ _ _ _ (does.map_str _ _ _ _ c.in-Map.is c.as_slice.ensures) (Whole-next _ _ _ _ _ _ _ _ c.in_ok-read-in-Map.ensures.walked _ _ (Given-done _ _ _ _ _ _ (sym c.text_of-in-Map.ensures) refl)))

pub text-returns-then-holds-clause-walked : goal.text-returns-then-holds-clause-walked
text-returns-then-holds-clause-walked g t c =
    let tested : SFits w64 c.in_ok-test-in-Choose.test = search rules in
    let test = c.holds.ensures ∙ ap holds (to_z-of_z w64 c.in_ok-test-in-Choose.test tested) in
    let e = sym test ∙ c.if-holds.true in
    (told.Walked-str _ _ _ _ _ _ _ _ (does.choose_str _ _ _ _ _ _ _ c.in-Choose.is c.get.ensures c.get-then-holds.ensures refl) (Walked-next _ _ _ _ _ _ _ _ c.in_ok-test-in-Choose.ensures.walked _ _ _ (Walked-yes _ _ _ _ _ _ _ _ _ e c.text.ensures.walked)))

pub text-returns-else-holds-clause-walked : goal.text-returns-else-holds-clause-walked
text-returns-else-holds-clause-walked g t c =
    let tested : SFits w64 c.in_ok-test-in-Choose.test = search rules in
    let test = c.holds.ensures ∙ ap holds (to_z-of_z w64 c.in_ok-test-in-Choose.test tested) in
    let e = sym test ∙ c.if-holds.false in
    (told.Walked-str _ _ _ _ _ _ _ _ (does.choose_str _ _ _ _ _ _ _ c.in-Choose.is c.get.ensures refl c.get-else-holds.ensures) (Walked-next _ _ _ _ _ _ _ _ c.in_ok-test-in-Choose.ensures.walked _ _ _ (Walked-no _ _ _ _ _ _ _ _ _ e c.text-else-holds.ensures.walked)))

pub value-returns-in_err-n-in-Num-clause-walked : goal.value-returns-in_err-n-in-Num-clause-walked
value-returns-in_err-n-in-Num-clause-walked g t c =
    let p = err_from_is_err_and c.from_residual.result c.from_residual.ensures.1 in
    Stopped _ _ _ _ p.1 (told.Part-any _ _ _ _ _ _ (does.num_any _ _ _ c.in-Num.is refl) (Part-first _ _ _ _ _ _ c.in_err-n-in-Num.ensures.walked))

pub value-returns-in_err-s-in-Str-clause-walked : goal.value-returns-in_err-s-in-Str-clause-walked
value-returns-in_err-s-in-Str-clause-walked g t c =
    let p = err_from_is_err_and c.from_residual-in_err-s-in-Str.result c.from_residual-in_err-s-in-Str.ensures.1 in
    Stopped _ _ _ _ p.1 (told.Part-any _ _ _ _ _ _ (does.str_any _ _ _ c.in-Str.is refl) (Part-first _ _ _ _ _ _ c.in_err-s-in-Str.ensures.walked))

pub value-returns-in_ok-n-in-Num-clause-walked : goal.value-returns-in_ok-n-in-Num-clause-walked
value-returns-in_ok-n-in-Num-clause-walked g t c =
    let f : SFits w64 c.in_ok-n-in-Num.n = search rules in
    (told.Whole-any _ _ _ _ _ _ _ (does.num_any _ _ _ c.in-Num.is refl) (Whole-next _ _ _ _ _ _ _ _ c.in_ok-n-in-Num.ensures.walked _ _ (Given-done _ _ _ _ _ _ (ap (λ (n : ℤ). Int n) (sym (to_z-of_z w64 _ f))) refl)))

pub value-returns-in_ok-s-in-Str-clause-walked : goal.value-returns-in_ok-s-in-Str-clause-walked
value-returns-in_ok-s-in-Str-clause-walked g t c = (told.Whole-any _ _ _ _ _ _ _ (does.str_any _ _ _ c.in-Str.is refl) (Whole-next _ _ _ _ _ _ _ _ c.in_ok-s-in-Str.ensures.walked _ _ (Given-done _ _ _ _ _ _ refl refl)))

pub values-loop-key-init : goal.values-loop-key-init
values-loop-key-init g t c =
    record {
      left = rw c.new-parts.ensures (gathers-start c.args.keys.now _ _ _);
      shaped = rw c.new-parts.ensures tt;
      kept = refl;
      turns = refl;
    }

pub values-value-requires : goal.values-value-requires
values-value-requires g t c =
    let fit : Fits c.args.view.now (made_of c.key-item.result).parts = one_fits c.args.view.now c.args.keys.now c.loop-key.key-index c.key-item.result c.loop-key-test.true c.key-item.is c.requires.fits in
    let same : IsServed c.args.view.now (g.P.Port.fixed c.loop-key.port).setting = rw c.loop-key.invariant.kept c.requires.served in
    let below : the_size c.key-item.result ≤ most the_size c.args.keys.now = one_size the_size c.args.keys.now c.loop-key.key-index c.key-item.result c.loop-key-test.true c.key-item.is in
    λ κs h. (omega (arith, below, c.decreases), (h.0, (h.1, (same, fit))))

pub values-returns-in_err-part-clause-walked : goal.values-returns-in_err-part-clause-walked
values-returns-in_err-part-clause-walked g t c =
    let p = err_from_is_err_and c.from_residual.result c.from_residual.ensures.1 in
    Stopped _ _ _ _ p.1 (gathers-stop _ _ _ _ _ _ _ _ _ _ c.loop-key-test.true c.key-item.is c.loop-key.invariant.left c.in_err-part.ensures.walked)

pub values-returns-in_err-push-clause-walked : goal.values-returns-in_err-push-clause-walked
values-returns-in_err-push-clause-walked g t c =
    let p = err_from_is_err_and c.from_residual-in_err-push.result c.from_residual-in_err-push.ensures.1 in
    Stopped _ _ _ _ p.1 (gathers-drop _ _ _ _ _ _ _ _ _ _ _ _ c.loop-key-test.true c.key-item.is c.loop-key.invariant.left c.in_ok-part.ensures.walked)

pub values-loop-key-preserved : goal.values-loop-key-preserved
values-loop-key-preserved g t c =
    record {
      left = rw c.in_ok-push.ensures.ok (gathers-next _ _ _ _ _ _ _ _ _ _ _ _ c.loop-key-test.true c.key-item.is c.loop-key.invariant.left c.in_ok-part.ensures.walked);
      shaped = rw c.in_ok-push.ensures.ok (shapes-next _ _ _ _ _ c.loop-key-test.true c.key-item.is c.loop-key.invariant.shaped c.in_ok-part.ensures.shaped);
      kept = c.in_ok-part.ensures.kept ∙ c.loop-key.invariant.kept;
      turns = c.in_ok-part.ensures.turns ∙ c.loop-key.invariant.turns;
    }

pub values-returns-clause-walked : goal.values-returns-clause-walked
values-returns-clause-walked g t c = gathers-end _ _ _ _ _ _ _ _ c.loop-key-test.false c.loop-key.invariant.left

pub read_agg-returns-in_err-parts-clause-walked : goal.read_agg-returns-in_err-parts-clause-walked
read_agg-returns-in_err-parts-clause-walked g t c =
    let p = err_from_is_err_and c.from_residual.result c.from_residual.ensures.1 in
    Stopped _ _ _ _ p.1 (Part-first _ _ _ _ _ _ c.in_err-parts.ensures.walked)

pub read_agg-of-key-requires : goal.read_agg-of-key-requires
read_agg-of-key-requires g t c =
    let found = summing c.args.view.now (g.P.Port.fixed c.args.port.now).setting c.args.map (key_shapes (all_made c.args.keys.now)) c.requires.served c.requires.declared in
    rw c.into_vec.ensures (few_values _ _ _ _ _ found c.in_ok-parts.ensures.shaped)

pub read_agg-sum_at-requires-clause-named : goal.read_agg-sum_at-requires-clause-named
read_agg-sum_at-requires-clause-named g t c = summed_there _ _ c.requires.declared

pub read_agg-sum_at-requires-clause-gathers : goal.read_agg-sum_at-requires-clause-gathers
read_agg-sum_at-requires-clause-gathers g t c =
    summed_here (decl_of c.args.map.0 c.args.view.now.body.now.maps) (key_shapes (all_made c.args.keys.now)) c.requires.declared

pub read_agg-returns-clause-walked : goal.read_agg-returns-clause-walked
read_agg-returns-clause-walked g t c =
    let made = rw (c.of-key.ensures, c.into_vec.ensures) at c.sum_at.ensures.walked in
    (Walked-next _ _ _ _ _ _ _ _ c.in_ok-parts.ensures.walked _ _ _ (made _))

pub number-number-requires : goal.number-number-requires
number-number-requires g t c κs within =
    let below : num_size c.get.result.now < num_size c.args.e.now = unary_below _ _ _ _ c.in-Unary.is c.get.ensures in
    (omega (arith, below, c.decreases), (within.0, (within.1, (c.requires.served, unary_fits c.args.view.now c.args.e.now c.requires.fits _ _ _ c.in-Unary.is c.get.ensures))))

pub number_binary-number-requires : goal.number_binary-number-requires
number_binary-number-requires g t c κs within =
    let below : num_size c.get.result.now < num_size (exprs.Binary c.args.op c.args.left.now c.args.right.now) = binary_left _ _ _ _ _ refl c.get.ensures in
    (omega (arith, below, c.decreases), (within.0, (within.1, (c.requires.served, num_same c.args.view.now _ _ c.get.ensures ((binary_fits c.args.view.now (exprs.Binary c.args.op c.args.left.now c.args.right.now) c.requires.fits _ _ _ refl).0)))))

pub number_binary-number-requires-2 : goal.number_binary-number-requires-2
number_binary-number-requires-2 g t c κs within =
    let below : num_size c.get-2.result.now < num_size (exprs.Binary c.args.op c.args.left.now c.args.right.now) = binary_right _ _ _ _ _ refl c.get-2.ensures in
    (omega (arith, below, c.decreases), (within.0, (within.1, (served_still c.args.view.now _ _ c.in_ok-a.ensures.kept c.requires.served, num_same c.args.view.now _ _ c.get-2.ensures ((binary_fits c.args.view.now (exprs.Binary c.args.op c.args.left.now c.args.right.now) c.requires.fits _ _ _ refl).1)))))

pub number_compare-text-requires : goal.number_compare-text-requires
number_compare-text-requires g t c κs within =
    let below : str_size c.get.result.now < num_size (exprs.Compare c.args.equal c.args.left.now c.args.right.now) = compare_left _ _ _ _ _ refl c.get.ensures in
    (omega (arith, below, c.decreases), (within.0, (within.1, (c.requires.served, str_same c.args.view.now _ _ c.get.ensures ((compare_fits c.args.view.now (exprs.Compare c.args.equal c.args.left.now c.args.right.now) c.requires.fits _ _ _ refl).0)))))

pub number_compare-text-requires-2 : goal.number_compare-text-requires-2
number_compare-text-requires-2 g t c κs within =
    let below : str_size c.get-2.result.now < num_size (exprs.Compare c.args.equal c.args.left.now c.args.right.now) = compare_right _ _ _ _ _ refl c.get-2.ensures in
    (omega (arith, below, c.decreases), (within.0, (within.1, (served_still c.args.view.now _ _ c.in_ok-a.ensures.kept c.requires.served, str_same c.args.view.now _ _ c.get-2.ensures ((compare_fits c.args.view.now (exprs.Compare c.args.equal c.args.left.now c.args.right.now) c.requires.fits _ _ _ refl).1)))))

pub number_and-number-requires : goal.number_and-number-requires
number_and-number-requires g t c κs within =
    let below : num_size c.get.result.now < num_size (exprs.AndThen c.args.left.now c.args.right.now) = and_left _ _ _ _ refl c.get.ensures in
    (omega (arith, below, c.decreases), (within.0, (within.1, (c.requires.served, num_same c.args.view.now _ _ c.get.ensures ((and_fits c.args.view.now (exprs.AndThen c.args.left.now c.args.right.now) c.requires.fits _ _ refl).0)))))

pub number_and-number-requires-then-holds : goal.number_and-number-requires-then-holds
number_and-number-requires-then-holds g t c κs within =
    let below : num_size c.get-then-holds.result.now < num_size (exprs.AndThen c.args.left.now c.args.right.now) = and_right _ _ _ _ refl c.get-then-holds.ensures in
    (omega (arith, below, c.decreases), (within.0, (within.1, (served_still c.args.view.now _ _ c.in_ok-a.ensures.kept c.requires.served, num_same c.args.view.now _ _ c.get-then-holds.ensures ((and_fits c.args.view.now (exprs.AndThen c.args.left.now c.args.right.now) c.requires.fits _ _ refl).1)))))

pub number_or-number-requires : goal.number_or-number-requires
number_or-number-requires g t c κs within =
    let below : num_size c.get.result.now < num_size (exprs.OrElse c.args.left.now c.args.right.now) = or_left _ _ _ _ refl c.get.ensures in
    (omega (arith, below, c.decreases), (within.0, (within.1, (c.requires.served, num_same c.args.view.now _ _ c.get.ensures ((or_fits c.args.view.now (exprs.OrElse c.args.left.now c.args.right.now) c.requires.fits _ _ refl).0)))))

pub number_or-number-requires-else-holds : goal.number_or-number-requires-else-holds
number_or-number-requires-else-holds g t c κs within =
    let below : num_size c.get-else-holds.result.now < num_size (exprs.OrElse c.args.left.now c.args.right.now) = or_right _ _ _ _ refl c.get-else-holds.ensures in
    (omega (arith, below, c.decreases), (within.0, (within.1, (served_still c.args.view.now _ _ c.in_ok-a.ensures.kept c.requires.served, num_same c.args.view.now _ _ c.get-else-holds.ensures ((or_fits c.args.view.now (exprs.OrElse c.args.left.now c.args.right.now) c.requires.fits _ _ refl).1)))))

pub number_choose-number-requires : goal.number_choose-number-requires
number_choose-number-requires g t c κs within =
    let below : num_size c.get.result.now < num_size (exprs.Choose c.args.condition.now c.args.yes.now c.args.no.now) = choose_test _ _ _ _ _ refl c.get.ensures in
    (omega (arith, below, c.decreases), (within.0, (within.1, (c.requires.served, num_same c.args.view.now _ _ c.get.ensures ((choose_fits c.args.view.now (exprs.Choose c.args.condition.now c.args.yes.now c.args.no.now) c.requires.fits _ _ _ refl).0)))))

pub number_choose-number-requires-then-holds : goal.number_choose-number-requires-then-holds
number_choose-number-requires-then-holds g t c κs within =
    let below : num_size c.get-then-holds.result.now < num_size (exprs.Choose c.args.condition.now c.args.yes.now c.args.no.now) = choose_yes _ _ _ _ _ refl c.get-then-holds.ensures in
    (omega (arith, below, c.decreases), (within.0, (within.1, (served_still c.args.view.now _ _ c.in_ok-test.ensures.kept c.requires.served, num_same c.args.view.now _ _ c.get-then-holds.ensures ((choose_fits c.args.view.now (exprs.Choose c.args.condition.now c.args.yes.now c.args.no.now) c.requires.fits _ _ _ refl).1.0)))))

pub number_choose-number-requires-else-holds : goal.number_choose-number-requires-else-holds
number_choose-number-requires-else-holds g t c κs within =
    let below : num_size c.get-else-holds.result.now < num_size (exprs.Choose c.args.condition.now c.args.yes.now c.args.no.now) = choose_no _ _ _ _ _ refl c.get-else-holds.ensures in
    (omega (arith, below, c.decreases), (within.0, (within.1, (served_still c.args.view.now _ _ c.in_ok-test.ensures.kept c.requires.served, num_same c.args.view.now _ _ c.get-else-holds.ensures ((choose_fits c.args.view.now (exprs.Choose c.args.condition.now c.args.yes.now c.args.no.now) c.requires.fits _ _ _ refl).1.1)))))

pub text-number-requires : goal.text-number-requires
text-number-requires g t c κs within =
    let below : num_size c.get.result.now < str_size c.args.e.now = text_choose_test _ _ _ _ _ c.in-Choose.is c.get.ensures in
    (omega (arith, below, c.decreases), (within.0, (within.1, (c.requires.served, num_same c.args.view.now _ _ c.get.ensures ((choose_text_fits c.args.view.now c.args.e.now c.requires.fits _ _ _ c.in-Choose.is).0)))))

pub text-text-requires : goal.text-text-requires
text-text-requires g t c κs within =
    let below : str_size c.get-then-holds.result.now < str_size c.args.e.now = text_choose_yes _ _ _ _ _ c.in-Choose.is c.get-then-holds.ensures in
    (omega (arith, below, c.decreases), (within.0, (within.1, (served_still c.args.view.now _ _ c.in_ok-test-in-Choose.ensures.kept c.requires.served, str_same c.args.view.now _ _ c.get-then-holds.ensures ((choose_text_fits c.args.view.now c.args.e.now c.requires.fits _ _ _ c.in-Choose.is).1.0)))))

pub text-text-requires-else-holds : goal.text-text-requires-else-holds
text-text-requires-else-holds g t c κs within =
    let below : str_size c.get-else-holds.result.now < str_size c.args.e.now = text_choose_no _ _ _ _ _ c.in-Choose.is c.get-else-holds.ensures in
    (omega (arith, below, c.decreases), (within.0, (within.1, (served_still c.args.view.now _ _ c.in_ok-test-in-Choose.ensures.kept c.requires.served, str_same c.args.view.now _ _ c.get-else-holds.ensures ((choose_text_fits c.args.view.now c.args.e.now c.requires.fits _ _ _ c.in-Choose.is).1.1)))))

pub number-returns-in-Builtin-clause-kept : goal.number-returns-in-Builtin-clause-kept
number-returns-in-Builtin-clause-kept g t c = refl

pub number-returns-in-Builtin-clause-turns : goal.number-returns-in-Builtin-clause-turns
number-returns-in-Builtin-clause-turns g t c = refl

pub number-returns-in-Field-clause-kept : goal.number-returns-in-Field-clause-kept
number-returns-in-Field-clause-kept g t c = refl

pub number-returns-in-Field-clause-turns : goal.number-returns-in-Field-clause-turns
number-returns-in-Field-clause-turns g t c = refl

pub number-returns-in-Number-clause-kept : goal.number-returns-in-Number-clause-kept
number-returns-in-Number-clause-kept g t c = refl

pub number-returns-in-Number-clause-turns : goal.number-returns-in-Number-clause-turns
number-returns-in-Number-clause-turns g t c = refl

pub number-returns-in-Var-clause-kept : goal.number-returns-in-Var-clause-kept
number-returns-in-Var-clause-kept g t c = refl

pub number-returns-in-Var-clause-turns : goal.number-returns-in-Var-clause-turns
number-returns-in-Var-clause-turns g t c = refl

pub number-returns-in-StepVar-clause-kept : goal.number-returns-in-StepVar-clause-kept
number-returns-in-StepVar-clause-kept g t c = refl

pub number-returns-in-Agg-clause-kept : goal.number-returns-in-Agg-clause-kept
number-returns-in-Agg-clause-kept g t c = c.read_agg.ensures.kept

pub number-returns-in-Agg-clause-turns : goal.number-returns-in-Agg-clause-turns
number-returns-in-Agg-clause-turns g t c = c.read_agg.ensures.turns

pub number-returns-in_err-read-in-Map-clause-kept : goal.number-returns-in_err-read-in-Map-clause-kept
number-returns-in_err-read-in-Map-clause-kept g t c = c.in_err-read-in-Map.ensures.kept

pub number-returns-in_err-read-in-Map-clause-turns : goal.number-returns-in_err-read-in-Map-clause-turns
number-returns-in_err-read-in-Map-clause-turns g t c = c.in_err-read-in-Map.ensures.turns

pub number-returns-in_ok-read-in-Map-clause-kept : goal.number-returns-in_ok-read-in-Map-clause-kept
number-returns-in_ok-read-in-Map-clause-kept g t c = c.in_ok-read-in-Map.ensures.kept

pub number-returns-in_ok-read-in-Map-clause-turns : goal.number-returns-in_ok-read-in-Map-clause-turns
number-returns-in_ok-read-in-Map-clause-turns g t c = c.in_ok-read-in-Map.ensures.turns

pub number-returns-in_err-parts-in-StepMap-clause-kept : goal.number-returns-in_err-parts-in-StepMap-clause-kept
number-returns-in_err-parts-in-StepMap-clause-kept g t c = c.in_err-parts-in-StepMap.ensures.kept

pub number-returns-in_err-parts-in-StepMap-clause-turns : goal.number-returns-in_err-parts-in-StepMap-clause-turns
number-returns-in_err-parts-in-StepMap-clause-turns g t c = c.in_err-parts-in-StepMap.ensures.turns

pub number-returns-in_ok-parts-in-StepMap-clause-kept : goal.number-returns-in_ok-parts-in-StepMap-clause-kept
number-returns-in_ok-parts-in-StepMap-clause-kept g t c = c.step_map.ensures.kept ∙ c.in_ok-parts-in-StepMap.ensures.kept

pub number-returns-in_ok-parts-in-StepMap-clause-turns : goal.number-returns-in_ok-parts-in-StepMap-clause-turns
number-returns-in_ok-parts-in-StepMap-clause-turns g t c = c.in_ok-parts-in-StepMap.ensures.turns

pub number-returns-in_err-a-in-Unary-clause-kept : goal.number-returns-in_err-a-in-Unary-clause-kept
number-returns-in_err-a-in-Unary-clause-kept g t c = c.in_err-a-in-Unary.ensures.kept

pub number-returns-in_err-a-in-Unary-clause-turns : goal.number-returns-in_err-a-in-Unary-clause-turns
number-returns-in_err-a-in-Unary-clause-turns g t c = c.in_err-a-in-Unary.ensures.turns

pub number_binary-returns-in_err-a-clause-kept : goal.number_binary-returns-in_err-a-clause-kept
number_binary-returns-in_err-a-clause-kept g t c = c.in_err-a.ensures.kept

pub number_binary-returns-in_err-a-clause-turns : goal.number_binary-returns-in_err-a-clause-turns
number_binary-returns-in_err-a-clause-turns g t c = c.in_err-a.ensures.turns

pub number_compare-returns-in_err-a-clause-kept : goal.number_compare-returns-in_err-a-clause-kept
number_compare-returns-in_err-a-clause-kept g t c = c.in_err-a.ensures.kept

pub number_compare-returns-in_err-a-clause-turns : goal.number_compare-returns-in_err-a-clause-turns
number_compare-returns-in_err-a-clause-turns g t c = c.in_err-a.ensures.turns

pub number_and-returns-in_err-a-clause-kept : goal.number_and-returns-in_err-a-clause-kept
number_and-returns-in_err-a-clause-kept g t c = c.in_err-a.ensures.kept

pub number_and-returns-in_err-a-clause-turns : goal.number_and-returns-in_err-a-clause-turns
number_and-returns-in_err-a-clause-turns g t c = c.in_err-a.ensures.turns

pub number_or-returns-in_err-a-clause-kept : goal.number_or-returns-in_err-a-clause-kept
number_or-returns-in_err-a-clause-kept g t c = c.in_err-a.ensures.kept

pub number_or-returns-in_err-a-clause-turns : goal.number_or-returns-in_err-a-clause-turns
number_or-returns-in_err-a-clause-turns g t c = c.in_err-a.ensures.turns

pub number-returns-in_ok-a-in-Unary-clause-kept : goal.number-returns-in_ok-a-in-Unary-clause-kept
number-returns-in_ok-a-in-Unary-clause-kept g t c = c.in_ok-a-in-Unary.ensures.kept

pub number-returns-in_ok-a-in-Unary-clause-turns : goal.number-returns-in_ok-a-in-Unary-clause-turns
number-returns-in_ok-a-in-Unary-clause-turns g t c = c.in_ok-a-in-Unary.ensures.turns

pub number_binary-returns-in_err-b-clause-kept : goal.number_binary-returns-in_err-b-clause-kept
number_binary-returns-in_err-b-clause-kept g t c = c.in_err-b.ensures.kept ∙ c.in_ok-a.ensures.kept

pub number_binary-returns-in_err-b-clause-turns : goal.number_binary-returns-in_err-b-clause-turns
number_binary-returns-in_err-b-clause-turns g t c = c.in_err-b.ensures.turns ∙ c.in_ok-a.ensures.turns

pub number_binary-returns-clause-kept : goal.number_binary-returns-clause-kept
number_binary-returns-clause-kept g t c = c.in_ok-b.ensures.kept ∙ c.in_ok-a.ensures.kept

pub number_binary-returns-clause-turns : goal.number_binary-returns-clause-turns
number_binary-returns-clause-turns g t c = c.in_ok-b.ensures.turns ∙ c.in_ok-a.ensures.turns

pub number_compare-returns-in_err-b-clause-kept : goal.number_compare-returns-in_err-b-clause-kept
number_compare-returns-in_err-b-clause-kept g t c = c.in_err-b.ensures.kept ∙ c.in_ok-a.ensures.kept

pub number_compare-returns-in_err-b-clause-turns : goal.number_compare-returns-in_err-b-clause-turns
number_compare-returns-in_err-b-clause-turns g t c = c.in_err-b.ensures.turns ∙ c.in_ok-a.ensures.turns

pub number_compare-returns-clause-kept : goal.number_compare-returns-clause-kept
number_compare-returns-clause-kept g t c = c.in_ok-b.ensures.kept ∙ c.in_ok-a.ensures.kept

pub number_compare-returns-clause-turns : goal.number_compare-returns-clause-turns
number_compare-returns-clause-turns g t c = c.in_ok-b.ensures.turns ∙ c.in_ok-a.ensures.turns

pub number_and-returns-in_err-b-clause-kept : goal.number_and-returns-in_err-b-clause-kept
number_and-returns-in_err-b-clause-kept g t c = c.in_err-b.ensures.kept ∙ c.in_ok-a.ensures.kept

pub number_and-returns-in_err-b-clause-turns : goal.number_and-returns-in_err-b-clause-turns
number_and-returns-in_err-b-clause-turns g t c = c.in_err-b.ensures.turns ∙ c.in_ok-a.ensures.turns

pub number_and-returns-in_ok-b-clause-kept : goal.number_and-returns-in_ok-b-clause-kept
number_and-returns-in_ok-b-clause-kept g t c = c.in_ok-b.ensures.kept ∙ c.in_ok-a.ensures.kept

pub number_and-returns-in_ok-b-clause-turns : goal.number_and-returns-in_ok-b-clause-turns
number_and-returns-in_ok-b-clause-turns g t c = c.in_ok-b.ensures.turns ∙ c.in_ok-a.ensures.turns

pub number_or-returns-in_err-b-clause-kept : goal.number_or-returns-in_err-b-clause-kept
number_or-returns-in_err-b-clause-kept g t c = c.in_err-b.ensures.kept ∙ c.in_ok-a.ensures.kept

pub number_or-returns-in_err-b-clause-turns : goal.number_or-returns-in_err-b-clause-turns
number_or-returns-in_err-b-clause-turns g t c = c.in_err-b.ensures.turns ∙ c.in_ok-a.ensures.turns

pub number_or-returns-in_ok-b-clause-kept : goal.number_or-returns-in_ok-b-clause-kept
number_or-returns-in_ok-b-clause-kept g t c = c.in_ok-b.ensures.kept ∙ c.in_ok-a.ensures.kept

pub number_or-returns-in_ok-b-clause-turns : goal.number_or-returns-in_ok-b-clause-turns
number_or-returns-in_ok-b-clause-turns g t c = c.in_ok-b.ensures.turns ∙ c.in_ok-a.ensures.turns

pub number_and-returns-else-holds-clause-kept : goal.number_and-returns-else-holds-clause-kept
number_and-returns-else-holds-clause-kept g t c = c.in_ok-a.ensures.kept

pub number_and-returns-else-holds-clause-turns : goal.number_and-returns-else-holds-clause-turns
number_and-returns-else-holds-clause-turns g t c = c.in_ok-a.ensures.turns

pub number_or-returns-then-holds-clause-kept : goal.number_or-returns-then-holds-clause-kept
number_or-returns-then-holds-clause-kept g t c = c.in_ok-a.ensures.kept

pub number_or-returns-then-holds-clause-turns : goal.number_or-returns-then-holds-clause-turns
number_or-returns-then-holds-clause-turns g t c = c.in_ok-a.ensures.turns

pub number_choose-returns-in_err-test-clause-kept : goal.number_choose-returns-in_err-test-clause-kept
number_choose-returns-in_err-test-clause-kept g t c = c.in_err-test.ensures.kept

pub number_choose-returns-in_err-test-clause-turns : goal.number_choose-returns-in_err-test-clause-turns
number_choose-returns-in_err-test-clause-turns g t c = c.in_err-test.ensures.turns

pub number_choose-returns-then-holds-clause-kept : goal.number_choose-returns-then-holds-clause-kept
number_choose-returns-then-holds-clause-kept g t c = c.number-then-holds.ensures.kept ∙ c.in_ok-test.ensures.kept

pub number_choose-returns-then-holds-clause-turns : goal.number_choose-returns-then-holds-clause-turns
number_choose-returns-then-holds-clause-turns g t c = c.number-then-holds.ensures.turns ∙ c.in_ok-test.ensures.turns

pub number_choose-returns-else-holds-clause-kept : goal.number_choose-returns-else-holds-clause-kept
number_choose-returns-else-holds-clause-kept g t c = c.number-else-holds.ensures.kept ∙ c.in_ok-test.ensures.kept

pub number_choose-returns-else-holds-clause-turns : goal.number_choose-returns-else-holds-clause-turns
number_choose-returns-else-holds-clause-turns g t c = c.number-else-holds.ensures.turns ∙ c.in_ok-test.ensures.turns

pub text-returns-in-Comm-clause-kept : goal.text-returns-in-Comm-clause-kept
text-returns-in-Comm-clause-kept g t c = refl

pub text-returns-in-Comm-clause-turns : goal.text-returns-in-Comm-clause-turns
text-returns-in-Comm-clause-turns g t c = refl

pub text-returns-in-Field-clause-kept : goal.text-returns-in-Field-clause-kept
text-returns-in-Field-clause-kept g t c = refl

pub text-returns-in-Field-clause-turns : goal.text-returns-in-Field-clause-turns
text-returns-in-Field-clause-turns g t c = refl

pub text-returns-in-Text-clause-kept : goal.text-returns-in-Text-clause-kept
text-returns-in-Text-clause-kept g t c = refl

pub text-returns-in-Text-clause-turns : goal.text-returns-in-Text-clause-turns
text-returns-in-Text-clause-turns g t c = refl

pub text-returns-in-Var-clause-kept : goal.text-returns-in-Var-clause-kept
text-returns-in-Var-clause-kept g t c = refl

pub text-returns-in-Var-clause-turns : goal.text-returns-in-Var-clause-turns
text-returns-in-Var-clause-turns g t c = refl

pub text-returns-in_err-read-in-Map-clause-kept : goal.text-returns-in_err-read-in-Map-clause-kept
text-returns-in_err-read-in-Map-clause-kept g t c = c.in_err-read-in-Map.ensures.kept

pub text-returns-in_err-read-in-Map-clause-turns : goal.text-returns-in_err-read-in-Map-clause-turns
text-returns-in_err-read-in-Map-clause-turns g t c = c.in_err-read-in-Map.ensures.turns

pub text-returns-in_ok-read-in-Map-clause-kept : goal.text-returns-in_ok-read-in-Map-clause-kept
text-returns-in_ok-read-in-Map-clause-kept g t c = c.in_ok-read-in-Map.ensures.kept

pub text-returns-in_ok-read-in-Map-clause-turns : goal.text-returns-in_ok-read-in-Map-clause-turns
text-returns-in_ok-read-in-Map-clause-turns g t c = c.in_ok-read-in-Map.ensures.turns

pub text-returns-in_err-test-in-Choose-clause-kept : goal.text-returns-in_err-test-in-Choose-clause-kept
text-returns-in_err-test-in-Choose-clause-kept g t c = c.in_err-test-in-Choose.ensures.kept

pub text-returns-in_err-test-in-Choose-clause-turns : goal.text-returns-in_err-test-in-Choose-clause-turns
text-returns-in_err-test-in-Choose-clause-turns g t c = c.in_err-test-in-Choose.ensures.turns

pub text-returns-then-holds-clause-kept : goal.text-returns-then-holds-clause-kept
text-returns-then-holds-clause-kept g t c = c.text.ensures.kept ∙ c.in_ok-test-in-Choose.ensures.kept

pub text-returns-then-holds-clause-turns : goal.text-returns-then-holds-clause-turns
text-returns-then-holds-clause-turns g t c = c.text.ensures.turns ∙ c.in_ok-test-in-Choose.ensures.turns

pub text-returns-else-holds-clause-kept : goal.text-returns-else-holds-clause-kept
text-returns-else-holds-clause-kept g t c = c.text-else-holds.ensures.kept ∙ c.in_ok-test-in-Choose.ensures.kept

pub text-returns-else-holds-clause-turns : goal.text-returns-else-holds-clause-turns
text-returns-else-holds-clause-turns g t c = c.text-else-holds.ensures.turns ∙ c.in_ok-test-in-Choose.ensures.turns

pub value-returns-in_err-n-in-Num-clause-kept : goal.value-returns-in_err-n-in-Num-clause-kept
value-returns-in_err-n-in-Num-clause-kept g t c = c.in_err-n-in-Num.ensures.kept

pub value-returns-in_err-n-in-Num-clause-turns : goal.value-returns-in_err-n-in-Num-clause-turns
value-returns-in_err-n-in-Num-clause-turns g t c = c.in_err-n-in-Num.ensures.turns

pub value-returns-in_err-s-in-Str-clause-kept : goal.value-returns-in_err-s-in-Str-clause-kept
value-returns-in_err-s-in-Str-clause-kept g t c = c.in_err-s-in-Str.ensures.kept

pub value-returns-in_err-s-in-Str-clause-turns : goal.value-returns-in_err-s-in-Str-clause-turns
value-returns-in_err-s-in-Str-clause-turns g t c = c.in_err-s-in-Str.ensures.turns

pub value-returns-in_ok-n-in-Num-clause-kept : goal.value-returns-in_ok-n-in-Num-clause-kept
value-returns-in_ok-n-in-Num-clause-kept g t c = c.in_ok-n-in-Num.ensures.kept

pub value-returns-in_ok-n-in-Num-clause-turns : goal.value-returns-in_ok-n-in-Num-clause-turns
value-returns-in_ok-n-in-Num-clause-turns g t c = c.in_ok-n-in-Num.ensures.turns

pub value-returns-in_ok-s-in-Str-clause-kept : goal.value-returns-in_ok-s-in-Str-clause-kept
value-returns-in_ok-s-in-Str-clause-kept g t c = c.in_ok-s-in-Str.ensures.kept

pub value-returns-in_ok-s-in-Str-clause-turns : goal.value-returns-in_ok-s-in-Str-clause-turns
value-returns-in_ok-s-in-Str-clause-turns g t c = c.in_ok-s-in-Str.ensures.turns

pub read-returns-in_err-parts-clause-kept : goal.read-returns-in_err-parts-clause-kept
read-returns-in_err-parts-clause-kept g t c = c.in_err-parts.ensures.kept

pub read-returns-in_err-parts-clause-turns : goal.read-returns-in_err-parts-clause-turns
read-returns-in_err-parts-clause-turns g t c = c.in_err-parts.ensures.turns

pub read_agg-returns-in_err-parts-clause-kept : goal.read_agg-returns-in_err-parts-clause-kept
read_agg-returns-in_err-parts-clause-kept g t c = c.in_err-parts.ensures.kept

pub read_agg-returns-in_err-parts-clause-turns : goal.read_agg-returns-in_err-parts-clause-turns
read_agg-returns-in_err-parts-clause-turns g t c = c.in_err-parts.ensures.turns

pub read-returns-clause-kept : goal.read-returns-clause-kept
read-returns-clause-kept g t c = c.get.ensures.kept ∙ c.in_ok-parts.ensures.kept

pub read-returns-clause-turns : goal.read-returns-clause-turns
read-returns-clause-turns g t c = c.in_ok-parts.ensures.turns

pub read_agg-returns-clause-kept : goal.read_agg-returns-clause-kept
read_agg-returns-clause-kept g t c = c.sum_at.ensures.kept ∙ c.in_ok-parts.ensures.kept

pub read_agg-returns-clause-turns : goal.read_agg-returns-clause-turns
read_agg-returns-clause-turns g t c = c.in_ok-parts.ensures.turns

pub values-returns-clause-kept : goal.values-returns-clause-kept
values-returns-clause-kept g t c = c.loop-key.invariant.kept

pub values-returns-clause-turns : goal.values-returns-clause-turns
values-returns-clause-turns g t c = c.loop-key.invariant.turns

pub values-returns-in_err-part-clause-kept : goal.values-returns-in_err-part-clause-kept
values-returns-in_err-part-clause-kept g t c = c.in_err-part.ensures.kept ∙ c.loop-key.invariant.kept

pub values-returns-in_err-part-clause-turns : goal.values-returns-in_err-part-clause-turns
values-returns-in_err-part-clause-turns g t c = c.in_err-part.ensures.turns ∙ c.loop-key.invariant.turns

pub values-returns-in_err-push-clause-kept : goal.values-returns-in_err-push-clause-kept
values-returns-in_err-push-clause-kept g t c = c.in_ok-part.ensures.kept ∙ c.loop-key.invariant.kept

pub values-returns-in_err-push-clause-turns : goal.values-returns-in_err-push-clause-turns
values-returns-in_err-push-clause-turns g t c = c.in_ok-part.ensures.turns ∙ c.loop-key.invariant.turns

pub number-number_binary-requires : goal.number-number_binary-requires
number-number_binary-requires g t c κs within =
    let whole : num_size c.args.e.now ≡ num_size (exprs.Binary c.in-Binary.op c.in-Binary.left c.in-Binary.right) = ap num_size c.in-Binary.is in
    (omega (arith, whole, c.decreases), (within.0, (within.1, (c.requires.served, subst (λ (e : NumExpr). Fits c.args.view.now (num_parts e)) c.in-Binary.is c.requires.fits))))

pub number-returns-in-Binary-clause-walked : goal.number-returns-in-Binary-clause-walked
number-returns-in-Binary-clause-walked g t c = told.Walked-num _ _ _ _ _ _ _ _ (ap number_does c.in-Binary.is) c.number_binary.ensures.walked

pub number-returns-in-Binary-clause-kept : goal.number-returns-in-Binary-clause-kept
number-returns-in-Binary-clause-kept g t c = c.number_binary.ensures.kept

pub number-returns-in-Binary-clause-turns : goal.number-returns-in-Binary-clause-turns
number-returns-in-Binary-clause-turns g t c = c.number_binary.ensures.turns

pub number-number_compare-requires : goal.number-number_compare-requires
number-number_compare-requires g t c κs within =
    let whole : num_size c.args.e.now ≡ num_size (exprs.Compare c.in-Compare.equal c.in-Compare.left c.in-Compare.right) = ap num_size c.in-Compare.is in
    (omega (arith, whole, c.decreases), (within.0, (within.1, (c.requires.served, subst (λ (e : NumExpr). Fits c.args.view.now (num_parts e)) c.in-Compare.is c.requires.fits))))

pub number-returns-in-Compare-clause-walked : goal.number-returns-in-Compare-clause-walked
number-returns-in-Compare-clause-walked g t c = told.Walked-num _ _ _ _ _ _ _ _ (ap number_does c.in-Compare.is) c.number_compare.ensures.walked

pub number-returns-in-Compare-clause-kept : goal.number-returns-in-Compare-clause-kept
number-returns-in-Compare-clause-kept g t c = c.number_compare.ensures.kept

pub number-returns-in-Compare-clause-turns : goal.number-returns-in-Compare-clause-turns
number-returns-in-Compare-clause-turns g t c = c.number_compare.ensures.turns

pub number-number_and-requires : goal.number-number_and-requires
number-number_and-requires g t c κs within =
    let whole : num_size c.args.e.now ≡ num_size (exprs.AndThen c.in-AndThen.left c.in-AndThen.right) = ap num_size c.in-AndThen.is in
    (omega (arith, whole, c.decreases), (within.0, (within.1, (c.requires.served, subst (λ (e : NumExpr). Fits c.args.view.now (num_parts e)) c.in-AndThen.is c.requires.fits))))

pub number-returns-in-AndThen-clause-walked : goal.number-returns-in-AndThen-clause-walked
number-returns-in-AndThen-clause-walked g t c = told.Walked-num _ _ _ _ _ _ _ _ (ap number_does c.in-AndThen.is) c.number_and.ensures.walked

pub number-returns-in-AndThen-clause-kept : goal.number-returns-in-AndThen-clause-kept
number-returns-in-AndThen-clause-kept g t c = c.number_and.ensures.kept

pub number-returns-in-AndThen-clause-turns : goal.number-returns-in-AndThen-clause-turns
number-returns-in-AndThen-clause-turns g t c = c.number_and.ensures.turns

pub number-number_or-requires : goal.number-number_or-requires
number-number_or-requires g t c κs within =
    let whole : num_size c.args.e.now ≡ num_size (exprs.OrElse c.in-OrElse.left c.in-OrElse.right) = ap num_size c.in-OrElse.is in
    (omega (arith, whole, c.decreases), (within.0, (within.1, (c.requires.served, subst (λ (e : NumExpr). Fits c.args.view.now (num_parts e)) c.in-OrElse.is c.requires.fits))))

pub number-returns-in-OrElse-clause-walked : goal.number-returns-in-OrElse-clause-walked
number-returns-in-OrElse-clause-walked g t c = told.Walked-num _ _ _ _ _ _ _ _ (ap number_does c.in-OrElse.is) c.number_or.ensures.walked

pub number-returns-in-OrElse-clause-kept : goal.number-returns-in-OrElse-clause-kept
number-returns-in-OrElse-clause-kept g t c = c.number_or.ensures.kept

pub number-returns-in-OrElse-clause-turns : goal.number-returns-in-OrElse-clause-turns
number-returns-in-OrElse-clause-turns g t c = c.number_or.ensures.turns

pub number-number_choose-requires : goal.number-number_choose-requires
number-number_choose-requires g t c κs within =
    let whole : num_size c.args.e.now ≡ num_size (exprs.Choose c.in-Choose.condition c.in-Choose.yes c.in-Choose.no) = ap num_size c.in-Choose.is in
    (omega (arith, whole, c.decreases), (within.0, (within.1, (c.requires.served, subst (λ (e : NumExpr). Fits c.args.view.now (num_parts e)) c.in-Choose.is c.requires.fits))))

pub number-returns-in-Choose-clause-walked : goal.number-returns-in-Choose-clause-walked
number-returns-in-Choose-clause-walked g t c = told.Walked-num _ _ _ _ _ _ _ _ (ap number_does c.in-Choose.is) c.number_choose.ensures.walked

pub number-returns-in-Choose-clause-kept : goal.number-returns-in-Choose-clause-kept
number-returns-in-Choose-clause-kept g t c = c.number_choose.ensures.kept

pub number-returns-in-Choose-clause-turns : goal.number-returns-in-Choose-clause-turns
number-returns-in-Choose-clause-turns g t c = c.number_choose.ensures.turns

pub values-returns-clause-shaped : goal.values-returns-clause-shaped
values-returns-clause-shaped g t c = shapes-end _ _ _ c.loop-key-test.false c.loop-key.invariant.shaped

pub number-returns-in-StepVar-clause-turns : goal.number-returns-in-StepVar-clause-turns
number-returns-in-StepVar-clause-turns g t c = ap (λ (f : Frame). f.turns) c.step_variable.ensures.frame

pub number-returns-in-Agg-clause-walked : goal.number-returns-in-Agg-clause-walked
number-returns-in-Agg-clause-walked g t c = told.Walked-num _ _ _ _ _ _ _ _ (does.agg_num _ _ _ _ c.in-Agg.is c.as_slice-in-Agg.ensures) c.read_agg.ensures.walked
