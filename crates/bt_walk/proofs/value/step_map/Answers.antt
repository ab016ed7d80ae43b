use Rattle.std.proofs.Common.{◌≡◌, ap, ◌∙◌, SFits, w64}
use Rattle.std.proofs.lemmas.Int.{to_z-of_z}
use Rattle.std.proofs.lemmas.Result.{err_from_is_err_and}
use Rattle.map_ops.specs.Values.{number_of, next}
use Rattle.bt_walk.proofs.Binds.{Part-first, Walked-next, Walked-given, Stopped}
use Rattle.bt_walk.proofs.Fitting.{can_get, can_set}
use Rattle.bt_walk.proofs.value.step_map.Goals as goal

pub returns-in_err-value-clause-made : goal.returns-in_err-value-clause-made
returns-in_err-value-clause-made g c scene frame =
    let p = err_from_is_err_and c.from_residual.result c.from_residual.ensures.1 in
    Stopped _ _ _ _ p.1 (Part-first _ _ _ _ _ _ (c.in_err-value.ensures.made scene frame))

pub returns-clause-made : goal.returns-clause-made
returns-clause-made g c scene frame =
    let old_fits : SFits w64 c.number_of-old.result = record { sfits = c.number_of-old.type_inv } in
    let new_fits : SFits w64 c.next-new.result = record { sfits = c.next-new.type_inv } in
    let given_fits : SFits w64 c.stepped.result = record { sfits = c.stepped.type_inv } in
    let made = simp to_z-of_z at c.next-new.ensures in
    let new : c.next-new.result ≡ next c.args.plus (number_of c.in_ok-value.value) = made ∙ ap (next c.args.plus) c.number_of-old.ensures in
    let put = simp to_z-of_z at c.set-set.ensures.made in
    let done = rw new at put in
    let given = simp to_z-of_z at c.stepped.ensures in
    let told = rw (given, new, c.number_of-old.ensures) at (simp to_z-of_z at c.number_after.ensures) in
    Walked-next _ _ _ _ _ _ _ _ (c.in_ok-value.ensures.made scene frame) _ _ _ (Walked-given _ _ _ _ _ _ _ _ _ told (done scene frame))

pub value_under-requires : goal.value_under-requires
value_under-requires g c = can_get (g.P.Port.fixed c.args.port.now).setting c.args.map c.args.key c.requires

pub set-set-requires : goal.set-set-requires
set-set-requires g c = rw c.in_ok-value.ensures.kept (can_set (g.P.Port.fixed c.args.port.now).setting c.args.map c.args.key c.requires _)

pub returns-in_err-value-clause-kept : goal.returns-in_err-value-clause-kept
returns-in_err-value-clause-kept g c = c.in_err-value.ensures.kept

pub returns-clause-kept : goal.returns-clause-kept
returns-clause-kept g c = c.set-set.ensures.kept ∙ c.in_ok-value.ensures.kept
