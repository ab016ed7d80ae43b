use Rattle.std.proofs.Common.{◌≡◌, ℤ, ap, ◌∙◌, SFits, w64, rules}
use Rattle.std.proofs.lemmas.Int.{to_z-of_z}
use Rattle.std.proofs.lemmas.Result.{err_from_is_err_and}
use Rattle.bt_core.specs.Arithmetic.{binary_value}
use Rattle.map_ops.specs.Values.{number_of}
use Rattle.bt_walk.proofs.Binds.{Part-first, Walked-next, Walked-given, Stopped}
use Rattle.bt_walk.proofs.Fitting.{can_get, can_set}
use Rattle.bt_walk.proofs.stmt.update_at.Goals as goal

pub returns-in_err-value-clause-made : goal.returns-in_err-value-clause-made
returns-in_err-value-clause-made g c scene frame =
    let p = err_from_is_err_and c.from_residual.result c.from_residual.ensures.1 in
    Stopped _ _ _ _ p.1 (Part-first _ _ _ _ _ _ (c.in_err-value.ensures.made scene frame))

pub returns-clause-made : goal.returns-clause-made
returns-clause-made g c scene frame =
    let fa : SFits w64 c.number_of-old.result = record { sfits = c.number_of-old.type_inv } in
    let fr : SFits w64 c.binary-new.result = record { sfits = c.binary-new.type_inv } in
    let fb : SFits w64 c.args.b = search rules in
    let stepped = simp to_z-of_z at c.binary-new.ensures in
    let new : c.binary-new.result ≡ binary_value c.args.op (number_of c.in_ok-value.value) c.args.b = stepped ∙ ap (λ (x : ℤ). binary_value c.args.op x c.args.b) c.number_of-old.ensures in
    let put = simp to_z-of_z at c.set.ensures.made in
    let done = rw new at put in
    Walked-next _ _ _ _ _ _ _ _ (c.in_ok-value.ensures.made scene frame) _ _ _ (Walked-given _ _ _ _ _ _ _ _ _ c.next_after.ensures (done scene frame))

pub value_under-requires : goal.value_under-requires
value_under-requires g c = can_get (g.P.Port.fixed c.args.port.now).setting c.args.map c.args.key c.requires

pub set-requires : goal.set-requires
set-requires g c = rw c.in_ok-value.ensures.kept (can_set (g.P.Port.fixed c.args.port.now).setting c.args.map c.args.key c.requires _)

pub returns-in_err-value-clause-kept : goal.returns-in_err-value-clause-kept
returns-in_err-value-clause-kept g c = c.in_err-value.ensures.kept

pub returns-clause-kept : goal.returns-clause-kept
returns-clause-kept g c = c.set.ensures.kept ∙ c.in_ok-value.ensures.kept
