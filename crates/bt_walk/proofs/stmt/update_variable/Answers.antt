use Rattle.std.proofs.Common.{refl, sym, ap, ◌∙◌, SFits, w64, rules}
use Rattle.std.proofs.lemmas.Int.{to_z-of_z}
use Rattle.std.proofs.lemmas.Result.{err_from_is_err_and}
use Rattle.map_ops.specs.Values.{number_of}
use Rattle.bt_walk.proofs.Binds.{Part-first, Whole-next, Given-done, Looked-done, Changed-done, Stopped}
use Rattle.walk_meaning.specs.declared.flow.Frame.{Frame}
use Rattle.bt_walk.proofs.stmt.update_variable.Goals as goal

pub returns-in_err-right-clause-walked : goal.returns-in_err-right-clause-walked
returns-in_err-right-clause-walked g c =
    let p = err_from_is_err_and c.from_residual.result c.from_residual.ensures.1 in
    Stopped _ _ _ _ p.1 (Part-first _ _ _ _ _ _ c.in_err-right.ensures.walked)

pub returns-clause-walked : goal.returns-clause-walked
returns-clause-walked g c =
    let fa : SFits w64 c.number_of-a.result = record { sfits = c.number_of-a.type_inv } in
    let fb : SFits w64 c.in_ok-right.right = search rules in
    let fr : SFits w64 c.binary-result.result = record { sfits = c.binary-result.type_inv } in
    let e = simp to_z-of_z at c.binary-result.ensures in
    let old = c.number_of-a.ensures ∙ ap number_of c.variable.ensures in
    let new = rw old at e in
    let put = simp to_z-of_z at c.assign.ensures in
    let done = rw new at put in
    (Whole-next _ _ _ _ _ _ _ _ c.in_ok-right.ensures.walked _ _ (Whole-next _ _ _ _ _ _ _ _ (Looked-done _ _ _ _ _ refl) _ _ (Whole-next _ _ _ _ _ _ _ _ (Changed-done _ _ _ _ _ tt (sym done)) _ _ (Given-done _ _ _ _ _ _ refl refl))))

pub returns-in_err-right-clause-kept : goal.returns-in_err-right-clause-kept
returns-in_err-right-clause-kept g c = c.in_err-right.ensures.kept

pub returns-clause-kept : goal.returns-clause-kept
returns-clause-kept g c = c.in_ok-right.ensures.kept

pub returns-in_err-right-clause-turns : goal.returns-in_err-right-clause-turns
returns-in_err-right-clause-turns g c = c.in_err-right.ensures.turns

pub returns-clause-turns : goal.returns-clause-turns
returns-clause-turns g c = ap (λ (f : Frame). f.turns) c.assign.ensures ∙ c.in_ok-right.ensures.turns

pub number-requires-clause-served : goal.number-requires-clause-served
number-requires-clause-served g c = c.requires.served
