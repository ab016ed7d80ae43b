use Rattle.std.proofs.Common.{refl, sym, ap, ◌∙◌}
use Rattle.std.proofs.lemmas.Result.{err_from_is_err_and}
use Rattle.bt_walk.proofs.Binds.{Part-first, Whole-next, Given-done, Changed-done, Stopped}
use Rattle.walk_meaning.specs.declared.flow.Frame.{Frame}
use Rattle.bt_walk.proofs.stmt.set_variable.Goals as goal

pub returns-in_err-value-clause-walked : goal.returns-in_err-value-clause-walked
returns-in_err-value-clause-walked g c =
    let p = err_from_is_err_and c.from_residual.result c.from_residual.ensures.1 in
    Stopped _ _ _ _ p.1 (Part-first _ _ _ _ _ _ c.in_err-value.ensures.walked)

pub returns-clause-walked : goal.returns-clause-walked
returns-clause-walked g c = (Whole-next _ _ _ _ _ _ _ _ c.in_ok-value.ensures.walked _ _ (Whole-next _ _ _ _ _ _ _ _ (Changed-done _ _ _ _ _ tt (sym c.assign.ensures)) _ _ (Given-done _ _ _ _ _ _ refl refl)))

pub returns-in_err-value-clause-kept : goal.returns-in_err-value-clause-kept
returns-in_err-value-clause-kept g c = c.in_err-value.ensures.kept

pub returns-clause-kept : goal.returns-clause-kept
returns-clause-kept g c = c.in_ok-value.ensures.kept

pub returns-in_err-value-clause-turns : goal.returns-in_err-value-clause-turns
returns-in_err-value-clause-turns g c = c.in_err-value.ensures.turns

pub returns-clause-turns : goal.returns-clause-turns
returns-clause-turns g c = ap (λ (f : Frame). f.turns) c.assign.ensures ∙ c.in_ok-value.ensures.turns

pub value-requires-clause-served : goal.value-requires-clause-served
value-requires-clause-served g c = c.requires.served
