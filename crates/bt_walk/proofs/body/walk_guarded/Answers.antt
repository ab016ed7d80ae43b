use Rattle.std.proofs.Common.{◌∙◌, sym, refl, rules, SFits, w64, subst, Option}
use Rattle.std.proofs.lemmas.Int.{to_z-of_z}
use Rattle.std.proofs.lemmas.Result.{err_from_is_err_and}
use Rattle.bt_walk.proofs.Binds.{Part-first, Whole-next, Walked-next, Given-done, Whole-no, Walked-yes}
use Rattle.bt_walk.proofs.Fitting.{served_still}
use Rattle.typed_tree.specs.declared.expr.NumExpr.{NumExpr}
use Rattle.typed_tree.specs.Bodies.{predicate_parts}
use Rattle.walk_meaning.specs.Served.{Fits}
use Rattle.bt_walk.proofs.body.walk_guarded.Goals as goal

pub returns-in_err-test-in-Some-clause-walked : goal.returns-in_err-test-in-Some-clause-walked
returns-in_err-test-in-Some-clause-walked g c =
    let p = err_from_is_err_and c.from_residual.result c.from_residual.ensures.1 in
    rw (p.1, c.in-Some.is) (Part-first _ _ _ _ _ _ c.in_err-test-in-Some.ensures.walked)

pub returns-then-holds-clause-walked : goal.returns-then-holds-clause-walked
returns-then-holds-clause-walked g c =
    let tested : SFits w64 c.in_ok-test-in-Some.test = search rules in
    let test = simp to_z-of_z at c.holds.ensures in
    let e = sym test ∙ c.if-holds.true in
    rw c.in-Some.is (Walked-next _ _ _ _ _ _ _ _ c.in_ok-test-in-Some.ensures.walked _ _ _ (Walked-yes _ _ _ _ _ _ _ _ _ e c.walk_block.ensures.walked))

pub returns-else-holds-clause-walked : goal.returns-else-holds-clause-walked
returns-else-holds-clause-walked g c =
    let tested : SFits w64 c.in_ok-test-in-Some.test = search rules in
    let test = simp to_z-of_z at c.holds.ensures in
    let e = sym test ∙ c.if-holds.false in
    rw c.in-Some.is (Whole-next _ _ _ _ _ _ _ _ c.in_ok-test-in-Some.ensures.walked _ _ (Whole-no _ _ _ _ _ _ _ _ e (Given-done _ _ _ _ _ _ refl refl)))

pub number-requires-clause-served : goal.number-requires-clause-served
number-requires-clause-served g c = c.requires.served

pub number-requires-clause-fits : goal.number-requires-clause-fits
number-requires-clause-fits g c = subst (λ (p : Option NumExpr). Fits c.args.view.now (predicate_parts p)) c.in-Some.is c.requires.test

pub returns-in_err-test-in-Some-clause-kept : goal.returns-in_err-test-in-Some-clause-kept
returns-in_err-test-in-Some-clause-kept g c = c.in_err-test-in-Some.ensures.kept

pub walk_block-requires-clause-served : goal.walk_block-requires-clause-served
walk_block-requires-clause-served g c = served_still c.args.view.now _ _ c.in_ok-test-in-Some.ensures.kept c.requires.served

pub walk_block-requires-clause-fits : goal.walk_block-requires-clause-fits
walk_block-requires-clause-fits g c = c.requires.fits

pub returns-then-holds-clause-kept : goal.returns-then-holds-clause-kept
returns-then-holds-clause-kept g c = c.walk_block.ensures.kept ∙ c.in_ok-test-in-Some.ensures.kept

pub returns-else-holds-clause-kept : goal.returns-else-holds-clause-kept
returns-else-holds-clause-kept g c = c.in_ok-test-in-Some.ensures.kept

pub walk_block-requires-in-None-clause-served : goal.walk_block-requires-in-None-clause-served
walk_block-requires-in-None-clause-served g c = c.requires.served

pub walk_block-requires-in-None-clause-fits : goal.walk_block-requires-in-None-clause-fits
walk_block-requires-in-None-clause-fits g c = c.requires.fits

pub returns-in-None-clause-kept : goal.returns-in-None-clause-kept
returns-in-None-clause-kept g c = c.walk_block-in-None.ensures.kept

pub returns-in-None-clause-walked : goal.returns-in-None-clause-walked
returns-in-None-clause-walked g c = rw c.in-None.is c.walk_block-in-None.ensures.walked
