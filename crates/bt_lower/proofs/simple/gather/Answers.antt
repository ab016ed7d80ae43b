use Rattle.std.proofs.Common.{refl, ap}
use Rattle.typed_tree.specs.declared.stmt.TypedStmt.TheVariants as stmts
use Rattle.bt_lower.proofs.Arms.{at-ok}
use Rattle.bt_lower.proofs.Single.{T-Count, T-Add}
use Rattle.bt_lower.proofs.simple.gather.Goals as goal

pub returns-in_ok-lower_number-in-Some : goal.returns-in_ok-lower_number-in-Some
returns-in_ok-lower_number-in-Some c =
    at-ok c.lower_values.result c.lower_values.ensures
    (λ lowered way. T-Add _ _ _ _ _ _ _ way _ _ _ _ (ap (stmts.Gather c.args.map c.args.keys.now c.args.kind) c.in-Some.is) refl c.in_ok-key.ensures c.in_ok-push-in-Some.ensures c.in_ok-lower_number-in-Some.ensures lowered)

pub returns-in_ok-push-in-None : goal.returns-in_ok-push-in-None
returns-in_ok-push-in-None c =
    at-ok c.lower_values-in-None.result c.lower_values-in-None.ensures
    (λ lowered way. T-Count _ _ _ _ _ _ way _ _ _ (ap (stmts.Gather c.args.map c.args.keys.now c.args.kind) c.in-None.is) refl c.in_ok-key.ensures c.in_ok-push-in-None.ensures lowered)
