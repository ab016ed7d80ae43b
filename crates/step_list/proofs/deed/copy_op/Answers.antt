use Rattle.std.proofs.Common.{ap, sym, ◌∙◌}
use Rattle.std.proofs.lemmas.Result.{err_from_is_err_and}
use Rattle.bt_core.specs.declared.step.Op.TheVariants as ops
use Rattle.std.proofs.Common.{SFits, w64, rules}
use Rattle.std.proofs.lemmas.Int.{to_z-of_z}
use Rattle.step_list.proofs.deed.copy_op.Goals as goal

pub returns-in-Clear : goal.returns-in-Clear
returns-in-Clear c = sym c.in-Clear.is

pub returns-in-Zero : goal.returns-in-Zero
returns-in-Zero c = sym c.in-Zero.is

pub returns-in-ReadAll : goal.returns-in-ReadAll
returns-in-ReadAll c = sym c.in-ReadAll.is

pub returns-in-Check : goal.returns-in-Check
returns-in-Check c = sym c.in-Check.is

pub returns-in-Stop : goal.returns-in-Stop
returns-in-Stop c = sym c.in-Stop.is

pub returns-in-ClearOf : goal.returns-in-ClearOf
returns-in-ClearOf c = sym c.in-ClearOf.is

pub returns-in-ZeroOf : goal.returns-in-ZeroOf
returns-in-ZeroOf c = sym c.in-ZeroOf.is

pub returns-in-Read : goal.returns-in-Read
returns-in-Read c = sym c.in-Read.is

pub returns-in-Cross : goal.returns-in-Cross
returns-in-Cross c = sym c.in-Cross.is

pub returns-in_ok-try_copy-in-Get : goal.returns-in_ok-try_copy-in-Get
returns-in_ok-try_copy-in-Get c = ap ops.Get c.in_ok-try_copy-in-Get.ensures ∙ sym c.in-Get.is

pub returns-in_err-try_copy-in-Get : goal.returns-in_err-try_copy-in-Get
returns-in_err-try_copy-in-Get c = rw (err_from_is_err_and c.from_residual.result c.from_residual.ensures.1).1 tt

pub returns-in_ok-try_copy-in-Set : goal.returns-in_ok-try_copy-in-Set
returns-in_ok-try_copy-in-Set c = (λ i. ops.Set (c.in_ok-try_copy-in-Set.ensures i) (c.copy.ensures i)) ∙ sym c.in-Set.is

pub returns-in_err-try_copy-in-Set : goal.returns-in_err-try_copy-in-Set
returns-in_err-try_copy-in-Set c = rw (err_from_is_err_and c.from_residual-in_err-try_copy-in-Set.result c.from_residual-in_err-try_copy-in-Set.ensures.1).1 tt

pub returns-in_ok-try_copy-in-Delete : goal.returns-in_ok-try_copy-in-Delete
returns-in_ok-try_copy-in-Delete c = ap ops.Delete c.in_ok-try_copy-in-Delete.ensures ∙ sym c.in-Delete.is

pub returns-in_err-try_copy-in-Delete : goal.returns-in_err-try_copy-in-Delete
returns-in_err-try_copy-in-Delete c = rw (err_from_is_err_and c.from_residual-in_err-try_copy-in-Delete.result c.from_residual-in_err-try_copy-in-Delete.ensures.1).1 tt

pub returns-in_err-try_copy-in-Add : goal.returns-in_err-try_copy-in-Add
returns-in_err-try_copy-in-Add c = rw (err_from_is_err_and c.from_residual-in_err-try_copy-in-Add.result c.from_residual-in_err-try_copy-in-Add.ensures.1).1 tt

pub returns-in_ok-try_copy-in-Emit : goal.returns-in_ok-try_copy-in-Emit
returns-in_ok-try_copy-in-Emit c = ap ops.Emit c.in_ok-try_copy-in-Emit.ensures ∙ sym c.in-Emit.is

pub returns-in_err-try_copy-in-Emit : goal.returns-in_err-try_copy-in-Emit
returns-in_err-try_copy-in-Emit c = rw (err_from_is_err_and c.from_residual-in_err-try_copy-in-Emit.result c.from_residual-in_err-try_copy-in-Emit.ensures.1).1 tt

pub returns-in_ok-try_copy-in-Add : goal.returns-in_ok-try_copy-in-Add
returns-in_ok-try_copy-in-Add c =
    let fits : SFits w64 c.in-Add.number = search rules in
    (λ i. ops.Add c.in-Add.map (c.in_ok-try_copy-in-Add.ensures i) (to_z-of_z w64 c.in-Add.number fits i)) ∙ sym c.in-Add.is
