use Rattle.std.proofs.Common.{Err, ap}
use Rattle.std.proofs.lemmas.Result.{err_from_is_err_and}
use Rattle.account_format.specs.Scopes.{setting_in}
use Rattle.account_check.proofs.Faults.{fault_told}
use Rattle.account_check.proofs.reading.read.Goals as goal

pub returns-in_err-entries-clause-wrong : goal.returns-in_err-entries-clause-wrong
returns-in_err-entries-clause-wrong c =
    let p = err_from_is_err_and c.from_residual.result c.from_residual.ensures.1 in
    fault_told c.args.script.now c.args.attached.now c.args.recording.now c.args.account.now (setting_in c.scope_of-scope.result) c.scope_of-scope.ensures
    c.from_residual.result p.0 c.in_err-entries.field-0.0 p.1 p.2 (λ offset e. c.in_err-entries.ensures.wrong offset (ap Err e))
