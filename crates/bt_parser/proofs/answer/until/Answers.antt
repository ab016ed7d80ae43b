use Rattle.bt_parser.proofs.Added.{behind_err, behind_ok, behind_refused, behind_shorter}
use Rattle.bt_parser.proofs.Mirrored.{on_err}
use Rattle.bt_parser.proofs.answer.until.Goals as goal

pub returns-in_err-value-clause-reads : goal.returns-in_err-value-clause-reads
returns-in_err-value-clause-reads g c = λ out h. behind_err _ out _ _ _ _ c.in_err-value.was c.from_residual.ensures.1 h

pub returns-in_err-value-clause-shorter : goal.returns-in_err-value-clause-shorter
returns-in_err-value-clause-shorter g c = λ most h. on_err _ _ c.from_residual.ensures.0

pub returns-in_err-expect-clause-reads : goal.returns-in_err-expect-clause-reads
returns-in_err-expect-clause-reads g c =
    λ out h. behind_refused _ out _ _ _ _ _ _ c.in_ok-value.was c.in_err-expect.ensures.reads c.from_residual-in_err-expect.ensures.1 h

pub returns-in_err-expect-clause-shorter : goal.returns-in_err-expect-clause-shorter
returns-in_err-expect-clause-shorter g c = λ most h. on_err _ _ c.from_residual-in_err-expect.ensures.0

pub returns-clause-reads : goal.returns-clause-reads
returns-clause-reads g c = λ out h. behind_ok _ out _ _ _ _ _ c.in_ok-value.was c.in_ok-expect.ensures.reads h

pub returns-clause-shorter : goal.returns-clause-shorter
returns-clause-shorter g c = λ most h. behind_shorter _ _ _ _ most c.in_ok-value.was c.in_ok-expect.ensures.shorter h
