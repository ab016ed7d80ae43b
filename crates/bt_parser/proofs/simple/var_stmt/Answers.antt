use Rattle.std.proofs.Common.{refl}
use Rattle.bt_parser.proofs.Mirrored.{on_err, refused_reads}
use Rattle.bt_parser.proofs.simple.var_stmt.Goals as goal

pub returns-in_err-bytes-clause-reads : goal.returns-in_err-bytes-clause-reads
returns-in_err-bytes-clause-reads c = refused_reads _ _ _ _ c.from_residual.ensures.1 (λ other. rw (c.in_err-bytes.ensures.reads other) refl)

pub returns-in_err-bytes-clause-shorter : goal.returns-in_err-bytes-clause-shorter
returns-in_err-bytes-clause-shorter c = on_err _ _ c.from_residual.ensures.0

pub returns-in_err-kind-clause-reads : goal.returns-in_err-kind-clause-reads
returns-in_err-kind-clause-reads c = refused_reads _ _ _ _ c.from_residual-in_err-kind.ensures.1 (λ other. rw (c.in_ok-bytes.ensures.reads, c.in_err-kind.ensures.reads other) refl)

pub returns-in_err-kind-clause-shorter : goal.returns-in_err-kind-clause-shorter
returns-in_err-kind-clause-shorter c = on_err _ _ c.from_residual-in_err-kind.ensures.0

pub returns-clause-reads : goal.returns-clause-reads
returns-clause-reads c = rw (c.in_ok-bytes.ensures.reads, c.in_ok-kind.ensures.reads) refl
