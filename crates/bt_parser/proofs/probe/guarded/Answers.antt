use Rattle.bt_parser.proofs.Added.{pair_on, pair_reads}
use Rattle.std.proofs.Common.{refl}
use Rattle.bt_parser.proofs.Mirrored.{on_err, refused_reads, shorter_behind}
use Rattle.bt_parser.proofs.probe.guarded.Goals as goal

pub returns-in_err-predicate-clause-reads : goal.returns-in_err-predicate-clause-reads
returns-in_err-predicate-clause-reads c = refused_reads _ _ _ _ c.from_residual.ensures.1 (λ other. rw (c.in_err-predicate.ensures.reads other) refl)

pub returns-in_err-predicate-clause-shorter : goal.returns-in_err-predicate-clause-shorter
returns-in_err-predicate-clause-shorter c = on_err _ _ c.from_residual.ensures.0

pub returns-clause-reads : goal.returns-clause-reads
returns-clause-reads c = rw c.in_ok-predicate.ensures.reads (pair_reads _ _ _ _ _ c.block.ensures.reads c.beside.ensures)

pub returns-clause-shorter : goal.returns-clause-shorter
returns-clause-shorter c = shorter_behind _ _ _ _ (pair_on _ _ _ _ c.block.ensures.shorter c.beside.ensures) c.in_ok-predicate.ensures.no_longer
