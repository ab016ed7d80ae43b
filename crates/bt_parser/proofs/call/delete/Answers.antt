use Rattle.std.proofs.Common.{refl}
use Rattle.std.proofs.Math.Nat.{lt_trans}
use Rattle.bt_grammar.specs.Tokens.{items}
use Rattle.bt_parser.specs.Statements.{deletion}
use Rattle.bt_parser.proofs.Added.{beside_on, beside_reads, refused_beside}
use Rattle.bt_parser.proofs.Mirrored.{on_err, refused_reads}
use Rattle.bt_parser.proofs.Stated.{delete_is}
use Rattle.bt_parser.proofs.call.delete.Goals as goal

pub returns-in_err-expect-clause-reads : goal.returns-in_err-expect-clause-reads
returns-in_err-expect-clause-reads c = refused_reads _ _ _ _ c.from_residual.ensures.1 (λ other. rw (delete_is (items c.args.tokens.now), c.in_err-expect.ensures.reads other) refl)

pub returns-in_err-expect-clause-shorter : goal.returns-in_err-expect-clause-shorter
returns-in_err-expect-clause-shorter c = on_err _ _ c.from_residual.ensures.0

pub returns-in_err-name-clause-reads : goal.returns-in_err-name-clause-reads
returns-in_err-name-clause-reads c = refused_reads _ _ _ _ c.from_residual-in_err-name.ensures.1 (λ other. rw (delete_is (items c.args.tokens.now), c.in_ok-expect.ensures.reads, c.in_err-name.ensures.reads other) refl)

pub returns-in_err-name-clause-shorter : goal.returns-in_err-name-clause-shorter
returns-in_err-name-clause-shorter c = on_err _ _ c.from_residual-in_err-name.ensures.0

pub returns-in_err-name-2-clause-reads : goal.returns-in_err-name-2-clause-reads
returns-in_err-name-2-clause-reads c = refused_reads _ _ _ _ c.from_residual-in_err-name-2.ensures.1 (λ other. rw (delete_is (items c.args.tokens.now), c.in_ok-expect.ensures.reads, c.in_ok-name.ensures.reads, refused_beside _ _ _ _ c.deleted.ensures.reads c.in_err-name-2.ensures other) refl)

pub returns-in_err-name-2-clause-shorter : goal.returns-in_err-name-2-clause-shorter
returns-in_err-name-2-clause-shorter c = on_err _ _ c.from_residual-in_err-name-2.ensures.0

pub returns-clause-reads : goal.returns-clause-reads
returns-clause-reads c = rw (delete_is (items c.args.tokens.now), c.in_ok-expect.ensures.reads, c.in_ok-name.ensures.reads, c.deletion.ensures) (beside_reads deletion _ _ _ _ _ _ c.deleted.ensures.reads c.in_ok-name-2.ensures)

pub returns-clause-shorter : goal.returns-clause-shorter
returns-clause-shorter c = lt_trans (beside_on _ _ _ c.deleted.ensures.shorter c.in_ok-name-2.ensures.1) (lt_trans c.in_ok-name.ensures.shorter c.in_ok-expect.ensures.shorter)
