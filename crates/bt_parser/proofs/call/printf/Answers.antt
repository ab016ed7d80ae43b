use Rattle.bt_ast.specs.declared.stmt.StmtKind.TheVariants as stmts
use Rattle.bt_parser.proofs.Added.{beside_on, beside_reads, refused_beside}
use Rattle.std.proofs.Common.{refl}
use Rattle.bt_grammar.specs.Tokens.{items}
use Rattle.bt_parser.proofs.Mirrored.{on_err, refused_reads}
use Rattle.bt_parser.proofs.Stated.{printf_is}
use Rattle.std.proofs.Math.Nat.{lt_trans}
use Rattle.bt_parser.proofs.call.printf.Goals as goal

pub returns-in_err-expect-clause-reads : goal.returns-in_err-expect-clause-reads
returns-in_err-expect-clause-reads c = refused_reads _ _ _ _ c.from_residual.ensures.1 (λ other. rw (printf_is (items c.args.tokens.now), c.in_err-expect.ensures.reads other) refl)

pub returns-in_err-expect-clause-shorter : goal.returns-in_err-expect-clause-shorter
returns-in_err-expect-clause-shorter c = on_err _ _ c.from_residual.ensures.0

pub returns-in_err-bytes-clause-reads : goal.returns-in_err-bytes-clause-reads
returns-in_err-bytes-clause-reads c = refused_reads _ _ _ _ c.from_residual-in_err-bytes.ensures.1 (λ other. rw (printf_is (items c.args.tokens.now), c.in_ok-expect.ensures.reads, c.in_err-bytes.ensures.reads other) refl)

pub returns-in_err-bytes-clause-shorter : goal.returns-in_err-bytes-clause-shorter
returns-in_err-bytes-clause-shorter c = on_err _ _ c.from_residual-in_err-bytes.ensures.0

pub returns-in_err-bytes-2-clause-reads : goal.returns-in_err-bytes-2-clause-reads
returns-in_err-bytes-2-clause-reads c = refused_reads _ _ _ _ c.from_residual-in_err-bytes-2.ensures.1 (λ other. rw (printf_is (items c.args.tokens.now), c.in_ok-expect.ensures.reads, c.in_ok-bytes.ensures.reads, refused_beside _ _ _ _ c.closed_values.ensures.reads c.in_err-bytes-2.ensures other) refl)

pub returns-in_err-bytes-2-clause-shorter : goal.returns-in_err-bytes-2-clause-shorter
returns-in_err-bytes-2-clause-shorter c = on_err _ _ c.from_residual-in_err-bytes-2.ensures.0

pub returns-clause-reads : goal.returns-clause-reads
returns-clause-reads c = rw (printf_is (items c.args.tokens.now), c.in_ok-expect.ensures.reads, c.in_ok-bytes.ensures.reads) (beside_reads (λ bytes values. stmts.Printf bytes c.in_ok-bytes.field-0.place values) _ _ _ _ _ _ c.closed_values.ensures.reads c.in_ok-bytes-2.ensures)

pub returns-clause-shorter : goal.returns-clause-shorter
returns-clause-shorter c = lt_trans (beside_on _ _ _ c.closed_values.ensures.shorter c.in_ok-bytes-2.ensures.1) (lt_trans c.in_ok-bytes.ensures.shorter c.in_ok-expect.ensures.shorter)
