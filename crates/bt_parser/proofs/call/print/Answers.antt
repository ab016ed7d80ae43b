use Rattle.bt_ast.specs.declared.stmt.StmtKind.TheVariants as stmts
use Rattle.bt_parser.proofs.Added.{beside_on, beside_reads, refused_beside}
use Rattle.std.proofs.Common.{refl}
use Rattle.bt_grammar.specs.Tokens.{items}
use Rattle.bt_parser.proofs.Mirrored.{on_err, refused_reads}
use Rattle.bt_parser.proofs.Stated.{print_is}
use Rattle.std.proofs.Math.Nat.{lt_trans}
use Rattle.bt_parser.proofs.call.print.Goals as goal

pub returns-in_err-expect-clause-reads : goal.returns-in_err-expect-clause-reads
returns-in_err-expect-clause-reads c = refused_reads _ _ _ _ c.from_residual.ensures.1 (λ other. rw (print_is (items c.args.tokens.now), c.in_err-expect.ensures.reads other) refl)

pub returns-in_err-expect-clause-shorter : goal.returns-in_err-expect-clause-shorter
returns-in_err-expect-clause-shorter c = on_err _ _ c.from_residual.ensures.0

pub returns-in_err-map-clause-reads : goal.returns-in_err-map-clause-reads
returns-in_err-map-clause-reads c = refused_reads _ _ _ _ c.from_residual-in_err-map.ensures.1 (λ other. rw (print_is (items c.args.tokens.now), c.in_ok-expect.ensures.reads, c.in_err-map.ensures.reads other) refl)

pub returns-in_err-map-clause-shorter : goal.returns-in_err-map-clause-shorter
returns-in_err-map-clause-shorter c = on_err _ _ c.from_residual-in_err-map.ensures.0

pub returns-in_err-map-2-clause-reads : goal.returns-in_err-map-2-clause-reads
returns-in_err-map-2-clause-reads c = refused_reads _ _ _ _ c.from_residual-in_err-map-2.ensures.1 (λ other. rw (print_is (items c.args.tokens.now), c.in_ok-expect.ensures.reads, c.in_ok-map.ensures.reads, refused_beside _ _ _ _ c.closed_limits.ensures.reads c.in_err-map-2.ensures other) refl)

pub returns-in_err-map-2-clause-shorter : goal.returns-in_err-map-2-clause-shorter
returns-in_err-map-2-clause-shorter c = on_err _ _ c.from_residual-in_err-map-2.ensures.0

pub returns-clause-reads : goal.returns-clause-reads
returns-clause-reads c = rw (print_is (items c.args.tokens.now), c.in_ok-expect.ensures.reads, c.in_ok-map.ensures.reads) (beside_reads (λ map limits. stmts.Print map limits.0 limits.1) _ _ _ _ _ _ c.closed_limits.ensures.reads c.in_ok-map-2.ensures)

pub returns-clause-shorter : goal.returns-clause-shorter
returns-clause-shorter c = lt_trans (beside_on _ _ _ c.closed_limits.ensures.shorter c.in_ok-map-2.ensures.1) (lt_trans c.in_ok-map.ensures.shorter c.in_ok-expect.ensures.shorter)
