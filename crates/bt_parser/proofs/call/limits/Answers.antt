use Rattle.std.proofs.Common.{rules}
use Rattle.bt_grammar.specs.Tokens.{items}
use Rattle.bt_parser.proofs.Stated.{limits_is}
use Rattle.std.proofs.Common.{refl}
use Rattle.bt_parser.proofs.Mirrored.{refused_reads}
use Rattle.bt_parser.proofs.call.limits.Goals as goal

pub returns-clause-reads : goal.returns-clause-reads
returns-clause-reads c = rw (limits_is (items c.args.tokens.now)) (search rules)

pub returns-in_err-top-clause-reads : goal.returns-in_err-top-clause-reads
returns-in_err-top-clause-reads c = refused_reads _ _ _ _ c.from_residual.ensures.1 (λ other. rw (limits_is (items c.args.tokens.now), c.in_err-top.ensures.reads other) refl)

pub returns-in_err-div-clause-reads : goal.returns-in_err-div-clause-reads
returns-in_err-div-clause-reads c = refused_reads _ _ _ _ c.from_residual-in_err-div.ensures.1 (λ other. rw (limits_is (items c.args.tokens.now), c.in_ok-top.ensures.reads, c.in-Some.is, c.in_err-div.ensures.reads other) refl)

pub returns-in_default-clause-no_longer : goal.returns-in_default-clause-no_longer
returns-in_default-clause-no_longer c = c.in_ok-top.ensures.no_longer
