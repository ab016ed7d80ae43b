use Rattle.std.proofs.Common.{refl, rules}
use Rattle.bt_grammar.specs.Tokens.{items}
use Rattle.bt_parser.proofs.Mirrored.{on_err, refused_reads, number_read}
use Rattle.bt_parser.proofs.leaf.number.Goals as goal

pub returns-in_err-number-clause-reads : goal.returns-in_err-number-clause-reads
returns-in_err-number-clause-reads c =
    refused_reads _ _ _ _ c.from_residual.ensures.1 (λ other. rw (number_read (items c.args.tokens.now), c.in_err-number.ensures.reads other) refl)

pub returns-in_err-number-clause-shorter : goal.returns-in_err-number-clause-shorter
returns-in_err-number-clause-shorter c = on_err _ _ c.from_residual.ensures.0

pub returns-clause-reads : goal.returns-clause-reads
returns-clause-reads c = rw (number_read (items c.args.tokens.now), c.in_ok-number.ensures.reads, c.place-place.ensures) (search rules)

pub returns-clause-shorter : goal.returns-clause-shorter
returns-clause-shorter c = c.in_ok-number.ensures.shorter
