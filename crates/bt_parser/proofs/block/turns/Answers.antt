use Rattle.std.proofs.Common.{refl}
use Rattle.bt_grammar.specs.Tokens.{items}
use Rattle.bt_parser.proofs.Blocks.{turns_is}
use Rattle.bt_parser.proofs.Mirrored.{no_longer_on, on_err, refused_reads, shorter_on}
use Rattle.bt_parser.proofs.block.turns.Goals as goal

pub returns-in_err-expect-clause-reads : goal.returns-in_err-expect-clause-reads
returns-in_err-expect-clause-reads c = refused_reads _ _ _ _ c.from_residual.ensures.1 (λ other. rw (turns_is (items c.args.tokens.now), c.in_err-expect.ensures.reads other) refl)

pub returns-in_err-expect-clause-shorter : goal.returns-in_err-expect-clause-shorter
returns-in_err-expect-clause-shorter c = on_err _ _ c.from_residual.ensures.0

pub returns-clause-reads : goal.returns-clause-reads
returns-clause-reads c = rw (turns_is (items c.args.tokens.now), c.in_ok-expect.ensures.reads) (c.until.ensures.reads _ c.number-number.ensures.reads)

pub returns-clause-shorter : goal.returns-clause-shorter
returns-clause-shorter c = c.until.ensures.shorter _ (no_longer_on _ _ _ (shorter_on _ _ _ _ c.number-number.ensures.shorter c.in_ok-expect.ensures.shorter))
