use Rattle.std.proofs.Common.{refl}
use Rattle.bt_grammar.specs.Tokens.{items}
use Rattle.bt_parser.proofs.Mirrored.{on_err, refused_reads, text_is}
use Rattle.bt_parser.proofs.leaf.text.Goals as goal

pub returns-in_err-bytes-clause-reads : goal.returns-in_err-bytes-clause-reads
returns-in_err-bytes-clause-reads c =
    refused_reads _ _ _ _ c.from_residual.ensures.1 (λ other. rw (text_is (items c.args.tokens.now), c.in_err-bytes.ensures.reads other) refl)

pub returns-in_err-bytes-clause-shorter : goal.returns-in_err-bytes-clause-shorter
returns-in_err-bytes-clause-shorter c = on_err _ _ c.from_residual.ensures.0

pub returns-clause-reads : goal.returns-clause-reads
returns-clause-reads c = rw (text_is (items c.args.tokens.now), c.in_ok-bytes.ensures.reads) refl

pub returns-clause-shorter : goal.returns-clause-shorter
returns-clause-shorter c = c.in_ok-bytes.ensures.shorter
