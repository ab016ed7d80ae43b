use Rattle.std.proofs.Common.{[]}
use Rattle.bt_grammar.specs.declared.class.Class.TheVariants.{CloseBracket, CloseParen}
use Rattle.bt_grammar.specs.Reading.{Done, and_then, read, reads}
use Rattle.bt_grammar.specs.Rules.{mark}
use Rattle.bt_grammar.specs.Tokens.{items}
use Rattle.bt_parser.specs.Mirror.{values_behind}
use Rattle.bt_parser.proofs.Added.{behind_then}
use Rattle.bt_parser.proofs.Mirrored.{no_longer_on}
use Rattle.bt_parser.proofs.call.closed_keys.Goals as goal

pub returns-clause-reads : goal.returns-clause-reads
returns-clause-reads c =
    let v = rw c.new.ensures at c.values-keys.ensures.reads in rw
    (behind_then CloseBracket (values_behind [] (items c.args.tokens.now)) (λ keys r. and_then (read reads (mark CloseParen) r) (λ _ r1. Done keys r1)))
    (c.until.ensures.reads _ (c.until-keys.ensures.reads _ v))

pub returns-clause-shorter : goal.returns-clause-shorter
returns-clause-shorter c = c.until.ensures.shorter _ (no_longer_on _ _ _ (c.until-keys.ensures.shorter _ (no_longer_on _ _ _ c.values-keys.ensures.shorter)))
