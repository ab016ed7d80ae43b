use Rattle.std.proofs.Common.{[], refl}
use Rattle.bt_grammar.specs.Tokens.{items}
use Rattle.bt_parser.proofs.Mirrored.{values_turns, shorter_on, no_longer_on}
use Rattle.bt_parser.proofs.call.format_values.Goals as goal

pub returns-then-not-sees-clause-reads : goal.returns-then-not-sees-clause-reads
returns-then-not-sees-clause-reads c = rw (values_turns [] (items c.args.tokens.now), ← c.if-not-sees.ensures.class, c.new-none.ensures) refl

pub returns-clause-reads : goal.returns-clause-reads
returns-clause-reads c =
    let v = rw c.new-none.ensures at c.values.ensures.reads in rw (
      values_turns [] (items c.args.tokens.now),
      ← c.if-not-sees.ensures.class,
      ← c.skip.ensures.items,
    ) v

pub skip-requires : goal.skip-requires
skip-requires c = c.if-not-sees.ensures.some refl

pub returns-clause-no_longer : goal.returns-clause-no_longer
returns-clause-no_longer c = no_longer_on _ _ _ (shorter_on _ _ _ _ c.values.ensures.shorter c.skip.ensures.shorter)
