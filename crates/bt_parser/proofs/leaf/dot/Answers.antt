use Rattle.std.proofs.Common.{refl}
use Rattle.bt_grammar.specs.Tokens.{items}
use Rattle.bt_parser.proofs.Mirrored.{dot_is}
use Rattle.bt_parser.proofs.leaf.dot.Goals as goal

pub returns-then-sees-clause-reads : goal.returns-then-sees-clause-reads
returns-then-sees-clause-reads c = rw (dot_is (items c.args.tokens.now), ← c.if-sees.ensures.class, ← c.skip.ensures.items, ← c.skip.ensures.place) refl

pub returns-clause-reads : goal.returns-clause-reads
returns-clause-reads c = rw (dot_is (items c.args.tokens.now), ← c.if-sees.ensures.class) c.expect.ensures.reads

pub skip-requires : goal.skip-requires
skip-requires c = c.if-sees.ensures.some refl

pub returns-then-sees-clause-shorter : goal.returns-then-sees-clause-shorter
returns-then-sees-clause-shorter c = c.skip.ensures.shorter
