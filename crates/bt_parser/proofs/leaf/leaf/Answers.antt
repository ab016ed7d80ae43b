use Rattle.std.proofs.Common.{refl}
use Rattle.bt_grammar.specs.Tokens.{items}
use Rattle.bt_parser.proofs.Mirrored.{leaf_is}
use Rattle.bt_parser.proofs.leaf.leaf.Goals as goal

pub returns-then-sees-clause-reads : goal.returns-then-sees-clause-reads
returns-then-sees-clause-reads c = rw (leaf_is (items c.args.tokens.now), ← c.if-sees.ensures.class) c.number.ensures.reads

pub returns-then-sees-2-clause-reads : goal.returns-then-sees-2-clause-reads
returns-then-sees-2-clause-reads c = rw (leaf_is (items c.args.tokens.now), ← c.if-sees.ensures.class, ← c.if-sees-2.ensures.class) c.text.ensures.reads

pub returns-then-sees-3-clause-reads : goal.returns-then-sees-3-clause-reads
returns-then-sees-3-clause-reads c = rw (leaf_is (items c.args.tokens.now), ← c.if-sees.ensures.class, ← c.if-sees-2.ensures.class, ← c.if-sees-3.ensures.class) c.field.ensures.reads

pub returns-then-sees-4-clause-reads : goal.returns-then-sees-4-clause-reads
returns-then-sees-4-clause-reads c = rw (leaf_is (items c.args.tokens.now), ← c.if-sees.ensures.class, ← c.if-sees-2.ensures.class, ← c.if-sees-3.ensures.class, ← c.if-sees-4.ensures.class) c.variable.ensures.reads

pub returns-clause-reads : goal.returns-clause-reads
returns-clause-reads c = rw (leaf_is (items c.args.tokens.now), ← c.if-sees.ensures.class, ← c.if-sees-2.ensures.class, ← c.if-sees-3.ensures.class, ← c.if-sees-4.ensures.class) c.builtin.ensures.reads

pub number-requires : goal.number-requires
number-requires c = c.if-sees.ensures.some refl

pub returns-then-sees-clause-shorter : goal.returns-then-sees-clause-shorter
returns-then-sees-clause-shorter c = c.number.ensures.shorter

pub returns-then-sees-2-clause-shorter : goal.returns-then-sees-2-clause-shorter
returns-then-sees-2-clause-shorter c = c.text.ensures.shorter

pub returns-then-sees-3-clause-shorter : goal.returns-then-sees-3-clause-shorter
returns-then-sees-3-clause-shorter c = c.field.ensures.shorter

pub returns-then-sees-4-clause-shorter : goal.returns-then-sees-4-clause-shorter
returns-then-sees-4-clause-shorter c = c.variable.ensures.shorter

pub returns-clause-shorter : goal.returns-clause-shorter
returns-clause-shorter c = c.builtin.ensures.shorter
