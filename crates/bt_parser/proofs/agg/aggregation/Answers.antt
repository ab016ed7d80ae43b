use Rattle.bt_grammar.specs.Tokens.{items}
use Rattle.bt_parser.proofs.Stated.{aggregation_is}
use Rattle.bt_parser.proofs.agg.aggregation.Goals as goal

pub returns-then-sees-clause-reads : goal.returns-then-sees-clause-reads
returns-then-sees-clause-reads c = rw (aggregation_is (items c.args.tokens.now), ← c.if-sees.ensures.class) c.count.ensures.reads

pub returns-then-sees-2-clause-reads : goal.returns-then-sees-2-clause-reads
returns-then-sees-2-clause-reads c = rw (aggregation_is (items c.args.tokens.now), ← c.if-sees.ensures.class, ← c.if-sees-2.ensures.class) c.lhist.ensures.reads

pub returns-clause-reads : goal.returns-clause-reads
returns-clause-reads c = rw (aggregation_is (items c.args.tokens.now), ← c.if-sees.ensures.class, ← c.if-sees-2.ensures.class) c.gather.ensures.reads

pub returns-then-sees-clause-shorter : goal.returns-then-sees-clause-shorter
returns-then-sees-clause-shorter c = c.count.ensures.shorter

pub returns-then-sees-2-clause-shorter : goal.returns-then-sees-2-clause-shorter
returns-then-sees-2-clause-shorter c = c.lhist.ensures.shorter

pub returns-clause-shorter : goal.returns-clause-shorter
returns-clause-shorter c = c.gather.ensures.shorter
