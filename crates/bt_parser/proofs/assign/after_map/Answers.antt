use Rattle.bt_grammar.specs.Tokens.{items}
use Rattle.bt_parser.proofs.Stated.{after_map_is}
use Rattle.std.proofs.Common.{refl}
use Rattle.bt_parser.proofs.Mirrored.{shorter_on}
use Rattle.bt_parser.proofs.assign.after_map.Goals as goal

pub returns-then-not-sees-clause-reads : goal.returns-then-not-sees-clause-reads
returns-then-not-sees-clause-reads c = rw (after_map_is c.args.map (items c.args.tokens.now), ← c.if-not-sees.ensures.class) c.update.ensures.reads

pub returns-then-begins_aggregation-clause-reads : goal.returns-then-begins_aggregation-clause-reads
returns-then-begins_aggregation-clause-reads c = rw (after_map_is c.args.map (items c.args.tokens.now), ← c.if-not-sees.ensures.class, ← c.skip.ensures.items, ← c.if-begins_aggregation.ensures) c.set_agg.ensures.reads

pub returns-clause-reads : goal.returns-clause-reads
returns-clause-reads c = rw (after_map_is c.args.map (items c.args.tokens.now), ← c.if-not-sees.ensures.class, ← c.skip.ensures.items, ← c.if-begins_aggregation.ensures) c.assign.ensures.reads

pub skip-requires : goal.skip-requires
skip-requires c = c.if-not-sees.ensures.some refl

pub returns-clause-shorter : goal.returns-clause-shorter
returns-clause-shorter c = shorter_on _ _ _ _ c.assign.ensures.shorter c.skip.ensures.shorter

pub returns-then-begins_aggregation-clause-shorter : goal.returns-then-begins_aggregation-clause-shorter
returns-then-begins_aggregation-clause-shorter c = shorter_on _ _ _ _ c.set_agg.ensures.shorter c.skip.ensures.shorter

pub returns-then-not-sees-clause-shorter : goal.returns-then-not-sees-clause-shorter
returns-then-not-sees-clause-shorter c = c.update.ensures.shorter
