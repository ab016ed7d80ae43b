use Rattle.std.proofs.Common.{refl}
use Rattle.bt_parser.proofs.leaf.map_value.Goals as goal

pub returns-in_default-clause-reads : goal.returns-in_default-clause-reads
returns-in_default-clause-reads c = rw (← c.in_default.ensures.class) refl

pub skip-requires : goal.skip-requires
skip-requires c = c.in-Some.ensures.some refl

pub returns-clause-reads : goal.returns-clause-reads
returns-clause-reads c = rw (← c.in-Some.ensures.class, ← c.skip.ensures.items) refl
