use Rattle.std.proofs.Common.{refl}
use Rattle.bt_parser.proofs.leaf.builtin.Goals as goal

pub skip-place-requires : goal.skip-place-requires
skip-place-requires c = c.in-Some.ensures.some refl

pub returns-clause-shorter : goal.returns-clause-shorter
returns-clause-shorter c = c.skip-place.ensures.shorter
