use Rattle.bt_parser.proofs.WordKinds.{point_kinds}
use Rattle.bt_parser.proofs.point.point_of.Goals as goal

pub unreachable-requires : goal.unreachable-requires
unreachable-requires c = point_kinds c.args.class c.args.kind.now c.requires.class c.requires.point c.in_default.not-BeginWord c.in_default.not-EndWord c.in_default-kind.not-Attach
