use Rattle.std.proofs.Common.{refl}
use Rattle.bt_parser.proofs.expr.choose.Goals as goal

pub returns : goal.returns
returns c = rw (c.choose_kind-kind.ensures, c.in_ok-condition.ensures) refl
