use Rattle.std.proofs.Common.{◌^◌}
use Rattle.std.proofs.lemmas.Bool.{lt-ltb}
use Rattle.helper_abi.proofs.Callings.{range-true}
use Rattle.helper_abi.proofs.helpers.cut.Goals as goal

pub returns-clause-called : goal.returns-clause-called
returns-clause-called g c =
    range-true _ _ _ _ _ _ (lt-ltb c.args.line (2 ^ 32) c.if-line-ge4294967296.false) c.tell.ensures.called
