use Rattle.std.proofs.Common.{sym}
use Rattle.step_list.proofs.marking.keep_emit.Goals as goal

pub returns-in-Some-clause-deed : goal.returns-in-Some-clause-deed
returns-in-Some-clause-deed c = λ keys. sym (c.in-Some.ensures.kept.1 c.args.actor)
