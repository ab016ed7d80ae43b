use Rattle.std.proofs.Common.{arith}
use Rattle.plan_tests.proofs.agendas.agenda_with.Goals as goal

pub new-agenda-requires-clause-known : goal.new-agenda-requires-clause-known
new-agenda-requires-clause-known c = let some = c.requires.some_cpus in omega (arith, some)
