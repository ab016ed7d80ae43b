use Rattle.actor_plan.proofs.AgendaFacts.{agenda_holds}
use Rattle.actor_plan.proofs.OnlyAgenda.{only}
use Rattle.actor_plan.proofs.laws.agendas_are_one.Goals as goal

pub returns-clause-is : goal.returns-clause-is
returns-clause-is c = λ r attached cpu valid turn lt. agenda_holds r attached cpu valid turn lt

pub returns-clause-only : goal.returns-clause-only
returns-clause-only c = λ ticks events one other is also. only ticks events one other is also
