use Rattle.std.proofs.Common.{◌<◌, sym, subst}
use Rattle.bt_core.specs.Ports.{CanStep}
use Rattle.actor_plan.proofs.AskLaws.{program_asks}
use Rattle.actor_plan.proofs.laws.programs_are_admitted.Goals as goal

pub returns : goal.returns
returns c = λ setting plan exits r attached valid bodies ticks runs.
    program_asks (CanStep setting) setting.maps plan r attached valid bodies tt (λ tick within. subst (λ n. tick < n) (sym ticks) within) (λ number count. tt) runs exits
