use Rattle.std.proofs.Common.{List, sym, subst}
use Rattle.std.specs.List.{AllByRecursion}
use Rattle.bpf_encode.specs.declared.program.Program.{Program}
use Rattle.top_jobs.specs.Doing.{CanBeListed}
use Rattle.top_jobs.proofs.Listed.{can_be_listed}
use Rattle.bt_top.proofs.tasks.listed.Goals as goal

pub script_listing-requires : goal.script_listing-requires
script_listing-requires c =
    subst (λ (programs : List Program). AllByRecursion CanBeListed programs) (sym c.as_slice.ensures)
    (can_be_listed c.args.job.now.typed c.args.job.now.programs c.requires)
