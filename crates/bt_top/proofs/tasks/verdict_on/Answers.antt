use Rattle.std.proofs.Common.{◌≤◌, List, length, sym, ap, subst, ◌∙◌}
use Rattle.std.specs.List.{AllByRecursion}
use Rattle.bpf_encode.specs.declared.program.Program.{Program}
use Rattle.bt_ast.specs.declared.attached.BodyId.{BodyId}
use Rattle.top_jobs.specs.Doing.{CanBeListed}
use Rattle.top_jobs.proofs.Listed.{can_be_listed}
use Rattle.bt_top.proofs.tasks.verdict_on.Goals as goal

pub vet_programs-requires-clause-can_be_listed : goal.vet_programs-requires-clause-can_be_listed
vet_programs-requires-clause-can_be_listed c =
    subst (λ (programs : List Program). AllByRecursion CanBeListed programs) (sym c.as_slice-programs.ensures)
    (can_be_listed c.args.job.now.typed c.args.job.now.programs c.requires.programs)

pub vet_programs-requires-clause-as_many : goal.vet_programs-requires-clause-as_many
vet_programs-requires-clause-as_many c = ap (λ (l : List Program). length l) c.as_slice-programs.ensures ∙ c.requires.programs.as_many

pub vet_programs-requires-clause-named : goal.vet_programs-requires-clause-named
vet_programs-requires-clause-named c =
    subst (λ (l : List BodyId). length c.args.job.now.typed.bodies ≤ length l) (sym c.as_slice-ids.ensures) c.requires.named
