use Rattle.std.proofs.Common.{ap}
use Rattle.script_programs.specs.Sizes.{first_size_fault}
use Rattle.typed_tree.specs.declared.script.Typed.{Typed}
use Rattle.job_laws.proofs.Typings.{scripts_same}
use Rattle.top_jobs.proofs.laws.scripts_have_one_size.Goals as goal

pub returns : goal.returns
returns c = λ script formats bodies one other f g. ap (λ (t : Typed). first_size_fault 0 t.bodies) (scripts_same script formats bodies one other f g)
