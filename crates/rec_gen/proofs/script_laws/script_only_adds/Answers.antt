use Rattle.rec_gen.proofs.Adding.{only_adds}
use Rattle.rec_gen.proofs.Few.{few}
use Rattle.rec_gen.proofs.OneTree.{typed_over, attached_over}
use Rattle.rec_gen.proofs.script_laws.script_only_adds.Goals as goal

pub returns-clause-only : goal.returns-clause-only
returns-clause-only c = λ seed count r typed made is. only_adds typed (typed_over seed count r made typed is)

pub returns-clause-few : goal.returns-clause-few
returns-clause-few c = λ seed count r attached typed made to is m who.
    let one = typed_over seed count r made typed is in few seed count r made typed one.body one.one one.is attached (attached_over r attached to) m who
