use Rattle.std.proofs.Common.{sym, subst}
use Rattle.agg_core.specs.Answers.{back, shared_change, last_given}
use Rattle.step_objects.specs.Tables.{Stands}
use Rattle.step_objects.proofs.BackLaws.{back-more}
use Rattle.step_objects.proofs.shared.SharedPartSeqObject.apply.Goals as goal

pub returns-clause-taken : goal.returns-clause-taken
returns-clause-taken c before s =
    subst (Stands (last_given c.args.self.now.of.decl.kind) c.change.new.table) (sym (back-more shared_change before c.args.op.now))
    (c.in_ok-change.ensures.taken (back shared_change before) s)
