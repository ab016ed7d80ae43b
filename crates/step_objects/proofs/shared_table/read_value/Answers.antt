use Rattle.std.proofs.Common.{ap, ◌∙◌}
use Rattle.bt_core.specs.declared.step.Reply.TheVariants as replies
use Rattle.agg_core.specs.Answers.{last_given}
use Rattle.step_objects.proofs.TableLaws.{read-some, read-none}
use Rattle.step_objects.proofs.shared_table.read_value.Goals as goal

pub returns-in-Some : goal.returns-in-Some
returns-in-Some c changes s =
    ap (λ v. replies.Value v)
    (c.copy.ensures ∙ read-some (last_given c.args.kind) changes c.args.table.now s c.args.key.now c.in-Some.value.now c.in-Some.ensures)

pub returns-in-None : goal.returns-in-None
returns-in-None c changes s =
    ap (λ v. replies.Value v) (c.zero_of.ensures ∙ read-none (last_given c.args.kind) changes c.args.table.now s c.args.key.now c.in-None.ensures)
