use Rattle.std.proofs.Common.{ap, sym, ◌∙◌}
use Rattle.bt_core.specs.declared.item.Item.TheVariants.{Printf}
use Rattle.bt_core.specs.declared.step.Op.TheVariants.{Emit}
use Rattle.step_list.proofs.PlaceLemmas.{print_kept}
use Rattle.step_list.proofs.marking.keep_print.Goals as goal

pub returns-in-Ok-clause-kept : goal.returns-in-Ok-clause-kept
returns-in-Ok-clause-kept c =
    let at = c.in-Printf in
    print_kept c.args.op.now c.args.reply.now c.args.prints.now c.push.new.self c.len-print.result (Printf at.format c.as_slice.result.now)
    (c.in-Emit.is ∙ ap Emit (at.is ∙ ap (λ values. Printf at.format values) (sym c.as_slice.ensures))) c.in-Done.is c.len-print.ensures c.in-Ok.ensures.ok
