use Rattle.std.proofs.Common.{◌∙◌, ap, length}
use Rattle.ir_code.specs.declared.instr.Instr.TheVariants.{Cut}
use Rattle.bt_lower.specs.declared.code.Code.{Code}
use Rattle.bt_lower.specs.Code.{closed, pushed}
use Rattle.bt_lower.proofs.stmt.cut_block.Goals as goal

pub returns-clause-made : goal.returns-clause-made
returns-clause-made c =
    c.in_ok-number.ensures.closed ∙ ap closed (c.in_ok-push.ensures ∙ ap (pushed (Cut c.args.line)) c.in_ok-begin.ensures)

pub returns-clause-number : goal.returns-clause-number
returns-clause-number c =
    c.in_ok-number.ensures.number ∙ ap (λ (k : Code). length k.blocks) (c.in_ok-push.ensures ∙ ap (pushed (Cut c.args.line)) c.in_ok-begin.ensures)
