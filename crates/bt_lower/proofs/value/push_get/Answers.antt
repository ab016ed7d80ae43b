use Rattle.std.proofs.Common.{ap, ◌∙◌}
use Rattle.ir_code.specs.declared.instr.Instr.TheVariants as i
use Rattle.bt_lower.specs.Code.{pushed}
use Rattle.bt_lower.proofs.Arms.{at-ok}
use Rattle.bt_lower.proofs.value.push_get.Goals as goal

pub returns : goal.returns
returns c = at-ok c.push.result c.push.ensures (λ made. made ∙ ap (λ key. pushed (i.Get c.args.map key c.args.shape) c.args.code.now) c.in_ok-key.ensures)
