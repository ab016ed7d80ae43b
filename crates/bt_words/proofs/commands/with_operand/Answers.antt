use Rattle.std.proofs.Common.{◌≡◌, ◌∙◌, ap}
use Rattle.std.proofs.lemmas.Result.{IfOk-at_ok}
use Rattle.clap.specs.Words.{App, app_of, rule_of, with_rule}
use Rattle.bt_words.proofs.ClapGets.{grown}
use Rattle.bt_words.proofs.commands.with_operand.Goals as goal

pub returns-in-Ok : goal.returns-in-Ok
returns-in-Ok c app is =
    grown c.arg.result c.arg.ensures
    (λ all adds. adds.shape c.operand.ensures.1 ∙ ap (λ (a : App). with_rule a (rule_of c.operand.result)) (IfOk-at_ok (λ k. app_of k ≡ app) c.in-Ok.is is)
    ∙ ap (with_rule app) c.operand.ensures.0)

pub returns-in-Err : goal.returns-in-Err
returns-in-Err c app is = tt
