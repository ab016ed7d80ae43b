use Rattle.account_check.proofs.OneAnswer.{one_answer}
use Rattle.account_check.proofs.verify.verify.Goals as goal

pub returns-clause-only : goal.returns-clause-only
returns-clause-only c = λ other answer some.
    one_answer c.args.script.now c.args.attached.now c.args.recording.now c.args.account.now c.requires.job
    (λ actor. c.programs_make_such_calls.ensures c.args.script.now c.args.attached.now c.args.recording.now c.requires.job actor) c.check.result other c.check.ensures answer some
