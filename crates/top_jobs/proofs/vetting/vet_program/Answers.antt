use Rattle.top_jobs.proofs.Passing.{answer_most, answer_passes, answer_refused, of_program}
use Rattle.top_jobs.proofs.vetting.vet_program.Goals as goal

pub returns-clause-most : goal.returns-clause-most
returns-clause-most c =
    let typed = c.args.typed.now in let body = c.args.body.now in let program = c.args.program.now in
    answer_most typed body program c.check_code.result
    (of_program typed body program c.least_length.result c.as_slice.result.now c.check_code.result c.least_length.ensures c.as_slice.ensures
    (record { holds = c.check_code.ensures.answer; only = c.check_code.ensures.only }))

pub returns-clause-passes : goal.returns-clause-passes
returns-clause-passes c =
    let typed = c.args.typed.now in let body = c.args.body.now in let program = c.args.program.now in
    answer_passes typed body program c.check_code.result
    (of_program typed body program c.least_length.result c.as_slice.result.now c.check_code.result c.least_length.ensures c.as_slice.ensures
    (record { holds = c.check_code.ensures.answer; only = c.check_code.ensures.only }))

pub returns-clause-refused : goal.returns-clause-refused
returns-clause-refused c =
    let typed = c.args.typed.now in let body = c.args.body.now in let program = c.args.program.now in
    answer_refused typed body program c.check_code.result
    (of_program typed body program c.least_length.result c.as_slice.result.now c.check_code.result c.least_length.ensures c.as_slice.ensures
    (record { holds = c.check_code.ensures.answer; only = c.check_code.ensures.only }))
