use Rattle.std.proofs.Common.{sym, subst}
use Rattle.std.specs.List.{AllByRecursion}
use Rattle.code_runs.specs.Coding.{CanRunCode}
use Rattle.code_runs.specs.Kept.{KeepBodies}
use Rattle.code_runs.specs.Programs.{AreCodesOf}
use Rattle.code_runs.proofs.ProgramCodes.{are_all, are_codes, can_run, each_short, each_spelt, keep_bodies, one_more, the_codes}
use Rattle.code_runs.proofs.codes.codes_of.Goals as goal

pub code_of-requires : goal.code_of-requires
code_of-requires c = record {
  short = each_short c.requires.0 c.args.programs.now c.requires.1 c.loop-program.program-index c.program-item.result c.loop-program-test.true c.program-item.is;
  spelt = each_spelt c.requires.0 c.args.programs.now c.requires.1 c.loop-program.program-index c.program-item.result c.loop-program-test.true c.program-item.is;
}

pub loop-program-preserved : goal.loop-program-preserved
loop-program-preserved c = λ others are.
    one_more c.args.programs.now others are c.loop-program.program-index c.loop-program.codes (c.loop-program.invariant others are) c.program-item.result
    c.in_ok-code.code c.push.new.self c.loop-program-test.true c.program-item.is c.in_ok-code.ensures c.in_ok-push.ensures.ok

pub returns-clause-only : goal.returns-clause-only
returns-clause-only c = λ others are.
    are_all c.args.programs.now others are c.loop-program.program-index c.loop-program.codes (c.loop-program.invariant others are) c.loop-program-test.false

pub returns-clause-codes : goal.returns-clause-codes
returns-clause-codes c =
    let are = are_codes c.requires.0 c.args.programs.now c.requires.1 in let all = the_codes c.requires.0 c.args.programs.now c.requires.1 in
    subst (AreCodesOf c.args.programs.now) (sym (are_all c.args.programs.now all are c.loop-program.program-index c.loop-program.codes (c.loop-program.invariant all are) c.loop-program-test.false)) are

pub returns-clause-keep : goal.returns-clause-keep
returns-clause-keep c = λ script keep.
    let are = are_codes script c.args.programs.now keep in let all = the_codes script c.args.programs.now keep in
    subst (KeepBodies script) (sym (are_all c.args.programs.now all are c.loop-program.program-index c.loop-program.codes (c.loop-program.invariant all are) c.loop-program-test.false))
    (keep_bodies script c.args.programs.now keep)

pub returns-clause-can_run : goal.returns-clause-can_run
returns-clause-can_run c =
    let are = are_codes c.requires.0 c.args.programs.now c.requires.1 in let all = the_codes c.requires.0 c.args.programs.now c.requires.1 in
    subst (AllByRecursion CanRunCode) (sym (are_all c.args.programs.now all are c.loop-program.program-index c.loop-program.codes (c.loop-program.invariant all are) c.loop-program-test.false))
    (can_run c.requires.0 c.args.programs.now c.requires.1)
