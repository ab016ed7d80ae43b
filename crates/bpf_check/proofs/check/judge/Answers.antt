use Rattle.std.proofs.Common.{◌<◌, ◌∙◌, sym, length, arith}
use Rattle.std.proofs.lemmas.Bool.{eqb-true}
use Rattle.std.proofs.lemmas.Bool.Decides.{nat_tests}
use Rattle.bpf_check.specs.Sheet.{sheet_of}
use Rattle.bpf_check.proofs.Answering.{empty_open, starts}
use Rattle.bpf_check.proofs.check.judge.Goals as goal

pub returns-then-is_empty : goal.returns-then-is_empty
returns-then-is_empty c =
    empty_open (sheet_of c.args.typed.now c.args.payload) c.args.code.now (eqb-true (length c.args.code.now) 0 (sym c.is_empty.ensures ∙ c.if-is_empty.true))

pub is_closed-requires-clause-start : goal.is_closed-requires-clause-start
is_closed-requires-clause-start c =
    let some : 0 < length c.args.code.now = grind (arith, nat_tests, c.if-is_empty.ensures) in
    starts (sheet_of c.args.typed.now c.args.payload) c.args.code.now c.as_mut_slice.result.now (c.as_mut_slice.ensures.value ∙ c.in-Ok.ensures) some
