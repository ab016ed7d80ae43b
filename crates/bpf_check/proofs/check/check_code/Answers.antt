use Rattle.std.proofs.Common.{ap}
use Rattle.std.specs.Prelude.{Err}
use Rattle.bpf_check.specs.declared.check.CodeFault.{CodeFault}
use Rattle.bpf_check.proofs.Answering.{judged, faulted, only_answer}
use Rattle.bpf_check.proofs.check.check_code.Goals as goal

pub returns-in-Ok-clause-answer : goal.returns-in-Ok-clause-answer
returns-in-Ok-clause-answer c = judged _ _ _ _ _ c.as_slice.ensures.value c.in-Ok.ensures.code c.judge.ensures

pub returns-in-Ok-clause-only : goal.returns-in-Ok-clause-only
returns-in-Ok-clause-only c = λ answer is. only_answer _ _ _ answer (λ i. (c.type_inv.code i).fits) (judged _ _ _ _ _ c.as_slice.ensures.value c.in-Ok.ensures.code c.judge.ensures) is

pub returns-in-Err-clause-answer : goal.returns-in-Err-clause-answer
returns-in-Err-clause-answer c ne = faulted _ _ _ _ c.refused.ensures c.in-Err.ensures.fault (λ same. ne (ap (λ (x : CodeFault). Err x) same))

pub returns-in-Err-clause-only : goal.returns-in-Err-clause-only
returns-in-Err-clause-only c = λ answer is. only_answer _ _ _ answer (λ i. (c.type_inv.code i).fits)
    (λ ne. faulted _ _ _ _ c.refused.ensures c.in-Err.ensures.fault (λ same. ne (ap (λ (x : CodeFault). Err x) same))) is
