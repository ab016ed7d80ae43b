use Rattle.std.proofs.Common.{◌+◌, List, refl, sym, ap, subst}
use Rattle.std.specs.List.{AllByRecursion}
use Rattle.std.specs.List.Sorted.{IsPermutation}
use Rattle.bpf_insn.specs.declared.insn.Insn.{Insn}
use Rattle.bt_core.specs.declared.step.Step.{Step}
use Rattle.step_list.specs.Lists.{steps_in}
use Rattle.code_runs.specs.Coding.{CanRunCode, coding}
use Rattle.code_runs.specs.Programs.{AreCodesOf, KeepScript}
use Rattle.run_output.specs.Jobs.{cpus_in}
use Rattle.bt_run.specs.Made.{IsMade}
use Rattle.run_output.proofs.CodeLemmas.{few_slots, jobs_run}
use Rattle.bt_run.proofs.RunLemmas.{has_run, one_list}
use Rattle.bt_run.proofs.run.make_run.Goals as goal

pub codes_of-requires : goal.codes_of-requires
codes_of-requires c = (c.args.job.now.typed, subst (KeepScript c.args.job.now.typed) (sym c.as_slice.ensures) c.requires.programs)

pub make_steps-requires-clause-can : goal.make_steps-requires-clause-can
make_steps-requires-clause-can c = jobs_run c.args.job.now c.as_slice-2.result.now c.requires.job
    (λ actor. c.codes_take_few.ensures c.args.job.now.typed c.as_slice-2.result.now (cpus_in c.args.job.now + 1) actor (few_slots c.as_slice-2.result.now (subst (AllByRecursion CanRunCode) (sym c.as_slice-2.ensures) c.in_ok-codes.ensures.can_run)))

pub make_steps-requires-clause-can_run : goal.make_steps-requires-clause-can_run
make_steps-requires-clause-can_run c = subst (AllByRecursion CanRunCode) (sym c.as_slice-2.ensures) c.in_ok-codes.ensures.can_run

pub returns : goal.returns
returns c =
    let job = c.args.job.now in let keep = c.in_ok-codes.ensures.keep job.typed (subst (KeepScript job.typed) (sym c.as_slice.ensures) c.requires.programs) in
    let steps = steps_in c.in_ok-objects-2.steps in
    has_run job c.requires.job c.in_ok-codes.codes c.in_ok-objects-2.objects steps c.in_ok-steps.steps c.in_ok-objects-2.instructions
    (subst (λ (l : List (List Insn)). IsMade job (coding job.typed l (cpus_in job + 1)) c.in_ok-objects-2.objects steps c.in_ok-objects-2.instructions) c.as_slice-2.ensures c.in_ok-objects-2.ensures)
    (subst (λ (l : List Step). IsPermutation l c.in_ok-steps.steps) (one_list c.in_ok-objects-2.steps c.new-lists.result.items c.push.new.self.items c.new-lists.ensures.items c.in_ok-push.ensures.items) c.in_ok-steps.ensures.steps) c.in_ok-steps.ensures.order c.replies_are_held.ensures
    (c.code_means_walks.ensures.replayed job.typed c.in_ok-codes.codes job.attached job.recording c.in_ok-steps.steps c.requires.job c.job_is_held.ensures keep c.replies_are_held.ensures)
    (c.code_means_walks.ensures.serial job.typed c.in_ok-codes.codes job.attached job.recording c.requires.job c.job_is_held.ensures keep)
    _ refl (ap steps_in c.of-made.ensures) refl refl
    (λ others are. c.in_ok-codes.ensures.only others (subst (λ ps. AreCodesOf ps others) (sym c.as_slice.ensures) are))
