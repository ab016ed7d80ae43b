use Rattle.std.proofs.Common.{◌+◌, List, sym, ◌∙◌, subst, refl}
use Rattle.std.specs.List.{AllByRecursion}
use Rattle.bpf_insn.specs.declared.insn.Insn.{Insn}
use Rattle.bt_meaning.specs.Instructions.{instructions_of}
use Rattle.code_runs.specs.Coding.{CanRunCode, code_replay, coding}
use Rattle.code_runs.specs.Programs.{AreCodesOf, KeepScript}
use Rattle.run_output.specs.Jobs.{cpus_in}
use Rattle.run_output.proofs.CodeLemmas.{few_slots, jobs_run}
use Rattle.thread_run.specs.Made.{IsMade}
use Rattle.thread_run.proofs.Telling.{emit_own, run_counts, run_replayed}
use Rattle.thread_run.proofs.run.run_threads.Goals as goal

pub codes_of-requires : goal.codes_of-requires
codes_of-requires g c = (c.args.job.now.typed, subst (KeepScript c.args.job.now.typed) (sym c.as_slice.ensures) c.requires.programs)

pub make_steps-requires-clause-can : goal.make_steps-requires-clause-can
make_steps-requires-clause-can g c lifetimes bounds = jobs_run c.args.job.now c.as_slice-2.result.now c.requires.job
    (λ actor. c.codes_take_few.ensures c.args.job.now.typed c.as_slice-2.result.now (cpus_in c.args.job.now + 1) actor (few_slots c.as_slice-2.result.now (subst (AllByRecursion CanRunCode) (sym c.as_slice-2.ensures) c.in_ok-codes.ensures.can_run)))

pub make_steps-requires-clause-can_run : goal.make_steps-requires-clause-can_run
make_steps-requires-clause-can_run g c lifetimes bounds = subst (AllByRecursion CanRunCode) (sym c.as_slice-2.ensures) c.in_ok-codes.ensures.can_run

pub output_of-requires : goal.output_of-requires
output_of-requires g c = (
  (subst (λ (l : List (List Insn)). IsMade c.args.job.now (coding c.args.job.now.typed l (cpus_in c.args.job.now + 1)) c.in_ok-closed.closed c.in_ok-closed.steps c.in_ok-closed.instructions) c.as_slice-2.ensures c.in_ok-closed.ensures).closed_at,
  (
    refl,
    (
      refl,
      emit_own c.args.job.now c.requires.job c.in_ok-codes.codes c.in_ok-closed.closed c.in_ok-closed.steps c.in_ok-closed.instructions
          (subst (λ (l : List (List Insn)). IsMade c.args.job.now (coding c.args.job.now.typed l (cpus_in c.args.job.now + 1)) c.in_ok-closed.closed c.in_ok-closed.steps c.in_ok-closed.instructions) c.as_slice-2.ensures c.in_ok-closed.ensures)
          (c.code_means_walks.ensures.replayed c.args.job.now.typed c.in_ok-codes.codes c.args.job.now.attached c.args.job.now.recording c.in_ok-closed.steps c.requires.job c.job_is_held.ensures
          (c.in_ok-codes.ensures.keep c.args.job.now.typed (subst (KeepScript c.args.job.now.typed) (sym c.as_slice.ensures) c.requires.programs))
          c.replies_are_held.ensures),
    ),
  ),
)

pub returns-clause-replayed : goal.returns-clause-replayed
returns-clause-replayed g c =
    run_replayed c.args.job.now c.requires.job c.in_ok-codes.codes c.in_ok-closed.closed c.in_ok-closed.steps c.in_ok-closed.instructions
    (subst (λ (l : List (List Insn)). IsMade c.args.job.now (coding c.args.job.now.typed l (cpus_in c.args.job.now + 1)) c.in_ok-closed.closed c.in_ok-closed.steps c.in_ok-closed.instructions) c.as_slice-2.ensures c.in_ok-closed.ensures)
    (c.code_means_walks.ensures.replayed c.args.job.now.typed c.in_ok-codes.codes c.args.job.now.attached c.args.job.now.recording c.in_ok-closed.steps c.requires.job c.job_is_held.ensures
    (c.in_ok-codes.ensures.keep c.args.job.now.typed (subst (KeepScript c.args.job.now.typed) (sym c.as_slice.ensures) c.requires.programs))
    c.replies_are_held.ensures)

pub returns-clause-instructions : goal.returns-clause-instructions
returns-clause-instructions g c = λ others are.
    run_counts c.args.job.now c.requires.job c.in_ok-codes.codes c.in_ok-closed.closed c.in_ok-closed.steps c.in_ok-closed.instructions
    (subst (λ (l : List (List Insn)). IsMade c.args.job.now (coding c.args.job.now.typed l (cpus_in c.args.job.now + 1)) c.in_ok-closed.closed c.in_ok-closed.steps c.in_ok-closed.instructions) c.as_slice-2.ensures c.in_ok-closed.ensures)
    (c.code_means_walks.ensures.replayed c.args.job.now.typed c.in_ok-codes.codes c.args.job.now.attached c.args.job.now.recording c.in_ok-closed.steps c.requires.job c.job_is_held.ensures
    (c.in_ok-codes.ensures.keep c.args.job.now.typed (subst (KeepScript c.args.job.now.typed) (sym c.as_slice.ensures) c.requires.programs))
    c.replies_are_held.ensures)
    ∙ (λ i. instructions_of (code_replay c.args.job.now.typed (c.in_ok-codes.ensures.only others (subst (λ ps. AreCodesOf ps others) (sym c.as_slice.ensures) are) i) c.args.job.now.attached c.args.job.now.recording) c.in_ok-closed.steps)
