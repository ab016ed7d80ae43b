use Rattle.std.proofs.Common.{arith}
use Rattle.bt_grammar.specs.Tokens.{items}
use Rattle.top_jobs.proofs.Scripts.{attach_told, bodies_checked, bodies_of_tree, type_told, job_told, size_told, text_told}
use Rattle.top_jobs.proofs.TooLarge.{has_probe}
use Rattle.top_jobs.proofs.judge.script_job.Goals as goal

pub attach-requires-clause-probes : goal.attach-requires-clause-probes
attach-requires-clause-probes c =
    omega (arith, c.few_probes.ensures (items c.in-Ok.ensures.tree.tokens) c.in-Ok.tree c.in-Ok.ensures.tree.is)

pub returns-in-Err-attach-clause-fault : goal.returns-in-Err-attach-clause-fault
returns-in-Err-attach-clause-fault c =
    rw c.attach_refusal.ensures
    (attach_told _ _ c.in-Ok.tree c.in-Err-attach.error c.in-Ok.ensures.tree (rw c.as_slice-formats.ensures at c.in-Err-attach.ensures.fault))

pub check-requires : goal.check-requires
check-requires c =
    rw c.as_slice-formats.ensures
    (bodies_checked c.in-Ok.tree c.args.recording.formats c.in-Ok-attach.attached.bodies
    (c.bodies_are_there.ensures _ _ _ _ _ (rw c.as_slice-formats.ensures at c.in-Ok-attach.ensures.found)))

pub programs_for-requires : goal.programs_for-requires
programs_for-requires c =
    record {
      probes = has_probe c.in-Ok.tree c.args.recording.formats c.in-Ok-attach.attached c.in-Ok-check.typed
          (rw c.as_slice-formats.ensures at c.in-Ok-check.ensures.typed);
    }

pub returns-in-Ok-programs_for-clause-asks : goal.returns-in-Ok-programs_for-clause-asks
returns-in-Ok-programs_for-clause-asks c =
    job_told _ c.args.recording c.in-Ok.tree c.in-Ok-attach.attached c.in-Ok-check.typed c.in-Ok.ensures.tree
    (rw c.as_slice-formats.ensures at c.in-Ok-attach.ensures.allowed) (rw c.as_slice-formats.ensures at c.in-Ok-attach.ensures.found)
    (rw c.as_slice-formats.ensures at c.in-Ok-check.ensures.allowed) (rw c.as_slice-formats.ensures at c.in-Ok-check.ensures.typed)
    c.in-Ok-programs_for.programs c.in-Ok-programs_for.ensures.programs

pub returns-in-Err-programs_for-clause-fault : goal.returns-in-Err-programs_for-clause-fault
returns-in-Err-programs_for-clause-fault c =
    size_told _ c.args.recording c.in-Ok.tree c.in-Ok-attach.attached c.in-Ok-check.typed c.in-Ok.ensures.tree
    (rw c.as_slice-formats.ensures at c.in-Ok-attach.ensures.allowed) (rw c.as_slice-formats.ensures at c.in-Ok-attach.ensures.found)
    (rw c.as_slice-formats.ensures at c.in-Ok-check.ensures.allowed) (rw c.as_slice-formats.ensures at c.in-Ok-check.ensures.typed)
    c.in-Err-programs_for.refusal c.in-Err-programs_for.ensures.refused

pub returns-in-Err-check-clause-fault : goal.returns-in-Err-check-clause-fault
returns-in-Err-check-clause-fault c =
    rw c.type_refusal.ensures
    (type_told _ c.args.recording c.in-Ok.tree c.in-Ok-attach.attached.bodies c.in-Err-check.error c.in-Ok.ensures.tree
    (rw c.as_slice-formats.ensures at c.in-Ok-attach.ensures.allowed)
    (bodies_of_tree c.in-Ok.tree c.args.recording c.in-Ok-attach.attached (rw c.as_slice-formats.ensures at c.in-Ok-attach.ensures.found))
    (rw c.as_slice-formats.ensures at c.in-Err-check.ensures.fault))

pub returns-in-Err-clause-fault : goal.returns-in-Err-clause-fault
returns-in-Err-clause-fault c = text_told c.args.script.now c.args.recording c.in-Err.refusal c.in-Err.ensures.fault
