use Rattle.worker_tests.proofs.Scripts.{bodies_checked}
use Rattle.worker_tests.proofs.script.new_scripted.Goals as goal

pub check-requires : goal.check-requires
check-requires c = bodies_checked c.in_ok-tree.tree c.as_slice-formats.result.now c.in_ok-attached.attached.bodies
    (c.bodies_are_there.ensures c.in_ok-tree.tree c.as_slice-formats.result.now c.in_ok-recording.recording.start c.in_ok-recording.recording.end c.in_ok-attached.attached c.in_ok-attached.ensures.found)

pub returns : goal.returns
returns c = c.accepted_scripts_are_jobs.ensures c.in_ok-tree.tree c.in_ok-typed.typed c.in_ok-attached.attached c.in_ok-recording.recording c.in_ok-recording.ensures.valid
    (rw c.as_slice-formats.ensures at c.in_ok-attached.ensures.allowed) (rw c.as_slice-formats.ensures at c.in_ok-attached.ensures.found) (rw c.as_slice-formats.ensures at c.in_ok-typed.ensures.typed)
