use Rattle.run_output.specs.Jobs.{world_for}
use Rattle.thread_run.proofs.run.run_threads.Given as goal

abbrev pub ghost-output_of : goal.ghost-output_of
ghost-output_of g a = record { world = world_for a.job.now; steps = a.steps.now }
