use Rattle.step_list.specs.Lists.{steps_in}
use Rattle.run_output.specs.Jobs.{world_for}
use Rattle.bt_run.proofs.run.run_serial.Given as goal

abbrev pub ghost-output_of : goal.ghost-output_of
ghost-output_of a = record { world = world_for a.job.now; steps = steps_in a.ran.now.made.value }
