use Rattle.worker_tests.proofs.Ready.{is_ready}
use Rattle.worker_tests.proofs.workers.new_task.Goals as goal

pub returns-clause-ready : goal.returns-clause-ready
returns-clause-ready g c = is_ready g.B.Bodies.plan c.args.world.now c.new-worker.result c.args.cpu c.args.bodies c.args.turns c.new.result
    c.new-worker.ensures.cpu c.new-worker.ensures.bodies c.new-worker.ensures.turns c.new-worker.ensures.trace c.new.ensures.actor c.new.ensures.empty.0
    c.requires.replay c.requires.known c.requires.plan c.requires.turns
