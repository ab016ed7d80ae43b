use Rattle.cpu_worker.specs.Worlds.{sets_in, AreTurnsOf}
use Rattle.cpu_worker.specs.Workers.{IsReadyWorker}
use Rattle.worker_tests.specs.declared.workers.Task.{Task}
use Rattle.worker_tests.proofs.Pairs.{each_of_two, first_taken, second_taken, two_pushed}
use Rattle.worker_tests.proofs.workers.run_two.Goals as goal

pub run_all-requires-clause-ready : goal.run_all-requires-clause-ready
run_all-requires-clause-ready g c κs within =
    let P : Task g.row.B.Denot g.row.G.Denot → Type 0 = λ t. IsReadyWorker g.B.Bodies.plan c.args.world.now t.worker in
    let both = two_pushed c.in_ok-tasks.tasks.items c.push_reserved.new.self.items c.push_reserved-2.new.self.items c.args.one c.args.other
    c.in_ok-tasks.ensures.items c.push_reserved.ensures.items c.push_reserved-2.ensures.items in
    each_of_two P c.args.one c.args.other c.requires.one c.requires.other c.push_reserved-2.new.self.items both

pub returns-clause-one : goal.returns-clause-one
returns-clause-one g c =
    let Q : Task g.row.B.Denot g.row.G.Denot → Task g.row.B.Denot g.row.G.Denot → Type 0 = λ s t. AreTurnsOf (sets_in c.args.world.now) s.worker.cpu t.worker.turns in
    let both = two_pushed c.in_ok-tasks.tasks.items c.push_reserved.new.self.items c.push_reserved-2.new.self.items c.args.one c.args.other
    c.in_ok-tasks.ensures.items c.push_reserved.ensures.items c.push_reserved-2.ensures.items in
    first_taken Q c.args.one c.args.other c.push_reserved-2.new.self.items c.run_all.new.tasks.items c.remove-other.new.self.items c.remove-one.result c.remove-other.result both
    c.run_all.ensures.same c.run_all.ensures.ran c.remove-other.ensures.items c.remove-one.ensures.value

pub returns-clause-other : goal.returns-clause-other
returns-clause-other g c =
    let Q : Task g.row.B.Denot g.row.G.Denot → Task g.row.B.Denot g.row.G.Denot → Type 0 = λ s t. AreTurnsOf (sets_in c.args.world.now) s.worker.cpu t.worker.turns in
    let both = two_pushed c.in_ok-tasks.tasks.items c.push_reserved.new.self.items c.push_reserved-2.new.self.items c.args.one c.args.other
    c.in_ok-tasks.ensures.items c.push_reserved.ensures.items c.push_reserved-2.ensures.items in
    second_taken Q c.args.one c.args.other c.push_reserved-2.new.self.items c.run_all.new.tasks.items c.remove-other.new.self.items c.remove-one.result c.remove-other.result both
    c.run_all.ensures.same c.run_all.ensures.ran c.remove-other.ensures.value
