use Rattle.std.proofs.Common.{◌≡◌, ⊎_elim, arith, sym, subst, ◌∙◌}
use Rattle.std.specs.Iterator.Adapters.{zip_first, zip_second}
use Rattle.std.specs.Vec.Iter.{into_iter_items, into_iter_len}
use Rattle.turn_lock.specs.History.{Each}
use Rattle.turn_lock.proofs.HistoryLemmas.{Each-snoc}
use Rattle.thread_actors.specs.Tasks.{bodies_in, turns_in, IsFresh}
use Rattle.thread_actors.specs.Turns.{AreOneActors}
use Rattle.thread_actors.proofs.Rowing.{all_made, one_made}
use Rattle.thread_actors.proofs.tasks.new_tasks.Goals as goal

pub new_task-requires : goal.new_task-requires
new_task-requires g c = record { by = (subst (Each AreOneActors) c.in-Some.ensures.steps.1.0 c.loop-own.invariant.by).0 }

pub loop-own-preserved : goal.loop-own-preserved
loop-own-preserved g c =
    let before = c.loop-own.own-iterator in let after = c.next.new.self in let made = c.loop-own.tasks.items in
    let step = c.in-Some.ensures.steps in let pushed = c.in_ok-push.ensures.items in let task = c.new_task.ensures in record {
      count = (let same = c.loop-own.invariant.count in omega (arith, same, step.0.1, step.1.1));
      bodies = one_made bodies_in made c.push.new.self.items _ c.in-Some.own (into_iter_items (zip_first before)) (into_iter_items (zip_first after)) c.args.bodies.items
          pushed step.0.0 task.bodies c.loop-own.invariant.bodies;
      turns = one_made turns_in made c.push.new.self.items _ c.in-Some.own_turns (into_iter_items (zip_second before)) (into_iter_items (zip_second after)) c.args.turns.items
          pushed step.1.0 task.turns c.loop-own.invariant.turns;
      fresh = subst (Each (IsFresh c.args.clock)) (sym pushed) (Each-snoc (IsFresh c.args.clock) made _ c.loop-own.invariant.fresh task.fresh);
      by = (subst (Each AreOneActors) step.1.0 c.loop-own.invariant.by).1;
    }

pub returns-clause-bodies : goal.returns-clause-bodies
returns-clause-bodies g c =
    let left = zip_first c.loop-own.own-iterator in
    let none : into_iter_len left ≡ 0 = ⊎_elim (λ own. own.1.0) (λ gone. sym c.loop-own.invariant.count ∙ gone.1.0) c.in-None.ensures.steps in
    all_made bodies_in c.loop-own.tasks.items (into_iter_items left) c.args.bodies.items (sym none ∙ left.rest.ok.0) c.loop-own.invariant.bodies

pub returns-clause-turns : goal.returns-clause-turns
returns-clause-turns g c =
    let left = zip_second c.loop-own.own-iterator in
    let none : into_iter_len left ≡ 0 = ⊎_elim (λ own. c.loop-own.invariant.count ∙ own.1.0) (λ gone. gone.1.0) c.in-None.ensures.steps in
    all_made turns_in c.loop-own.tasks.items (into_iter_items left) c.args.turns.items (sym none ∙ left.rest.ok.0) c.loop-own.invariant.turns

pub returns-clause-fresh : goal.returns-clause-fresh
returns-clause-fresh g c = c.loop-own.invariant.fresh
