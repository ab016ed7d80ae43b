use Rattle.std.proofs.Common.{◌≡◌, map, sum, refl, sym, ap, ◌∙◌, subst}
use Rattle.std.specs.Vec.Iter.{into_iter_items}
use Rattle.turn_lock.specs.History.{Each}
use Rattle.turn_lock.proofs.HistoryLemmas.{Each-snoc}
use Rattle.thread_actors.specs.Tasks.{turns_in, trace_in, count_in, HasEnded, HasEndedWell}
use Rattle.thread_actors.proofs.Rowing.{one_behind, sum_behind, one_gone, all_gone_over}
use Rattle.thread_actors.proofs.tasks.gather.Goals as goal

pub loop-task-init : goal.loop-task-init
loop-task-init g c = record {
  turns = c.new.ensures.items;
  traces = c.new-2.ensures.items;
  instructions = refl;
  well = tt;
  whole = c.into_iter-task-iterator.ensures.into_iter_gives.0;
  left = subst (Each HasEnded) (sym c.into_iter-task-iterator.ensures.into_iter_gives.0) c.requires.ended;
}

pub add_task-requires : goal.add_task-requires
add_task-requires g c = record { ended = (subst (Each HasEnded) c.in-Some.ensures.steps.0 c.loop-task.invariant.left).0 }

pub loop-task-preserved : goal.loop-task-preserved
loop-task-preserved g c =
    let before = c.loop-task.yielded in let task = c.in-Some.task in let all = c.loop-task.invariant in let more = c.in_ok-add_task.ensures in record {
      turns = one_behind turns_in before task _ _ all.turns more.turns;
      traces = one_behind trace_in before task _ _ all.traces more.traces;
      instructions = sum_behind count_in before task _ _ all.instructions more.instructions;
      well = Each-snoc HasEndedWell before task all.well more.well;
      whole = one_gone before task (into_iter_items c.loop-task.task-iterator) _ c.args.tasks.items c.in-Some.ensures.steps.0 all.whole;
      left = (subst (Each HasEnded) c.in-Some.ensures.steps.0 all.left).1;
    }

pub returns : goal.returns
returns g c =
    let left = c.loop-task.task-iterator in
    let all = c.loop-task.invariant in
    let over : c.loop-task.yielded ≡ c.args.tasks.items =
    all_gone_over c.loop-task.yielded (into_iter_items left) c.args.tasks.items (sym c.in-None.ensures.steps.0 ∙ left.rest.ok.0) all.whole in
    record {
      turns = all.turns ∙ ap (map turns_in) over;
      traces = all.traces ∙ ap (map trace_in) over;
      instructions = all.instructions ∙ ap (λ l. sum (map count_in l)) over;
      well = subst (Each HasEndedWell) over all.well;
    }
