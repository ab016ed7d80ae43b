use Rattle.std.proofs.Common.{◌≡◌, ℕ, List, sym, subst}
use Rattle.bt_core.specs.Kinds.{IsFineDecl}
use Rattle.bt_core.specs.Ports.{IsTableOp}
use Rattle.agg_core.specs.Answers.{table_answer}
use Rattle.stamped.specs.Rows.{firsts}
use Rattle.stamped.specs.SetEnds.{IsClosed, AreClosed}
use Rattle.step_objects.specs.Clocks.{clock_kind, ClockStands}
use Rattle.step_objects.specs.Objects.{shared_kind, SharedStands, cpu_kind, CpuStands}
use Rattle.shared_maps.specs.Maps.{AreAllPartTurns, part_actors, part_kinds}
use Rattle.percpu_tables.specs.Tables.{AreAllTableTurns, table_actors, table_kinds}
use Rattle.side_locks.specs.Sides.{AreAllSideTurns, side_actors, side_kind}
use Rattle.side_locks.specs.Steps.{own_of_clock, reply_of_clock, own_of_out, reply_of_out}
use Rattle.side_locks.specs.Turns.{Both, clocks, outs}
use Rattle.bt_meaning.proofs.OwnCalls.{all_fine}
use Rattle.std.proofs.lemmas.List.Elements.{All-from_recursion}
use denote.Param.Send.{sendable}
use Rattle.std.proofs.Crossing.{crosses}
use Rattle.actor_plan.specs.Ready.{IsPlanFor}
use Rattle.cpu_worker.proofs.ScriptShared.{sync_typed}
use Rattle.run_output.specs.Jobs.{plans_by, world_for}
use Rattle.thread_run.proofs.Making.{AreAllShut, all_maps, all_tables, all_sides, is_replayed, is_counted, is_possible, maps_are_stood, tables_are_stood}
use Rattle.thread_run.proofs.Objects.{own_of_part, reply_of_part, out_kind, out_stands}
use Rattle.thread_actors.proofs.Turning.{from_rows}
use Rattle.thread_run.proofs.made.make_steps.Goals as goal

pub run_actors-requires-clause-turns : goal.run_actors-requires-clause-turns
run_actors-requires-clause-turns g c κs within = let s = c.in_ok-sets.sets in let h = c.in_ok-sets.ensures.turns in
    from_rows (record { maps = s.maps; tables = s.tables; sides = s.sides }) 0 c.in_ok-sets.turns.items h.maps.1 h.tables.1 h.sides.clock.1 h.sides.out.1

pub run_actors-requires-send-B : goal.run_actors-requires-send-B
run_actors-requires-send-B g c κs within = search (sync_typed, crosses, sendable) depth 60 fits 20000

pub run_actors-requires-clause-plans : goal.run_actors-requires-clause-plans
run_actors-requires-clause-plans g c κs within = λ actor d lt. let job = c.args.job.now in
    subst (IsPlanFor job.recording job.attached job.typed.maps actor) (sym (c.in_ok-bodies.ensures.each actor d lt)) (c.requires.can.plans_are actor)

pub close-requires : goal.close-requires
close-requires g c = subst (AreAllPartTurns c.in_ok-sets.sets.maps) (sym c.in_ok-map_turns.ensures.maps)
    (all_maps _ (plans_by c.args.job.now c.args.codes.now) c.in_ok-all.all (c.in_ok-all.ensures (plans_by c.args.job.now c.args.codes.now) c.in_ok-bodies.ensures))

pub close-requires-2 : goal.close-requires-2
close-requires-2 g c = subst (AreAllTableTurns c.in_ok-sets.sets.tables) (sym c.in_ok-map_turns.ensures.tables)
    (all_tables _ (plans_by c.args.job.now c.args.codes.now) c.in_ok-all.all (c.in_ok-all.ensures (plans_by c.args.job.now c.args.codes.now) c.in_ok-bodies.ensures))

pub close-requires-3 : goal.close-requires-3
close-requires-3 g c = subst (AreAllSideTurns c.in_ok-sets.sets.sides) (sym c.in_ok-map_turns.ensures.sides)
    (all_sides _ (plans_by c.args.job.now c.args.codes.now) c.in_ok-all.all (c.in_ok-all.ensures (plans_by c.args.job.now c.args.codes.now) c.in_ok-bodies.ensures))

pub returns : goal.returns
returns g c =
    let s = c.in_ok-sets.sets in
    let plans = plans_by c.args.job.now c.args.codes.now in
    let own : (actor : ℕ) → (plans actor).actor ≡ actor = λ actor. (c.requires.can.plans_are actor).actor_is in
    let all = c.in_ok-all.all in
    let done = c.in_ok-all.ensures plans c.in_ok-bodies.ensures in
    let maps = c.in_ok-maps.maps.items in
    let tables = c.in_ok-tables.tables.items in
    let clock = c.in_ok-_sides._sides.0 in
    let out = c.in_ok-_sides._sides.1 in
    let steps = c.in_ok-steps.steps in
    let moved = c.in_ok-steps.ensures.steps in
    let order = c.in_ok-steps.ensures.order in
    let shut : AreAllShut _ plans own all done maps tables clock out = record {
      maps_shut = subst (λ rows. AreClosed shared_kind own_of_part reply_of_part SharedStands (part_actors s.maps) (part_kinds s.maps) rows maps) c.in_ok-map_turns.ensures.maps c.in_ok-maps.ensures;
      tables_shut = subst (λ rows. AreClosed cpu_kind IsTableOp table_answer CpuStands (table_actors s.tables) (table_kinds s.tables) rows tables) c.in_ok-map_turns.ensures.tables c.in_ok-tables.ensures;
      clock_shut = subst (λ (both : List Both). IsClosed clock_kind own_of_clock reply_of_clock ClockStands (side_actors s.sides) (side_kind s.sides) (firsts (clocks both)) clock.0 clock.1)
          c.in_ok-map_turns.ensures.sides c.in_ok-_sides.ensures.clock;
      out_shut = subst (λ (both : List Both). IsClosed out_kind own_of_out reply_of_out out_stands (side_actors s.sides) tt (firsts (outs both)) out.0 out.1)
          c.in_ok-map_turns.ensures.sides c.in_ok-_sides.ensures.out;
    } in
    record {
      replayed = is_replayed _ plans own all done maps tables clock out shut steps moved order;
      closed_at = record {
        fine = All-from_recursion IsFineDecl c.args.job.now.typed.maps (all_fine c.args.job.now.typed.maps c.args.job.now.typed.fine);
        possible = is_possible _ plans own all done maps tables clock out shut steps moved order;
        stand = c.in_ok-closed.ensures (world_for c.args.job.now) steps (sym c.as_slice.ensures)
            (maps_are_stood _ plans own all done maps tables clock out shut steps moved order) (tables_are_stood _ plans own all done maps tables clock out shut steps moved order);
      };
      counted = is_counted _ plans own all done maps tables clock out shut steps moved order;
    }
