-- The whole of a run on threads, from what all actors leave and what closing the sets gives.
use Rattle.std.proofs.Common.{◌≡◌, ℕ, ◌+◌, List, [], ◌∷◌, length, map, sym, ap, ◌∙◌, subst}
use Rattle.std.specs.List.Sorted.{IsPermutation}
use Rattle.std.proofs.lemmas.List.{length-append, length-map}
use Rattle.std.proofs.lemmas.List.Sorted.{IsPermutation-sym}
use Rattle.bt_core.specs.declared.map.MapDecl.{MapDecl}
use Rattle.bt_core.specs.declared.step.ObjectId.{ObjectId}
use Rattle.bt_core.specs.declared.step.ObjectId.TheVariants.{Cpu, Clock, Out}
use Rattle.bt_core.specs.declared.step.Step.{Step}
use Rattle.bt_core.specs.Ports.{CanStep, IsTableOp}
use Rattle.agg_core.specs.Answers.{table_answer}
use Rattle.turn_lock.specs.declared.entry.Entry.{Entry}
use Rattle.turn_lock.specs.History.{Each}
use Rattle.turn_lock.specs.Locks.{id_of}
use Rattle.stamped.specs.declared.trace.Trace.{Trace}
use Rattle.stamped.specs.Numbered.{numbered}
use Rattle.stamped.specs.Rows.{firsts}
use Rattle.stamped.specs.SetEnds.{IsClosed, AreClosed}
use Rattle.stamped.specs.Sets.{locks_of}
use Rattle.stamped.specs.Traces.{steps_of}
use Rattle.step_objects.specs.declared.clock.ClockKind.{ClockKind}
use Rattle.step_objects.specs.declared.clock.TickClock.{TickClock}
use Rattle.step_objects.specs.declared.cpu.CpuTable.{CpuTable}
use Rattle.step_objects.specs.declared.out.OutLog.{OutLog}
use Rattle.step_objects.specs.declared.shared.SharedPart.{SharedPart}
use Rattle.step_objects.specs.Clocks.{clock_kind, ClockStands}
use Rattle.step_objects.specs.Objects.{shared_kind, SharedStands, cpu_kind, CpuStands}
use Rattle.percpu_tables.specs.Tables.{AreAllTableTurns, table_actors, table_kinds}
use Rattle.shared_maps.specs.Maps.{AreAllPartTurns, part_actors, part_kinds}
use Rattle.shared_maps.specs.Parts.{parts_from}
use Rattle.side_locks.specs.Sides.{AreAllSideTurns, side_actors, side_kind}
use Rattle.side_locks.specs.Steps.{own_of_clock, reply_of_clock, own_of_out, reply_of_out}
use Rattle.side_locks.specs.Turns.{Both, clocks, outs}
use Rattle.weave.specs.Order.{InOrder}
use Rattle.weave.specs.Traces.{all_steps, AreTraces, HaveHistories}
use Rattle.weave.proofs.Among.{each_has, each_from}
use Rattle.weave.proofs.Rising.{has_moved}
use Rattle.actor_plan.specs.Plans.{Plan}
use Rattle.bt_meaning.specs.Instructions.{instructions_of}
use Rattle.bt_meaning.specs.Interleavings.{IsReplayed}
use Rattle.bt_meaning.specs.Replays.{Replay, answers_of}
use Rattle.weave.specs.Closed.{OwnRows, history_in}
use Rattle.weave.specs.Ends.{HasParts}
use Rattle.weave.proofs.Closing.{full_rows}
use Rattle.weave.proofs.EndedTraces.{each_both, are_traces, parts, cpu_traces}
use Rattle.cpu_worker.specs.declared.world.SharedWorld.{SharedWorld}
use Rattle.cpu_worker.specs.declared.world.WorkerTurns.{WorkerTurns}
use Rattle.cpu_worker.specs.Worlds.{world_cpus, maps_in, sets_in, setting_in}
use Rattle.thread_actors.specs.declared.tasks.Gathered.{Gathered}
use Rattle.thread_actors.specs.Acts.{replay_in, CanMake, AreDone}
use Rattle.thread_run.specs.Closed.{part_id, part_kind, PartsStand, TablesStand}
use Rattle.thread_actors.specs.Turns.{at_maps, at_tables, at_sides}
use Rattle.thread_run.proofs.Counting.{replayed, counted}
use Rattle.thread_run.proofs.Objects.{AreShut, given, pairs, maps_stand, tables_stand, own_of_part, reply_of_part, out_kind, out_stands}
use Rattle.thread_actors.proofs.Turning.{maps_rows, tables_rows, clock_rows, out_rows, maps_own, tables_own, clock_own, out_own, own_long}

all_can : (world : SharedWorld) (ts : List Trace) → Each (CanMake world) ts → Each (λ (s : Step). CanStep (setting_in world 0) s.object s.op) (all_steps ts)
all_can world [] h = tt
all_can world (t ∷ ts) h = each_both (λ (s : Step). CanStep (setting_in world 0) s.object s.op) (steps_of t) (all_steps ts) h.0 (all_can world ts h.1)

-- ---- all turns are given back

module _ (world : SharedWorld) (plans : ℕ → Plan) (all : Gathered) (done : AreDone (replay_in world plans) world all) where
  all_long : length all.turns.items ≡ world_cpus world + 1
  all_long = own_long (sets_in world) all.turns.items all.traces.items done.own
      ∙ ap length done.traces ∙ length-append done.cpus (done.main ∷ []) ∙ ap (λ n. n + 1) done.many

  pub all_maps : AreAllPartTurns world.maps.now (map at_maps all.turns.items)
  all_maps = (length-map all.turns.items at_maps ∙ all_long ∙ sym world.maps_actors, maps_rows (sets_in world) 0 all.turns.items done.turns)

  pub all_tables : AreAllTableTurns world.tables.now (map at_tables all.turns.items)
  all_tables = (length-map all.turns.items at_tables ∙ all_long ∙ sym world.tables_actors, tables_rows (sets_in world) 0 all.turns.items done.turns)

  sides_actors : world_cpus world + 1 ≡ side_actors world.sides.now
  sides_actors = ap (λ (k : ClockKind). k.cpus + 1) (sym world.sides_are)

  long_clocks : length (clocks (map at_sides all.turns.items)) ≡ length all.turns.items
  long_clocks = length-map (map at_sides all.turns.items) (λ (both : Both). both.clock) ∙ length-map all.turns.items at_sides

  long_outs : length (outs (map at_sides all.turns.items)) ≡ length all.turns.items
  long_outs = length-map (map at_sides all.turns.items) (λ (both : Both). both.out) ∙ length-map all.turns.items at_sides

  pub all_sides : AreAllSideTurns world.sides.now (map at_sides all.turns.items)
  all_sides = record {
    clock = (long_clocks ∙ all_long ∙ sides_actors ∙ sym world.sides.now.clock_actors, clock_rows (sets_in world) 0 all.turns.items done.turns);
    out = (long_outs ∙ all_long ∙ sides_actors ∙ sym world.sides.now.out_actors, out_rows (sets_in world) 0 all.turns.items done.turns);
  }

module _ (world : SharedWorld) (plans : ℕ → Plan) (own : (actor : ℕ) → (plans actor).actor ≡ actor) (all : Gathered) (done : AreDone (replay_in world plans) world all)
    (maps : List (SharedPart × List Entry)) (tables : List (CpuTable × List Entry)) (clock : TickClock × List Entry) (out : OutLog × List Entry) where
  abbrev ws : List WorkerTurns
  ws = all.turns.items

  abbrev ts : List Trace
  ts = all.traces.items

  abbrev p : Replay
  p = replay_in world plans

  -- what closing the sets gave
  pub record AreAllShut : Type 0 where
    pub maps_shut : AreClosed shared_kind own_of_part reply_of_part SharedStands (part_actors world.maps.now) (part_kinds world.maps.now) (map at_maps ws) maps
    pub tables_shut : AreClosed cpu_kind IsTableOp table_answer CpuStands (table_actors world.tables.now) (table_kinds world.tables.now) (map at_tables ws) tables
    pub clock_shut : IsClosed clock_kind own_of_clock reply_of_clock ClockStands (side_actors world.sides.now) (side_kind world.sides.now) (firsts (clocks (map at_sides ws))) clock.0 clock.1
    pub out_shut : IsClosed out_kind own_of_out reply_of_out out_stands (side_actors world.sides.now) tt (firsts (outs (map at_sides ws))) out.0 out.1

  traces_are : AreTraces 0 ts
  traces_are = subst (AreTraces 0) (sym done.traces) (are_traces done.begun done.finished done.cpus done.main done.ended)

  long : world_cpus world + 1 ≡ length ts
  long = sym (ap length done.traces ∙ length-append done.cpus (done.main ∷ []) ∙ ap (λ n. n + 1) done.many)

  ids_long : map part_id (parts_from 0 (maps_in world)) ≡ map id_of (locks_of world.maps.now.set)
  ids_long = sym (world.maps.now.ids ∙ ap (λ ms. map part_id (parts_from 0 ms)) world.maps_are)

  module _ (shut : AreAllShut) where
    is_shut : AreShut world ts traces_are long done.can (map at_maps ws) (map at_tables ws) (clocks (map at_sides ws)) (outs (map at_sides ws)) maps tables clock out
    is_shut = record {
      maps_full = full_rows (locks_of world.maps.now.set) (map part_id (parts_from 0 (maps_in world))) 0 (map at_maps ws)
          (ap length ids_long ∙ length-map (locks_of world.maps.now.set) id_of) (maps_rows (sets_in world) 0 ws done.turns);
      maps_own = subst (λ ms. OwnRows (map part_id (parts_from 0 ms)) (map at_maps ws) ts) world.maps_are (maps_own (sets_in world) ws ts done.own);
      maps_shut = subst (λ (z : ℕ × List MapDecl). AreClosed shared_kind own_of_part reply_of_part SharedStands z.0 (map part_kind (parts_from 0 z.1)) (map at_maps ws) maps) (λ i. (world.maps_actors i, world.maps_are i)) shut.maps_shut;
      tables_full = full_rows (locks_of world.tables.now.set) (numbered Cpu 0 (world_cpus world + 1)) 0 (map at_tables ws)
          (ap length (sym (world.tables.now.ids ∙ ap (numbered Cpu 0) world.tables_actors)) ∙ length-map (locks_of world.tables.now.set) id_of) (tables_rows (sets_in world) 0 ws done.turns);
      tables_own = subst (λ n. OwnRows (numbered Cpu 0 n) (map at_tables ws) ts) world.tables_actors (tables_own (sets_in world) ws ts done.own);
      tables_shut = subst (λ (z : ℕ × List MapDecl). AreClosed cpu_kind IsTableOp table_answer CpuStands z.0 (numbered (λ _. z.1) 0 z.0) (map at_tables ws) tables) (λ i. (world.tables_actors i, world.tables_are i)) shut.tables_shut;
      clock_full = full_rows (locks_of world.sides.now.clock) (Clock ∷ []) 0 (clocks (map at_sides ws)) (ap length (sym world.sides.now.clock_id) ∙ length-map (locks_of world.sides.now.clock) id_of)
          (clock_rows (sets_in world) 0 ws done.turns);
      clock_own = clock_own (sets_in world) ws ts done.own;
      clock_shut = subst (λ (k : ClockKind). IsClosed clock_kind own_of_clock reply_of_clock ClockStands (k.cpus + 1) k (firsts (clocks (map at_sides ws))) clock.0 clock.1) world.sides_are shut.clock_shut;
      out_full = full_rows (locks_of world.sides.now.out) (Out ∷ []) 0 (outs (map at_sides ws)) (ap length (sym world.sides.now.out_id) ∙ length-map (locks_of world.sides.now.out) id_of)
          (out_rows (sets_in world) 0 ws done.turns);
      out_own = out_own (sets_in world) ws ts done.own;
      out_shut = subst (λ (k : ClockKind). IsClosed out_kind own_of_out reply_of_out out_stands (k.cpus + 1) tt (firsts (outs (map at_sides ws))) out.0 out.1) world.sides_are shut.out_shut;
    }

    abbrev histories : List (ObjectId × List Entry)
    histories = pairs world ts traces_are long done.can (map at_maps ws) (map at_tables ws) (clocks (map at_sides ws)) (outs (map at_sides ws)) maps tables clock out is_shut

    all_given : HaveHistories (answers_of p) ts (history_in histories)
    all_given = given world ts traces_are long done.can (map at_maps ws) (map at_tables ws) (clocks (map at_sides ws)) (outs (map at_sides ws)) maps tables clock out is_shut

    module _ (steps : List Step) (moved : IsPermutation (all_steps ts) steps) (order : InOrder steps) where
      has_parts : HasParts (answers_of p) done.begun done.finished done.cpus steps
      has_parts = parts done.begun done.finished done.cpus done.main done.ended (answers_of p) (history_in histories) steps
          (subst (λ l. HaveHistories (answers_of p) l (history_in histories)) done.traces all_given) (subst (λ l. IsPermutation (all_steps l) steps) done.traces moved) order

      cpus_traces : AreTraces 0 done.cpus
      cpus_traces = cpu_traces _ 0 done.cpus done.ended.cpus_are

      pub is_replayed : IsReplayed p steps
      is_replayed = replayed p done.begun done.finished steps done.cpus cpus_traces done.many has_parts done.begin_count done.cpu_count done.end_count done.begin done.ran done.finish

      pub is_counted : all.instructions ≡ instructions_of p steps
      is_counted = counted p done.begun done.finished steps done.cpus cpus_traces done.many has_parts done.begin_count done.cpu_count done.end_count done.begin done.ran done.finish own all.instructions done.counted

      pub is_possible : Each (λ (s : Step). CanStep (setting_in world 0) s.object s.op) steps
      is_possible = each_from _ steps (λ s m. each_has _ (all_steps ts) s (all_can world ts done.can) (has_moved steps (all_steps ts) s (IsPermutation-sym (all_steps ts) steps moved) m))

      pub maps_are_stood : PartsStand steps (parts_from 0 (maps_in world)) maps
      maps_are_stood = maps_stand world ts traces_are long done.can (map at_maps ws) (map at_tables ws) (clocks (map at_sides ws)) (outs (map at_sides ws)) maps tables clock out is_shut steps moved order

      pub tables_are_stood : TablesStand (maps_in world) steps (world_cpus world + 1) tables
      tables_are_stood = tables_stand world ts traces_are long done.can (map at_maps ws) (map at_tables ws) (clocks (map at_sides ws)) (outs (map at_sides ws)) maps tables clock out is_shut steps moved order
