use Rattle.std.proofs.Common.{rules, ◌≡◌, ◌+◌, List, [], ◌∷◌, length, subst, arith, vec_len}
use Rattle.bt_core.specs.declared.step.Op.{Op}
use Rattle.stamped.specs.Rows.{Row}
use Rattle.stamped.specs.Sets.{actors_of}
use Rattle.stamped.specs.SetEnds.{AreClosed}
use Rattle.step_objects.specs.declared.clock.ClockKind.{ClockKind}
use Rattle.step_objects.specs.declared.out.OutLog.{OutLog}
use Rattle.step_objects.specs.Clocks.{clock_kind, ClockStands}
use Rattle.side_locks.specs.Turns.{clocks, outs}
use Rattle.side_locks.specs.Steps.{own_of_clock, reply_of_clock, own_of_out, reply_of_out}
use Rattle.side_locks.proofs.SideLemmas.{some_closed, one_closed}
use Rattle.side_locks.proofs.sides.SideLocks.close.Goals as goal

abbrev out_kind : OutLog → Unit {0}
out_kind out = tt

abbrev out_stands : OutLog → List Op → Type 0
out_stands out ops = Unit {0}

pub remove-requires-2 : goal.remove-requires-2
remove-requires-2 c = let self = c.args.self in let cs = c.in_ok-outs.outs in let n : vec_len cs ≡ length cs.items = search rules in
    let lt = some_closed out_kind own_of_out reply_of_out out_stands (actors_of self.out) tt c.in_ok-clock_rows.out_rows.items cs.items
    (subst (λ ks. AreClosed out_kind own_of_out reply_of_out out_stands (actors_of self.out) ks c.in_ok-clock_rows.out_rows.items cs.items) self.out_is c.in_ok-outs.ensures) in
    omega (arith, n, lt)

pub returns-clause-clock : goal.returns-clause-clock
returns-clause-clock c = let self = c.args.self in let cs = c.in_ok-clocks.clocks.items in let kind : ClockKind = record { cpus = self.cpus; ticks = self.ticks } in
    one_closed clock_kind own_of_clock reply_of_clock ClockStands (self.cpus + 1) kind (clocks c.args.turns.items) cs c.remove.result
    (subst (λ (rows : List Row). AreClosed clock_kind own_of_clock reply_of_clock ClockStands (self.cpus + 1) (kind ∷ []) rows cs) c.in_ok-clock_rows.ensures.clock
    (subst (λ n. AreClosed clock_kind own_of_clock reply_of_clock ClockStands n (kind ∷ []) c.in_ok-clock_rows.clock_rows.items cs) self.clock_actors
    (subst (λ ks. AreClosed clock_kind own_of_clock reply_of_clock ClockStands (actors_of self.clock) ks c.in_ok-clock_rows.clock_rows.items cs) self.clock_is c.in_ok-clocks.ensures)))
    c.remove.ensures.value

pub returns-clause-out : goal.returns-clause-out
returns-clause-out c = let self = c.args.self in let cs = c.in_ok-outs.outs.items in
    one_closed out_kind own_of_out reply_of_out out_stands (self.cpus + 1) tt (outs c.args.turns.items) cs c.remove-2.result
    (subst (λ (rows : List Row). AreClosed out_kind own_of_out reply_of_out out_stands (self.cpus + 1) (tt ∷ []) rows cs) c.in_ok-clock_rows.ensures.out
    (subst (λ n. AreClosed out_kind own_of_out reply_of_out out_stands n (tt ∷ []) c.in_ok-clock_rows.out_rows.items cs) self.out_actors
    (subst (λ ks. AreClosed out_kind own_of_out reply_of_out out_stands (actors_of self.out) ks c.in_ok-clock_rows.out_rows.items cs) self.out_is c.in_ok-outs.ensures)))
    c.remove-2.ensures.value
