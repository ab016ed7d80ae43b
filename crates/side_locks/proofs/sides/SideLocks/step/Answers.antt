use Rattle.std.proofs.Common.{ℕ, sym, subst, IfSome}
use Rattle.std.specs.Prelude.{slice_get}
use Rattle.stamped.specs.Sets.{actors_of}
use Rattle.stamped.specs.SetSteps.{IsRefused, AtPlace}
use Rattle.stamped.specs.SetEnds.{law_for}
use Rattle.stamped.specs.Traces.{clock_of}
use Rattle.stamped.proofs.OutcomeLemmas.{on_err}
use Rattle.step_objects.specs.declared.clock.ClockKind.{ClockKind}
use Rattle.side_locks.specs.Turns.{Both}
use Rattle.side_locks.specs.Steps.{RefusesAt, clock_law, out_law, own_of_clock, reply_of_clock, own_of_out, reply_of_out, always}
use Rattle.side_locks.proofs.sides.SideLocks.step.Goals as goal

pub returns-in-Clock-clause-cause : goal.returns-in-Clock-clause-cause
returns-in-Clock-clause-cause g c room = let self = c.args.self.now in let kind : ClockKind = record { cpus = self.cpus; ticks = self.ticks } in let at = c.turns.inside.at_clock in let new = c.step.new.turns in
    let floor = clock_of c.args.trace.now in let op = c.args.op.now in let both : Both = record { clock = new; out = c.turns.inside.at_out } in
    on_err c.step.result _ _ (λ r. subst (λ o. RefusesAt kind o floor op c.args.turns.now both) (sym c.in-Clock.is)
    (subst (λ (b : Both). AtPlace (IsRefused (clock_law kind) always floor op) 0 b.clock.1 new.1) c.turns.view_is
    (subst (λ (n : ℕ). AtPlace (IsRefused (law_for own_of_clock reply_of_clock n kind) always floor op) 0 at.1 new.1) self.clock_actors
    (subst (λ ks. IfSome (slice_get ks 0) (λ (k : ClockKind). AtPlace (IsRefused (law_for own_of_clock reply_of_clock (actors_of self.clock) k) always floor op) 0 at.1 new.1)) self.clock_is r))))
    (c.step.ensures.cause room)

pub returns-in-Out-clause-cause : goal.returns-in-Out-clause-cause
returns-in-Out-clause-cause g c room = let self = c.args.self.now in let kind : ClockKind = record { cpus = self.cpus; ticks = self.ticks } in let at = c.turns.inside.at_out in let new = c.step-in-Out.new.turns in
    let floor = clock_of c.args.trace.now in let op = c.args.op.now in let both : Both = record { clock = c.turns.inside.at_clock; out = new } in
    on_err c.step-in-Out.result _ _ (λ r. subst (λ o. RefusesAt kind o floor op c.args.turns.now both) (sym c.in-Out.is)
    (subst (λ (b : Both). AtPlace (IsRefused (out_law self.cpus) always floor op) 0 b.out.1 new.1) c.turns.view_is
    (subst (λ (n : ℕ). AtPlace (IsRefused (law_for own_of_out reply_of_out n tt) always floor op) 0 at.1 new.1) self.out_actors
    (subst (λ ks. IfSome (slice_get ks 0) (λ k. AtPlace (IsRefused (law_for own_of_out reply_of_out (actors_of self.out) k) always floor op) 0 at.1 new.1)) self.out_is r))))
    (c.step-in-Out.ensures.cause room)
