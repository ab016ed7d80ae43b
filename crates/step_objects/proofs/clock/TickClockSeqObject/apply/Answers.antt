use Rattle.std.proofs.Common.{sym, refl, subst, length, arith, List, ℕ, true, ◌∙◌, ◌≡◌, ◌∷◌, ◌++◌, []}
use Rattle.step_objects.specs.declared.clock.ClockKind.{ClockKind}
use Rattle.step_objects.specs.declared.clock.TickClock.{TickClock}
use Rattle.step_objects.specs.Clocks.{ClockStands, CountsCrosses}
use Rattle.bt_core.specs.declared.step.Op.TheVariants.{Cross, Check, Stop}
use Rattle.bt_core.specs.declared.step.Op.{Op}
use Rattle.step_objects.proofs.ClockLaws.{still_going, or_true, other-counted, stop-push}
use Rattle.agg_core.specs.Answers.{is_stop}
use Rattle.std.specs.List.{list_any}
use Rattle.std.specs.Vec.{with_items}
use Rattle.std.proofs.lemmas.List.{with_items_is}
use Rattle.step_objects.proofs.clock.TickClockSeqObject.apply.Goals as goal

pub returns-in-Cross-clause-kind : goal.returns-in-Cross-clause-kind
returns-in-Cross-clause-kind c = let clock = c.args.self.now in let rows = with_items clock.crossed c.cross.new.crossed in
    let long : length rows.items ≡ length clock.crossed.items = omega (arith, rows.ok.0, clock.crossed.ok.0) in
    (λ i. let kind : ClockKind = record { cpus = clock.cpus; ticks = long i } in kind)

pub returns-in-Cross-clause-taken : goal.returns-in-Cross-clause-taken
returns-in-Cross-clause-taken c before s = let clock = c.args.self.now in let cross = Cross c.in-Cross.tick in
    let long : length c.cross.new.crossed ≡ clock.crossed.len = omega arith in
    let counts = c.cross.ensures.counted before (subst (λ (xs : List ℕ). CountsCrosses xs before) (sym c.deref_mut.ensures.value) s.counts) in
    let more : CountsCrosses (with_items clock.crossed c.cross.new.crossed).items (before ++ cross ∷ []) =
    subst (λ (xs : List ℕ). CountsCrosses xs (before ++ cross ∷ [])) (sym (with_items_is clock.crossed c.cross.new.crossed long)) counts in record {
      counts = subst (λ (op : Op). CountsCrosses (with_items clock.crossed c.cross.new.crossed).items (before ++ op ∷ [])) (sym c.in-Cross.is) more;
      stopped = subst (λ (op : Op). clock.stopped ≡ list_any is_stop (before ++ op ∷ [])) (sym c.in-Cross.is)
          (still_going clock.stopped before cross refl s.stopped);
    }

pub returns-in-Check-clause-taken : goal.returns-in-Check-clause-taken
returns-in-Check-clause-taken c before s = subst (λ (op : Op). ClockStands c.args.self.now (before ++ op ∷ [])) (sym c.in-Check.is) record {
  counts = other-counted c.args.self.now.crossed.items before Check (λ t. refl) s.counts;
  stopped = still_going c.args.self.now.stopped before Check refl s.stopped;
}

pub returns-in-Stop-clause-taken : goal.returns-in-Stop-clause-taken
returns-in-Stop-clause-taken c before s = let clock : TickClock = record { cpus = c.args.self.now.cpus; crossed = c.args.self.now.crossed; stopped = true } in
    subst (λ (op : Op). ClockStands clock (before ++ op ∷ [])) (sym c.in-Stop.is) record {
      counts = other-counted c.args.self.now.crossed.items before Stop (λ t. refl) s.counts;
      stopped = sym (stop-push before Stop ∙ or_true (list_any is_stop before));
    }
