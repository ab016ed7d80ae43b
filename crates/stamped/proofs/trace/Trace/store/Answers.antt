use Rattle.std.proofs.Common.{IsTrue, sym, subst, List, ℕ}
use Rattle.bt_core.specs.declared.step.Step.{Step}
use Rattle.step_list.specs.Lists.{steps_in}
use Rattle.stamped.specs.Rising.{is_rising}
use Rattle.stamped.specs.Traces.{actor_of, floors_of, step_by}
use Rattle.stamped.proofs.FloorLemmas.{floors_grew, before_grew, stood_now, told_length}
use Rattle.stamped.proofs.RisingLemmas.{is_rising-snoc}
use Rattle.stamped.proofs.trace.Trace.store.Goals as goal

pub invariant_of-self-clause-stood_is : goal.invariant_of-self-clause-stood_is
invariant_of-self-clause-stood_is c = let t = c.args.self.now in let s : Step = step_by (actor_of t) c.args.object c.args.stamp c.args.op.now c.args.reply.now in
    stood_now (steps_in t.steps) (steps_in c.push_reserved.new.self) t.raised.items c.note.new.raised.items s c.len.result t.stood t.clock c.push_reserved.ensures.steps c.len.ensures t.stood_is t.before

pub invariant_of-self-clause-before : goal.invariant_of-self-clause-before
invariant_of-self-clause-before c = let t = c.args.self.now in let s : Step = step_by (actor_of t) c.args.object c.args.stamp c.args.op.now c.args.reply.now in
    before_grew (steps_in t.steps) (steps_in c.push_reserved.new.self) t.raised.items c.note.new.raised.items s c.len.result t.stood t.clock c.push_reserved.ensures.steps c.len.ensures t.stood_is t.before
    c.note.ensures.before

pub invariant_of-self-clause-paired : goal.invariant_of-self-clause-paired
invariant_of-self-clause-paired c = told_length (steps_in c.push_reserved.new.self) 0 0 c.note.new.raised.items

pub invariant_of-self-clause-rising : goal.invariant_of-self-clause-rising
invariant_of-self-clause-rising c = let t = c.args.self.now in let s : Step = step_by (actor_of t) c.args.object c.args.stamp c.args.op.now c.args.reply.now in
    let grew = floors_grew (steps_in t.steps) (steps_in c.push_reserved.new.self) t.raised.items c.note.new.raised.items s c.len.result t.stood t.clock c.push_reserved.ensures.steps c.len.ensures t.stood_is t.before
    c.note.ensures.floors in
    subst (λ (z : List Step × List ℕ). IsTrue (is_rising 0 z.0 z.1 c.args.stamp)) (λ i. (sym c.push_reserved.ensures.steps i, sym grew i))
    (is_rising-snoc 0 (steps_in t.steps) (floors_of t) t.clock s t.paired c.requires.above t.rising)

pub returns-clause-floors : goal.returns-clause-floors
returns-clause-floors c = let t = c.args.self.now in let s : Step = step_by (actor_of t) c.args.object c.args.stamp c.args.op.now c.args.reply.now in
    floors_grew (steps_in t.steps) (steps_in c.push_reserved.new.self) t.raised.items c.note.new.raised.items s c.len.result t.stood t.clock c.push_reserved.ensures.steps c.len.ensures t.stood_is t.before
    c.note.ensures.floors
