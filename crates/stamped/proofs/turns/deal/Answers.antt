use Rattle.std.proofs.Common.{◌≡◌, sym, ◌∙◌, inl, inr, arith}
use Rattle.std.specs.Iterator.Adapters.{zip_first}
use Rattle.std.specs.Vec.Iter.{into_iter_len}
use Rattle.stamped.proofs.RowLemmas.{dealt, dealt_all}
use Rattle.stamped.proofs.turns.deal.Goals as goal

pub loop-row-preserved : goal.loop-row-preserved
loop-row-preserved c =
    let steps = c.in-Some.ensures.steps in
    let first = steps.0 in
    let second = steps.1 in
    record {
      count = omega (arith, first.1, second.1, c.loop-row.invariant.count);
      so_far = dealt c.loop-row.rows.items c.push-in-loop-row.new.self.items _ _ _ _ c.in-Some.row c.row.inside.actor c.row.inside.turns.items c.push.new.self.items c.in-Some.turn _ first.0 second.0 c.row.view_is c.in_ok-push.ensures.items c.in_ok-push-2.ensures.items c.loop-row.invariant.so_far;
    }

pub returns : goal.returns
returns c =
    let rows = zip_first c.loop-row.row-iterator in
    let none : into_iter_len rows ≡ 0 = elim c.in-None.ensures.steps [ inl w ↦ w.1.0 | inr w ↦ sym c.loop-row.invariant.count ∙ w.1.0 ] in
    dealt_all rows _ c.loop-row.rows.items _ none c.loop-row.invariant.so_far
