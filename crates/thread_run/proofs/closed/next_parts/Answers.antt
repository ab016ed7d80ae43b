use Rattle.std.proofs.Common.{◌++◌, length, sym, ap, ◌∙◌, subst}
use Rattle.std.specs.Option.{option_to_list}
use Rattle.std.specs.Vec.Iter.{into_iter_items, into_iter_steps}
use Rattle.thread_run.proofs.Closing.{taken_more, taken_all}
use Rattle.thread_run.proofs.closed.next_parts.Goals as goal
use Rattle.thread_run.proofs.closed.next_parts.Goals.{in-Some+in_ok-push-in-Some, in-None}

pub loop-preserved : goal.loop-preserved
loop-preserved c =
    let all = into_iter_items c.args.left.now in let n = c.loop.counter in
    let old = into_iter_items c.loop.left in let new = into_iter_items c.next.new.self in
    elim c.match-next.branch [
      | in-Some+in_ok-push-in-Some w ↦
          let h = taken_more all n c.loop.parts.items c.match-next.parts.items old new w.in-Some.part c.loop.invariant.parts c.loop.invariant.left
          (c.next.ensures.items ∙ ap (λ o. option_to_list o ++ new) w.in-Some.is) (ap (λ v. v.items) w.parts-is ∙ w.in_ok-push-in-Some.ensures.items) in
          record { parts = h.0; left = h.1 }
      | in-None w ↦
          let same = c.next.ensures.items ∙ ap (λ o. option_to_list o ++ new) w.in-None.is in
          let none = sym c.loop.left.rest.ok.0 ∙ (subst (λ o. into_iter_steps c.loop.left o c.next.new.self) w.in-None.is c.next.ensures.cases).0 in
          let h = taken_all all n c.loop.parts.items new c.loop.invariant.parts (sym same ∙ c.loop.invariant.left) (ap length (sym same) ∙ none) in
          record { parts = ap (λ v. v.items) w.parts-is ∙ h.0; left = h.1 }
    ]
