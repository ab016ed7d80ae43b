use Rattle.std.proofs.Common.{rules, ℕ, sym, subst, List}
use Rattle.std.proofs.lemmas.List.Sorted.{answers_always}
use Rattle.bt_ast.specs.declared.attached.Tick.{Tick}
use Rattle.bt_attach.specs.Ticks.{AreInOrder}
use Rattle.bt_attach.proofs.ticks.in_order.Goals as goal

pub returns : goal.returns
returns c =
    let key : Tick → ℕ = λ t. t.time in
    subst (λ (l : List Tick). AreInOrder c.args.ticks.items l) (sym c.of.ensures) (record {
      by_time = c.in_ok-sort_by_key.ensures.sorted key (answers_always _ _ _ (λ f a r g h. search rules));
      by_point = c.in_ok-sort_by_key.ensures.stable key (answers_always _ _ _ (λ f a r g h. search rules));
    })
