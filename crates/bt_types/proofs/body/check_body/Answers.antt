use Rattle.std.proofs.Common.{◌∙◌, ap, subst, Option}
use Rattle.std.proofs.lemmas.Result.{IfOk-at_ok}
use Rattle.expr_types.specs.declared.known.Known.{Known}
use Rattle.event_layout.specs.declared.layout.Layout.{Layout}
use Rattle.typed_tree.specs.declared.body.TypedTree.{TypedTree}
use Rattle.typed_tree.specs.Bodies.{tree_parts}
use Rattle.bt_types.specs.Bodies.{body_told}
use Rattle.bt_types.specs.Done.{Done}
use Rattle.bt_types.proofs.Turns.{done_in}
use Rattle.bt_types.proofs.body.check_body.Goals as goal

pub returns : goal.returns
returns c =
    let told = body_told c.args.probe.now in
    let tree = ap (λ (both : Option Layout × TypedTree). both.1) c.in_ok-layout-3.ensures.0 in
    let layout = ap (λ (both : Option Layout × TypedTree). both.0) c.in_ok-layout-3.ensures.0 ∙ (c.in_ok-layout-2.ensures.0 ∙ c.in_ok-layout.ensures.0) in
    let numbers = IfOk-at_ok _ c.in_ok-layout-3.ensures.1 c.numbers_of-numbers.ensures in
    let variables = IfOk-at_ok _ c.in_ok-layout-2.ensures.1 c.check_tree-tree.ensures.variables in
    let checked = done_in told tree_parts c.begin.new.known c.check_tree-tree.new.known c.check_tree-tree.result c.in_ok-layout-2.tree c.in_ok-layout-2.ensures.1 c.check_tree-tree.ensures.does in
    let done = subst (λ (k : Known). Done told k c.check_tree-tree.new.known (tree_parts c.in_ok-layout-2.tree)) c.in_ok-layout.ensures.1 checked in
    record {
      done = rw tree done;
      layout = layout;
      keeps = record { event = rw layout done.grows.event; variables = rw tree variables; named = numbers.0; calls = numbers.1 };
    }
