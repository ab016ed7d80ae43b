use Rattle.std.proofs.Common.{◌≡◌, ◌+◌, ◌*◌, take, drop}
use Rattle.bt_core.specs.Interaction.{Left}
use Rattle.bt_core.specs.Kinds.{HasShape}
use Rattle.typed_tree.specs.Parts.{key_shapes}
use Rattle.walk_meaning.specs.Does.{in_order, gathered}
use Rattle.walk_meaning.specs.Exprs.{values_do}
use Rattle.walk_meaning.specs.Served.{scene_in, all_made}
use Rattle.typed_tree.specs.declared.expr.NumExpr.TheVariants as nums
use Rattle.typed_tree.proofs.expr.NumExpr.TheLaws.{the_size}
use Rattle.bt_walk.proofs.value.+value.Given as goal

abbrev pub decreases-value : goal.decreases-value
decreases-value g l = 3 * goal.size-value g l

abbrev pub decreases-number : goal.decreases-number
decreases-number g l = 3 * goal.size-number g l + 1

abbrev pub decreases-number_binary : goal.decreases-number_binary
decreases-number_binary g l = 3 * the_size (nums.Binary l.op l.left.now l.right.now)

abbrev pub decreases-number_compare : goal.decreases-number_compare
decreases-number_compare g l = 3 * the_size (nums.Compare l.equal l.left.now l.right.now)

abbrev pub decreases-number_and : goal.decreases-number_and
decreases-number_and g l = 3 * the_size (nums.AndThen l.left.now l.right.now)

abbrev pub decreases-number_or : goal.decreases-number_or
decreases-number_or g l = 3 * the_size (nums.OrElse l.left.now l.right.now)

abbrev pub decreases-number_choose : goal.decreases-number_choose
decreases-number_choose g l = 3 * the_size (nums.Choose l.condition.now l.yes.now l.no.now)

abbrev pub decreases-text : goal.decreases-text
decreases-text g l = 3 * goal.size-text g l

abbrev pub decreases-read : goal.decreases-read
decreases-read g l = 3 * goal.size-read g l + 2

abbrev pub decreases-read_agg : goal.decreases-read_agg
decreases-read_agg g l = 3 * goal.size-read_agg g l + 2

abbrev pub decreases-values : goal.decreases-values
decreases-values g l = 3 * goal.size-values g l + 1

abbrev pub invariant-values-loop-key : goal.invariant-values-loop-key
invariant-values-loop-key g l = record {
  left : Left (in_order (values_do l.keys) (scene_in l.view) l.fn.frame) (g.P.Port.steps l.fn.port) (g.P.Port.steps l.port) (gathered l.parts (values_do (drop l.key-index l.keys)) (scene_in l.view) l.frame);
  shaped : HasShape (key_shapes (all_made (take l.key-index l.keys))) l.parts;
  kept : g.P.Port.fixed l.port ≡ g.P.Port.fixed l.fn.port;
  turns : l.frame.turns ≡ l.fn.frame.turns;
}
