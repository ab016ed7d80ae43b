use Rattle.std.proofs.Common.{ap, ◌∙◌, ◌∷◌, ◌++◌, Bool, sym}
use Rattle.bt_core.specs.declared.map.Shape.TheVariants.{Int}
use Rattle.typed_tree.specs.Parts.{made, num_parts}
use Rattle.expr_types.specs.Join.{logical_part}
use Rattle.expr_types.proofs.Trees.{and_made, or_made}
use Rattle.expr_types.proofs.leaf.both_or_either.Goals as goal

pub returns-then-both : goal.returns-then-both
returns-then-both c = and_made c.in-Ok.left c.in-Ok.right c.args.left c.args.right c.in-Ok.ensures
    ∙ ap (λ (b : Bool). made Int (logical_part b ∷ (num_parts c.args.left ++ num_parts c.args.right))) (sym c.if-both.true)

pub returns-else-both : goal.returns-else-both
returns-else-both c = or_made c.in-Ok.left c.in-Ok.right c.args.left c.args.right c.in-Ok.ensures
    ∙ ap (λ (b : Bool). made Int (logical_part b ∷ (num_parts c.args.left ++ num_parts c.args.right))) (sym c.if-both.false)
