use Rattle.std.proofs.Common.{◌≡◌, ◌∷◌, ◌++◌, ap, sym}
use Rattle.bt_core.specs.declared.map.Shape.TheVariants.{Int}
use Rattle.typed_tree.specs.Parts.{Made, made, made_of, num_parts}
use Rattle.expr_types.specs.Join.{both_break, logical_part}
use Rattle.expr_types.proofs.Trees.{num_given, str_given}
use Rattle.expr_types.proofs.Operands.{made_refuses, made_is, wrong_refuses, nothing_made}
use Rattle.expr_types.proofs.leaf.logical_number.Goals as goal

pub returns-in-Num-clause-refuses : goal.returns-in-Num-clause-refuses
returns-in-Num-clause-refuses c = made_refuses (both_break Int (made_of c.args.right).shape) c.args.place (made Int (logical_part c.args.both ∷ (num_parts c.args.left ++ num_parts c.in-Num.right))) c.both_or_either.result
    (ap (λ (m : Made). both_break Int m.shape) (num_given c.args.right c.in-Num.right c.in-Num.is)) c.both_or_either.ensures

pub returns-in-Num-clause-made : goal.returns-in-Num-clause-made
returns-in-Num-clause-made c = made_is (made Int (logical_part c.args.both ∷ (num_parts c.args.left ++ num_parts c.in-Num.right))) (made Int (logical_part c.args.both ∷ (num_parts c.args.left ++ (made_of c.args.right).parts))) c.both_or_either.result
    (ap (λ (m : Made). made Int (logical_part c.args.both ∷ (num_parts c.args.left ++ m.parts))) (sym (num_given c.args.right c.in-Num.right c.in-Num.is))) c.both_or_either.ensures

pub returns-in-Str-clause-refuses : goal.returns-in-Str-clause-refuses
returns-in-Str-clause-refuses c = wrong_refuses (both_break Int (made_of c.args.right).shape) c.args.place c.refused.result
    (ap (λ (m : Made). both_break Int m.shape) (str_given c.args.right c.in-Str.text c.in-Str.is)) c.refused.ensures

pub returns-in-Str-clause-made : goal.returns-in-Str-clause-made
returns-in-Str-clause-made c = nothing_made (λ e. made_of e ≡ made Int (logical_part c.args.both ∷ (num_parts c.args.left ++ (made_of c.args.right).parts))) _ c.refused.result c.refused.ensures
