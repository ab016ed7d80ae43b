use Rattle.std.proofs.Common.{◌≡◌, ◌∷◌, ◌++◌, ap, sym, ◌∙◌}
use Rattle.bt_core.specs.declared.map.Shape.TheVariants.{Int}
use Rattle.typed_tree.specs.Parts.{Made, made, made_of, num_parts, Joined}
use Rattle.expr_types.specs.Join.{joined_breaks}
use Rattle.expr_types.proofs.Trees.{num_given, str_given}
use Rattle.expr_types.proofs.Operands.{made_refuses, made_is, wrong_refuses, nothing_made, numbers_fit, number_first}
use Rattle.expr_types.proofs.leaf.binary_number.Goals as goal

pub returns-in-Num-clause-refuses : goal.returns-in-Num-clause-refuses
returns-in-Num-clause-refuses c = made_refuses (joined_breaks c.args.op Int (made_of c.args.right).shape) c.args.place (made Int (Joined c.args.op ∷ (num_parts c.args.left ++ num_parts c.in-Num.right))) c.operated.result
    (ap (λ (m : Made). joined_breaks c.args.op Int m.shape) (num_given c.args.right c.in-Num.right c.in-Num.is) ∙ numbers_fit c.args.op) c.operated.ensures

pub returns-in-Num-clause-made : goal.returns-in-Num-clause-made
returns-in-Num-clause-made c = made_is (made Int (Joined c.args.op ∷ (num_parts c.args.left ++ num_parts c.in-Num.right))) (made Int (Joined c.args.op ∷ (num_parts c.args.left ++ (made_of c.args.right).parts))) c.operated.result
    (ap (λ (m : Made). made Int (Joined c.args.op ∷ (num_parts c.args.left ++ m.parts))) (sym (num_given c.args.right c.in-Num.right c.in-Num.is))) c.operated.ensures

pub returns-in-Str-clause-refuses : goal.returns-in-Str-clause-refuses
returns-in-Str-clause-refuses c = wrong_refuses (joined_breaks c.args.op Int (made_of c.args.right).shape) c.args.place c.refused.result
    (ap (λ (m : Made). joined_breaks c.args.op Int m.shape) (str_given c.args.right c.in-Str.text c.in-Str.is) ∙ number_first c.args.op) c.refused.ensures

pub returns-in-Str-clause-made : goal.returns-in-Str-clause-made
returns-in-Str-clause-made c = nothing_made (λ e. made_of e ≡ made Int (Joined c.args.op ∷ (num_parts c.args.left ++ (made_of c.args.right).parts))) _ c.refused.result c.refused.ensures
