use Rattle.std.proofs.Common.{◌≡◌, ◌∷◌, ◌++◌, IfOk, ap, sym, subst, ◌∙◌}
use Rattle.bt_core.specs.declared.map.Shape.TheVariants.{Int, Str}
use Rattle.typed_tree.specs.Parts.{Made, made, made_of, str_parts, Joined}
use Rattle.expr_types.specs.Judge.{Refuses}
use Rattle.expr_types.specs.Join.{joined_breaks}
use Rattle.expr_types.proofs.Trees.{num_given, str_given}
use Rattle.expr_types.proofs.Operands.{wrong_refuses, nothing_made, string_first}
use Rattle.expr_types.proofs.leaf.binary_string.Goals as goal

pub returns-in-Str-clause-refuses : goal.returns-in-Str-clause-refuses
returns-in-Str-clause-refuses c = subst (λ (m : Made). Refuses (joined_breaks c.args.op Str m.shape) c.args.place c.compare.result)
    (sym (str_given c.args.right c.in-Str.right c.in-Str.is)) c.compare.ensures.refuses

pub returns-in-Str-clause-made : goal.returns-in-Str-clause-made
returns-in-Str-clause-made c = subst (λ (m : Made). IfOk c.compare.result (λ e. made_of e ≡ made Int (Joined c.args.op ∷ (str_parts c.args.left ++ m.parts))))
    (sym (str_given c.args.right c.in-Str.right c.in-Str.is)) c.compare.ensures.made

pub returns-in-Num-clause-refuses : goal.returns-in-Num-clause-refuses
returns-in-Num-clause-refuses c = wrong_refuses (joined_breaks c.args.op Str (made_of c.args.right).shape) c.args.place c.refused.result
    (ap (λ (m : Made). joined_breaks c.args.op Str m.shape) (num_given c.args.right c.in-Num.number c.in-Num.is) ∙ string_first c.args.op) c.refused.ensures

pub returns-in-Num-clause-made : goal.returns-in-Num-clause-made
returns-in-Num-clause-made c = nothing_made (λ e. made_of e ≡ made Int (Joined c.args.op ∷ (str_parts c.args.left ++ (made_of c.args.right).parts))) _ c.refused.result c.refused.ensures
