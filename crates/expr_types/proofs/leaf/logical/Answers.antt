use Rattle.std.proofs.Common.{◌≡◌, ◌∷◌, ◌++◌, IfOk, ap, sym, subst}
use Rattle.bt_core.specs.declared.map.Shape.TheVariants.{Int}
use Rattle.typed_tree.specs.Parts.{Made, made, made_of}
use Rattle.expr_types.specs.Judge.{Refuses}
use Rattle.expr_types.specs.Join.{both_break, logical_part}
use Rattle.expr_types.proofs.Trees.{num_given, str_given}
use Rattle.expr_types.proofs.Operands.{wrong_refuses, nothing_made}
use Rattle.expr_types.proofs.leaf.logical.Goals as goal

pub returns-in-Num-clause-refuses : goal.returns-in-Num-clause-refuses
returns-in-Num-clause-refuses c = subst (λ (m : Made). Refuses (both_break m.shape (made_of c.args.right).shape) c.args.place c.logical_number.result)
    (sym (num_given c.args.left c.in-Num.left c.in-Num.is)) c.logical_number.ensures.refuses

pub returns-in-Num-clause-made : goal.returns-in-Num-clause-made
returns-in-Num-clause-made c = subst (λ (m : Made). IfOk c.logical_number.result (λ e. made_of e ≡ made Int (logical_part c.args.both ∷ (m.parts ++ (made_of c.args.right).parts))))
    (sym (num_given c.args.left c.in-Num.left c.in-Num.is)) c.logical_number.ensures.made

pub returns-in-Str-clause-refuses : goal.returns-in-Str-clause-refuses
returns-in-Str-clause-refuses c = wrong_refuses (both_break (made_of c.args.left).shape (made_of c.args.right).shape) c.args.place c.refused.result
    (ap (λ (m : Made). both_break m.shape (made_of c.args.right).shape) (str_given c.args.left c.in-Str.text c.in-Str.is)) c.refused.ensures

pub returns-in-Str-clause-made : goal.returns-in-Str-clause-made
returns-in-Str-clause-made c = nothing_made (λ e. made_of e ≡ made Int (logical_part c.args.both ∷ ((made_of c.args.left).parts ++ (made_of c.args.right).parts))) _ c.refused.result c.refused.ensures
