use Rattle.std.proofs.Common.{◌≡◌, ◌∷◌, ◌++◌, IfOk, sym, subst}
use Rattle.bt_core.specs.declared.map.Shape.TheVariants.{Int}
use Rattle.typed_tree.specs.Parts.{Made, made, made_of, Joined}
use Rattle.expr_types.specs.Judge.{Refuses}
use Rattle.expr_types.specs.Join.{joined_breaks}
use Rattle.expr_types.proofs.Trees.{num_given, str_given}
use Rattle.expr_types.proofs.leaf.binary.Goals as goal

pub returns-in-Num-clause-refuses : goal.returns-in-Num-clause-refuses
returns-in-Num-clause-refuses c = subst (λ (m : Made). Refuses (joined_breaks c.args.op m.shape (made_of c.args.right).shape) c.args.place c.binary_number.result)
    (sym (num_given c.args.left c.in-Num.left c.in-Num.is)) c.binary_number.ensures.refuses

pub returns-in-Num-clause-made : goal.returns-in-Num-clause-made
returns-in-Num-clause-made c = subst (λ (m : Made). IfOk c.binary_number.result (λ e. made_of e ≡ made Int (Joined c.args.op ∷ (m.parts ++ (made_of c.args.right).parts))))
    (sym (num_given c.args.left c.in-Num.left c.in-Num.is)) c.binary_number.ensures.made

pub returns-in-Str-clause-refuses : goal.returns-in-Str-clause-refuses
returns-in-Str-clause-refuses c = subst (λ (m : Made). Refuses (joined_breaks c.args.op m.shape (made_of c.args.right).shape) c.args.place c.binary_string.result)
    (sym (str_given c.args.left c.in-Str.left c.in-Str.is)) c.binary_string.ensures.refuses

pub returns-in-Str-clause-made : goal.returns-in-Str-clause-made
returns-in-Str-clause-made c = subst (λ (m : Made). IfOk c.binary_string.result (λ e. made_of e ≡ made Int (Joined c.args.op ∷ (m.parts ++ (made_of c.args.right).parts))))
    (sym (str_given c.args.left c.in-Str.left c.in-Str.is)) c.binary_string.ensures.made
