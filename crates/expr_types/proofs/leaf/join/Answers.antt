use Rattle.std.proofs.Common.{◌≡◌, ◌∷◌, ◌++◌, IfOk, sym, subst}
use Rattle.bt_core.specs.declared.map.Shape.TheVariants.{Int}
use Rattle.typed_tree.specs.Parts.{made, made_of}
use Rattle.expr_types.specs.declared.leaf.Joint.{Joint}
use Rattle.expr_types.specs.Judge.{Refuses}
use Rattle.expr_types.specs.Joint.{joint_breaks, joint_part}
use Rattle.expr_types.proofs.leaf.join.Goals as goal

pub returns-in-Operator-clause-refuses : goal.returns-in-Operator-clause-refuses
returns-in-Operator-clause-refuses c = subst (λ (j : Joint). Refuses (joint_breaks j (made_of c.args.left).shape (made_of c.args.right).shape) c.args.place c.binary.result)
    (sym c.in-Operator.is) c.binary.ensures.refuses

pub returns-in-Operator-clause-made : goal.returns-in-Operator-clause-made
returns-in-Operator-clause-made c = subst (λ (j : Joint). IfOk c.binary.result (λ e. made_of e ≡ made Int (joint_part j ∷ ((made_of c.args.left).parts ++ (made_of c.args.right).parts))))
    (sym c.in-Operator.is) c.binary.ensures.made

pub returns-in-And-clause-refuses : goal.returns-in-And-clause-refuses
returns-in-And-clause-refuses c = subst (λ (j : Joint). Refuses (joint_breaks j (made_of c.args.left).shape (made_of c.args.right).shape) c.args.place c.logical.result)
    (sym c.in-And.is) c.logical.ensures.refuses

pub returns-in-And-clause-made : goal.returns-in-And-clause-made
returns-in-And-clause-made c = subst (λ (j : Joint). IfOk c.logical.result (λ e. made_of e ≡ made Int (joint_part j ∷ ((made_of c.args.left).parts ++ (made_of c.args.right).parts))))
    (sym c.in-And.is) c.logical.ensures.made

pub returns-in-Or-clause-refuses : goal.returns-in-Or-clause-refuses
returns-in-Or-clause-refuses c = subst (λ (j : Joint). Refuses (joint_breaks j (made_of c.args.left).shape (made_of c.args.right).shape) c.args.place c.logical-in-Or.result)
    (sym c.in-Or.is) c.logical-in-Or.ensures.refuses

pub returns-in-Or-clause-made : goal.returns-in-Or-clause-made
returns-in-Or-clause-made c = subst (λ (j : Joint). IfOk c.logical-in-Or.result (λ e. made_of e ≡ made Int (joint_part j ∷ ((made_of c.args.left).parts ++ (made_of c.args.right).parts))))
    (sym c.in-Or.is) c.logical-in-Or.ensures.made
