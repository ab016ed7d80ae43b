use Rattle.std.proofs.Common.{◌≡◌, ◌∷◌, ◌++◌, IfOk, ap, sym, subst}
use Rattle.typed_tree.specs.Parts.{Made, made, made_of, Chosen}
use Rattle.expr_types.specs.Judge.{Refuses}
use Rattle.expr_types.specs.Join.{choose_breaks}
use Rattle.expr_types.proofs.Trees.{num_given, str_given}
use Rattle.expr_types.proofs.Operands.{wrong_refuses, nothing_made}
use Rattle.expr_types.proofs.leaf.choose.Goals as goal

pub returns-in-Num-clause-refuses : goal.returns-in-Num-clause-refuses
returns-in-Num-clause-refuses c = subst (λ (m : Made). Refuses (choose_breaks m.shape (made_of c.args.yes).shape (made_of c.args.no).shape) c.args.place c.choose_by.result)
    (sym (num_given c.args.condition c.in-Num.condition c.in-Num.is)) c.choose_by.ensures.refuses

pub returns-in-Num-clause-made : goal.returns-in-Num-clause-made
returns-in-Num-clause-made c = subst (λ (m : Made). IfOk c.choose_by.result (λ e. made_of e ≡ made (made_of c.args.yes).shape (Chosen ∷ (m.parts ++ ((made_of c.args.yes).parts ++ (made_of c.args.no).parts)))))
    (sym (num_given c.args.condition c.in-Num.condition c.in-Num.is)) c.choose_by.ensures.made

pub returns-in-Str-clause-refuses : goal.returns-in-Str-clause-refuses
returns-in-Str-clause-refuses c = wrong_refuses (choose_breaks (made_of c.args.condition).shape (made_of c.args.yes).shape (made_of c.args.no).shape) c.args.place c.refused.result
    (ap (λ (m : Made). choose_breaks m.shape (made_of c.args.yes).shape (made_of c.args.no).shape) (str_given c.args.condition c.in-Str.text c.in-Str.is)) c.refused.ensures

pub returns-in-Str-clause-made : goal.returns-in-Str-clause-made
returns-in-Str-clause-made c = nothing_made (λ e. made_of e ≡ made (made_of c.args.yes).shape (Chosen ∷ ((made_of c.args.condition).parts ++ ((made_of c.args.yes).parts ++ (made_of c.args.no).parts)))) _ c.refused.result c.refused.ensures
