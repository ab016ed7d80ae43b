use Rattle.std.proofs.Common.{◌≡◌, ◌∷◌, ◌++◌, IfOk, sym, subst}
use Rattle.typed_tree.specs.Parts.{Made, made, made_of, num_parts, Chosen}
use Rattle.expr_types.specs.Judge.{Refuses}
use Rattle.expr_types.specs.Join.{same_breaks}
use Rattle.expr_types.proofs.Trees.{num_given, str_given}
use Rattle.expr_types.proofs.leaf.choose_by.Goals as goal

pub returns-in-Num-clause-refuses : goal.returns-in-Num-clause-refuses
returns-in-Num-clause-refuses c = subst (λ (m : Made). Refuses (same_breaks m.shape (made_of c.args.no).shape) c.args.place c.choose_number.result)
    (sym (num_given c.args.yes c.in-Num.yes c.in-Num.is)) c.choose_number.ensures.refuses

pub returns-in-Num-clause-made : goal.returns-in-Num-clause-made
returns-in-Num-clause-made c = subst (λ (m : Made). IfOk c.choose_number.result (λ e. made_of e ≡ made m.shape (Chosen ∷ (num_parts c.args.condition ++ (m.parts ++ (made_of c.args.no).parts)))))
    (sym (num_given c.args.yes c.in-Num.yes c.in-Num.is)) c.choose_number.ensures.made

pub returns-in-Str-clause-refuses : goal.returns-in-Str-clause-refuses
returns-in-Str-clause-refuses c = subst (λ (m : Made). Refuses (same_breaks m.shape (made_of c.args.no).shape) c.args.place c.choose_string.result)
    (sym (str_given c.args.yes c.in-Str.yes c.in-Str.is)) c.choose_string.ensures.refuses

pub returns-in-Str-clause-made : goal.returns-in-Str-clause-made
returns-in-Str-clause-made c = subst (λ (m : Made). IfOk c.choose_string.result (λ e. made_of e ≡ made m.shape (Chosen ∷ (num_parts c.args.condition ++ (m.parts ++ (made_of c.args.no).parts)))))
    (sym (str_given c.args.yes c.in-Str.yes c.in-Str.is)) c.choose_string.ensures.made
