use Rattle.std.proofs.Common.{◌≡◌, ◌∷◌, ◌++◌, ap, sym}
use Rattle.bt_core.specs.declared.map.Shape.TheVariants.{Int}
use Rattle.typed_tree.specs.Parts.{Made, made, made_of, num_parts, Chosen}
use Rattle.expr_types.specs.Join.{same_breaks}
use Rattle.expr_types.proofs.Trees.{num_given, str_given}
use Rattle.expr_types.proofs.Operands.{made_refuses, made_is, wrong_refuses, nothing_made}
use Rattle.expr_types.proofs.leaf.choose_number.Goals as goal

pub returns-in-Num-clause-refuses : goal.returns-in-Num-clause-refuses
returns-in-Num-clause-refuses c = made_refuses (same_breaks Int (made_of c.args.no).shape) c.args.place (made Int (Chosen ∷ (num_parts c.args.condition ++ (num_parts c.args.yes ++ num_parts c.in-Num.no)))) c.chosen_number.result
    (ap (λ (m : Made). same_breaks Int m.shape) (num_given c.args.no c.in-Num.no c.in-Num.is)) c.chosen_number.ensures

pub returns-in-Num-clause-made : goal.returns-in-Num-clause-made
returns-in-Num-clause-made c = made_is (made Int (Chosen ∷ (num_parts c.args.condition ++ (num_parts c.args.yes ++ num_parts c.in-Num.no)))) (made Int (Chosen ∷ (num_parts c.args.condition ++ (num_parts c.args.yes ++ (made_of c.args.no).parts)))) c.chosen_number.result
    (ap (λ (m : Made). made Int (Chosen ∷ (num_parts c.args.condition ++ (num_parts c.args.yes ++ m.parts)))) (sym (num_given c.args.no c.in-Num.no c.in-Num.is))) c.chosen_number.ensures

pub returns-in-Str-clause-refuses : goal.returns-in-Str-clause-refuses
returns-in-Str-clause-refuses c = wrong_refuses (same_breaks Int (made_of c.args.no).shape) c.args.place c.refused.result
    (ap (λ (m : Made). same_breaks Int m.shape) (str_given c.args.no c.in-Str.text c.in-Str.is)) c.refused.ensures

pub returns-in-Str-clause-made : goal.returns-in-Str-clause-made
returns-in-Str-clause-made c = nothing_made (λ e. made_of e ≡ made Int (Chosen ∷ (num_parts c.args.condition ++ (num_parts c.args.yes ++ (made_of c.args.no).parts)))) _ c.refused.result c.refused.ensures
