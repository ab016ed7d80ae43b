use Rattle.std.proofs.lemmas.Grind.{common_steps}
use Rattle.std.proofs.Common.{◌≡◌, ◌∷◌, ◌++◌, true, false, ap, sym, arith}
use Rattle.bt_core.specs.declared.map.Shape.TheVariants.{Int, Str}
use Rattle.typed_tree.specs.Parts.{made, made_of, str_parts, Joined, compared}
use Rattle.bt_core.specs.declared.operator.BinOp.{BinOp}
use Rattle.expr_types.specs.Join.{joined_breaks}
use Rattle.expr_types.proofs.Operands.{made_refuses, made_is, nothing_made}
use Rattle.expr_types.proofs.leaf.compare.Goals as goal

pub returns-in-Eq-clause-refuses : goal.returns-in-Eq-clause-refuses
returns-in-Eq-clause-refuses c = made_refuses (joined_breaks c.args.op Str Str) c.args.place (made Int (Joined (compared true) ∷ (str_parts c.args.left ++ str_parts c.args.right))) c.equated.result
    (ap (λ (o : BinOp). joined_breaks o Str Str) c.in-Eq.is) c.equated.ensures

pub returns-in-Eq-clause-made : goal.returns-in-Eq-clause-made
returns-in-Eq-clause-made c = made_is (made Int (Joined (compared true) ∷ (str_parts c.args.left ++ str_parts c.args.right))) (made Int (Joined c.args.op ∷ (str_parts c.args.left ++ str_parts c.args.right))) c.equated.result
    (ap (λ (o : BinOp). made Int (Joined o ∷ (str_parts c.args.left ++ str_parts c.args.right))) (sym c.in-Eq.is)) c.equated.ensures

pub returns-in-Ne-clause-refuses : goal.returns-in-Ne-clause-refuses
returns-in-Ne-clause-refuses c = made_refuses (joined_breaks c.args.op Str Str) c.args.place (made Int (Joined (compared false) ∷ (str_parts c.args.left ++ str_parts c.args.right))) c.equated-in-Ne.result
    (ap (λ (o : BinOp). joined_breaks o Str Str) c.in-Ne.is) c.equated-in-Ne.ensures

pub returns-in-Ne-clause-made : goal.returns-in-Ne-clause-made
returns-in-Ne-clause-made c = made_is (made Int (Joined (compared false) ∷ (str_parts c.args.left ++ str_parts c.args.right))) (made Int (Joined c.args.op ∷ (str_parts c.args.left ++ str_parts c.args.right))) c.equated-in-Ne.result
    (ap (λ (o : BinOp). made Int (Joined o ∷ (str_parts c.args.left ++ str_parts c.args.right))) (sym c.in-Ne.is)) c.equated-in-Ne.ensures

pub returns-in_default-clause-made : goal.returns-in_default-clause-made
returns-in_default-clause-made c = nothing_made (λ e. made_of e ≡ made Int (Joined c.args.op ∷ (str_parts c.args.left ++ str_parts c.args.right))) _ c.refused.result c.refused.ensures

pub returns-in_default-clause-refuses : goal.returns-in_default-clause-refuses
returns-in_default-clause-refuses c = grind (arith, common_steps)
