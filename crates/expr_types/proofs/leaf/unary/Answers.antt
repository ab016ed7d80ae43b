use Rattle.std.proofs.Common.{◌≡◌, ◌∷◌, ap, sym}
use Rattle.bt_core.specs.declared.map.Shape.TheVariants.{Int}
use Rattle.typed_tree.specs.Parts.{Made, made, made_of, num_parts, Prefixed}
use Rattle.expr_types.specs.Join.{whole_breaks}
use Rattle.expr_types.proofs.Trees.{num_given, str_given}
use Rattle.expr_types.proofs.Operands.{made_refuses, made_is, wrong_refuses, nothing_made}
use Rattle.expr_types.proofs.leaf.unary.Goals as goal

pub returns-in-Num-clause-refuses : goal.returns-in-Num-clause-refuses
returns-in-Num-clause-refuses c = made_refuses (whole_breaks (made_of c.args.value).shape) c.args.place (made Int (Prefixed c.args.op ∷ num_parts c.in-Num.value)) c.prefixed.result
    (ap (λ (m : Made). whole_breaks m.shape) (num_given c.args.value c.in-Num.value c.in-Num.is)) c.prefixed.ensures

pub returns-in-Num-clause-made : goal.returns-in-Num-clause-made
returns-in-Num-clause-made c = made_is (made Int (Prefixed c.args.op ∷ num_parts c.in-Num.value)) (made Int (Prefixed c.args.op ∷ (made_of c.args.value).parts)) c.prefixed.result
    (ap (λ (m : Made). made Int (Prefixed c.args.op ∷ m.parts)) (sym (num_given c.args.value c.in-Num.value c.in-Num.is))) c.prefixed.ensures

pub returns-in-Str-clause-refuses : goal.returns-in-Str-clause-refuses
returns-in-Str-clause-refuses c = wrong_refuses (whole_breaks (made_of c.args.value).shape) c.args.place c.refused.result
    (ap (λ (m : Made). whole_breaks m.shape) (str_given c.args.value c.in-Str.text c.in-Str.is)) c.refused.ensures

pub returns-in-Str-clause-made : goal.returns-in-Str-clause-made
returns-in-Str-clause-made c = nothing_made (λ e. made_of e ≡ made Int (Prefixed c.args.op ∷ (made_of c.args.value).parts)) _ c.refused.result c.refused.ensures
