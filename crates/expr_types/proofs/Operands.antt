-- What operands break, and what is answered where they break it and where they do not.
use Rattle.std.proofs.Common.{◌≡◌, Option, Some, None, Result, Ok, Err, IfOk, refl, sym, subst, ◌∙◌}
use Rattle.bt_core.specs.declared.map.Shape.TheVariants.{Int, Str}
use Rattle.bt_core.specs.declared.operator.BinOp.{BinOp}
use Rattle.bt_core.specs.declared.operator.BinOp.TheVariants.{Eq, Ne}
use Rattle.bt_core.specs.declared.place.Place.{Place}
use Rattle.typed_tree.specs.declared.expr.AnyExpr.{AnyExpr}
use Rattle.typed_tree.specs.Parts.{Made, made_of}
use Rattle.expr_types.specs.declared.fault.Rule.{Rule}
use Rattle.expr_types.specs.declared.fault.Rule.TheVariants.{WrongType}
use Rattle.expr_types.specs.declared.fault.TypeError.{TypeError}
use Rattle.expr_types.specs.declared.fault.TypeError.TheVariants.{Broken}
use Rattle.expr_types.specs.Judge.{IsBreach, Refuses}
use Rattle.expr_types.specs.Join.{Makes, joined_breaks}

-- where no rule is broken
pub made_refuses : (rule : Option Rule) (place : Place) (m : Made) (r : Result AnyExpr TypeError) → rule ≡ None → Makes m r → Refuses rule place r
made_refuses rule place m (Ok e) none is = none
made_refuses rule place m (Err e) none is = subst (λ (x : TypeError). IsBreach rule place x) (sym is) tt

pub made_is : (m n : Made) (r : Result AnyExpr TypeError) → m ≡ n → Makes m r → IfOk r (λ e. made_of e ≡ n)
made_is m n (Ok e) same is = is ∙ same
made_is m n (Err e) same is = tt

-- where one is
pub wrong_refuses : (rule : Option Rule) (place : Place) (r : Result AnyExpr TypeError) → rule ≡ Some WrongType
    → r ≡ Err (Broken (record { rule = WrongType; place = place })) → Refuses rule place r
wrong_refuses rule place r broken is = subst (λ (x : Result AnyExpr TypeError). Refuses rule place x) (sym is) (broken, refl)

pub nothing_made : (P : AnyExpr → Type 0) (e : TypeError) (r : Result AnyExpr TypeError) → r ≡ Err e → IfOk r P
nothing_made P e r is = subst (λ (x : Result AnyExpr TypeError). IfOk x P) (sym is) tt

-- two whole numbers break nothing, and a whole number and a string always do
pub numbers_fit : (op : BinOp) → joined_breaks op Int Int ≡ None
numbers_fit op = elim op as (λ o. joined_breaks o Int Int ≡ None) [ Eq ↦ refl | Ne ↦ refl | _ ↦ refl ]

pub number_first : (op : BinOp) → joined_breaks op Int Str ≡ Some WrongType
number_first op = elim op as (λ o. joined_breaks o Int Str ≡ Some WrongType) [ Eq ↦ refl | Ne ↦ refl | _ ↦ refl ]

pub string_first : (op : BinOp) → joined_breaks op Str Int ≡ Some WrongType
string_first op = elim op as (λ o. joined_breaks o Str Int ≡ Some WrongType) [ Eq ↦ refl | Ne ↦ refl | _ ↦ refl ]
