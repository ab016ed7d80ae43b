use Rattle.std.proofs.Common.{◌≡◌, refl}
use Rattle.bt_core.specs.declared.operator.BinOp.{BinOp}
use Rattle.bt_ast.specs.declared.expr.Expr.{Expr}
use Rattle.bt_grammar.specs.declared.class.Class.{Class}
use Rattle.bt_grammar.specs.declared.class.Class.TheVariants.{AndAnd, Operator}
use Rattle.bt_grammar.specs.Trees.{binary_kind}
use Rattle.bt_ast.specs.declared.expr.ExprKind.TheVariants as exprs
use Rattle.bt_parser.proofs.expr.joined_kind.Goals as goal

-- any other class joins by `||`
other_kind : (c : Class) (left right : Expr) → ((op : BinOp) → c ≡ Operator op → ⊥) → (c ≡ AndAnd → ⊥) → exprs.OrElse left right ≡ binary_kind c left right
other_kind (Operator op) left right h k = absurd (h op refl)
other_kind AndAnd left right h k = absurd (k refl)
other_kind _ left right h k = refl

pub returns-in-Operator : goal.returns-in-Operator
returns-in-Operator c = rw c.in-Operator.is refl

pub returns-in-AndAnd : goal.returns-in-AndAnd
returns-in-AndAnd c = rw c.in-AndAnd.is refl

pub returns-in_default : goal.returns-in_default
returns-in_default c = other_kind c.args.class c.args.both.first c.args.both.second c.in_default.not-Operator c.in_default.not-AndAnd
