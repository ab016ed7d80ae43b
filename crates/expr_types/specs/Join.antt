-- What operators make of their operands, and what they break.
use Rattle.std.specs.Prelude.{◌≡◌, ◌∷◌, [], Bool, cond, not, Option, Some, Result, MatchResult}
use Rattle.bt_ast.specs.declared.expr.Builtin.{Builtin}
use Rattle.bt_ast.specs.declared.expr.Builtin.TheVariants.{Pid, Tid, Uid, Gid, Comm, Cpu, Nsecs, Elapsed}
use Rattle.bt_core.specs.declared.map.Shape.{Shape}
use Rattle.bt_core.specs.declared.map.Shape.TheVariants.{Int, Str}
use Rattle.bt_core.specs.declared.operator.BinOp.{BinOp}
use Rattle.bt_core.specs.declared.operator.BinOp.TheVariants.{Eq, Ne}
use Rattle.expr_types.specs.declared.fault.Rule.{Rule}
use Rattle.expr_types.specs.declared.fault.Rule.TheVariants.{WrongType}
use Rattle.expr_types.specs.declared.fault.TypeError.{TypeError}
use Rattle.expr_types.specs.declared.fault.TypeError.TheVariants.{Memory}
use Rattle.typed_tree.specs.declared.expr.AnyExpr.{AnyExpr}
use Rattle.typed_tree.specs.declared.expr.NumBuiltin.TheVariants as number
use Rattle.event_layout.specs.declared.field.Field.{Field}
use Rattle.typed_tree.specs.Scope.{same_shape, shape_of_field}
use Rattle.expr_types.specs.Rules.{first_of_rules, are_two}
use Rattle.typed_tree.specs.Parts.{TreePart, FieldOf, Numeric, Command, Both, Either, Made, made, made_of}

-- an answer is made so, but for want of memory
abbrev pub Makes : Made → Result AnyExpr TypeError → Type 0
Makes m r = MatchResult r (λ e. made_of e ≡ m) (λ e. e ≡ Memory)

abbrev pub builtin_made : Builtin → Made
builtin_made Comm = made Str (Command ∷ [])
builtin_made Pid = made Int (Numeric number.Pid ∷ [])
builtin_made Tid = made Int (Numeric number.Tid ∷ [])
builtin_made Uid = made Int (Numeric number.Uid ∷ [])
builtin_made Gid = made Int (Numeric number.Gid ∷ [])
builtin_made Cpu = made Int (Numeric number.Cpu ∷ [])
builtin_made Nsecs = made Int (Numeric number.Nsecs ∷ [])
builtin_made Elapsed = made Int (Numeric number.Elapsed ∷ [])

-- a string where a whole number is needed
abbrev pub whole_breaks : Shape → Option Rule
whole_breaks shape = first_of_rules ((same_shape shape Str, WrongType) ∷ [])

-- two values that are not both whole numbers; that are not of one type
abbrev pub both_break : Shape → Shape → Option Rule
both_break left right = first_of_rules ((same_shape left Str, WrongType) ∷ (same_shape right Str, WrongType) ∷ [])

abbrev pub same_breaks : Shape → Shape → Option Rule
same_breaks left right = first_of_rules ((not (same_shape left right), WrongType) ∷ [])

abbrev pub joined_breaks : BinOp → Shape → Shape → Option Rule
joined_breaks Eq left right = same_breaks left right
joined_breaks Ne left right = same_breaks left right
joined_breaks op left right = both_break left right

abbrev pub choose_breaks : Shape → Shape → Shape → Option Rule
choose_breaks test first second = first_of_rules ((same_shape test Str, WrongType) ∷ (not (same_shape first second), WrongType) ∷ [])

abbrev pub logical_part : Bool → TreePart
logical_part both = cond both Both Either

-- a value of another type than the variable's
abbrev pub set_breaks : Option Shape → Shape → Option Rule
set_breaks held shape = first_of_rules ((are_two held (Some shape), WrongType) ∷ [])

-- a field as an expression, of the type that a script reads it in
pub record IsFieldRead (field : Field) (m : Made) : Type 0 where
  pub shape : Shape
  pub kind : shape_of_field field.kind ≡ Some shape
  pub is : m ≡ made shape (FieldOf field shape ∷ [])
