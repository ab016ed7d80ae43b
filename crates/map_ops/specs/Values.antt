-- Numbers, strings and replies as values.
use Rattle.std.specs.Prelude.{ℕ, ℤ, pos, Bool, not, cond, List, [], Option, Some, None}
use Rattle.bt_core.specs.declared.map.Shape.{Shape}
use Rattle.bt_core.specs.declared.map.Shape.TheVariants as shapes
use Rattle.bt_core.specs.declared.operator.BinOp.TheVariants.{Add, Sub}
use Rattle.bt_core.specs.declared.step.Reply.{Reply}
use Rattle.bt_core.specs.declared.step.Reply.TheVariants as replies
use Rattle.bt_core.specs.declared.value.Value.{Value}
use Rattle.bt_core.specs.declared.value.Value.TheVariants.{Int, Str}
use Rattle.bt_core.specs.Arithmetic.{is_zero, binary_value}

-- the number of a value and its text; a value of the other type is 0 and empty
abbrev pub number_of : Value → ℤ
number_of (Int n) = n
number_of (Str s) = pos 0

abbrev pub text_of : Value → List ℕ
text_of (Int n) = []
text_of (Str s) = s

-- the type of a value
abbrev pub shape_of : Value → Shape
shape_of (Int n) = shapes.Int
shape_of (Str s) = shapes.Str

-- a value of this type
abbrev pub as_shape : Shape → Value → Value
as_shape shapes.Int v = Int (number_of v)
as_shape shapes.Str v = Str (text_of v)

-- the value of a reply; no other reply comes to a `Get`
abbrev pub value_of : Reply → Value
value_of (replies.Value value) = value
value_of reply = Int (pos 0)

abbrev pub or_zero : Option Value → Value
or_zero None = Int (pos 0)
or_zero (Some value) = value

-- a variable that was not assigned is 0 or empty
abbrev pub unassigned : Shape → Value
unassigned shapes.Int = Int (pos 0)
unassigned shapes.Str = Str []

-- a number counts as true where it is not 0
abbrev pub holds : ℤ → Bool
holds n = not (is_zero n)

-- one more or one less
abbrev pub next : Bool → ℤ → ℤ
next plus n = binary_value (cond plus Add Sub) n (pos 1)
