-- What expressions do.
use Rattle.std.specs.Prelude.{ℕ, ℤ, pos, Bool, not, cond, List, map}
use Rattle.std.specs.Str.{bytes_eq}
use Rattle.bt_core.specs.declared.map.MapId.{MapId}
use Rattle.bt_core.specs.declared.operator.BinOp.{BinOp}
use Rattle.bt_core.specs.declared.operator.UnOp.{UnOp}
use Rattle.bt_core.specs.declared.value.Value.{Value}
use Rattle.bt_core.specs.declared.value.Value.TheVariants.{Int, Str}
use Rattle.bt_core.specs.Arithmetic.{binary_value, unary_value, truth}
use Rattle.event_record.specs.Fields.{field_number, field_text}
use Rattle.event_layout.specs.declared.field.Field.{Field}
use Rattle.typed_tree.specs.declared.expr.AnyExpr.{AnyExpr, fold-AnyExpr}
use Rattle.typed_tree.specs.declared.expr.AnyExpr.TheOpen.{NumExpr-F, StrExpr-F, AnyExpr-F}
use Rattle.typed_tree.specs.declared.expr.NumBuiltin.{NumBuiltin}
use Rattle.typed_tree.specs.declared.expr.NumExpr.{NumExpr, fold-NumExpr}
use Rattle.typed_tree.specs.declared.expr.StrExpr.{StrExpr, fold-StrExpr}
use Rattle.map_ops.specs.Builtins.{builtin_value}
use Rattle.walk_meaning.specs.Does.{Does, given, looked_at, bind, then, if_holds, in_order}
use Rattle.map_ops.specs.Values.{holds, number_of, text_of, next}
use Rattle.walk_meaning.specs.Maps.{number_variable, text_variable, assigned, get, set, sum_at}

abbrev pub builtin : NumBuiltin → Does ℤ
builtin b = looked_at (λ scene frame. builtin_value b scene.context)

abbrev pub command : Does (List ℕ)
command = looked_at (λ scene frame. scene.context.comm)

abbrev pub number_field : Field → Does ℤ
number_field field = looked_at (λ scene frame. field_number field scene.payload)

abbrev pub text_field : Field → Does (List ℕ)
text_field field = looked_at (λ scene frame. field_text field scene.payload)

-- an operator before its operand, and between its operands
abbrev pub before : UnOp → Does ℤ → Does ℤ
before op d = bind d (λ a. given (unary_value op a))

abbrev pub both : BinOp → Does ℤ → Does ℤ → Does ℤ
both op left right = bind left (λ a. bind right (λ b. given (binary_value op a b)))

-- 1 where two strings are equal, or where they differ, and otherwise 0
abbrev pub texts_compared : Bool → Does (List ℕ) → Does (List ℕ) → Does ℤ
texts_compared equal left right = bind left (λ a. bind right (λ b. given (truth (cond equal (bytes_eq a b) (not (bytes_eq a b))))))

-- 1 or 0, by whether the number counts as true
abbrev pub tested : Does ℤ → Does ℤ
tested d = bind d (λ n. given (truth (holds n)))

-- `&&` and `||`: the right side is done only where the left one does not decide
abbrev pub and_also : Does ℤ → Does ℤ → Does ℤ
and_also left right = if_holds left (tested right) (given (pos 0))

abbrev pub or_else : Does ℤ → Does ℤ → Does ℤ
or_else left right = if_holds left (given (pos 1)) (tested right)

-- a key, and then the value under it
abbrev pub read : MapId → List (Does Value) → Does Value
read m keys = bind (in_order keys) (λ key. get m key)

abbrev pub read_number : MapId → List (Does Value) → Does ℤ
read_number m keys = bind (read m keys) (λ value. given (number_of value))

abbrev pub read_text : MapId → List (Does Value) → Does (List ℕ)
read_text m keys = bind (read m keys) (λ value. given (text_of value))

-- a key, and then the number of an aggregation under it
abbrev pub read_agg : MapId → List (Does Value) → Does ℤ
read_agg m keys = bind (in_order keys) (λ key. sum_at m key)

-- `++` and `--`: the prefix form gives the new value, the postfix form the old one
abbrev pub step_variable : ℕ → Bool → Bool → Does ℤ
step_variable var plus prefix =
    bind (number_variable var) (λ old. then (assigned var (Int (next plus old))) (given (cond prefix (next plus old) old)))

abbrev pub step_at : MapId → List Value → Bool → Bool → Does ℤ
step_at m key plus prefix =
    bind (get m key) (λ old.
    then (set m key (Int (next plus (number_of old)))) (given (cond prefix (next plus (number_of old)) (number_of old))))

abbrev pub step_map : MapId → List (Does Value) → Bool → Bool → Does ℤ
step_map m keys plus prefix = bind (in_order keys) (λ key. step_at m key plus prefix)

-- a number or a string as a value
abbrev pub number_value : Does ℤ → Does Value
number_value d = bind d (λ n. given (Int n))

abbrev pub text_value : Does (List ℕ) → Does Value
text_value d = bind d (λ s. given (Str s))

-- each kind of expression, by what its parts do
abbrev pub number_by_parts : NumExpr-F (Does Value) (Does ℤ) (Does (List ℕ)) → Does ℤ
number_by_parts (NumExpr-F.Number n) = given n
number_by_parts (NumExpr-F.Builtin b) = builtin b
number_by_parts (NumExpr-F.NumExpr::Field f) = number_field f
number_by_parts (NumExpr-F.NumExpr::Var n) = number_variable n
number_by_parts (NumExpr-F.NumExpr::Map m keys) = read_number m keys
number_by_parts (NumExpr-F.Agg m keys) = read_agg m keys
number_by_parts (NumExpr-F.StepVar n plus prefix) = step_variable n plus prefix
number_by_parts (NumExpr-F.StepMap m keys plus prefix) = step_map m keys plus prefix
number_by_parts (NumExpr-F.Unary op value) = before op value
number_by_parts (NumExpr-F.Binary op left right) = both op left right
number_by_parts (NumExpr-F.Compare equal left right) = texts_compared equal left right
number_by_parts (NumExpr-F.AndThen left right) = and_also left right
number_by_parts (NumExpr-F.OrElse left right) = or_else left right
number_by_parts (NumExpr-F.NumExpr::Choose test one other) = if_holds test one other

abbrev pub text_by_parts : StrExpr-F (Does Value) (Does ℤ) (Does (List ℕ)) → Does (List ℕ)
text_by_parts (StrExpr-F.Text text) = given text
text_by_parts StrExpr-F.Comm = command
text_by_parts (StrExpr-F.StrExpr::Field f) = text_field f
text_by_parts (StrExpr-F.StrExpr::Var n) = text_variable n
text_by_parts (StrExpr-F.StrExpr::Map m keys) = read_text m keys
text_by_parts (StrExpr-F.StrExpr::Choose test one other) = if_holds test one other

abbrev pub value_by_parts : AnyExpr-F (Does Value) (Does ℤ) (Does (List ℕ)) → Does Value
value_by_parts (AnyExpr-F.Num number) = number_value number
value_by_parts (AnyExpr-F.Str text) = text_value text

-- what an expression does, one that is a whole number, and one that is a string
abbrev pub value_does : AnyExpr → Does Value
value_does = fold-AnyExpr (Does Value) (Does ℤ) (Does (List ℕ)) value_by_parts number_by_parts text_by_parts

abbrev pub number_does : NumExpr → Does ℤ
number_does = fold-NumExpr (Does Value) (Does ℤ) (Does (List ℕ)) value_by_parts number_by_parts text_by_parts

abbrev pub text_does : StrExpr → Does (List ℕ)
text_does = fold-StrExpr (Does Value) (Does ℤ) (Does (List ℕ)) value_by_parts number_by_parts text_by_parts

abbrev pub values_do : List AnyExpr → List (Does Value)
values_do es = map value_does es
