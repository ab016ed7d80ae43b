-- Which classes are equal, by a number for each, and the groups that the grammar names.
use Rattle.std.specs.Prelude.{ℕ, Bool, true, false, not, ◌&&◌, nat_eq, nat_lt, Option, Some, None, is_some, if◌then◌else◌}
use denote.Enum.Declared.{tag_of}
use Rattle.bt_core.specs.declared.operator.BinOp.{BinOp}
use Rattle.bt_core.specs.declared.operator.BinOp.TheVariants.{Add, Sub, Mul, Div, Mod, Shl, Shr, BitAnd, BitOr, BitXor, Eq, Ne, Lt, Le, Gt, Ge}
use Rattle.bt_core.specs.contracts.operator.BinOp as operators
use Rattle.bt_core.specs.declared.operator.UnOp.{UnOp}
use Rattle.bt_core.specs.declared.operator.UnOp.TheVariants.{Neg, LogNot, BitNot}
use Rattle.bt_ast.specs.declared.expr.Builtin.{Builtin}
use Rattle.bt_ast.specs.contracts.expr.Builtin as builtins
use Rattle.bt_grammar.specs.declared.class.Class.{Class}
use Rattle.bt_ast.specs.declared.gathering.Gathering.{Gathering}
use Rattle.bt_ast.specs.contracts.gathering.Gathering as gatherings
use Rattle.bt_grammar.specs.declared.class.Tier.{Tier}
use Rattle.bt_grammar.specs.declared.class.Tier.TheVariants.{Products, Sums, Shifts, Orders, Equalities, BitAnds, BitXors, BitOrs, AndThens, OrElses}
use Rattle.bt_grammar.specs.declared.class.Class.TheVariants.{BuiltinWord, GatherWord, Operator, UpdateMark, BeginWord, EndWord, IfWord, ElseWord, WhileWord, UnrollWord, CountWord, LhistWord, PrintfWord, PrintWord, ClearWord, ZeroWord, DeleteWord, ExitWord, BreakWord, ContinueWord, ReturnWord, ArgsWord, OtherWord, TracepointPoint, IntervalPoint, MapName, VarName, NumberLiteral, TextLiteral, Increment, Decrement, AndAnd, OrOr, Arrow, OpenBrace, CloseBrace, OpenParen, CloseParen, OpenBracket, CloseBracket, Comma, Semicolon, Dot, Assign, Tilde, Bang, Question, Colon, Foreign}

-- the place of a class in the list of variants
abbrev pub class_number : Class → ℕ
class_number BeginWord = 0
class_number EndWord = 1
class_number IfWord = 2
class_number ElseWord = 3
class_number WhileWord = 4
class_number UnrollWord = 5
class_number CountWord = 6
class_number LhistWord = 7
class_number PrintfWord = 8
class_number PrintWord = 9
class_number ClearWord = 10
class_number ZeroWord = 11
class_number DeleteWord = 12
class_number ExitWord = 13
class_number BreakWord = 14
class_number ContinueWord = 15
class_number ReturnWord = 16
class_number ArgsWord = 17
class_number OtherWord = 18
class_number TracepointPoint = 19
class_number IntervalPoint = 20
class_number MapName = 21
class_number VarName = 22
class_number NumberLiteral = 23
class_number TextLiteral = 24
class_number Increment = 25
class_number Decrement = 26
class_number AndAnd = 27
class_number OrOr = 28
class_number Arrow = 29
class_number OpenBrace = 30
class_number CloseBrace = 31
class_number OpenParen = 32
class_number CloseParen = 33
class_number OpenBracket = 34
class_number CloseBracket = 35
class_number Comma = 36
class_number Semicolon = 37
class_number Dot = 38
class_number Assign = 39
class_number Tilde = 40
class_number Bang = 41
class_number Question = 42
class_number Colon = 43
class_number Foreign = 44
class_number (BuiltinWord builtin) = 45
class_number (GatherWord gathering) = 46
class_number (Operator op) = 47
class_number (UpdateMark op) = 48

-- the place of what it carries
abbrev pub carried_number : Class → ℕ
carried_number (BuiltinWord builtin) = tag_of builtins.the_type builtin
carried_number (GatherWord gathering) = tag_of gatherings.the_type gathering
carried_number (Operator op) = tag_of operators.the_type op
carried_number (UpdateMark op) = tag_of operators.the_type op
carried_number _ = 0

-- the second class is the first
abbrev pub is : Class → Class → Bool
is c d = nat_eq (class_number c) (class_number d) && nat_eq (carried_number c) (carried_number d)

-- a word of any class
abbrev pub is_word : Class → Bool
is_word (BuiltinWord builtin) = true
is_word (GatherWord gathering) = true
is_word c = nat_lt (class_number c) 19

-- the builtin variable that a word names
abbrev pub builtin_of : Class → Option Builtin
builtin_of (BuiltinWord builtin) = Some builtin
builtin_of _ = None

abbrev pub is_builtin : Class → Bool
is_builtin c = is_some (builtin_of c)

-- the operator before its operand
abbrev pub prefix_of : Class → Option UnOp
prefix_of Bang = Some LogNot
prefix_of Tilde = Some BitNot
prefix_of (Operator Sub) = Some Neg
prefix_of _ = None

abbrev pub is_prefix : Class → Bool
is_prefix c = is_some (prefix_of c)

-- an operator that compares, and has no form with `=`
abbrev pub compares : BinOp → Bool
compares Eq = true
compares Ne = true
compares Lt = true
compares Le = true
compares Gt = true
compares Ge = true
compares _ = false

-- the operator before `=` in one mark
abbrev pub update_of : Class → Option BinOp
update_of (UpdateMark op) = if compares op then None else Some op
update_of _ = None

abbrev pub is_update : Class → Bool
is_update c = is_some (update_of c)

-- the tier of an operator on numbers
abbrev pub tier_of_operator : BinOp → Tier
tier_of_operator Mul = Products
tier_of_operator Div = Products
tier_of_operator Mod = Products
tier_of_operator Add = Sums
tier_of_operator Sub = Sums
tier_of_operator Shl = Shifts
tier_of_operator Shr = Shifts
tier_of_operator Lt = Orders
tier_of_operator Le = Orders
tier_of_operator Gt = Orders
tier_of_operator Ge = Orders
tier_of_operator Eq = Equalities
tier_of_operator Ne = Equalities
tier_of_operator BitAnd = BitAnds
tier_of_operator BitXor = BitXors
tier_of_operator BitOr = BitOrs

-- the tier of a binary operator
abbrev pub tier_of : Class → Option Tier
tier_of (Operator op) = Some (tier_of_operator op)
tier_of AndAnd = Some AndThens
tier_of OrOr = Some OrElses
tier_of _ = None

abbrev pub tier_number : Tier → ℕ
tier_number Products = 0
tier_number Sums = 1
tier_number Shifts = 2
tier_number Orders = 3
tier_number Equalities = 4
tier_number BitAnds = 5
tier_number BitXors = 6
tier_number BitOrs = 7
tier_number AndThens = 8
tier_number OrElses = 9

abbrev pub of_tier : Tier → Option Tier → Bool
of_tier tier None = false
of_tier tier (Some other) = nat_eq (tier_number tier) (tier_number other)

-- in a predicate, a `/` before a brace
abbrev pub ends_predicate : Bool → Class → Bool → Bool
ends_predicate in_predicate c before_brace = in_predicate && (before_brace && is (Operator Div) c)

-- a binary operator of the tier
abbrev pub joins : Bool → Tier → Class → Bool → Bool
joins in_predicate tier c before_brace = of_tier tier (tier_of c) && not (ends_predicate in_predicate c before_brace)

-- `++` or `--`
abbrev pub is_step : Class → Bool
is_step Increment = true
is_step Decrement = true
is_step _ = false

-- `.` or `->`
abbrev pub is_dot : Class → Bool
is_dot Dot = true
is_dot Arrow = true
is_dot _ = false

-- what a probe is attached to
abbrev pub is_point : Class → Bool
is_point BeginWord = true
is_point EndWord = true
is_point TracepointPoint = true
is_point IntervalPoint = true
is_point _ = false

-- the map function of one number that a word names
abbrev pub gathering_of : Class → Option Gathering
gathering_of (GatherWord gathering) = Some gathering
gathering_of _ = None

abbrev pub gathers : Class → Bool
gathers c = is_some (gathering_of c)
