-- The grammar of scripts, by the bpftrace language reference.
use Rattle.std.specs.Prelude.{ℤ, Bool, true, false, [], Option, Some, None}
use Rattle.bt_core.specs.declared.place.Place.{Place}
use Rattle.bt_ast.specs.declared.expr.Expr.{Expr}
use Rattle.bt_ast.specs.declared.expr.Target.TheVariants as targets
use Rattle.bt_core.specs.declared.operator.BinOp.TheVariants.{Sub, Div}
use Rattle.bt_grammar.specs.declared.class.Class.{Class}
use Rattle.bt_grammar.specs.declared.class.Class.TheVariants.{IfWord, ElseWord, WhileWord, UnrollWord, CountWord, LhistWord, PrintfWord, PrintWord, ClearWord, ZeroWord, DeleteWord, ExitWord, BreakWord, ContinueWord, ReturnWord, ArgsWord, MapName, VarName, NumberLiteral, TextLiteral, OpenBrace, CloseBrace, OpenParen, CloseParen, OpenBracket, CloseBracket, Comma, Semicolon, Assign, Question, Colon, Operator}
use Rattle.bt_grammar.specs.declared.class.Tier.{Tier}
use Rattle.bt_grammar.specs.declared.class.Tier.TheVariants.{Products, Sums, Shifts, Orders, Equalities, BitAnds, BitXors, BitOrs, AndThens, OrElses}
use Rattle.bt_grammar.specs.Classes.{is, is_word, is_builtin, is_prefix, is_update, is_step, is_dot, is_point, gathers, joins}
use Rattle.bt_grammar.specs.Form.{Item, Part, Primary, Unary, Level, Expression, Values, Keyed, Assignable, Int, Aggregation, Update, AfterMap, AfterVar, Printf, Print, Delete, CallOrJump, Simple, Arm, Tail, Control, Body, Braced, Points, OneProbe, WholeScript, Of, Form, Tok, Empty, Call, Map, Then, Or, Until, Op, Chain}
use Rattle.bt_grammar.specs.Trees.{pair, second, single, snoc, cons, nothing, place_at, number_at, negated, map_ref, var_target, number_expr, text_expr, builtin_expr, field_expr, paren_expr, prefix_step, map_operand, var_operand, unary, binary, choose, stmt, count_call, gather_call, lhist_call, update_target, step_target, gather_map, set_map, on_map, set_var, on_var, map_stmt, var_stmt, step_stmt, printf_kind, print_kind, top_and_div, clear_kind, zero_kind, delete_all, delete_keyed, delete_key, on_item, exit_stmt, break_stmt, continue_stmt, return_stmt, more_arms, last_block, if_stmt, while_stmt, unroll_stmt, block_of, point_at, with_points, probe_of}

-- a token of the class, for its place
abbrev pub mark : Class → Form Place
mark c = Map place_at (Tok (is c))

-- a token of the class, whatever follows
abbrev pub ends : Class → Class → Bool → Bool
ends c d brace = is c d

-- `[ P ]`
abbrev pub optional : {A : Type 0} → Form A → Form (Option A)
optional P = Or (Map Some P) (Empty None)

abbrev pub in_parens : {A : Type 0} → Form A → Form A
in_parens P = Then second (mark OpenParen) (Until P CloseParen)

abbrev pub after_comma : {A : Type 0} → Form A → Form A
after_comma P = Then second (mark Comma) P

-- `( )`, for the place of the second
abbrev pub empty_parens : Form Place
empty_parens = Then second (mark OpenParen) (mark CloseParen)

-- an expression that is not under the slash of a predicate
abbrev pub value : Form Expr
value = Call (Expression false)

abbrev pub a_number : Form ℤ
a_number = Map number_at (Tok (is NumberLiteral))

-- ---- expressions

-- what an operator of the tier joins
abbrev pub operand : Bool → Tier → Form Expr
operand p Products = Call Unary
operand p Sums = Call (Level p Products)
operand p Shifts = Call (Level p Sums)
operand p Orders = Call (Level p Shifts)
operand p Equalities = Call (Level p Orders)
operand p BitAnds = Call (Level p Equalities)
operand p BitXors = Call (Level p BitAnds)
operand p BitOrs = Call (Level p BitXors)
operand p AndThens = Call (Level p BitOrs)
operand p OrElses = Call (Level p AndThens)

-- an operator of the tier and its right operand
unfoldable pub operation : Bool → Tier → Form (Item × Expr)
operation p tier = Op (joins p tier) (operand p tier)

-- ---- the parts. p: in a predicate, outside its brackets and the middle of its `? :`

abbrev pub rule : (n : Part) → Form (Of n)
rule Primary =
    Or (Map number_expr (Tok (is NumberLiteral)))
    (Or (Map text_expr (Tok (is TextLiteral)))
    (Or (Map builtin_expr (Tok is_builtin))
    (Or (Then field_expr (mark ArgsWord) (Then second (Tok is_dot) (Tok is_word)))
    (Or (Then paren_expr (mark OpenParen) (Until value CloseParen))
    (Or (Then prefix_step (Tok is_step) (Call Assignable))
    (Or (Then map_operand (Call Keyed) (optional (Tok is_step)))
    (Then var_operand (Tok (is VarName)) (optional (Tok is_step)))))))))
rule Unary = Or (Then unary (Tok is_prefix) (Call Unary)) (Call Primary)
rule (Level p tier) = Chain binary (operand p tier) (Op (joins p tier) (operand p tier))
rule (Expression p) = Then choose (Call (Level p OrElses)) (optional (Op (ends Question) (Then pair (Until value Colon) (Call (Expression p)))))
rule Values = Chain snoc (Map single value) (after_comma value)
rule Keyed = Then map_ref (Tok (is MapName)) (Or (Then second (mark OpenBracket) (Until (Call Values) CloseBracket)) (Empty []))
rule Assignable = Or (Map targets.Map (Call Keyed)) (Map var_target (Tok (is VarName)))
rule Int = Or (Map number_at (Tok (is NumberLiteral))) (Map negated (Then second (mark (Operator Sub)) a_number))
rule Aggregation =
    Or (Then count_call (mark CountWord) empty_parens)
    (Or (Then gather_call (Tok gathers) (in_parens value))
    (Then lhist_call (mark LhistWord) (in_parens (Then pair (Until value Comma) (Then pair (Until (Call Int) Comma) (Then pair (Until (Call Int) Comma) (Call Int)))))))
rule Update = Or (Then update_target (Tok is_update) value) (Map step_target (Tok is_step))
rule AfterMap = Or (Then second (mark Assign) (Or (Map gather_map (Call Aggregation)) (Map set_map value))) (Map on_map (Call Update))
rule AfterVar = Or (Then set_var (mark Assign) value) (Map on_var (Call Update))
rule Printf = in_parens (Then printf_kind (Tok (is TextLiteral)) (Chain snoc (Empty []) (after_comma value)))
rule Print = in_parens (Then print_kind (Tok (is MapName))
    (Or (Then top_and_div (after_comma a_number) (optional (after_comma a_number))) (Empty (None, None))))
rule Delete = Then second (mark OpenParen) (Then on_item (Tok (is MapName))
    (Or (Map delete_all (mark CloseParen))
    (Or (Then delete_keyed (mark OpenBracket) (Until (Until (Call Values) CloseBracket) CloseParen))
    (Then delete_key (mark Comma) (Until value CloseParen)))))
rule CallOrJump =
    Or (Then stmt (mark PrintfWord) (Call Printf))
    (Or (Then stmt (mark PrintWord) (Call Print))
    (Or (Then stmt (mark ClearWord) (in_parens (Map clear_kind (Tok (is MapName)))))
    (Or (Then stmt (mark ZeroWord) (in_parens (Map zero_kind (Tok (is MapName)))))
    (Or (Then stmt (mark DeleteWord) (Call Delete))
    (Or (Then exit_stmt (mark ExitWord) empty_parens)
    (Or (Map break_stmt (mark BreakWord))
    (Or (Map continue_stmt (mark ContinueWord))
    (Map return_stmt (mark ReturnWord)))))))))
rule Simple =
    Or (Then map_stmt (Call Keyed) (Call AfterMap))
    (Or (Then var_stmt (Tok (is VarName)) (Call AfterVar))
    (Or (Then step_stmt (Tok is_step) (Call Assignable))
    (Call CallOrJump)))
rule Arm = Then pair (in_parens value) (Call Braced)
rule Tail = Or (Then second (mark ElseWord) (Or (Then more_arms (Then second (mark IfWord) (Call Arm)) (Call Tail)) (Map last_block (Call Braced))))
    (Empty ([], None))
rule Control =
    Or (Then if_stmt (mark IfWord) (Then pair (Call Arm) (Call Tail)))
    (Or (Then while_stmt (mark WhileWord) (Call Arm))
    (Then unroll_stmt (mark UnrollWord) (Then pair (in_parens a_number) (Call Braced))))
rule Body =
    Or (Map nothing (mark CloseBrace))
    (Or (Then cons (Call Control) (Call Body))
    (Then cons (Call Simple) (Or (Then second (mark Semicolon) (Call Body)) (Map nothing (mark CloseBrace)))))
rule Braced = Then block_of (mark OpenBrace) (Call Body)
rule Points = Chain snoc (Map (λ t. single (point_at t)) (Tok is_point)) (after_comma (Map point_at (Tok is_point)))
rule OneProbe = Then with_points (Call Points)
    (Then probe_of (optional (Then second (mark (Operator Div)) (Until (Call (Expression true)) (Operator Div)))) (Call Braced))
rule WholeScript = Chain snoc (Map single (Call OneProbe)) (Call OneProbe)
