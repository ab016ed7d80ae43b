-- Of each part: whether it may be empty, which tokens begin it, before which it ends, and how deep it looks at once.
-- These are checked against the rules.
use Rattle.std.specs.Prelude.{ℕ, ◌+◌, Bool, true, false, not, ◌||◌, ◌&&◌, nat_le, Option, Some, None}
use Rattle.bt_core.specs.declared.operator.BinOp.TheVariants.{Sub, Div}
use Rattle.bt_grammar.specs.declared.class.Class.{Class}
use Rattle.bt_grammar.specs.declared.class.Class.TheVariants.{IfWord, ElseWord, WhileWord, UnrollWord, CountWord, LhistWord, PrintfWord, PrintWord, ClearWord, ZeroWord, DeleteWord, ExitWord, BreakWord, ContinueWord, ReturnWord, ArgsWord, MapName, VarName, NumberLiteral, TextLiteral, OpenBrace, CloseBrace, OpenParen, OpenBracket, Comma, Assign, Question, Operator}
use Rattle.bt_grammar.specs.declared.class.Tier.{Tier}
use Rattle.bt_grammar.specs.Classes.{is, is_builtin, is_prefix, is_update, is_step, is_point, gathers, tier_of, tier_number, ends_predicate}
use Rattle.bt_grammar.specs.Form.{Part, Primary, Unary, Level, Expression, Values, Keyed, Assignable, Int, Aggregation, Update, AfterMap, AfterVar, Printf, Print, Delete, CallOrJump, Simple, Arm, Tail, Control, Body, Braced, Points, OneProbe, WholeScript}

-- nullable: the parts that may be empty
abbrev pub nul : Part → Bool
nul Tail = true
nul _ = false

abbrev pub is_operand : Class → Bool
is_operand NumberLiteral = true
is_operand TextLiteral = true
is_operand ArgsWord = true
is_operand OpenParen = true
is_operand MapName = true
is_operand VarName = true
is_operand c = is_step c || is_builtin c

abbrev pub is_expression : Class → Bool
is_expression c = is_prefix c || is_operand c

abbrev pub is_call : Class → Bool
is_call PrintfWord = true
is_call PrintWord = true
is_call ClearWord = true
is_call ZeroWord = true
is_call DeleteWord = true
is_call ExitWord = true
is_call BreakWord = true
is_call ContinueWord = true
is_call ReturnWord = true
is_call _ = false

abbrev pub is_target : Class → Bool
is_target c = is MapName c || is VarName c

abbrev pub is_simple : Class → Bool
is_simple c = is_target c || (is_step c || is_call c)

abbrev pub is_control : Class → Bool
is_control c = is IfWord c || (is WhileWord c || is UnrollWord c)

abbrev pub is_after : Class → Bool
is_after c = is Assign c || (is_update c || is_step c)

-- FIRST of each part: the classes that begin it
abbrev pub fst_of : Part → Class → Bool
fst_of Primary c = is_operand c
fst_of Unary c = is_expression c
fst_of (Level p tier) c = is_expression c
fst_of (Expression p) c = is_expression c
fst_of Values c = is_expression c
fst_of Keyed c = is MapName c
fst_of Assignable c = is_target c
fst_of Int c = is NumberLiteral c || is (Operator Sub) c
fst_of Aggregation c = is CountWord c || (gathers c || is LhistWord c)
fst_of Update c = is_update c || is_step c
fst_of AfterMap c = is_after c
fst_of AfterVar c = is_after c
fst_of Printf c = is OpenParen c
fst_of Print c = is OpenParen c
fst_of Delete c = is OpenParen c
fst_of CallOrJump c = is_call c
fst_of Simple c = is_simple c
fst_of Arm c = is OpenParen c
fst_of Tail c = is ElseWord c
fst_of Control c = is_control c
fst_of Body c = is CloseBrace c || (is_control c || is_simple c)
fst_of Braced c = is OpenBrace c
fst_of Points c = is_point c
fst_of OneProbe c = is_point c
fst_of WholeScript c = is_point c

-- whether no such token goes on, where there is one
abbrev pub free : (Class → Bool → Bool) → Option Class → Bool → Bool
free p None b = true
free p (Some c) b = not (p c b)

abbrev pub within_tier : ℕ → Option Tier → Bool
within_tier n None = false
within_tier n (Some tier) = nat_le (tier_number tier) n

-- a key or a step
abbrev pub primary_goes : Class → Bool
primary_goes c = is OpenBracket c || is_step c

-- so, or an operator of a tier up to the number
abbrev pub level_goes : Bool → ℕ → Class → Bool → Bool
level_goes p n c b = primary_goes c || (within_tier n (tier_of c) && not (ends_predicate p c b))

abbrev pub expression_goes : Bool → Class → Bool → Bool
expression_goes p c b = is Question c || level_goes p 9 c b

-- FOLLOW of each part: the classes that may stand behind a whole one, since they do not go on with it
abbrev pub stops_of : Part → Option Class → Bool → Bool
stops_of Primary h b = free (λ c _. primary_goes c) h b
stops_of Unary h b = free (λ c _. primary_goes c) h b
stops_of (Level p tier) h b = free (level_goes p (tier_number tier)) h b
stops_of (Expression p) h b = free (expression_goes p) h b
stops_of Values h b = free (λ c b. is Comma c || expression_goes false c b) h b
stops_of Keyed h b = free (λ c _. is OpenBracket c) h b
stops_of Assignable h b = free (λ c _. is OpenBracket c) h b
stops_of Update h b = free (expression_goes false) h b
stops_of AfterMap h b = free (expression_goes false) h b
stops_of AfterVar h b = free (expression_goes false) h b
stops_of Simple h b = free (expression_goes false) h b
stops_of Tail h b = free (λ c _. is ElseWord c) h b
stops_of Control h b = free (λ c _. is ElseWord c) h b
stops_of Points h b = free (λ c _. is Comma c) h b
stops_of WholeScript h b = free (λ c _. is_point c) h b
stops_of _ h b = true

-- whether where a part ends may depend on the token after the next
abbrev pub sens_of : Part → Class → Bool
sens_of (Level p tier) c = p && is (Operator Div) c
sens_of (Expression p) c = p && is (Operator Div) c
sens_of _ c = false

-- each part begins with parts of lower rank alone
abbrev pub width : ℕ
width = 16

abbrev pub rank : Part → ℕ
rank Primary = 1
rank Unary = 2
rank (Level p tier) = 3 + tier_number tier
rank (Expression p) = 13
rank Values = 14
rank Keyed = 0
rank Assignable = 1
rank AfterMap = 1
rank AfterVar = 1
rank Simple = 1
rank Body = 2
rank OneProbe = 1
rank WholeScript = 2
rank _ = 0
