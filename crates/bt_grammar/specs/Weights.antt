-- How deep tokens are nested.
use Rattle.std.specs.Prelude.{ℕ, suc, ◌+◌, ◌-◌, Bool, true, false, List, [], ◌∷◌, length, if◌then◌else◌}
use Rattle.std.specs.List.{sum}
use Rattle.bt_grammar.specs.declared.class.Class.{Class}
use Rattle.bt_grammar.specs.declared.class.Class.TheVariants.{Operator, UpdateMark, Increment, Decrement, AndAnd, OrOr, Assign, Tilde, Bang, Question, OpenBrace, CloseBrace, OpenParen, CloseParen, OpenBracket, CloseBracket, Comma, Semicolon}
use Rattle.bt_grammar.specs.Form.{Item}

-- a mark that counts: all but braces, brackets, `,`, `;`, `.`, `->` and `:`
abbrev pub is_operator : Class → Bool
is_operator (Operator op) = true
is_operator (UpdateMark op) = true
is_operator Increment = true
is_operator Decrement = true
is_operator AndAnd = true
is_operator OrOr = true
is_operator Assign = true
is_operator Tilde = true
is_operator Bang = true
is_operator Question = true
is_operator _ = false

-- The counts of operators in the levels that are open, the innermost first. The outermost level is always open.

-- the innermost count begins anew
abbrev pub reset : List ℕ → List ℕ
reset [] = []
reset (count ∷ outer) = 0 ∷ outer

abbrev pub counted : List ℕ → List ℕ
counted [] = []
counted (count ∷ outer) = suc count ∷ outer

abbrev pub opened : List ℕ → List ℕ
opened levels = 0 ∷ levels

abbrev pub closed : List ℕ → List ℕ
closed [] = []
closed (count ∷ []) = count ∷ []
closed (count ∷ around ∷ outer) = around ∷ outer

-- A brace stands in the level around its block, and begins that count anew, as `;` and `,` do.
abbrev pub levels_behind : Class → List ℕ → List ℕ
levels_behind OpenBrace levels = opened (reset levels)
levels_behind CloseBrace levels = reset (closed levels)
levels_behind OpenParen levels = opened levels
levels_behind OpenBracket levels = opened levels
levels_behind CloseParen levels = closed levels
levels_behind CloseBracket levels = closed levels
levels_behind Comma levels = reset levels
levels_behind Semicolon levels = reset levels
levels_behind c levels = if is_operator c then counted levels else levels

abbrev pub levels_from : List ℕ → List Item → List ℕ
levels_from levels [] = levels
levels_from levels (t ∷ ts) = levels_from (levels_behind t.class levels) ts

-- how many brackets are open, and the counts of all open levels
abbrev pub level_weight : List ℕ → ℕ
level_weight levels = (length levels - 1) + sum levels

-- the weight of the last of these tokens
unfoldable pub weight : List Item → ℕ
weight ts = level_weight (levels_from (0 ∷ []) ts)
