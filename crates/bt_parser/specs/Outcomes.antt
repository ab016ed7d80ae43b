-- What reading a script comes to, and the answer of the parser.
use Rattle.std.specs.Prelude.{◌≡◌, ◌≢◌, ℕ, ◌+◌, ◌≤◌, Bool, true, nat_lt, nat_le, List, [], ◌∷◌, length, Option, Some, None, Result, Ok, Err, if◌then◌else◌}
use Rattle.bt_core.specs.Want.{out_of_memory}
use Rattle.bt_core.specs.declared.limits.TheConstants.{PROBES}
use Rattle.bt_lexer.specs.declared.token.Token.{Token}
use Rattle.bt_ast.specs.declared.probe.Probe.{Probe}
use Rattle.bt_ast.specs.declared.probe.Script.{Script}
use Rattle.bt_grammar.specs.declared.error.ParseError.{ParseError}
use Rattle.bt_grammar.specs.declared.error.ParseError.TheVariants.{Syntax, TooDeep, TooMany}
use Rattle.bt_parser.specs.declared.fault.Fault.{Fault}
use Rattle.bt_parser.specs.declared.fault.Fault.TheVariants.{OutOfMemory}
use Rattle.bt_parser.specs.declared.script.Outcome.{Outcome}
use Rattle.bt_parser.specs.declared.script.Outcome.TheVariants as outcomes
use Rattle.bt_grammar.specs.Form.{Item}
use Rattle.bt_grammar.specs.Tokens.{items}
use Rattle.bt_grammar.specs.Reading.{starts}
use Rattle.bt_grammar.specs.Classes.{is_point}
use Rattle.bt_grammar.specs.Grammar.{Tree, RefusedAt}
use Rattle.bt_grammar.specs.Refusals.{IsCountFault, NoCountFault, IsAccepted, IsRefusal}

-- whether another probe is to be read behind these
abbrev pub another : List Probe → List Item → Bool
another [] ts = true
another (p ∷ ps) ts = starts (λ c _. is_point c) ts

-- what an outcome says of the tokens that there were, where these are left
abbrev pub Gives : List Token → List Token → Outcome → Type 0
Gives old left (outcomes.Whole probes) = Tree (items old) probes × (length probes ≤ PROBES)
Gives old left outcomes.Refused = RefusedAt (items old) (items left) × NoCountFault (items old)
Gives old left outcomes.Full = (n : ℕ) → n + length left ≡ length old → IsCountFault (items old) n

-- the same of what reading comes to, unless there is no memory
abbrev pub Ends : List Token → List Token → Result Outcome Fault → Type 0
Ends old left (Ok outcome) = Gives old left outcome
Ends old left (Err e) = e ≢ OutOfMemory out_of_memory → Gives old left outcomes.Refused

-- the answer, by the outcome, its place, and the place of the first token that is too deep
abbrev pub answer_of : Outcome → ℕ → Option ℕ → Result Script ParseError
answer_of (outcomes.Whole probes) place None = Ok (record { probes = probes })
answer_of (outcomes.Whole probes) place (Some deep) = Err (TooDeep deep)
answer_of outcomes.Refused place None = Err (Syntax place)
answer_of outcomes.Refused place (Some deep) = if nat_le place deep then Err (Syntax place) else Err (TooDeep deep)
answer_of outcomes.Full place None = Err (TooMany place)
answer_of outcomes.Full place (Some deep) = if nat_lt place deep then Err (TooMany place) else Err (TooDeep deep)

-- the answer is right
abbrev pub IsRight : List Item → Result Script ParseError → Type 0
IsRight ts (Ok script) = IsAccepted ts script
IsRight ts (Err fault) = IsRefusal ts fault

-- an answer for a front, by some outcome of reading it
pub record Answers (front : List Token) (deep : Option ℕ) (answer : Result Script ParseError) : Type 0 where
  pub outcome : Outcome
  pub left : List Token
  pub place : ℕ
  pub gives : Gives front left outcome
  pub at : place + length left ≡ length front
  pub is : answer ≡ answer_of outcome place deep
