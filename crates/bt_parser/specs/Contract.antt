-- What a function ensures that reads a part, or that makes one.
use Rattle.std.specs.Prelude.{◌≡◌, ◌≢◌, List, [], ◌∷◌, ◌++◌, Result, Ok, Err, IsOkAnd}
use Rattle.bt_lexer.specs.declared.token.Token.{Token}
use Rattle.bt_parser.specs.declared.fault.Fault.{Fault}
use Rattle.bt_core.specs.Want.{out_of_memory}
use Rattle.bt_parser.specs.declared.fault.Fault.TheVariants.{OutOfMemory}
use Rattle.bt_grammar.specs.Tokens.{items}
use Rattle.bt_grammar.specs.Reading.{Out, Done, Refused, and_then, read, reads}
use Rattle.bt_grammar.specs.Rules.{mark}
use Rattle.bt_grammar.specs.declared.class.Class.{Class}

-- the outcome, with the tokens that are left, unless there is no memory
abbrev pub Reads : {A : Type 0} → Out A → Result A Fault → List Token → Type 0
Reads out (Ok a) left = out ≡ Done a (items left)
Reads out (Err e) left = e ≢ OutOfMemory out_of_memory → out ≡ Refused (items left)

-- what is made, unless there is no memory
abbrev pub Makes : {A : Type 0} → A → Result A Fault → Type 0
Makes a (Ok b) = b ≡ a
Makes a (Err e) = e ≡ OutOfMemory out_of_memory

-- a list with what an answer has behind it, unless there is no memory
abbrev pub Adds : {A : Type 0} → List A → Result A Fault → Result (List A) Fault → Type 0
Adds list answer (Ok longer) = IsOkAnd answer (λ item. longer ≡ list ++ item ∷ [])
Adds list answer (Err e) = e ≢ OutOfMemory out_of_memory → answer ≡ Err e

-- what is read with a token of the class behind it
abbrev pub behind : {A : Type 0} → Class → Out A → Out A
behind class out = and_then out (λ a r. and_then (read reads (mark class) r) (λ _ r1. Done a r1))
