-- What a text is read as, places aside.
use Rattle.std.specs.Prelude.{◌≡◌, ℕ, List}
use Rattle.bt_lexer.specs.declared.token.Token.{Token}
use Rattle.bt_lexer.specs.Tokens.{IsTokensOf}
use Rattle.bt_ast.specs.declared.probe.Script.{Script}
use Rattle.bt_grammar.specs.Grammar.{IsTreeOf}
use Rattle.bt_grammar.specs.Refusals.{IsAccepted}
use Rattle.bt_grammar.specs.Tokens.{items}
use Rattle.read_back_laws.specs.Bare.{bare}

-- the text has tokens, and these have a tree that is the script, places aside
pub record IsReadAs (text : List ℕ) (script : Script) : Type 0 where
  pub tokens : List Token
  pub lexed : IsTokensOf text tokens
  pub same : Script
  pub tree : IsTreeOf (items tokens) same
  pub is : bare same ≡ bare script

-- and nothing is refused in them
pub record IsAcceptedAs (text : List ℕ) (script : Script) : Type 0 where
  pub tokens : List Token
  pub lexed : IsTokensOf text tokens
  pub same : Script
  pub accepted : IsAccepted (items tokens) same
  pub is : bare same ≡ bare script
