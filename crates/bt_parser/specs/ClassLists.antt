-- The classes of tokens, one for each.
use Rattle.std.specs.Prelude.{Bool, true, false, List, map}
use Rattle.bt_lexer.specs.declared.token.Token.{Token}
use Rattle.bt_lexer.specs.declared.token.TokenKind.{TokenKind}
use Rattle.bt_lexer.specs.declared.token.TokenKind.TheVariants as kinds
use Rattle.bt_grammar.specs.declared.class.Class.{Class}
use Rattle.bt_grammar.specs.Tokens.{class_of}

abbrev pub classes_of : List Token → List Class
classes_of tokens = map (λ t. class_of t.kind) tokens

abbrev pub is_number_kind : TokenKind → Bool
is_number_kind (kinds.Number n) = true
is_number_kind _ = false
