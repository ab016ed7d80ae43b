use Rattle.bt_lexer.proofs.Blanks.{token_stands, blank_stands}
use Rattle.bt_lexer.proofs.laws.a_space_ends_a_token.Goals as goal

pub returns : goal.returns
returns c = record { token = token_stands; space = blank_stands }
