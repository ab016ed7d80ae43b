use Rattle.bt_lexer.proofs.Results.{answered_tokens, answered_fault, only_tokens, only_fault}
use Rattle.bt_lexer.proofs.lexer.lex.Goals as goal

pub returns : goal.returns
returns c = record {
  tokens = answered_tokens c.args.text.now c.tokens_of.result c.tokens_of.ensures;
  fault = answered_fault c.args.text.now c.tokens_of.result c.tokens_of.ensures;
  only_tokens = only_tokens c.args.text.now c.tokens_of.result c.tokens_of.ensures;
  only_fault = only_fault c.args.text.now c.tokens_of.result c.tokens_of.ensures;
}
