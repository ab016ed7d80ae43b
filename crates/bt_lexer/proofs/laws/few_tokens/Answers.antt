use Rattle.bt_lexer.proofs.Few.{few_tokens, fault_within}
use Rattle.bt_lexer.proofs.laws.few_tokens.Goals as goal

pub returns : goal.returns
returns c = record { tokens = few_tokens; fault = fault_within }
