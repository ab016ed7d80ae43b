use Rattle.bt_lexer.proofs.Whole.{tokens_found}
use Rattle.rec_gen.specs.declared.script.TheConstants.{SCRIPT}
use Rattle.rec_gen.proofs.Attach.{attached}
use Rattle.rec_gen.proofs.Grammar.{the_tree, is_accepted}
use Rattle.rec_gen.proofs.OneTree.{typed_over}
use Rattle.rec_gen.proofs.Sizes.{no_size_fault}
use Rattle.rec_gen.proofs.Tokens.{the_tokens, lexes}
use Rattle.rec_gen.proofs.Types.{typed}
use Rattle.rec_gen.proofs.script_laws.script_is_accepted.Goals as goal

pub returns-clause-accepted : goal.returns-clause-accepted
returns-clause-accepted c = λ seed count r m. record {
  tree = the_tree;
  has = record { tokens = the_tokens; are = tokens_found SCRIPT the_tokens lexes; is = is_accepted };
  attached = attached seed count r m;
  typed = typed seed count r m;
}

pub returns-clause-small : goal.returns-clause-small
returns-clause-small c = λ seed count r typed m is. no_size_fault typed (typed_over seed count r m typed is)
