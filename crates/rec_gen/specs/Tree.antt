-- The tree of the script, and what it means that nothing of the script is refused.
use Rattle.std.specs.Prelude.{◌≡◌, List, None}
use Rattle.bt_ast.specs.declared.probe.Script.{Script}
use Rattle.bt_attach.specs.Attaching.{attach_fault, bodies_from}
use Rattle.bt_grammar.specs.Refusals.{IsAccepted}
use Rattle.bt_grammar.specs.Tokens.{items}
use Rattle.bt_lexer.specs.declared.token.Token.{Token}
use Rattle.bt_lexer.specs.Tokens.{IsTokensOf}
use Rattle.bt_types.specs.Bodies.{type_fault}
use Rattle.recordings.specs.declared.recording.Recording.{Recording}
use Rattle.rec_gen.specs.declared.script.TheConstants.{SCRIPT}

-- the tree of the script's tokens, in which nothing is refused
pub record IsTree (tree : Script) : Type 0 where
  pub tokens : List Token
  pub are : IsTokensOf SCRIPT tokens
  pub is : IsAccepted (items tokens) tree

-- the script has a tree, of whose points none breaks a rule over this recording, and of whose bodies none breaks a rule of types
pub record IsScriptFor (r : Recording) : Type 0 where
  pub tree : Script
  pub has : IsTree tree
  pub attached : attach_fault tree r.formats r.start r.end ≡ None
  pub typed : type_fault tree r.formats (bodies_from r.formats 0 tree.probes) ≡ None
