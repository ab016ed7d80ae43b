use Rattle.std.proofs.Common.{◌≡◌, ◌++◌, drop}
use Rattle.bt_parser.specs.ClassLists.{classes_of}
use Rattle.bt_parser.proofs.classes.classify.Given as goal

-- the classes so far, with those of the other tokens, are all
abbrev pub invariant-loop-token : goal.invariant-loop-token
invariant-loop-token l = l.classes ++ classes_of (drop l.token-index l.tokens) ≡ classes_of l.tokens
