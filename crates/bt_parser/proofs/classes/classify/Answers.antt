use Rattle.std.proofs.Common.{◌≡◌, ◌+◌, ◌++◌, [], ◌∷◌, ◌∙◌, drop, ap, sym, append_assoc, arith}
use Rattle.std.proofs.lemmas.Grind.{common_steps}
use Rattle.bt_grammar.specs.Tokens.{class_of}
use Rattle.bt_parser.specs.ClassLists.{classes_of}
use Rattle.bt_parser.proofs.classes.classify.Goals as goal

pub loop-token-preserved : goal.loop-token-preserved
loop-token-preserved c =
    let d : drop c.loop-token.token-index c.args.tokens.now ≡ c.token-item.result ∷ drop (c.loop-token.token-index + 1) c.args.tokens.now = grind (arith, common_steps) in
    let pushed : c.push.new.self ≡ c.loop-token.classes ++ class_of c.token-item.result.kind ∷ [] = grind (arith, common_steps) in
    rw pushed (append_assoc c.loop-token.classes (class_of c.token-item.result.kind ∷ []) _ ∙ ap (λ z. c.loop-token.classes ++ classes_of z) (sym d) ∙ c.loop-token.invariant)
