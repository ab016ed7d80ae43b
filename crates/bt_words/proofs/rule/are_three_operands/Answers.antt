use Rattle.std.proofs.Common.{◌∙◌, ◌==◌, ◌&&◌, Bool, ap, length, map, string_bytes, sym}
use Rattle.std.proofs.lemmas.List.{length-map}
use Rattle.bt_words.proofs.Orders.{three_fit}
use Rattle.bt_words.proofs.rule.are_three_operands.Goals as goal

pub returns-then-are_operands : goal.returns-then-are_operands
returns-then-are_operands c =
    let words = map string_bytes c.args.words.now in
    ap (λ n. n == 3) (sym (length-map c.args.words.now string_bytes)) ∙ ap (λ (b : Bool). b && length words == 3) c.if-are_operands.ensures ∙ three_fit words
