use Rattle.std.proofs.Common.{◌∙◌, ◌==◌, ◌&&◌, Bool, ap, length, map, string_bytes, sym}
use Rattle.std.proofs.lemmas.List.{length-map}
use Rattle.bt_words.specs.declared.order.Order.TheVariants.{Check, Code, Vet}
use Rattle.bt_words.proofs.Orders.{files_fit}
use Rattle.bt_words.proofs.rule.are_two_operands.Goals as goal

pub returns-then-are_operands-clause-for_check : goal.returns-then-are_operands-clause-for_check
returns-then-are_operands-clause-for_check c =
    let words = map string_bytes c.args.words.now in
    ap (λ n. n == 2) (sym (length-map c.args.words.now string_bytes)) ∙ ap (λ (b : Bool). b && length words == 2) c.if-are_operands.ensures ∙ files_fit Check words

pub returns-then-are_operands-clause-for_code : goal.returns-then-are_operands-clause-for_code
returns-then-are_operands-clause-for_code c =
    let words = map string_bytes c.args.words.now in
    ap (λ n. n == 2) (sym (length-map c.args.words.now string_bytes)) ∙ ap (λ (b : Bool). b && length words == 2) c.if-are_operands.ensures ∙ files_fit Code words

pub returns-then-are_operands-clause-for_vet : goal.returns-then-are_operands-clause-for_vet
returns-then-are_operands-clause-for_vet c =
    let words = map string_bytes c.args.words.now in
    ap (λ n. n == 2) (sym (length-map c.args.words.now string_bytes)) ∙ ap (λ (b : Bool). b && length words == 2) c.if-are_operands.ensures ∙ files_fit Vet words
