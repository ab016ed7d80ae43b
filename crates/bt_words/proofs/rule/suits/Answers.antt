use Rattle.std.proofs.Common.{◌≡◌, ◌∙◌, codes, inl, inr, is_some, map, rules, string_bytes}
use Rattle.bt_words.specs.Words.{order_by}
use Rattle.bt_words.specs.declared.order.Order.TheVariants.{Gen, Big}
use Rattle.bt_words.proofs.Orders.{numbers_fit}
use Rattle.bt_words.proofs.rule.suits.Goals as goal

pub returns-in-gen : goal.returns-in-gen
returns-in-gen c =
    let words = map string_bytes c.args.words.now in
    elim c.in-gen.is [
      | inl is ↦
          let e : is_some (order_by (codes "gen") words) ≡ is_some (order_by c.args.command.now words) = search rules in
          c.are_two_numbers.ensures Gen ∙ numbers_fit Gen words ∙ e
      | inr is ↦
          let e : is_some (order_by (codes "big") words) ≡ is_some (order_by c.args.command.now words) = search rules in
          c.are_two_numbers.ensures Big ∙ numbers_fit Big words ∙ e
    ]
