use Rattle.std.proofs.Common.{◌∙◌, Option, ap, is_some, subst, sym}
use Rattle.bt_words.specs.declared.order.Order.{Order}
use Rattle.bt_words.specs.Words.{IsAnswer, order_of}
use Rattle.bt_words.proofs.Bounds.{bounded_order}
use Rattle.bt_words.proofs.Orders.{first_word, found_order, usage_alone}
use Rattle.bt_words.proofs.read.read_words.Goals as goal

pub admitted_order-requires : goal.admitted_order-requires
admitted_order-requires c =
    sym (c.if-not-is_admitted.ensures
    ∙ ap is_some (first_word c.args.words.now c.index-words-0.result c.as_str.result.now c.index-words-0.is c.as_str.ensures.value c.if-not-is_admitted.ensures))

pub returns-clause-found : goal.returns-clause-found
returns-clause-found c =
    let first = first_word c.args.words.now c.index-words-0.result c.as_str.result.now c.index-words-0.is c.as_str.ensures.value c.if-not-is_admitted.ensures in
    found_order (order_of c.args.words.now) c.admitted_order.result
    (subst (λ (there : Option Order). IsAnswer there c.admitted_order.result) (sym first) c.admitted_order.ensures)

pub returns-clause-bounded : goal.returns-clause-bounded
returns-clause-bounded c =
    let first = first_word c.args.words.now c.index-words-0.result c.as_str.result.now c.index-words-0.is c.as_str.ensures.value c.if-not-is_admitted.ensures in
    bounded_order c.args.words.now c.admitted_order.result
    (found_order (order_of c.args.words.now) c.admitted_order.result
    (subst (λ (there : Option Order). IsAnswer there c.admitted_order.result) (sym first) c.admitted_order.ensures))

pub returns-clause-usage : goal.returns-clause-usage
returns-clause-usage c =
    let first = first_word c.args.words.now c.index-words-0.result c.as_str.result.now c.index-words-0.is c.as_str.ensures.value c.if-not-is_admitted.ensures in
    usage_alone (order_of c.args.words.now) c.admitted_order.result
    (subst (λ (there : Option Order). IsAnswer there c.admitted_order.result) (sym first) c.admitted_order.ensures)
