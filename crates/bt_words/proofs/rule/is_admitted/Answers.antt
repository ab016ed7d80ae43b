use Rattle.std.proofs.Common.{◌∙◌, ◌-◌, arith, length, sym}
use Rattle.bt_words.proofs.Orders.{admitted_words, no_words, refused_words}
use Rattle.bt_words.proofs.rule.is_admitted.Goals as goal

pub returns-then-not-has_empty : goal.returns-then-not-has_empty
returns-then-not-has_empty c =
    admitted_words c.args.words.now (length c.args.words.now - 1) c.command-item.result c.as_str.result.now c.suits.result (omega (arith, c.in-len1-up.len_at_least))
    c.command-item.is c.as_str.ensures.value (sym c.if-not-has_empty.true ∙ c.has_empty.ensures) c.suits.ensures

pub returns-else-not-has_empty : goal.returns-else-not-has_empty
returns-else-not-has_empty c =
    refused_words c.args.words.now (length c.args.words.now - 1) c.has_empty.result (omega (arith, c.in-len1-up.len_at_least)) c.has_empty.ensures c.if-not-has_empty.false

pub returns-in-empty : goal.returns-in-empty
returns-in-empty c = no_words c.args.words.now c.in-empty.len_below
