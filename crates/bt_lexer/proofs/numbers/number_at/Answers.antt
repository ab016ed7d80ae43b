use Rattle.std.proofs.Common.{◌≡◌, get_or, sym, arith}
use Rattle.bt_lexer.proofs.DigitTurns.{hex_at}
use Rattle.bt_lexer.proofs.Same.{up_to_end}
use Rattle.bt_lexer.proofs.numbers.number_at.Goals as goal

pub returns-in-48-clause-value : goal.returns-in-48-clause-value
returns-in-48-clause-value c =
    let zero_at : get_or c.args.bytes.now 0 0 ≡ 48 = omega arith in
    let x_at : get_or c.args.bytes.now 1 0 ≡ 120 = omega arith in
    hex_at c.args.bytes.now _ c.leading_digits-found.result c.in-48.len_at_least zero_at x_at
    (sym (up_to_end 2 c.args.bytes.now)) c.if-begins_with_digit.ensures c.leading_digits-found.ensures.value
