use Rattle.std.proofs.Common.{drop, map, string_bytes}
use Rattle.bt_words.proofs.Orders.{behind}
use Rattle.bt_words.proofs.read.admitted_order.Goals as goal

pub two_operands-requires : goal.two_operands-requires
two_operands-requires c =
    (behind c.args.command.now (drop 1 (map string_bytes c.args.words.now)) c.in_default.not-run c.in_default.not-account c.in_default.not-verify c.requires).0

pub returns-in_ok-two_operands-in_default : goal.returns-in_ok-two_operands-in_default
returns-in_ok-two_operands-in_default c =
    let words = drop 1 (map string_bytes c.args.words.now) in
    let there = behind c.args.command.now words c.in_default.not-run c.in_default.not-account c.in_default.not-verify c.requires in
    rw (there.1, c.in_ok-two_operands-in_default.ensures.found) c.plain_order.ensures
