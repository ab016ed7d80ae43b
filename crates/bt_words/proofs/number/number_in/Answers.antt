use Rattle.std.proofs.Common.{arith}
use Rattle.bt_words.proofs.Numbers.{refused}
use Rattle.bt_words.proofs.number.number_in.Goals as goal

pub returns-then-value-from : goal.returns-then-value-from
returns-then-value-from c =
    refused c.args.greatest c.loop-byte.byte-index c.loop-byte.value c.args.word.now (omega arith) (cc) c.loop-byte.invariant.value (grind arith)
