use Rattle.bt_words.proofs.commands.with_operands.Goals as goal

pub returns : goal.returns
returns c app is = c.with_operand-2.ensures _ (c.with_operand.ensures app is)
