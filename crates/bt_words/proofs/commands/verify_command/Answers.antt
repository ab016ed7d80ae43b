use Rattle.bt_words.proofs.commands.verify_command.Goals as goal

pub returns : goal.returns
returns c = c.with_operand.ensures _ (c.with_operands-files.ensures _ c.plain_command.ensures)
