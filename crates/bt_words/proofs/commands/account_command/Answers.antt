use Rattle.bt_words.proofs.commands.account_command.Goals as goal

pub returns : goal.returns
returns c = c.with_operands.ensures _ (c.with_flag-serial.ensures _ c.plain_command.ensures)
