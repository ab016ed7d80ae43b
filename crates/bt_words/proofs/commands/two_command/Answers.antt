use Rattle.bt_words.proofs.commands.two_command.Goals as goal

pub returns : goal.returns
returns c = c.with_operands.ensures _ c.plain_command.ensures
