use Rattle.std.proofs.Common.{ap, true}
use Rattle.clap.specs.Words.{App}
use Rattle.clap.specs.Simple.{on_top}
use Rattle.bt_words.proofs.commands.plain_command.Goals as goal

pub returns : goal.returns
returns c =
    rw (c.disable_version_flag.ensures, c.disable_help_flag.ensures)
    (ap (λ (a : App). on_top (λ s. record s { disable_help_flag = true; disable_version_flag = true }) a) c.new.ensures.app)
