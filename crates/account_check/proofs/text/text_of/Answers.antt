use Rattle.std.proofs.Common.{rules}
use Rattle.bt_meaning.proofs.TextLaws.{whole_text}
use Rattle.account_check.proofs.text.text_of.Goals as goal

pub returns : goal.returns
returns c = λ cpus are were.
    whole_text c.args.script.now cpus c.args.told.now.steps c.args.told.now.rows.items c.args.told.now.lost.items c.in_ok-text.text.items c.in_ok-end.end.items _
    (search rules) (search rules) (search rules) are were
