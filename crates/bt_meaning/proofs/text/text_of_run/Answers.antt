use Rattle.std.proofs.Common.{rules}
use Rattle.bt_meaning.proofs.TextLaws.{whole_text}
use Rattle.bt_meaning.proofs.text.text_of_run.Goals as goal

pub returns : goal.returns
returns c = λ cpus are were.
    whole_text c.args.script.now cpus c.args.steps.now c.args.rows.now c.args.lost.now c.in_ok-text.text.items c.in_ok-end.end.items _
    c.in_ok-text.ensures (search rules) (search rules) are were
