use Rattle.std.proofs.Common.{rules}
use Rattle.run_output.proofs.WholeLines.{whole_lines}
use Rattle.run_output.proofs.json_lines.json_text.Goals as goal

pub returns : goal.returns
returns c = λ cpus are were.
    whole_lines c.args.script.now cpus c.args.steps.now c.args.rows.now c.args.lost.now c.in_ok-lines.lines.items c.in_ok-end.end.items _
    c.in_ok-lines.ensures (search rules) (search rules) are were
