use Rattle.top_jobs.proofs.Scripts.{lexical_told}
use Rattle.top_jobs.proofs.script.tree_of.Goals as goal

pub returns-in-Err : goal.returns-in-Err
returns-in-Err c = rw c.lexical_refusal.ensures (record { tree = tt; fault = lexical_told c.args.text.now c.in-Err.error c.in-Err.ensures.fault })
