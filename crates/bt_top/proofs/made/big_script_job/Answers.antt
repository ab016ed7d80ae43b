use Rattle.rec_gen.specs.declared.script.TheConstants.{SCRIPT}
use Rattle.top_jobs.proofs.Scripts.{AreScriptLaws}
use Rattle.bt_top.proofs.Making.{only_memory}
use Rattle.bt_top.proofs.made.big_script_job.Goals as goal

pub returns-clause-memory : goal.returns-clause-memory
returns-clause-memory c =
    let laws : AreScriptLaws SCRIPT = record {
      tokens = c.one_answer.ensures.tokens SCRIPT;
      lexical = c.one_answer.ensures.fault SCRIPT;
      lexical_apart = c.one_answer.ensures.apart SCRIPT;
      tree = c.one_answer-2.ensures.tree;
      parse = c.one_answer-2.ensures.fault;
      parse_apart = c.one_answer-2.ensures.apart;
      sizes = c.scripts_have_one_size.ensures;
    } in
    only_memory c.args.recording laws
    (c.script_is_accepted.ensures.accepted c.args.x c.args.n c.args.recording c.requires.made)
    (λ typed is. c.script_is_accepted.ensures.small c.args.x c.args.n c.args.recording typed c.requires.made is)
    c.script_job.result c.script_job.ensures.fault
