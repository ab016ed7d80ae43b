use Rattle.std.proofs.Common.{subst}
use Rattle.recordings.specs.Places.{AreBytes}
use Rattle.bt_io.specs.Parts.{joined}
use Rattle.top_jobs.proofs.Due.{AreLaws, is_exact, jobs_can_run}
use Rattle.top_jobs.proofs.judge.judge.Goals as goal

pub returns-clause-exact : goal.returns-clause-exact
returns-clause-exact g c =
    let held : AreBytes (joined c.args.recording.items) = subst (λ parts. AreBytes (joined parts)) c.as_slice.ensures.value c.parts_are_bytes.ensures in
    let laws : AreLaws c.args.script.now (joined c.args.recording.items) = record {
      recording = c.one_recording.ensures;
      fault = λ one other. c.one_fault.ensures.one (joined c.args.recording.items) one other held;
      no_fault = λ says error. c.one_fault.ensures.none_beside (joined c.args.recording.items) says error held;
      script = record {
        tokens = c.one_answer.ensures.tokens c.args.script.now;
        lexical = c.one_answer.ensures.fault c.args.script.now;
        lexical_apart = c.one_answer.ensures.apart c.args.script.now;
        tree = c.one_answer-2.ensures.tree;
        parse = c.one_answer-2.ensures.fault;
        parse_apart = c.one_answer-2.ensures.apart;
        sizes = c.scripts_have_one_size.ensures;
      };
    } in
    is_exact c.args.script.now (joined c.args.recording.items) c.accept.result laws c.accept.ensures.job c.accept.ensures.refused

pub returns-clause-can_run : goal.returns-clause-can_run
returns-clause-can_run g c =
    jobs_can_run c.args.script.now (joined c.args.recording.items) c.accept.result c.accepted_scripts_are_jobs.ensures c.accept.ensures.job
