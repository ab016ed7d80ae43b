use Rattle.top_jobs.proofs.OneMeaning.{means_files, one_meaning}
use Rattle.top_jobs.proofs.laws.files_have_one_meaning.Goals as goal

pub returns-clause-one : goal.returns-clause-one
returns-clause-one c = one_meaning (record {
  recordings = c.one_recording.ensures;
  tokens = c.one_answer.ensures.tokens;
  trees = c.one_answer-2.ensures.tree;
  attached = c.attachments_are_one.ensures;
  typed = c.scripts_have_one_typing.ensures;
})

pub returns-clause-of_job : goal.returns-clause-of_job
returns-clause-of_job c = means_files
