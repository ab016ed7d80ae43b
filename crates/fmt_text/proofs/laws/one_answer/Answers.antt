use Rattle.fmt_text.proofs.Uniqueness.{one_format, one_bad_place, no_bad_place}
use Rattle.fmt_text.proofs.laws.one_answer.Goals as goal

pub returns-clause-pieces : goal.returns-clause-pieces
returns-clause-pieces c = one_format

pub returns-clause-place : goal.returns-clause-place
returns-clause-place c = one_bad_place

pub returns-clause-either : goal.returns-clause-either
returns-clause-either c = no_bad_place
