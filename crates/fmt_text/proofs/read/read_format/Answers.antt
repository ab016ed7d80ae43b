use Rattle.fmt_text.proofs.Uniqueness.{only_this, this_place}
use Rattle.fmt_text.proofs.read.read_format.Goals as goal

pub returns-clause-only : goal.returns-clause-only
returns-clause-only c = λ pieces is. only_this c.args.text.now c.read.result pieces c.read.ensures is

pub returns-clause-refused : goal.returns-clause-refused
returns-clause-refused c = λ offset is. this_place c.args.text.now c.read.result offset c.read.ensures is
