use Rattle.std.proofs.Common.{◌∙◌, sym}
use Rattle.thread_run.specs.Closed.{parts_by}
use Rattle.thread_run.proofs.Closing.{closed_stands}
use Rattle.thread_run.proofs.closed.closed_of.Goals as goal

pub returns : goal.returns
returns c = λ w steps same parts tables.
    closed_stands w steps c.args.parts.items c.args.tables.items _ parts tables
    (c.in_ok-parts-2.ensures ∙ (λ i. parts_by (sym same i) (c.in_ok-parts.ensures i))) c.in_ok-tables.ensures
