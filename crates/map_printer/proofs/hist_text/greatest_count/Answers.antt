use Rattle.std.proofs.Common.{max, ap, ◌∙◌, arith}
use Rattle.std.specs.Prelude.{fold}
use Rattle.std.proofs.lemmas.List.{take_all}
use Rattle.map_printer.proofs.hist_text.greatest_count.Goals as goal

pub returns-clause-greatest : goal.returns-clause-greatest
returns-clause-greatest c = c.loop-count.invariant.is ∙ ap (fold max 1) (take_all c.loop-count.count-index c.args.counts.now c.loop-count-test.false)

pub returns-clause-some : goal.returns-clause-some
returns-clause-some c = c.loop-count.invariant.some

pub returns-clause-most : goal.returns-clause-most
returns-clause-most c = λ k less. c.loop-count.invariant.most k (omega (arith, less))
