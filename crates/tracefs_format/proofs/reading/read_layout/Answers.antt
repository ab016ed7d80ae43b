use Rattle.tracefs_format.proofs.LayoutLaws.{answer-found, answer-only, answer-fault, answer-refused}
use Rattle.tracefs_format.proofs.reading.read_layout.Goals as goal

pub returns : goal.returns
returns c = record {
  found = answer-found c.args.text.now c.read.result c.read.ensures;
  only = answer-only c.args.text.now c.read.result c.read.ensures;
  fault = answer-fault c.args.text.now c.read.result c.read.ensures;
  refused = answer-refused c.args.text.now c.read.result c.read.ensures;
}
