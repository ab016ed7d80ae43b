use Rattle.std.proofs.Common.{List, ◌++◌, ap, ◌∙◌, arith}
use Rattle.std.proofs.lemmas.List.{take_all}
use Rattle.event_layout.specs.declared.format.Format.{Format}
use Rattle.recordings.specs.Parts.{format_bytes}
use Rattle.recordings.specs.Recordings.{part_of_format, formats_bytes}
use Rattle.rec_format.specs.Answers.{CanWriteFormat}
use Rattle.rec_format.proofs.WriteLaws.{written_more, item_writable}
use Rattle.rec_format.proofs.writing.push_formats.Goals as goal

pub push_format-requires : goal.push_format-requires
push_format-requires c = item_writable CanWriteFormat c.args.formats.now c.loop-format.format-index c.format-item.result c.loop-format-test.true c.format-item.is c.requires

pub loop-format-preserved : goal.loop-format-preserved
loop-format-preserved c =
    written_more (λ (f : Format). format_bytes (part_of_format f)) c.args.formats.now c.loop-format.format-index c.format-item.result c.args.bytes.now.items c.loop-format.bytes.items c.push_format.new.bytes.items
    c.loop-format-test.true c.format-item.is c.loop-format.invariant c.in_ok-push_format.ensures

pub returns : goal.returns
returns c =
    c.loop-format.invariant ∙ ap (λ (l : List Format). c.args.bytes.now.items ++ formats_bytes l) (take_all c.loop-format.format-index c.args.formats.now (omega (arith, c.loop-format-test.false)))
