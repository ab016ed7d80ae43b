use Rattle.run_objects.proofs.EndLemmas.{tables_reply, parts_reply, parts_are}
use Rattle.run_objects.proofs.MapReads.{is_shared}
use Rattle.run_objects.proofs.ends.replies_of.Goals as goal

pub part_replies-requires : goal.part_replies-requires
part_replies-requires g c = parts_are g.at c.args.closed.now c.args.map c.args.decl.now c.requires.0 c.requires.1 c.index.result.now c.index.ensures c.as_slice-in-Ints.result.now c.as_slice-in-Ints.ensures.value

pub returns-in-Aggs : goal.returns-in-Aggs
returns-in-Aggs g c = tables_reply g.at c.args.closed.now c.args.map c.args.decl.now c.requires.0 c.requires.1 c.as_slice.result.now c.as_slice.ensures.value c.in-Aggs.field-0 c.in-Aggs.is c.table_replies.result c.table_replies.ensures

pub returns-in-Ints : goal.returns-in-Ints
returns-in-Ints g c = parts_reply g.at c.args.closed.now c.args.map c.args.decl.now c.requires.0 c.requires.1 c.index.result.now c.index.ensures c.as_slice-in-Ints.result.now c.as_slice-in-Ints.ensures.value (is_shared c.args.decl.now.kind c.in-Ints.is) c.part_replies.result c.part_replies.ensures
