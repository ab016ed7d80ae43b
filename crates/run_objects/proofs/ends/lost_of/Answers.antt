use Rattle.run_objects.proofs.EndLemmas.{tables_lost, tables_beyond, parts_lost, parts_beyond, parts_are}
use Rattle.run_objects.proofs.MapReads.{is_shared}
use Rattle.run_objects.proofs.ends.lost_of.Goals as goal

pub part_losses-requires : goal.part_losses-requires
part_losses-requires g c = parts_are g.at c.args.closed.now c.args.map c.args.decl.now c.requires.0 c.requires.1 c.index.result.now c.index.ensures c.as_slice-in-Ints.result.now c.as_slice-in-Ints.ensures.value

pub returns-in-Aggs-clause-lost : goal.returns-in-Aggs-clause-lost
returns-in-Aggs-clause-lost g c = tables_lost g.at c.args.closed.now c.args.map c.args.decl.now c.requires.0 c.requires.1 c.as_slice.result.now c.as_slice.ensures.value c.in-Aggs.field-0 c.in-Aggs.is c.table_losses.result c.table_losses.ensures.lost

pub returns-in-Aggs-clause-beyond : goal.returns-in-Aggs-clause-beyond
returns-in-Aggs-clause-beyond g c = tables_beyond g.at c.args.closed.now c.args.map c.args.decl.now c.requires.0 c.requires.1 c.as_slice.result.now c.as_slice.ensures.value c.in-Aggs.field-0 c.in-Aggs.is c.table_losses.result c.table_losses.ensures.beyond

pub returns-in-Ints-clause-lost : goal.returns-in-Ints-clause-lost
returns-in-Ints-clause-lost g c = parts_lost g.at c.args.closed.now c.args.map c.args.decl.now c.requires.0 c.requires.1 c.index.result.now c.index.ensures c.as_slice-in-Ints.result.now c.as_slice-in-Ints.ensures.value (is_shared c.args.decl.now.kind c.in-Ints.is) c.part_losses.result c.part_losses.ensures.lost

pub returns-in-Ints-clause-beyond : goal.returns-in-Ints-clause-beyond
returns-in-Ints-clause-beyond g c = parts_beyond g.at c.args.closed.now c.args.map c.args.decl.now c.requires.0 c.requires.1 c.index.result.now c.index.ensures c.as_slice-in-Ints.result.now c.as_slice-in-Ints.ensures.value (is_shared c.args.decl.now.kind c.in-Ints.is) c.part_losses.result c.part_losses.ensures.beyond
