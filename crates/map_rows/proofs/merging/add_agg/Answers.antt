use Rattle.std.proofs.Common.{sym, subst, ◌∙◌, Option}
use Rattle.std.specs.BTreeMap.{insert_entry}
use Rattle.std.specs.Option.{IfSome}
use Rattle.std.proofs.lemmas.Map.Views.{IfSome-lookup_from_All}
use Rattle.bt_core.specs.declared.item.Cell.{Cell}
use Rattle.bt_core.specs.declared.item.Cell.TheVariants as cells
use Rattle.bt_core.specs.contracts.key.KeyOrd.TheImpl as key_ord
use Rattle.map_rows.specs.Merging.{HasAggKind}
use Rattle.map_rows.specs.Merged.{agg_row}
use Rattle.map_rows.proofs.MergingSteps.{found_at, written, inserted}
use Rattle.map_rows.proofs.merging.add_agg.Goals as goal

pub take_in-requires : goal.take_in-requires
take_in-requires c =
    let P : Cell → Type 0 = HasAggKind c.args.row.now.1.kind in
    subst (λ (o : Option Cell). IfSome o P) (sym c.in-Some.ensures.value) (IfSome-lookup_from_All P (found_at c.args.row.now.0) c.args.rows.now.entries c.requires)

pub returns-in-Some : goal.returns-in-Some
returns-in-Some c =
    let rows = c.args.rows.now.entries in
    written rows (c.get_mut.follows.lender c.take_in.new.cell).entries (agg_row c.args.row.now) c.in-Some.cell.now c.take_in.new.cell
    (sym c.in-Some.ensures.value) c.take_in.ensures (c.get_mut.follows.holds c.take_in.new.cell).0

pub returns : goal.returns
returns c =
    inserted c.args.rows.now.entries c.insert.new.self.entries (agg_row c.args.row.now) (sym c.in_default.ensures.value)
    (c.in_ok-insert.ensures.entries ∙ (λ i. insert_entry key_ord.ghosts.cmp (c.get_mut.follows.holds-at-none i).entries (c.in_ok-key.ensures i) (cells.Agg (c.in_ok-agg.ensures i))))
