use Rattle.std.proofs.Common.{sym, ◌∙◌}
use Rattle.std.specs.BTreeMap.{insert_entry}
use Rattle.std.specs.Map.{lookup}
use Rattle.bt_core.specs.declared.item.Cell.TheVariants as cells
use Rattle.bt_core.specs.contracts.key.KeyOrd.TheImpl as key_ord
use Rattle.map_rows.specs.Merged.{value_row}
use Rattle.map_rows.proofs.MergingSteps.{found_at, inserted, none_of, kept}
use Rattle.map_rows.proofs.merging.add_value.Goals as goal

pub returns-in_ok-insert : goal.returns-in_ok-insert
returns-in_ok-insert c =
    let rows = c.args.rows.now.entries in
    inserted rows c.insert.new.self.entries (value_row c.args.row.now) (none_of (lookup (found_at c.args.row.now.0) rows) (sym c.contains_key.ensures ∙ c.if-not-contains_key.true))
    (c.in_ok-insert.ensures.entries ∙ (λ i. insert_entry key_ord.ghosts.cmp rows (c.in_ok-key.ensures i) (cells.Value (c.copy.ensures i))))

pub returns-else-not-contains_key : goal.returns-else-not-contains_key
returns-else-not-contains_key c = kept c.args.rows.now.entries c.args.row.now.0 c.args.row.now.1 (sym c.contains_key.ensures ∙ c.if-not-contains_key.false)
