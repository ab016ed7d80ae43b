use Rattle.std.proofs.Common.{List, subst, sym}
use Rattle.std.specs.List.{All}
use Rattle.std.proofs.lemmas.List.Sorted.{All-permutation}
use Rattle.bt_core.specs.declared.value.Value.{Value}
use Rattle.bt_core.specs.declared.item.Cell.{Cell}
use Rattle.map_printer.specs.Counted.{FitsCell}
use Rattle.map_printer.proofs.Fitting.{rows_counted}
use Rattle.map_printer.proofs.Tops.{all_top}
use Rattle.json_out.proofs.maps.write_map.Goals as goal

pub write_rows-requires-clause-fit : goal.write_rows-requires-clause-fit
write_rows-requires-clause-fit c =
    let P : (List Value × Cell) → Type 0 = λ r. FitsCell r.1 in
    let rows = c.put_in_order.new.rows.items in
    let given : All P c.in_ok-rows.rows.items = subst (All P) (sym c.in_ok-rows.ensures) (rows_counted c.args.decl.now c.args.rows.now c.requires.fit) in
    let sorted : All P rows = All-permutation P c.in_ok-rows.rows.items rows c.put_in_order.ensures.rows given in
    subst (All P) (sym c.top_rows.ensures) (all_top P c.args.top c.deref.result.now (subst (All P) (sym c.deref.ensures.value) sorted))
