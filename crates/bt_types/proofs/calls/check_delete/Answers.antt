use Rattle.std.proofs.Common.{[], map, ap}
use Rattle.expr_types.specs.Walk.{MapSeen, of_map}
use Rattle.typed_tree.specs.Parts.{made_of, stmt_parts}
use Rattle.bt_types.specs.Told.{delete_told}
use Rattle.expr_types.proofs.Layers.{map_is}
use Rattle.bt_types.proofs.Turns.{does_in_err, fault_first}
use Rattle.bt_types.proofs.MapCalls.{delete_alone}
use Rattle.bt_types.proofs.calls.check_delete.Goals as goal

pub returns-in_err-keyed : goal.returns-in_err-keyed
returns-in_err-keyed c =
    does_in_err (delete_told (of_map c.args.map.now) [] c.args.place) stmt_parts c.args.known.now _ _ c.in_err-keyed.field-0.0 c.from_residual.ensures.1
    (fault_first (of_map c.args.map.now).points _ c.args.known.now _ c.in_err-keyed.ensures)

pub returns : goal.returns
returns c =
    let m = c.args.map.now in
    let named = ap (λ (s : MapSeen). s.name) (map_is m) in
    let placed = ap (λ (s : MapSeen). s.place) (map_is m) in
    let keys = map made_of c.in_ok-keyed.keyed.keys in
    delete_alone (of_map c.args.map.now) c.args.place c.args.known.now c.check_key.new.known c.check_removed.new.known c.in_ok-keyed.keyed.map.0 keys c.check_removed.result c.in_ok-keyed.ensures
    (λ sorts h. rw (named, placed) (c.check_removed.ensures.says sorts h))
    (rw named c.check_removed.ensures.removed) c.check_removed.ensures.made
