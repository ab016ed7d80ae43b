use Rattle.std.proofs.Common.{map, ap}
use Rattle.expr_types.specs.Walk.{MapSeen, of_map}
use Rattle.typed_tree.specs.Parts.{made_of}
use Rattle.expr_types.proofs.Layers.{map_is}
use Rattle.bt_types.proofs.Turns.{fault_first}
use Rattle.bt_types.proofs.MapCalls.{use_done, use_refused, use_err}
use Rattle.bt_types.proofs.calls.check_used.Goals as goal

pub returns-in_err-keyed : goal.returns-in_err-keyed
returns-in_err-keyed c =
    use_err _ (of_map c.args.map.now) c.args.known.now _ c.in_err-keyed.field-0.0 c.from_residual.ensures.1
    (fault_first (of_map c.args.map.now).points _ c.args.known.now _ c.in_err-keyed.ensures)

pub returns-in_err-use_map : goal.returns-in_err-use_map
returns-in_err-use_map c =
    let m = c.args.map.now in
    let named = ap (λ (s : MapSeen). s.name) (map_is m) in
    let placed = ap (λ (s : MapSeen). s.place) (map_is m) in
    use_err _ (of_map c.args.map.now) c.args.known.now _ c.in_err-use_map.field-0.0 c.from_residual-in_err-use_map.ensures.1
    (use_refused (of_map c.args.map.now) c.args.known.now c.check_key.new.known c.in_ok-keyed.keyed.map.0 (map made_of c.in_ok-keyed.keyed.keys) _ c.in_ok-keyed.ensures (rw (named, placed) c.in_err-use_map.ensures.refuses))

pub returns : goal.returns
returns c =
    let m = c.args.map.now in
    let named = ap (λ (s : MapSeen). s.name) (map_is m) in
    let placed = ap (λ (s : MapSeen). s.place) (map_is m) in
    use_done (of_map c.args.map.now) c.args.known.now c.check_key.new.known c.use_map.new.known c.in_ok-keyed.keyed.map.0 (map made_of c.in_ok-keyed.keyed.keys) c.in_ok-keyed.ensures (rw named c.in_ok-use_map.ensures.refuses) (rw named c.in_ok-use_map.ensures.learned)
