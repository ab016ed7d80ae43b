use Rattle.std.proofs.Common.{◌∙◌, Bool, map, ap}
use Rattle.std.proofs.lemmas.Result.{IfOk-at_ok, MatchResult-at_err, MatchResult-at_ok}
use Rattle.expr_types.specs.declared.maps.Keyed.{Keyed}
use Rattle.typed_tree.specs.declared.expr.AnyExpr.{AnyExpr}
use Rattle.expr_types.specs.Walk.{MapSeen, OnMap, of_expr, of_map}
use Rattle.typed_tree.specs.Parts.{made_of, stmt_parts}
use Rattle.expr_types.proofs.Layers.{map_is}
use Rattle.bt_types.proofs.Turns.{does_in_err, fault_first, fault_behind, went_key}
use Rattle.bt_types.specs.Told.{update_told}
use Rattle.bt_types.proofs.MapStatements.{update_map_done, update_map_missing, update_map_refused}
use Rattle.bt_types.proofs.StmtLayers.{update_map_stmt}
use Rattle.bt_types.proofs.assign.check_update_map.Goals as goal

pub returns-in_err-keyed : goal.returns-in_err-keyed
returns-in_err-keyed c =
    does_in_err (update_told c.args.op (OnMap (of_map c.args.map.now)) (of_expr c.args.value.now) c.args.place) stmt_parts c.args.known.now _ _ c.in_err-keyed.field-0.0 c.from_residual.ensures.1
    (fault_first (of_map c.args.map.now).points _ c.args.known.now _ c.in_err-keyed.ensures)

pub returns-in_err-keyed-2 : goal.returns-in_err-keyed-2
returns-in_err-keyed-2 c =
    let e = c.in_err-keyed-2.field-0.0 in
    let fault = MatchResult-at_err _ _ e c.in_err-keyed-2.ensures c.check_expr-value.ensures in
    does_in_err (update_told c.args.op (OnMap (of_map c.args.map.now)) (of_expr c.args.value.now) c.args.place) stmt_parts c.args.known.now _ _ e c.from_residual-in_err-keyed-2.ensures.1
    (fault_behind (of_map c.args.map.now).points _ c.args.known.now c.check_key.new.known _ (went_key (of_map c.args.map.now) c.args.known.now c.check_key.new.known _ _ c.in_ok-keyed.ensures)
    (fault_first (of_expr c.args.value.now).points _ c.check_key.new.known _ fault))

pub returns-in_err-keyed-3 : goal.returns-in_err-keyed-3
returns-in_err-keyed-3 c =
    let m = c.args.map.now in
    let named = ap (λ (s : MapSeen). s.name) (map_is m) in
    let placed = ap (λ (s : MapSeen). s.place) (map_is m) in
    let checked = MatchResult-at_ok _ _ _ c.in_ok-keyed-2.ensures.1 c.check_expr-value.ensures in
    let keys = ap (λ (k : Keyed). k.keys) c.in_ok-keyed-2.ensures.0 in
    let e = c.in_err-keyed-3.field-0.0 in
    let breach = MatchResult-at_err _ _ e c.in_err-keyed-3.ensures c.write_key-written.ensures.refuses in
    does_in_err (update_told c.args.op (OnMap (of_map c.args.map.now)) (of_expr c.args.value.now) c.args.place) stmt_parts c.args.known.now _ _ e c.from_residual-in_err-keyed-3.ensures.1
    (update_map_missing c.args.op (of_map m) (of_expr c.args.value.now) c.args.place c.args.known.now c.check_key.new.known c.check_expr-value.new.known c.in_ok-keyed.keyed.map.0 (map made_of c.in_ok-keyed.keyed.keys) (made_of c.in_ok-keyed-2.value) e c.in_ok-keyed.ensures checked
    (rw (named, placed, ← keys) breach))

pub returns-in_err-map : goal.returns-in_err-map
returns-in_err-map c =
    let m = c.args.map.now in
    let named = ap (λ (s : MapSeen). s.name) (map_is m) in
    let checked = MatchResult-at_ok _ _ _ c.in_ok-keyed-2.ensures.1 c.check_expr-value.ensures in
    let keys = ap (λ (k : Keyed). k.keys) c.in_ok-keyed-2.ensures.0 in
    let both = c.in_ok-keyed-3.ensures.0 in
    let value = ap (λ (r : Keyed × AnyExpr). r.1) both in
    let allowed = MatchResult-at_ok _ _ _ c.in_ok-keyed-3.ensures.1 c.write_key-written.ensures.refuses in
    let learned = IfOk-at_ok _ c.in_ok-keyed-3.ensures.1 c.write_key-written.ensures.learned in
    let e = c.in_err-map.field-0.0 in
    let breach = MatchResult-at_err _ _ e c.in_err-map.ensures c.whole-number.ensures.refuses in
    does_in_err (update_told c.args.op (OnMap (of_map c.args.map.now)) (of_expr c.args.value.now) c.args.place) stmt_parts c.args.known.now _ _ e c.from_residual-in_err-map.ensures.1
    (update_map_refused c.args.op (of_map m) (of_expr c.args.value.now) c.args.place c.args.known.now c.check_key.new.known c.check_expr-value.new.known c.write_key-written.new.known c.in_ok-keyed.keyed.map.0 (map made_of c.in_ok-keyed.keyed.keys) (made_of c.in_ok-keyed-2.value) e c.in_ok-keyed.ensures checked
    (rw (named, ← keys) allowed) (rw (named, ← keys) learned) (rw (← value) breach))

pub returns : goal.returns
returns c = λ (inside : Bool).
    let m = c.args.map.now in
    let named = ap (λ (s : MapSeen). s.name) (map_is m) in
    let checked = MatchResult-at_ok _ _ _ c.in_ok-keyed-2.ensures.1 c.check_expr-value.ensures in
    let keys = ap (λ (k : Keyed). k.keys) c.in_ok-keyed-2.ensures.0 in
    let both = c.in_ok-keyed-3.ensures.0 in
    let value = ap (λ (r : Keyed × AnyExpr). r.1) both in
    let allowed = MatchResult-at_ok _ _ _ c.in_ok-keyed-3.ensures.1 c.write_key-written.ensures.refuses in
    let learned = IfOk-at_ok _ c.in_ok-keyed-3.ensures.1 c.write_key-written.ensures.learned in
    let kept = c.in_ok-map.ensures.0 ∙ (ap (λ (r : Keyed × AnyExpr). r.0) both ∙ c.in_ok-keyed-2.ensures.0) in
    let map_kept = ap (λ (k : Keyed). k.map) kept in
    let keys_kept = ap (λ (k : Keyed). k.keys) kept in
    let whole = MatchResult-at_ok _ _ _ c.in_ok-map.ensures.1 c.whole-number.ensures.refuses in
    let made = IfOk-at_ok _ c.in_ok-map.ensures.1 c.whole-number.ensures.made in
    rw (map_kept, keys_kept, update_map_stmt c.in_ok-keyed.keyed.map c.in_ok-keyed.keyed.keys c.args.op c.in_ok-map.value inside)
    (update_map_done c.args.op (of_map m) (of_expr c.args.value.now) c.args.place c.args.known.now c.check_key.new.known c.check_expr-value.new.known c.write_key-written.new.known c.in_ok-keyed.keyed.map.0 (map made_of c.in_ok-keyed.keyed.keys) (made_of c.in_ok-keyed-2.value) _ c.in_ok-keyed.ensures checked
    (rw (named, ← keys) allowed) (rw (named, ← keys) learned) (rw (← value) whole) (rw (← value) made))
