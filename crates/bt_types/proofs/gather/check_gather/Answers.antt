use Rattle.std.proofs.Common.{◌∙◌, Bool, Option, map, ap}
use Rattle.std.proofs.lemmas.Result.{IfOk-at_ok, MatchResult-at_err, MatchResult-at_ok}
use Rattle.expr_types.specs.Walk.{MapSeen, of_map}
use Rattle.expr_types.specs.declared.maps.Keyed.{Keyed}
use Rattle.typed_tree.specs.declared.expr.NumExpr.{NumExpr}
use Rattle.typed_tree.specs.Parts.{made_of, stmt_parts}
use Rattle.expr_types.proofs.Layers.{map_is}
use Rattle.bt_types.proofs.Turns.{does_in_err, fault_first, fault_behind, went_key}
use Rattle.typed_tree.specs.Scope.{is_fine_agg}
use Rattle.expr_types.specs.declared.fault.Rule.TheVariants.{BadBounds}
use Rattle.bt_types.specs.Told.{gather_told, gathered_told, kind_of_call, number_of_call}
use Rattle.bt_types.proofs.MapCalls.{holds_not, counts_alone, gather_done, gather_bounds, gather_refused}
use Rattle.bt_types.proofs.StmtLayers.{gather_stmt}
use Rattle.bt_types.proofs.gather.check_gather.Goals as goal

pub returns-in_err-keyed : goal.returns-in_err-keyed
returns-in_err-keyed c =
    does_in_err (gather_told (of_map c.args.map.now) (kind_of_call c.args.call.now) (gathered_told (number_of_call c.args.call.now) c.args.word) c.args.word) stmt_parts c.args.known.now _ _ c.in_err-keyed.field-0.0 c.from_residual.ensures.1
    (fault_first (of_map c.args.map.now).points _ c.args.known.now _ c.in_err-keyed.ensures)

pub returns-in_err-keyed-2 : goal.returns-in_err-keyed-2
returns-in_err-keyed-2 c =
    let m = of_map c.args.map.now in
    let kind = kind_of_call c.args.call.now in
    let gathered = gathered_told (number_of_call c.args.call.now) c.args.word in
    let e = c.in_err-keyed-2.field-0.0 in
    let fault = MatchResult-at_err _ _ e c.in_err-keyed-2.ensures c.check_gathered-number.ensures.does in
    does_in_err (gather_told m kind gathered c.args.word) stmt_parts c.args.known.now _ _ e c.from_residual-in_err-keyed-2.ensures.1
    (fault_behind m.points _ c.args.known.now c.check_key.new.known _ (went_key m c.args.known.now c.check_key.new.known _ _ c.in_ok-keyed.ensures)
    (fault_first gathered.points _ c.check_key.new.known _ fault))

pub returns-in_err-read : goal.returns-in_err-read
returns-in_err-read c =
    let m = of_map c.args.map.now in
    let kind = kind_of_call c.args.call.now in
    let gathered = gathered_told (number_of_call c.args.call.now) c.args.word in
    let e = c.in_err-read.field-0.0 in
    let done = MatchResult-at_ok _ _ c.in_ok-keyed-2.number c.in_ok-keyed-2.ensures.1 c.check_gathered-number.ensures.does in
    let breach = MatchResult-at_err _ _ e c.in_err-read.ensures c.check_bounds-bounds.ensures.refuses in
    does_in_err (gather_told m kind gathered c.args.word) stmt_parts c.args.known.now _ _ e c.from_residual-in_err-read.ensures.1
    (gather_bounds m kind gathered c.args.word c.args.known.now c.check_key.new.known c.check_gathered-number.new.known c.in_ok-keyed.keyed.map.0 (map made_of c.in_ok-keyed.keyed.keys) _ e c.in_ok-keyed.ensures done
    (rw (← c.kind_of_call-kind.ensures) breach))

pub returns-in_err-map : goal.returns-in_err-map
returns-in_err-map c =
    let m = of_map c.args.map.now in
    let named = ap (λ (s : MapSeen). s.name) (map_is c.args.map.now) in
    let placed = ap (λ (s : MapSeen). s.place) (map_is c.args.map.now) in
    let kind = kind_of_call c.args.call.now in
    let gathered = gathered_told (number_of_call c.args.call.now) c.args.word in
    let e = c.in_err-map.field-0.0 in
    let done = MatchResult-at_ok _ _ c.in_ok-keyed-2.number c.in_ok-keyed-2.ensures.1 c.check_gathered-number.ensures.does in
    let bounds = MatchResult-at_ok _ _ _ c.in_ok-read.ensures.1 c.check_bounds-bounds.ensures.refuses in
    let keys = ap (λ (r : Keyed × Option NumExpr). r.0.keys) c.in_ok-read.ensures.0 ∙ ap (λ (k : Keyed). k.keys) c.in_ok-keyed-2.ensures.0 in
    let breach = MatchResult-at_err _ _ e c.in_err-map.ensures c.write_key-written.ensures.refuses in
    does_in_err (gather_told m kind gathered c.args.word) stmt_parts c.args.known.now _ _ e c.from_residual-in_err-map.ensures.1
    (gather_refused m kind gathered c.args.word c.args.known.now c.check_key.new.known c.check_gathered-number.new.known c.in_ok-keyed.keyed.map.0 (map made_of c.in_ok-keyed.keyed.keys) _ e c.in_ok-keyed.ensures done
    (rw (← c.kind_of_call-kind.ensures) bounds) (rw (named, placed, ← keys, ← c.kind_of_call-kind.ensures) breach))

pub write_key-written-requires : goal.write_key-written-requires
write_key-written-requires c = holds_not (is_fine_agg c.kind_of_call-kind.result) BadBounds (MatchResult-at_ok _ _ _ c.in_ok-read.ensures.1 c.check_bounds-bounds.ensures.refuses)

pub returns : goal.returns
returns c = λ (inside : Bool).
    let m = of_map c.args.map.now in
    let named = ap (λ (s : MapSeen). s.name) (map_is c.args.map.now) in
    let kind = kind_of_call c.args.call.now in
    let gathered = gathered_told (number_of_call c.args.call.now) c.args.word in
    let done = MatchResult-at_ok _ _ c.in_ok-keyed-2.number c.in_ok-keyed-2.ensures.1 c.check_gathered-number.ensures.does in
    let bounds = MatchResult-at_ok _ _ _ c.in_ok-read.ensures.1 c.check_bounds-bounds.ensures.refuses in
    let keys = ap (λ (r : Keyed × Option NumExpr). r.0.keys) c.in_ok-read.ensures.0 ∙ ap (λ (k : Keyed). k.keys) c.in_ok-keyed-2.ensures.0 in
    let kept = c.in_ok-map.ensures.0 ∙ c.in_ok-read.ensures.0 in
    let keyed = ap (λ (r : Keyed × Option NumExpr). r.0) kept ∙ c.in_ok-keyed-2.ensures.0 in
    let map_kept = ap (λ (k : Keyed). k.map) keyed in
    let keys_kept = ap (λ (k : Keyed). k.keys) keyed in
    let number_kept = ap (λ (r : Keyed × Option NumExpr). r.1) kept in
    let there = IfOk-at_ok _ c.in_ok-keyed-2.ensures.1 c.check_gathered-number.ensures.there in
    let allowed = MatchResult-at_ok _ _ _ c.in_ok-map.ensures.1 c.write_key-written.ensures.refuses in
    let learned = IfOk-at_ok _ c.in_ok-map.ensures.1 c.write_key-written.ensures.learned in
    rw (map_kept, keys_kept, number_kept, gather_stmt c.in_ok-keyed.keyed.map c.in_ok-keyed.keyed.keys c.kind_of_call-kind.result c.in_ok-keyed-2.number inside, c.kind_of_call-kind.ensures)
    (gather_done m kind gathered c.args.word c.args.known.now c.check_key.new.known c.check_gathered-number.new.known c.write_key-written.new.known c.in_ok-keyed.keyed.map.0 (map made_of c.in_ok-keyed.keyed.keys) c.in_ok-keyed-2.number
    c.in_ok-keyed.ensures done (rw (← c.kind_of_call-kind.ensures) bounds)
    (rw (named, ← keys, ← c.kind_of_call-kind.ensures) allowed) (rw (named, ← keys, ← c.kind_of_call-kind.ensures) learned)
    (rw there (counts_alone c.args.call.now)))
