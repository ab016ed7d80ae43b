use Rattle.std.proofs.Common.{Bool, List, ap}
use Rattle.std.proofs.lemmas.Result.{IfOk-at_ok, MatchResult-at_err, MatchResult-at_ok}
use Rattle.expr_types.specs.Mentions.{Sort}
use Rattle.expr_types.specs.declared.maps.Keyed.{Keyed}
use Rattle.bt_types.specs.Told.{delete_points}
use Rattle.bt_types.proofs.MapCalls.{says_err}
use Rattle.bt_types.proofs.StmtLayers.{delete_stmt}
use Rattle.bt_types.proofs.calls.check_removed.Goals as goal

pub returns-in_err-map-clause-says : goal.returns-in_err-map-clause-says
returns-in_err-map-clause-says c = λ (sorts : List Sort) h.
    let e = c.in_err-map.field-0.0 in
    says_err (delete_points c.args.name.now c.args.at_map c.args.place sorts) c.args.known.now _ _ e c.from_residual.ensures.1
    (MatchResult-at_err _ _ e c.in_err-map.ensures (c.mention_removed-removed.ensures.says sorts h))

pub returns-clause-says : goal.returns-clause-says
returns-clause-says c = λ (sorts : List Sort) h. MatchResult-at_ok _ _ _ c.in_ok-map.ensures.1 (c.mention_removed-removed.ensures.says sorts h)

pub returns-clause-removed : goal.returns-clause-removed
returns-clause-removed c = IfOk-at_ok _ c.in_ok-map.ensures.1 c.mention_removed-removed.ensures.removed

pub returns-clause-made : goal.returns-clause-made
returns-clause-made c = λ (inside : Bool).
    let map_kept = ap (λ (k : Keyed). k.map) c.in_ok-map.ensures.0 in
    let keys_kept = ap (λ (k : Keyed). k.keys) c.in_ok-map.ensures.0 in
    rw (map_kept, keys_kept) (delete_stmt c.args.keyed.map c.args.keyed.keys inside)
