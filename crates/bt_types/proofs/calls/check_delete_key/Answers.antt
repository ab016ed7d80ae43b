use Rattle.std.proofs.Common.{◌≡◌, ◌∷◌, [], ◌++◌, List, map, ap, ◌∙◌}
use Rattle.std.proofs.lemmas.Result.{MatchResult-at_err, MatchResult-at_ok}
use Rattle.expr_types.specs.Walk.{MapSeen, of_expr, of_map}
use Rattle.expr_types.specs.Checked.{KeyChecked}
use Rattle.typed_tree.specs.Parts.{made_of, stmt_parts}
use Rattle.bt_types.specs.Told.{delete_told}
use Rattle.expr_types.proofs.Layers.{map_is}
use Rattle.bt_types.proofs.Turns.{does_in_err, fault_first}
use Rattle.typed_tree.specs.declared.expr.AnyExpr.{AnyExpr}
use Rattle.bt_types.proofs.Runs.{map_more}
use Rattle.bt_types.proofs.MapCalls.{delete_with, delete_key_fault}
use Rattle.bt_types.proofs.calls.check_delete_key.Goals as goal

pub returns-in_err-keyed : goal.returns-in_err-keyed
returns-in_err-keyed c =
    does_in_err (delete_told (of_map c.args.map.now) (of_expr c.args.key.now ∷ []) c.args.place) stmt_parts c.args.known.now _ _ c.in_err-keyed.field-0.0 c.from_residual.ensures.1
    (fault_first (of_map c.args.map.now).points _ c.args.known.now _ c.in_err-keyed.ensures)

pub returns-in_err-keyed-2 : goal.returns-in_err-keyed-2
returns-in_err-keyed-2 c =
    let e = c.in_err-keyed-2.field-0.0 in
    let fault = MatchResult-at_err _ _ e c.in_err-keyed-2.ensures c.check_expr-key.ensures in
    does_in_err (delete_told (of_map c.args.map.now) (of_expr c.args.key.now ∷ []) c.args.place) stmt_parts c.args.known.now _ _ e c.from_residual-in_err-keyed-2.ensures.1
    (delete_key_fault (of_map c.args.map.now) (of_expr c.args.key.now) c.args.place c.args.known.now c.check_key.new.known c.in_ok-keyed.keyed.map.0 (map made_of c.in_ok-keyed.keyed.keys) e c.in_ok-keyed.ensures fault)

pub returns : goal.returns
returns c =
    let m = c.args.map.now in
    let named = ap (λ (s : MapSeen). s.name) (map_is m) in
    let placed = ap (λ (s : MapSeen). s.place) (map_is m) in
    let keyed = c.in_ok-keyed-2.keyed in
    let key = c.in_ok-keyed-2.key in
    let all = c.in_ok-keyed-3.keyed in
    let went : KeyChecked (of_map m) c.args.known.now c.check_key.new.known all.map.0 (map made_of keyed.keys) = rw (c.in_ok-keyed-3.ensures.0, c.in_ok-keyed-2.ensures.0) c.in_ok-keyed.ensures in
    let checked = MatchResult-at_ok _ _ key c.in_ok-keyed-2.ensures.1 c.check_expr-key.ensures in
    let e : map made_of all.keys ≡ map made_of keyed.keys ++ made_of key ∷ [] = ap (λ (l : List AnyExpr). map made_of l) c.in_ok-keyed-3.ensures.1 ∙ map_more made_of keyed.keys key in
    delete_with (of_map m) (of_expr c.args.key.now) c.args.place c.args.known.now c.check_key.new.known c.check_expr-key.new.known c.check_removed.new.known all.map.0
    (map made_of keyed.keys) (made_of key) (map made_of all.keys) c.check_removed.result went checked e
    (λ sorts h. rw (named, placed) (c.check_removed.ensures.says sorts h)) (rw named c.check_removed.ensures.removed) c.check_removed.ensures.made
