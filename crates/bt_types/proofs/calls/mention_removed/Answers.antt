use Rattle.std.proofs.Common.{List, map}
use Rattle.expr_types.specs.Mentions.{Sort}
use Rattle.typed_tree.specs.Parts.{made_of, key_shapes}
use Rattle.bt_types.specs.Told.{delete_points}
use Rattle.bt_types.proofs.MapCalls.{delete_went, delete_first, delete_second, delete_third, delete_leaves, says_err}
use Rattle.bt_types.proofs.calls.mention_removed.Goals as goal

pub returns-in_err-use_map-clause-says : goal.returns-in_err-use_map-clause-says
returns-in_err-use_map-clause-says c = λ (sorts : List Sort) h.
    says_err (delete_points c.args.name.now c.args.at_map c.args.place sorts) c.args.known.now _ _ c.in_err-use_map.field-0.0 c.from_residual.ensures.1
    (delete_first c.args.name.now c.args.at_map c.args.place sorts c.args.known.now _ c.in_err-use_map.ensures.refuses)

pub returns-in_err-check_shared-clause-says : goal.returns-in_err-check_shared-clause-says
returns-in_err-check_shared-clause-says c = λ (sorts : List Sort) h.
    says_err (delete_points c.args.name.now c.args.at_map c.args.place sorts) c.args.known.now _ _ c.in_err-check_shared.field-0.0 c.from_residual-in_err-check_shared.ensures.1
    (delete_second c.args.name.now c.args.at_map c.args.place sorts (map made_of c.args.keys.now) c.args.known.now c.use_map.new.known _ (record { used = c.in_ok-use_map.ensures.refuses; mentioned = c.in_ok-use_map.ensures.learned; types = h }) c.in_err-check_shared.ensures.refuses)

pub returns-in_err-remove-clause-says : goal.returns-in_err-remove-clause-says
returns-in_err-remove-clause-says c = λ (sorts : List Sort) h.
    says_err (delete_points c.args.name.now c.args.at_map c.args.place sorts) c.args.known.now _ _ c.in_err-remove.field-0.0 c.from_residual-in_err-remove.ensures.1
    (delete_third c.args.name.now c.args.at_map c.args.place sorts (map made_of c.args.keys.now) c.args.known.now c.use_map.new.known _ (record { used = c.in_ok-use_map.ensures.refuses; mentioned = c.in_ok-use_map.ensures.learned; types = h }) c.in_ok-check_shared.ensures.refuses c.in_err-remove.ensures.refuses)

pub returns-clause-says : goal.returns-clause-says
returns-clause-says c = λ (sorts : List Sort) h.
    (delete_went c.args.name.now c.args.at_map c.args.place sorts (map made_of c.args.keys.now) c.args.known.now c.use_map.new.known c.remove.new.known (record { used = c.in_ok-use_map.ensures.refuses; mentioned = c.in_ok-use_map.ensures.learned; types = h }) c.in_ok-check_shared.ensures.refuses c.in_ok-remove.ensures.refuses c.in_ok-remove.ensures.learned).whole

pub returns-clause-removed : goal.returns-clause-removed
returns-clause-removed c =
    delete_leaves c.args.name.now (key_shapes (map made_of c.args.keys.now)) c.args.known.now c.use_map.new.known c.remove.new.known c.in_ok-use_map.ensures.learned c.in_ok-check_shared.ensures.refuses c.in_ok-remove.ensures.refuses c.in_ok-remove.ensures.learned
