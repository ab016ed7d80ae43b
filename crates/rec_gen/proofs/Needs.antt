-- What the typed body of the script needs.
use Rattle.std.proofs.Common.{◌≡◌, ◌+◌, max, List, [], ◌∷◌, map, Some, None, ap, sym, ◌∙◌}
use Rattle.bt_core.specs.declared.map.AggKind.{AggKind}
use Rattle.bt_core.specs.declared.map.AggKind.TheVariants as agg
use Rattle.bt_core.specs.declared.map.MapId.{MapId}
use Rattle.event_layout.specs.declared.field.Field.{Field}
use Rattle.typed_tree.specs.declared.body.TypedTree.{TypedTree}
use Rattle.typed_tree.specs.declared.expr.AnyExpr.{fold-roll-AnyExpr}
use Rattle.typed_tree.specs.declared.expr.AnyExpr.TheOpen.{NumExpr-F, StrExpr-F, AnyExpr-F}
use Rattle.typed_tree.specs.declared.expr.AnyExpr.TheVariants as anys
use Rattle.typed_tree.specs.declared.expr.NumExpr.{fold-roll-NumExpr}
use Rattle.typed_tree.specs.declared.expr.NumExpr.TheVariants as nums
use Rattle.typed_tree.specs.declared.expr.StrExpr.{fold-roll-StrExpr}
use Rattle.typed_tree.specs.declared.expr.StrExpr.TheVariants as strs
use Rattle.typed_tree.specs.declared.stmt.TypedBlock.{TypedBlock, out-TypedBlock, roll-out-TypedBlock, fold-roll-TypedBlock}
use Rattle.typed_tree.specs.declared.stmt.TypedStmt.{TypedStmt}
use Rattle.ir_code.specs.Figures.{sizes_of}
use Rattle.bt_lower.specs.declared.need.Need.{Need}
use Rattle.bt_lower.specs.declared.need.Valued.{Valued}
use Rattle.bt_lower.specs.Needs.{need, valued, greater, all_need, gather_need, predicate_need, value_need, text_need, number_need, stmt_need, block_need, tree_need, value_need_by_parts, number_need_by_parts, text_need_by_parts, stmt_need_by_parts, block_need_by_parts}
use Rattle.bt_lower.proofs.Forms.{Gather-need}
use Rattle.rec_gen.proofs.Body.{IsBody, counted, gathered}

field_need : (f : Field) → number_need (nums.Field f) ≡ need 8 8
field_need f = ap number_need (sym (nums.rolls-Field f)) ∙ fold-roll-NumExpr Valued Need Need value_need_by_parts number_need_by_parts text_need_by_parts (NumExpr-F.NumExpr::Field f)

comm_need : value_need (anys.Str strs.Comm) ≡ valued 64 (need 64 24)
comm_need =
    ap value_need (sym (anys.rolls-Str strs.Comm))
    ∙ (fold-roll-AnyExpr Valued Need Need value_need_by_parts number_need_by_parts text_need_by_parts (AnyExpr-F.Str strs.Comm)
    ∙ ap (valued 64) (ap text_need (sym strs.rolls-Comm) ∙ fold-roll-StrExpr Valued Need Need value_need_by_parts number_need_by_parts text_need_by_parts StrExpr-F.Comm))

counted_need : (m : MapId) → stmt_need (counted m) ≡ need 64 48
counted_need m = Gather-need m (anys.Str strs.Comm ∷ []) agg.Count None ∙ ap (λ (v : Valued). gather_need (v ∷ []) None) comm_need

gathered_need : (m : MapId) (kind : AggKind) (f : Field) → stmt_need (gathered m kind f) ≡ need 8 32
gathered_need m kind f =
    Gather-need m [] kind (Some (nums.Field f))
    ∙ ap (λ (n : Need). need (max 0 (0 + n.frame)) (24 + 0 + n.code)) (field_need f)

block_needs : (b : TypedBlock) → block_need b ≡ all_need (map stmt_need (out-TypedBlock b).stmts)
block_needs b = ap block_need (sym (roll-out-TypedBlock b)) ∙ fold-roll-TypedBlock Need Need stmt_need_by_parts block_need_by_parts (out-TypedBlock b)

pub body_need : (tree : TypedTree) → IsBody tree → tree_need tree ≡ need 88 144
body_need tree is =
    let one = counted_need is.first in
    let two = gathered_need is.second agg.Hist is.one in
    let three = gathered_need is.third agg.Sum is.two in
    let block : block_need tree.block ≡ need 64 112 =
    block_needs tree.block ∙ (ap (λ (l : List TypedStmt). all_need (map stmt_need l)) is.block ∙ (λ i. all_need (one i ∷ two i ∷ three i ∷ []))) in
    λ i. need (24 + sizes_of (is.variables i) + (greater (predicate_need (is.predicate i)) (block i)).frame) (32 + (greater (predicate_need (is.predicate i)) (block i)).code)
