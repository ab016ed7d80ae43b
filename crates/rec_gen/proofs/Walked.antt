-- What a walk of the script's body asks for, and what it adds.
use Rattle.std.proofs.Common.{◌≡◌, ℕ, List, [], ◌∷◌, map, Some, None, refl, ap, sym, ◌∙◌}
use Rattle.std.specs.Prelude.{ℤ, pos}
use Rattle.bt_core.specs.declared.context.Context.{Context}
use Rattle.bt_core.specs.declared.ending.Ending.TheVariants.{End}
use Rattle.bt_core.specs.declared.map.AggKind.{AggKind}
use Rattle.bt_core.specs.declared.map.AggKind.TheVariants as agg
use Rattle.bt_core.specs.declared.map.MapId.{MapId}
use Rattle.bt_core.specs.declared.step.ObjectId.TheVariants.{Cpu}
use Rattle.bt_core.specs.declared.step.Op.TheVariants as ops
use Rattle.bt_core.specs.declared.value.Value.{Value}
use Rattle.bt_core.specs.declared.value.Value.TheVariants.{Str}
use Rattle.bt_core.specs.Interaction.{Interaction, Call, Ended, Asks, and_then}
use Rattle.event_layout.specs.declared.field.Field.{Field}
use Rattle.typed_tree.specs.declared.body.TypedBody.{TypedBody}
use Rattle.typed_tree.specs.declared.expr.AnyExpr.{fold-roll-AnyExpr}
use Rattle.typed_tree.specs.declared.expr.AnyExpr.TheOpen.{AnyExpr-F}
use Rattle.typed_tree.specs.declared.expr.AnyExpr.TheVariants as anys
use Rattle.typed_tree.specs.declared.expr.NumExpr.TheVariants as nums
use Rattle.typed_tree.specs.declared.expr.StrExpr.TheVariants as strs
use Rattle.typed_tree.specs.declared.stmt.TypedBlock.{TypedBlock, out-TypedBlock, roll-out-TypedBlock, fold-roll-TypedBlock}
use Rattle.typed_tree.specs.declared.stmt.TypedStmt.{TypedStmt}
use Rattle.event_record.specs.Fields.{field_number}
use Rattle.walk_meaning.specs.declared.flow.Flow.{Flow}
use Rattle.walk_meaning.specs.Does.{Does, BodyScene, given, looked_at, lifted, bind}
use Rattle.walk_meaning.specs.Exprs.{command, number_field, text_value, value_does, value_by_parts, number_by_parts, text_by_parts}
use Rattle.walk_meaning.specs.Stmts.{gather, in_sequence, stmt_does, block_does, stmt_by_parts, block_by_parts}
use Rattle.walk_meaning.specs.Walk.{walk, first_frame, guarded, ending_of}
use Rattle.walk_meaning.proofs.ExprDoes.{field_num, comm_str}
use Rattle.bt_lower.proofs.Forms.{Gather-does}
use Rattle.rec_gen.proofs.Body.{IsBody, counted, gathered}

comm_does : value_does (anys.Str strs.Comm) ≡ text_value command
comm_does =
    ap value_does (sym (anys.rolls-Str strs.Comm))
    ∙ (fold-roll-AnyExpr (Does Value) (Does ℤ) (Does (List ℕ)) value_by_parts number_by_parts text_by_parts (AnyExpr-F.Str strs.Comm) ∙ ap text_value (comm_str strs.Comm refl))

counted_does : (m : MapId) → stmt_does (counted m) ≡ gather m (text_value command ∷ []) (given (pos 1))
counted_does m = Gather-does m (anys.Str strs.Comm ∷ []) agg.Count None ∙ ap (λ (d : Does Value). gather m (d ∷ []) (given (pos 1))) comm_does

gathered_does : (m : MapId) (kind : AggKind) (f : Field) → stmt_does (gathered m kind f) ≡ gather m [] (number_field f)
gathered_does m kind f = Gather-does m [] kind (Some (nums.Field f)) ∙ ap (gather m []) (field_num (nums.Field f) f refl)

block_is : (b : TypedBlock) → block_does b ≡ in_sequence (map stmt_does (out-TypedBlock b).stmts)
block_is b = ap block_does (sym (roll-out-TypedBlock b)) ∙ fold-roll-TypedBlock (Does Flow) (Does Flow) stmt_by_parts block_by_parts (out-TypedBlock b)

abbrev adds : ℕ → MapId → List Value → ℤ → Call
adds actor m key number = record { object = Cpu actor; op = ops.Add m key number }

-- three additions, one after the other
abbrev pub three_adds : {A : Type 0} → ℕ → MapId → MapId → MapId → List ℕ → ℤ → ℤ → A → Interaction A
three_adds actor m n o name one two a =
    Asks (adds actor m (Str name ∷ []) (pos 1)) (λ r. Asks (adds actor n [] one) (λ s. Asks (adds actor o [] two) (λ t. Ended a)))

pub walk_is : (body : TypedBody) (is : IsBody body.tree) (context : Context) (payload : List ℕ) (actor actors : ℕ)
    → walk body context payload actor actors ≡ three_adds actor is.first is.second is.third context.comm (field_number is.one payload) (field_number is.two payload) End
unfolding walk given looked_at lifted bind
walk_is body is context payload actor actors =
    let one = counted_does is.first in
    let two = gathered_does is.second agg.Hist is.one in
    let three = gathered_does is.third agg.Sum is.two in
    let scene : BodyScene = record { context = context; payload = payload; actor = actor; actors = actors; maps = body.maps } in
    let block : block_does body.tree.block ≡ in_sequence (gather is.first (text_value command ∷ []) (given (pos 1)) ∷ gather is.second [] (number_field is.one) ∷ gather is.third [] (number_field is.two) ∷ []) =
    block_is body.tree.block ∙ (ap (λ (l : List TypedStmt). in_sequence (map stmt_does l)) is.block ∙ (λ i. in_sequence (one i ∷ two i ∷ three i ∷ []))) in
    λ i. and_then (bind (guarded (is.predicate i) (block i)) (λ flow. given (ending_of flow)) scene (first_frame (is.variables i))) (λ p. Ended p.0)
