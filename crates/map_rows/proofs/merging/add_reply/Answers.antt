use Rattle.std.proofs.Common.{◌≡◌, ℕ, ◌<◌, List, length, get_or, sym, subst, ap, ◌∙◌}
use Rattle.std.specs.List.{All}
use Rattle.bt_core.specs.declared.agg.Agg.{Agg}
use Rattle.bt_core.specs.declared.map.AggKind.{AggKind}
use Rattle.bt_core.specs.declared.map.MapKind.{MapKind}
use Rattle.bt_core.specs.declared.map.MapKind.TheVariants.{Aggs}
use Rattle.bt_core.specs.declared.step.Reply.{Reply}
use Rattle.bt_core.specs.declared.step.Reply.TheVariants as replies
use Rattle.bt_core.specs.declared.value.Value.{Value}
use Rattle.bt_core.specs.Kinds.{IsAggOf}
use Rattle.map_rows.specs.Merged.{HasRowsOf, agg_row}
use Rattle.map_rows.specs.Merging.{AllHaveKind, AllHaveAggKind, with_row}
use Rattle.map_rows.proofs.MergingSteps.{fold_next, with_row_kind}
use Rattle.map_rows.proofs.merging.add_reply.Goals as goal

-- an aggregate of the reply is of the map's kind
of_kind : (map : MapKind) (kind : AggKind) (reply : Reply) (rows : List (List Value × Agg)) → map ≡ Aggs kind → reply ≡ replies.Aggs rows → HasRowsOf map reply → All (λ row. row.1.kind ≡ kind) rows
of_kind map kind reply rows e f has =
    let all : All (λ row. IsAggOf (Aggs kind) row.1) rows = subst (λ (m : MapKind). HasRowsOf m (replies.Aggs rows)) e (subst (λ (r : Reply). HasRowsOf map r) f has) in
    λ k d less. (all k d less).0

-- the aggregate of this turn is of the map's kind
kind_here : (rows : List (List Value × Agg)) (kind : AggKind) (i : ℕ) (row : List Value × Agg) → All (λ row. row.1.kind ≡ kind) rows → i < length rows → row ≡ get_or rows i row → row.1.kind ≡ kind
kind_here rows kind i row all less is = ap (λ (r : List Value × Agg). r.1.kind) is ∙ all i row less

pub add_agg-requires : goal.add_agg-requires
add_agg-requires c =
    let kind = c.in-Aggs-Aggs.field-0-0 in let rows = c.as_slice-agg-items.result.now in
    let all = of_kind c.args.kind kind c.args.reply.now rows c.in-Aggs-Aggs.is-0 (c.in-Aggs-Aggs.is-1 ∙ ap replies.Aggs (sym c.as_slice-agg-items.ensures)) c.requires.kind in
    let here = kind_here rows kind c.loop-agg.agg-index c.agg-item.result all c.loop-agg-test.true c.agg-item.is in
    let held = subst (λ (m : MapKind). AllHaveKind m c.loop-agg.rows.entries) c.in-Aggs-Aggs.is-0 c.loop-agg.invariant.held in
    subst (λ (k : AggKind). AllHaveAggKind k c.loop-agg.rows.entries) (sym here) held

pub loop-agg-preserved : goal.loop-agg-preserved
loop-agg-preserved c =
    let kind = c.in-Aggs-Aggs.field-0-0 in let rows = c.as_slice-agg-items.result.now in
    let all = of_kind c.args.kind kind c.args.reply.now rows c.in-Aggs-Aggs.is-0 (c.in-Aggs-Aggs.is-1 ∙ ap replies.Aggs (sym c.as_slice-agg-items.ensures)) c.requires.kind in
    let here = kind_here rows kind c.loop-agg.agg-index c.agg-item.result all c.loop-agg-test.true c.agg-item.is in
    let held = subst (λ (m : MapKind). AllHaveKind m c.loop-agg.rows.entries) c.in-Aggs-Aggs.is-0 c.loop-agg.invariant.held in
    let next = with_row_kind kind c.loop-agg.rows.entries (agg_row c.agg-item.result) held here in
    record {
      added = fold_next with_row agg_row c.loop-agg.rows.entries c.add_agg.new.rows.entries rows c.loop-agg.agg-index c.agg-item.result c.loop-agg-test.true c.agg-item.is c.in_ok-add_agg-in-Aggs-Aggs.ensures
          ∙ c.loop-agg.invariant.added;
      held = subst (λ (m : MapKind). AllHaveKind m c.add_agg.new.rows.entries) (sym c.in-Aggs-Aggs.is-0)
          (subst (AllHaveAggKind kind) (sym c.in_ok-add_agg-in-Aggs-Aggs.ensures) next);
    }
