-- The merged rows of replies that fit a declaration fit it.
use Rattle.std.proofs.Common.{◌≡◌, ℕ, suc, Bool, true, false, ◌||◌, cond, List, [], ◌∷◌, length, refl, sym, ap, ◌∙◌, subst}
use Rattle.std.specs.Prelude.{fold}
use Rattle.std.specs.List.{All, AllByRecursion, Contains}
use Rattle.std.proofs.lemmas.List.Elements.{All-nil, All-map, All-weaker, All-head, All-tail, All-append, All-contains_itself, recursion_from_All}
use Rattle.bt_core.specs.declared.agg.Agg.{Agg}
use Rattle.bt_core.specs.declared.agg.Buckets.{Buckets}
use Rattle.bt_core.specs.declared.agg.Buckets.TheVariants as held
use Rattle.bt_core.specs.declared.item.Cell.{Cell}
use Rattle.bt_core.specs.declared.item.Cell.TheVariants as cells
use Rattle.bt_core.specs.declared.map.AggKind.{AggKind}
use Rattle.bt_core.specs.declared.map.AggKind.TheVariants.{Hist, Lhist}
use Rattle.bt_core.specs.declared.map.MapDecl.{MapDecl}
use Rattle.bt_core.specs.declared.map.MapKind.{MapKind}
use Rattle.bt_core.specs.declared.map.MapKind.TheVariants.{Ints, Strs, Aggs}
use Rattle.bt_core.specs.declared.step.Reply.{Reply}
use Rattle.bt_core.specs.declared.step.Reply.TheVariants as replies
use Rattle.bt_core.specs.declared.value.Value.{Value}
use Rattle.bt_core.specs.Kinds.{HasShape, IsAggOf, AreBucketsOf}
use Rattle.agg_core.specs.Aggregates.{agg_merged, both_counts, both_buckets}
use Rattle.agg_core.specs.Changes.{is_key}
use Rattle.agg_core.proofs.KeyLaws.{is_key-true}
use Rattle.agg_core.proofs.SortedRows.{row_at}
use Rattle.map_rows.specs.Fits.{IsCellOf, IsRowOf, IsReadReply}
use Rattle.map_rows.specs.Merged.{all_rows, rows_in, agg_row, value_row, ordered_keys, cells_at, joined_cells, both_cells, merged, HasRowsOf}
use Rattle.map_rows.proofs.Entries.{names, has-ordered_keys, cells_at-cons}
use Rattle.map_rows.proofs.KeyLists.{has_from_contains}

-- as many counts as before
length-both_counts : (cs ds : List ℕ) → length (both_counts cs ds) ≡ length cs
length-both_counts [] ds = refl
length-both_counts (c ∷ cs) [] = refl
length-both_counts (c ∷ cs) (d ∷ ds) = ap suc (length-both_counts cs ds)

both_fit : (kind : AggKind) (bs others : Buckets) → AreBucketsOf kind bs → AreBucketsOf kind (both_buckets bs others)
both_fit kind held.Plain others e = e
both_fit Hist (held.Hist cs) (held.Hist ds) e = length-both_counts cs ds ∙ e
both_fit kind (held.Hist cs) held.Plain e = e
both_fit kind (held.Hist cs) (held.Lhist ds) e = e
both_fit (Lhist min max step) (held.Lhist cs) (held.Lhist ds) e = length-both_counts cs ds ∙ e
both_fit kind (held.Lhist cs) held.Plain e = e
both_fit kind (held.Lhist cs) (held.Hist ds) e = e
both_fit kind bs others e = absurd e

merged_fits : (kind : MapKind) (a b : Agg) → IsAggOf kind a → IsAggOf kind (agg_merged a b)
merged_fits Ints a b e = absurd e
merged_fits Strs a b e = absurd e
merged_fits (Aggs kind) a b e = (e.0, record { kind = e.1.kind; counts = both_fit a.kind a.buckets b.buckets e.1.counts })

both_cells_fit : (kind : MapKind) (cell later : Cell) → IsCellOf kind cell → IsCellOf kind (both_cells cell later)
both_cells_fit kind (cells.Value v) later e = e
both_cells_fit kind (cells.Agg a) (cells.Value v) e = e
both_cells_fit kind (cells.Agg a) (cells.Agg b) e = merged_fits kind a b e

joined_fits : (kind : MapKind) (cell : Cell) (later : List Cell) → IsCellOf kind cell → IsCellOf kind (fold both_cells cell later)
joined_fits kind cell [] e = e
joined_fits kind cell (c ∷ cs) e = joined_fits kind (both_cells cell c) cs (both_cells_fit kind cell c e)

module _ (decl : MapDecl) where
  reply_fits : (reply : Reply) → IsReadReply decl reply → (kind : MapKind) → kind ≡ decl.kind → All (IsRowOf decl) (rows_in kind reply)
  reply_fits (replies.Pairs rows) e (Aggs kind) same = All-nil (IsRowOf decl)
  reply_fits (replies.Pairs rows) e Ints same = All-map (IsRowOf decl) value_row rows e
  reply_fits (replies.Pairs rows) e Strs same = All-map (IsRowOf decl) value_row rows e
  reply_fits (replies.Aggs rows) e (Aggs kind) same = All-map (IsRowOf decl) agg_row rows e
  reply_fits (replies.Aggs rows) e Ints same = All-nil (IsRowOf decl)
  reply_fits (replies.Aggs rows) e Strs same = All-nil (IsRowOf decl)
  reply_fits replies.Done e kind same = absurd e
  reply_fits (replies.Value v) e kind same = absurd e
  reply_fits (replies.Last l) e kind same = absurd e
  reply_fits (replies.Stopped s) e kind same = absurd e

  all_fit : (rs : List Reply) → All (IsReadReply decl) rs → All (IsRowOf decl) (all_rows decl.kind rs)
  all_fit [] all = All-nil (IsRowOf decl)
  all_fit (r ∷ rs) all = All-append (IsRowOf decl) (rows_in decl.kind r) (all_rows decl.kind rs) (reply_fits r (All-head (IsReadReply decl) r rs all) decl.kind refl)
      (all_fit rs (All-tail (IsReadReply decl) r rs all))

  -- a key of some row has the shape, and its first cell is of the kind
  key_fits : (k : List Value) (rows : List (List Value × Cell)) → AllByRecursion (IsRowOf decl) rows → names k rows ≡ true → HasShape decl.key_shape k × IsCellOf decl.kind (joined_cells (cells_at k rows))
  key_fits k [] all named = cc
  key_fits k (r ∷ rs) all named = elim (is_key k r.0) as (λ t. is_key k r.0 ≡ t → (t || names k rs) ≡ true → HasShape decl.key_shape k × IsCellOf decl.kind (joined_cells (cells_at k (r ∷ rs)))) [
    | true ↦ (λ e q. (
      subst (HasShape decl.key_shape) (sym (is_key-true k r.0 e)) all.0.0,
      subst (λ (held : List Cell). IsCellOf decl.kind (joined_cells held)) (sym (cells_at-cons k r rs ∙ ap (λ (t : Bool). cond t (r.1 ∷ cells_at k rs) (cells_at k rs)) e)) (joined_fits decl.kind r.1 (cells_at k rs) all.0.1),
    ))
    | false ↦ (λ e q. (let rest = key_fits k rs all.1 q in (
      rest.0,
      subst (λ (held : List Cell). IsCellOf decl.kind (joined_cells held)) (sym (cells_at-cons k r rs ∙ ap (λ (t : Bool). cond t (r.1 ∷ cells_at k rs) (cells_at k rs)) e)) rest.1,
    )))
  ] refl named

  pub merged_fit : (rs : List Reply) → All (IsReadReply decl) rs → All (IsRowOf decl) (merged decl.kind rs)
  unfolding merged
  merged_fit rs all =
      let rows = all_rows decl.kind rs in let keys = ordered_keys rows in
      let fit = recursion_from_All (IsRowOf decl) rows (all_fit rs all) in
      let cell : List Value → Cell = λ k. joined_cells (cells_at k rows) in
      All-map (IsRowOf decl) (row_at cell) keys
      (All-weaker (Contains keys) (λ (k : List Value). IsRowOf decl (row_at cell k))
      (λ k c. key_fits k rows fit (sym (has-ordered_keys k rows) ∙ has_from_contains k keys c)) keys (All-contains_itself keys))

  pub reply_has_rows : (reply : Reply) → IsReadReply decl reply → HasRowsOf decl.kind reply
  reply_has_rows (replies.Pairs rows) e = λ k d less. (e k d less).1
  reply_has_rows (replies.Aggs rows) e = λ k d less. (e k d less).1
  reply_has_rows replies.Done e = e
  reply_has_rows (replies.Value v) e = e
  reply_has_rows (replies.Last l) e = e
  reply_has_rows (replies.Stopped s) e = e
