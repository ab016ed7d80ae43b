-- The merged rows are those that are described, and no others are.
use Rattle.std.proofs.Common.{◌≡◌, Bool, true, false, ◌||◌, cond, List, [], ◌∷◌, ◌++◌, map, refl, sym, ap, ◌∙◌, subst}
use Rattle.std.specs.Prelude.{fold}
use Rattle.std.specs.List.{All, AllByRecursion, Contains}
use Rattle.std.specs.List.Sorted.{IsStrictlySortedBy}
use Rattle.std.specs.Map.{keys_of}
use Rattle.std.proofs.lemmas.List.Elements.{All-map, All-weaker, All-head, All-tail, All-contains_itself}
use Rattle.bt_core.specs.declared.agg.Agg.{Agg}
use Rattle.bt_core.specs.declared.item.Cell.{Cell}
use Rattle.bt_core.specs.declared.item.Cell.TheVariants as cells
use Rattle.bt_core.specs.declared.map.AggKind.{AggKind}
use Rattle.bt_core.specs.declared.map.MapKind.{MapKind}
use Rattle.bt_core.specs.declared.map.MapKind.TheVariants.{Ints, Strs, Aggs}
use Rattle.bt_core.specs.declared.step.Reply.{Reply}
use Rattle.bt_core.specs.declared.step.Reply.TheVariants as replies
use Rattle.bt_core.specs.declared.value.Value.{Value}
use Rattle.bt_core.specs.Order.{key_order}
use Rattle.agg_core.specs.Aggregates.{agg_merged}
use Rattle.agg_core.specs.Changes.{is_key}
use Rattle.agg_core.proofs.SortedRows.{row_at}
use Rattle.map_rows.specs.Merged.{all_rows, rows_in, agg_row, value_row, ordered_keys, cells_at, joined_cells, both_cells, merged}
use Rattle.map_rows.specs.MergedRows.{IsFirst, IsMergedOf, StandsFor, AreMergedRows}
use Rattle.map_rows.proofs.KeySets.{has, same_keys}
use Rattle.map_rows.proofs.Entries.{names, ascends-ordered_keys, has-ordered_keys, cells_at-cons, holds}
use Rattle.map_rows.proofs.KeyLists.{sorted_from_ascends, ascends_from_sorted, contains_from_has, has_from_contains}

-- a cell as a map of this kind has it: an aggregate in an aggregation, and a value in any other map
abbrev IsOfSort : MapKind → Cell → Type 0
IsOfSort (Aggs kind) (cells.Agg a) = Unit {0}
IsOfSort (Aggs kind) (cells.Value v) = ⊥
IsOfSort kind (cells.Value v) = Unit {0}
IsOfSort kind (cells.Agg a) = ⊥

abbrev OfSort : MapKind → List Cell → Type 0
OfSort kind held = AllByRecursion (IsOfSort kind) held

abbrev RowsOfSort : MapKind → List (List Value × Cell) → Type 0
RowsOfSort kind rows = AllByRecursion (λ row. IsOfSort kind row.1) rows

both_sorts : (kind : MapKind) (xs ys : List (List Value × Cell)) → RowsOfSort kind xs → RowsOfSort kind ys → RowsOfSort kind (xs ++ ys)
both_sorts kind [] ys a b = b
both_sorts kind (x ∷ xs) ys a b = (a.0, both_sorts kind xs ys a.1 b)

aggs_sort : (kind : AggKind) (rows : List (List Value × Agg)) → RowsOfSort (Aggs kind) (map agg_row rows)
aggs_sort kind [] = tt
aggs_sort kind (r ∷ rs) = (tt, aggs_sort kind rs)

ints_sort : (rows : List (List Value × Value)) → RowsOfSort Ints (map value_row rows)
ints_sort [] = tt
ints_sort (r ∷ rs) = (tt, ints_sort rs)

strs_sort : (rows : List (List Value × Value)) → RowsOfSort Strs (map value_row rows)
strs_sort [] = tt
strs_sort (r ∷ rs) = (tt, strs_sort rs)

reply_sort : (kind : MapKind) (reply : Reply) → RowsOfSort kind (rows_in kind reply)
reply_sort (Aggs kind) (replies.Aggs rows) = aggs_sort kind rows
reply_sort (Aggs kind) (replies.Pairs rows) = tt
reply_sort (Aggs kind) replies.Done = tt
reply_sort (Aggs kind) (replies.Value v) = tt
reply_sort (Aggs kind) (replies.Last l) = tt
reply_sort (Aggs kind) (replies.Stopped s) = tt
reply_sort Ints (replies.Pairs rows) = ints_sort rows
reply_sort Ints (replies.Aggs rows) = tt
reply_sort Ints replies.Done = tt
reply_sort Ints (replies.Value v) = tt
reply_sort Ints (replies.Last l) = tt
reply_sort Ints (replies.Stopped s) = tt
reply_sort Strs (replies.Pairs rows) = strs_sort rows
reply_sort Strs (replies.Aggs rows) = tt
reply_sort Strs replies.Done = tt
reply_sort Strs (replies.Value v) = tt
reply_sort Strs (replies.Last l) = tt
reply_sort Strs (replies.Stopped s) = tt

all_sorts : (kind : MapKind) (rs : List Reply) → RowsOfSort kind (all_rows kind rs)
all_sorts kind [] = tt
all_sorts kind (r ∷ rs) = both_sorts kind (rows_in kind r) (all_rows kind rs) (reply_sort kind r) (all_sorts kind rs)

cells_sort : (kind : MapKind) (k : List Value) (rows : List (List Value × Cell)) → RowsOfSort kind rows → OfSort kind (cells_at k rows)
cells_sort kind k [] a = tt
cells_sort kind k (r ∷ rs) a = subst (OfSort kind) (sym (cells_at-cons k r rs))
    (elim (is_key k r.0) as (λ t. OfSort kind (cond t (r.1 ∷ cells_at k rs) (cells_at k rs))) [ true ↦ (a.0, cells_sort kind k rs a.1) | false ↦ cells_sort kind k rs a.1 ])

-- aggregates are merged one after the other
merged_in : (a : Agg) (later : List Agg) → fold both_cells (cells.Agg a) (map cells.Agg later) ≡ cells.Agg (fold agg_merged a later)
merged_in a [] = refl
merged_in a (b ∷ bs) = merged_in (agg_merged a b) bs

-- the first value stays
first_stays : (v : Value) (later : List Cell) → fold both_cells (cells.Value v) later ≡ cells.Value v
first_stays v [] = refl
first_stays v (cells.Value u ∷ cs) = first_stays v cs
first_stays v (cells.Agg a ∷ cs) = first_stays v cs

-- a list of aggregates alone
record Aggregates (held : List Cell) : Type 0 where
  aggs : List Agg
  is : held ≡ map cells.Agg aggs

aggregates_of : (kind : AggKind) (held : List Cell) → OfSort (Aggs kind) held → Aggregates held
aggregates_of kind [] s = record { aggs = []; is = refl }
aggregates_of kind (cells.Value v ∷ cs) s = absurd s.0
aggregates_of kind (cells.Agg a ∷ cs) s = let rest = aggregates_of kind cs s.1 in record { aggs = a ∷ rest.aggs; is = ap (λ (l : List Cell). cells.Agg a ∷ l) rest.is }

-- what is joined stands under the key, where some cell is held
module _ (kind : AggKind) where
  joined_aggs : (first : Cell) (later : List Cell) → OfSort (Aggs kind) (first ∷ later) → IsMergedOf (first ∷ later) (joined_cells (first ∷ later))
  joined_aggs (cells.Value v) later s = absurd s.0
  joined_aggs (cells.Agg a) later s = let rest = aggregates_of kind later s.1 in
      record { first = a; later = rest.aggs; aggregates = ap (λ (l : List Cell). cells.Agg a ∷ l) rest.is; is = ap (fold both_cells (cells.Agg a)) rest.is ∙ merged_in a rest.aggs }

joined_values : (first : Cell) (later : List Cell) → (v : Value) → first ≡ cells.Value v → IsFirst (first ∷ later) (joined_cells (first ∷ later))
joined_values first later v e = record { later = later; is = ap (λ (c : Cell). c ∷ later) (e ∙ sym (ap (λ (c : Cell). fold both_cells c later) e ∙ first_stays v later)) }

joined_stands : (kind : MapKind) (first : Cell) (later : List Cell) → OfSort kind (first ∷ later) → StandsFor kind (first ∷ later) (joined_cells (first ∷ later))
joined_stands (Aggs kind) first later s = joined_aggs kind first later s
joined_stands Ints (cells.Value v) later s = joined_values (cells.Value v) later v refl
joined_stands Ints (cells.Agg a) later s = absurd s.0
joined_stands Strs (cells.Value v) later s = joined_values (cells.Value v) later v refl
joined_stands Strs (cells.Agg a) later s = absurd s.0

-- nothing else does
first_is : (held : List Cell) (cell : Cell) (v : Value) → cell ≡ cells.Value v → IsFirst held cell → cell ≡ joined_cells held
first_is held cell v e f = e ∙ sym (first_stays v f.later) ∙ ap (λ (c : Cell). fold both_cells c f.later) (sym e) ∙ ap joined_cells (sym f.is)

stands_is : (kind : MapKind) (held : List Cell) (cell : Cell) → OfSort kind held → StandsFor kind held cell → cell ≡ joined_cells held
stands_is (Aggs kind) held cell s f = f.is ∙ sym (merged_in f.first f.later) ∙ ap joined_cells (sym f.aggregates)
stands_is Ints held (cells.Value v) s f = first_is held (cells.Value v) v refl f
stands_is Ints held (cells.Agg a) s f = absurd (subst (OfSort Ints) f.is s).0
stands_is Strs held (cells.Value v) s f = first_is held (cells.Value v) v refl f
stands_is Strs held (cells.Agg a) s f = absurd (subst (OfSort Strs) f.is s).0

-- keys of rows
keys_of_rows : (cell : List Value → Cell) (ks : List (List Value)) → keys_of (map (row_at cell) ks) ≡ ks
keys_of_rows cell [] = refl
keys_of_rows cell (k ∷ ks) = ap (λ (js : List (List Value)). k ∷ js) (keys_of_rows cell ks)

has_key : (k : List Value) (rows : List (List Value × Cell)) → has k (keys_of rows) ≡ names k rows
has_key k [] = refl
has_key k (r ∷ rs) = ap (λ (t : Bool). is_key k r.0 || t) (has_key k rs)

same_tests : (a b : Bool) → (a ≡ true → b ≡ true) → (b ≡ true → a ≡ true) → a ≡ b
same_tests true true f g = refl
same_tests true false f g = sym (f refl)
same_tests false true f g = g refl
same_tests false false f g = refl

module _ (kind : MapKind) (rs : List Reply) where
  abbrev rows : List (List Value × Cell)
  rows = all_rows kind rs

  abbrev cell_at : List Value → Cell
  cell_at k = joined_cells (cells_at k rows)

  has_in_order : (k : List Value) → has k (ordered_keys rows) ≡ has k (keys_of rows)
  has_in_order k = has-ordered_keys k rows ∙ sym (has_key k rows)

  stands_at : (k : List Value) → Contains (ordered_keys rows) k → StandsFor kind (cells_at k rows) (cell_at k)
  stands_at k c =
      let h = holds k rows (sym (has-ordered_keys k rows) ∙ has_from_contains k (ordered_keys rows) c) in
      let s = subst (OfSort kind) h.is (cells_sort kind k rows (all_sorts kind rs)) in
      subst (λ (held : List Cell). StandsFor kind held (joined_cells held)) (sym h.is) (joined_stands kind h.first h.later s)

  to_order : (k : List Value) → Contains (keys_of rows) k → Contains (ordered_keys rows) k
  to_order k c = contains_from_has k (ordered_keys rows) (has_in_order k ∙ has_from_contains k (keys_of rows) c)

  from_order : (k : List Value) → Contains (ordered_keys rows) k → Contains (keys_of rows) k
  from_order k c = contains_from_has k (keys_of rows) (sym (has_in_order k) ∙ has_from_contains k (ordered_keys rows) c)

  pub described : AreMergedRows kind rs (merged kind rs)
  unfolding merged
  described = let keys = keys_of_rows cell_at (ordered_keys rows) in record {
    in_order = subst (IsStrictlySortedBy key_order) (sym keys) (sorted_from_ascends (ordered_keys rows) (ascends-ordered_keys rows));
    keys = λ k. (λ c. from_order k (subst (λ (l : List (List Value)). Contains l k) keys c), λ c. subst (λ (l : List (List Value)). Contains l k) (sym keys) (to_order k c));
    cells = All-map (λ (row : List Value × Cell). StandsFor kind (cells_at row.0 rows) row.1) (row_at cell_at) (ordered_keys rows)
        (All-weaker (Contains (ordered_keys rows)) (λ (k : List Value). StandsFor kind (cells_at k rows) (cell_at k)) stands_at (ordered_keys rows) (All-contains_itself (ordered_keys rows)));
  }

  rows_by_keys : (made : List (List Value × Cell)) → All (λ row. StandsFor kind (cells_at row.0 rows) row.1) made → made ≡ map (row_at cell_at) (keys_of made)
  rows_by_keys [] all = refl
  rows_by_keys (r ∷ more) all =
      let P : (List Value × Cell) → Type 0 = λ row. StandsFor kind (cells_at row.0 rows) row.1 in
      let cell = stands_is kind (cells_at r.0 rows) r.1 (cells_sort kind r.0 rows (all_sorts kind rs)) (All-head P r more all) in
      let rest = rows_by_keys more (All-tail P r more all) in
      λ i. (r.0, cell i) ∷ rest i

  pub alone : (made : List (List Value × Cell)) → AreMergedRows kind rs made → made ≡ merged kind rs
  unfolding merged
  alone made are =
      let same = same_keys (keys_of made) (ordered_keys rows) (ascends_from_sorted (keys_of made) are.in_order) (ascends-ordered_keys rows)
      (λ k. same_tests (has k (keys_of made)) (has k (ordered_keys rows))
      (λ h. has_from_contains k (ordered_keys rows) (to_order k ((are.keys k).0 (contains_from_has k (keys_of made) h))))
      (λ h. has_from_contains k (keys_of made) ((are.keys k).1 (from_order k (contains_from_has k (ordered_keys rows) h))))) in
      rows_by_keys made are.cells ∙ ap (map (row_at cell_at)) same
