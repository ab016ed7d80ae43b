-- Rows that are merged one after the other are the merged rows.
use Rattle.std.proofs.Common.{◌≡◌, Bool, true, false, ◌||◌, cond, List, [], ◌∷◌, ◌++◌, Option, Some, None, map, refl, sym, ap, ◌∙◌, append_assoc}
use Rattle.std.specs.Prelude.{fold}
use Rattle.std.specs.List.{filter}
use Rattle.std.specs.BTreeMap.{insert_entry}
use Rattle.std.specs.Map.{lookup, set_value}
use Rattle.std.proofs.lemmas.List.{append-nil}
use Rattle.std.proofs.lemmas.List.Sums.{fold-append}
use Rattle.bt_core.specs.declared.item.Cell.{Cell}
use Rattle.bt_core.specs.declared.value.Value.{Value}
use Rattle.bt_core.specs.Order.{key_order}
use Rattle.agg_core.specs.Changes.{is_key, with_key}
use Rattle.agg_core.proofs.KeyLaws.{key_itself, Before, Same, After, side, is_key-same, is_key-before, is_key-after}
use Rattle.agg_core.proofs.SortedRows.{Ascends, ascends-with_key, below-trans, row_at, rows_at, rows-insert}
use Rattle.map_rows.specs.Merged.{ordered_keys, cells_at, joined_cells, both_cells, merged_rows}
use Rattle.map_rows.specs.Merging.{row_beside, with_row}
use Rattle.map_rows.proofs.KeySets.{has, has-with_key, key_flip, below_none, same_keys}
use Rattle.map_rows.proofs.Entries.{names, ascends-ordered_keys, has-ordered_keys, names-append, cells_at-append, cells_at-cons, cells_at-none, holds}

-- what the rows hold at a key, joined
abbrev cell_of : List (List Value × Cell) → List Value → Cell
cell_of rows k = joined_cells (cells_at k rows)

all_pass : (ks : List (List Value)) → filter (λ _. true) ks ≡ ks
all_pass [] = refl
all_pass (k ∷ ks) = ap (λ (js : List (List Value)). k ∷ js) (all_pass ks)

or_flip : (a b : Bool) → (a || (b || false)) ≡ (b || a)
or_flip true true = refl
or_flip true false = refl
or_flip false true = refl
or_flip false false = refl

-- one row more gives its key
keys_more : (rows : List (List Value × Cell)) (row : List Value × Cell) → ordered_keys (rows ++ row ∷ []) ≡ with_key row.0 (ordered_keys rows)
keys_more rows row = same_keys _ _ (ascends-ordered_keys (rows ++ row ∷ [])) (ascends-with_key row.0 (ordered_keys rows) (ascends-ordered_keys rows))
    (λ k. has-ordered_keys k (rows ++ row ∷ []) ∙ names-append k rows (row ∷ []) ∙ or_flip (names k rows) (is_key k row.0)
    ∙ ap (λ (t : Bool). is_key k row.0 || t) (sym (has-ordered_keys k rows)) ∙ sym (has-with_key k row.0 (ordered_keys rows)))

module _ (cell : List Value → Cell) where
  lookup_none : (k : List Value) (ks : List (List Value)) → has k ks ≡ false → lookup (is_key k) (map (row_at cell) ks) ≡ None
  lookup_none k [] e = refl
  lookup_none k (j ∷ js) e = elim (is_key k j) as (λ t. (t || has k js) ≡ false → cond t (Some (cell j)) (lookup (is_key k) (map (row_at cell) js)) ≡ None)
      [ true ↦ (λ q. cc) | false ↦ (λ q. lookup_none k js q) ] e

  lookup_some : (k : List Value) (ks : List (List Value)) → has k ks ≡ true → lookup (is_key k) (map (row_at cell) ks) ≡ Some (cell k)
  lookup_some k [] e = cc
  lookup_some k (j ∷ js) e = elim (side k j) [
    | Before f back ↦ rw (is_key-before k j f) (lookup_some k js (rw (is_key-before k j f) at e))
    | Same f ↦ rw (is_key-same k j f) (ap (λ (i : List Value). Some (cell i)) (sym f))
    | After f back ↦ rw (is_key-after k j f) (lookup_some k js (rw (is_key-after k j f) at e))
  ]

  -- at a key that is there, putting a cell in is inserting it
  put_there : (k : List Value) (w : Cell) (ks : List (List Value)) → Ascends ks → has k ks ≡ true → set_value (is_key k) (map (row_at cell) ks) w ≡ insert_entry key_order (map (row_at cell) ks) k w
  put_there k w [] a e = cc
  put_there k w (j ∷ js) a e = elim (side k j) [
    | Before f back ↦ (let gone : has k (j ∷ js) ≡ false = below_none k (j ∷ js) (f, below-trans k j js f a.0) in let t : true ≡ false = sym e ∙ gone in cc)
    | Same f ↦ rw (is_key-same k j f) (let here = ap (λ (i : List Value). key_order i j) f ∙ key_itself j in rw here refl)
    | After f back ↦ rw (is_key-after k j f) (rw f (ap (λ (l : List (List Value × Cell)). row_at cell j ∷ l) (put_there k w js a.1 (rw (is_key-after k j f) at e))))
  ]

  as_rows : (ks : List (List Value)) → rows_at (λ _. true) cell ks ≡ map (row_at cell) ks
  as_rows ks = ap (map (row_at cell)) (all_pass ks)

-- one cell more at the key of the row, and no more at others
module _ (rows : List (List Value × Cell)) (row : List Value × Cell) where
  cells_more : (k : List Value) (t : Bool) → is_key k row.0 ≡ t → cells_at k (rows ++ row ∷ []) ≡ cells_at k rows ++ cond t (row.1 ∷ []) []
  cells_more k t e = cells_at-append k rows (row ∷ []) ∙ ap (λ (l : List Cell). cells_at k rows ++ l) (cells_at-cons k row [] ∙ ap (λ (b : Bool). cond b (row.1 ∷ []) []) e)

  others : (k : List Value) → is_key row.0 k ≡ false → cell_of rows k ≡ cell_of (rows ++ row ∷ []) k
  others k e = ap joined_cells (sym (cells_more k false (key_flip k row.0 ∙ e) ∙ append-nil (cells_at k rows)))

  here : cells_at row.0 (rows ++ row ∷ []) ≡ cells_at row.0 rows ++ row.1 ∷ []
  here = cells_more row.0 true (is_key-same row.0 row.0 refl)

  new_cell : names row.0 rows ≡ false → row.1 ≡ cell_of (rows ++ row ∷ []) row.0
  new_cell e = ap joined_cells (sym (here ∙ ap (λ (l : List Cell). l ++ row.1 ∷ []) (cells_at-none row.0 rows e)))

  more_cells : names row.0 rows ≡ true → both_cells (cell_of rows row.0) row.1 ≡ cell_of (rows ++ row ∷ []) row.0
  more_cells e = let h = holds row.0 rows e in
      ap (λ (l : List Cell). both_cells (joined_cells l) row.1) h.is
      ∙ sym (fold-append both_cells h.first h.later (row.1 ∷ []))
      ∙ ap joined_cells (sym (here ∙ ap (λ (l : List Cell). l ++ row.1 ∷ []) h.is))

  inserted : insert_entry key_order (map (row_at (cell_of rows)) (ordered_keys rows)) row.0 (cell_of (rows ++ row ∷ []) row.0) ≡ merged_rows (rows ++ row ∷ [])
  inserted =
      ap (λ (l : List (List Value × Cell)). insert_entry key_order l row.0 (cell_of (rows ++ row ∷ []) row.0)) (sym (as_rows (cell_of rows) (ordered_keys rows)))
      ∙ sym (rows-insert (λ _. true) (λ _. true) (cell_of rows) (cell_of (rows ++ row ∷ [])) row.0 (λ j e. (refl, others j e)) refl (ordered_keys rows) (ascends-ordered_keys rows))
      ∙ as_rows (cell_of (rows ++ row ∷ [])) (with_key row.0 (ordered_keys rows))
      ∙ ap (map (row_at (cell_of (rows ++ row ∷ [])))) (sym (keys_more rows row))

  -- the merged rows with one row more are those of the rows with it
  one_more : with_row (merged_rows rows) row ≡ merged_rows (rows ++ row ∷ [])
  one_more = by_test (has row.0 (ordered_keys rows)) refl
    where
      by_test : (t : Bool) → has row.0 (ordered_keys rows) ≡ t → with_row (merged_rows rows) row ≡ merged_rows (rows ++ row ∷ [])
      by_test true e =
          ap (λ (o : Option Cell). row_beside o (merged_rows rows) row) (lookup_some (cell_of rows) row.0 (ordered_keys rows) e)
          ∙ put_there (cell_of rows) row.0 (both_cells (cell_of rows row.0) row.1) (ordered_keys rows) (ascends-ordered_keys rows) e
          ∙ ap (λ (c : Cell). insert_entry key_order (merged_rows rows) row.0 c) (more_cells (sym (has-ordered_keys row.0 rows) ∙ e)) ∙ inserted
      by_test false e =
          ap (λ (o : Option Cell). row_beside o (merged_rows rows) row) (lookup_none (cell_of rows) row.0 (ordered_keys rows) e)
          ∙ ap (λ (c : Cell). insert_entry key_order (merged_rows rows) row.0 c) (new_cell (sym (has-ordered_keys row.0 rows) ∙ e)) ∙ inserted

more_rows : (rows more : List (List Value × Cell)) → fold with_row (merged_rows rows) more ≡ merged_rows (rows ++ more)
more_rows rows [] = ap merged_rows (sym (append-nil rows))
more_rows rows (r ∷ rs) =
    ap (λ (l : List (List Value × Cell)). fold with_row l rs) (one_more rows r) ∙ more_rows (rows ++ r ∷ []) rs ∙ ap merged_rows (append_assoc rows (r ∷ []) rs)

-- rows that are merged one after the other, from none
pub merged_in_turn : (rows : List (List Value × Cell)) → fold with_row [] rows ≡ merged_rows rows
merged_in_turn rows = more_rows [] rows
