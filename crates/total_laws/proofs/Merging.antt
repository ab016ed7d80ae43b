-- The rows of several lists, merged, are the rows of the lists one after the other.
use Rattle.std.proofs.Common.{◌≡◌, ℕ, ℤ, Bool, true, false, ◌||◌, cond, List, [], ◌∷◌, ◌++◌, map, fold, refl, sym, ap, ◌∙◌, append-nil, append_assoc}
use Rattle.std.specs.List.{flat_map}
use Rattle.std.proofs.lemmas.List.{map-append}
use Rattle.bt_core.specs.declared.agg.Agg.{Agg}
use Rattle.bt_core.specs.declared.item.Cell.{Cell}
use Rattle.bt_core.specs.declared.item.Cell.TheVariants as cells
use Rattle.bt_core.specs.declared.map.AggKind.{AggKind}
use Rattle.bt_core.specs.declared.value.Value.{Value}
use Rattle.agg_core.specs.Aggregates.{aggregate}
use Rattle.agg_core.specs.Changes.{is_key}
use Rattle.agg_core.proofs.KeyLaws.{is_key-true}
use Rattle.agg_core.proofs.MergeLaws.{merged-both}
use Rattle.agg_core.proofs.SortedRows.{Ascends, row_at}
use Rattle.map_rows.specs.Merged.{ordered_keys, cells_at, joined_cells, both_cells, merged_rows}
use Rattle.map_rows.proofs.Entries.{names, ascends-ordered_keys, has-ordered_keys, names-append, cells_at-append, cells_at-cons, cells_at-none, holds}
use Rattle.map_rows.proofs.KeySets.{has, same_keys, has_first, below_none}
use Rattle.bt_meaning.specs.Totals.{Addition, addition_keys, numbers_at, total_rows}
use Rattle.total_laws.proofs.Given.{named, ascends-entry_keys, has-entry_keys, named-append, numbers_at-append, numbers_at-none}

-- ---- rows of keys in order

names_rows : (k : List Value) (cell : List Value → Cell) (ks : List (List Value)) → names k (map (row_at cell) ks) ≡ has k ks
names_rows k cell [] = refl
names_rows k cell (j ∷ js) = ap (λ (t : Bool). is_key k j || t) (names_rows k cell js)

-- the one row of a key
at_rows : (k : List Value) (cell : List Value → Cell) (ks : List (List Value)) → Ascends ks → cells_at k (map (row_at cell) ks) ≡ cond (has k ks) (cell k ∷ []) []
at_rows k cell [] a = refl
at_rows k cell (j ∷ js) a =
    cells_at-cons k (row_at cell j) (map (row_at cell) js)
    ∙ elim (is_key k j) as (λ t. is_key k j ≡ t
    → cond t (cell j ∷ cells_at k (map (row_at cell) js)) (cells_at k (map (row_at cell) js)) ≡ cond (t || has k js) (cell k ∷ []) []) [
      | true ↦ (λ e. let same = is_key-true k j e in
          let none : cells_at k (map (row_at cell) js) ≡ [] =
          cells_at-none k (map (row_at cell) js) (names_rows k cell js ∙ ap (λ (x : List Value). has x js) same ∙ below_none j js a.0) in
          λ i. cell (sym same i) ∷ none i)
      | false ↦ (λ e. at_rows k cell js a.1)
    ] refl

or_back : (a b : Bool) → b ≡ true → (a || b) ≡ true
or_back true b e = refl
or_back false b e = e

-- functions that agree on the members
map_members : {C : Type 0} (f g : List Value → C) (ks : List (List Value)) → ((k : List Value) → has k ks ≡ true → f k ≡ g k) → map f ks ≡ map g ks
map_members f g [] same = refl
map_members f g (k ∷ ks) same = λ i. same k (has_first k ks) i ∷ map_members f g ks (λ j h. same j (or_back (is_key j k) (has j ks) h)) i

-- ---- numbers of several lists

abbrev all_of : List (List ℤ) → List ℤ
all_of [] = []
all_of (l ∷ ls) = l ++ all_of ls

all_of-append : (xs ys : List (List ℤ)) → all_of (xs ++ ys) ≡ all_of xs ++ all_of ys
all_of-append [] ys = refl
all_of-append (x ∷ xs) ys = ap (λ (l : List ℤ). x ++ l) (all_of-append xs ys) ∙ sym (append_assoc x (all_of xs) (all_of ys))

module _ (kind : AggKind) where
  abbrev agg_cell : List ℤ → Cell
  agg_cell ns = cells.Agg (aggregate kind ns)

  fold_cells : (ns : List ℤ) (ls : List (List ℤ)) → fold both_cells (agg_cell ns) (map agg_cell ls) ≡ agg_cell (ns ++ all_of ls)
  fold_cells ns [] = ap agg_cell (sym (append-nil ns))
  fold_cells ns (l ∷ ls) =
      ap (λ (a : Agg). fold both_cells (cells.Agg a) (map agg_cell ls)) (merged-both kind ns l) ∙ fold_cells (ns ++ l) ls ∙ ap agg_cell (append_assoc ns l (all_of ls))

  joined_lists : (ls : List (List ℤ)) (c : Cell) (cs : List Cell) → map agg_cell ls ≡ c ∷ cs → joined_cells (map agg_cell ls) ≡ agg_cell (all_of ls)
  joined_lists [] c cs e = cc
  joined_lists (l ∷ ls) c cs e = fold_cells l ls

  module _ (k : List Value) where
    -- the numbers of the key, where it is named
    abbrev part : List Addition → List (List ℤ)
    part given = cond (named k given) (numbers_at k given ∷ []) []

    part_cells : (t : Bool) (ns : List ℤ) → cond t (agg_cell ns ∷ []) [] ≡ map agg_cell (cond t (ns ∷ []) [])
    part_cells true ns = refl
    part_cells false ns = refl

    one : (given : List Addition) → cells_at k (total_rows kind given) ≡ map agg_cell (part given)
    one given = at_rows k (λ j. agg_cell (numbers_at j given)) (addition_keys given) (ascends-entry_keys given)
        ∙ (λ i. cond (has-entry_keys k given i) (agg_cell (numbers_at k given) ∷ []) []) ∙ part_cells (named k given) (numbers_at k given)

    all_part : (given : List Addition) → all_of (part given) ≡ numbers_at k given
    all_part given = by_test (named k given) refl
      where
        by_test : (t : Bool) → named k given ≡ t → all_of (cond t (numbers_at k given ∷ []) []) ≡ numbers_at k given
        by_test true e = append-nil (numbers_at k given)
        by_test false e = sym (numbers_at-none k given e)

    module _ (given : ℕ → List Addition) where
      abbrev rows : List ℕ → List (List Value × Cell)
      rows actors = flat_map (λ a. total_rows kind (given a)) actors

      abbrev parts : List ℕ → List (List ℤ)
      parts actors = flat_map (λ a. part (given a)) actors

      at_each : (actors : List ℕ) → cells_at k (rows actors) ≡ map agg_cell (parts actors)
      at_each [] = refl
      at_each (a ∷ more) = cells_at-append k (total_rows kind (given a)) (rows more)
          ∙ (λ i. one (given a) i ++ at_each more i) ∙ sym (map-append agg_cell (part (given a)) (parts more))

      all_each : (actors : List ℕ) → all_of (parts actors) ≡ numbers_at k (flat_map given actors)
      all_each [] = refl
      all_each (a ∷ more) = all_of-append (part (given a)) (parts more)
          ∙ (λ i. all_part (given a) i ++ all_each more i) ∙ sym (numbers_at-append k (given a) (flat_map given more))

      names_each : (actors : List ℕ) → names k (rows actors) ≡ named k (flat_map given actors)
      names_each [] = refl
      names_each (a ∷ more) = names-append k (total_rows kind (given a)) (rows more)
          ∙ (λ i. (names_rows k (λ j. agg_cell (numbers_at j (given a))) (addition_keys (given a)) ∙ has-entry_keys k (given a)) i || names_each more i)
          ∙ sym (named-append k (given a) (flat_map given more))

      cell_each : (actors : List ℕ) → names k (rows actors) ≡ true → joined_cells (cells_at k (rows actors)) ≡ agg_cell (numbers_at k (flat_map given actors))
      cell_each actors named_there =
          let h = holds k (rows actors) named_there in
          ap joined_cells (at_each actors) ∙ joined_lists (parts actors) h.first h.later (sym (at_each actors) ∙ h.is) ∙ ap agg_cell (all_each actors)

pub merged_each : (kind : AggKind) (given : ℕ → List Addition) (actors : List ℕ)
    → merged_rows (flat_map (λ a. total_rows kind (given a)) actors) ≡ total_rows kind (flat_map given actors)
merged_each kind given actors =
    let rows = flat_map (λ a. total_rows kind (given a)) actors in let all = flat_map given actors in
    let keys : ordered_keys rows ≡ addition_keys all =
    same_keys (ordered_keys rows) (addition_keys all) (ascends-ordered_keys rows) (ascends-entry_keys all)
    (λ k. has-ordered_keys k rows ∙ names_each kind k given actors ∙ sym (has-entry_keys k all)) in
    map_members (row_at (λ k. joined_cells (cells_at k rows))) (row_at (λ k. cells.Agg (aggregate kind (numbers_at k all)))) (ordered_keys rows)
    (λ k h i. (k, cell_each kind k given actors (sym (has-ordered_keys k rows) ∙ h) i))
    ∙ ap (map (row_at (λ k. cells.Agg (aggregate kind (numbers_at k all))))) keys
