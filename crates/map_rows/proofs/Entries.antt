-- The keys of rows, and what stands at a key.
use Rattle.std.proofs.Common.{◌≡◌, Bool, true, false, ◌||◌, cond, List, [], ◌∷◌, ◌++◌, map, refl, ap, ◌∙◌}
use Rattle.std.proofs.lemmas.List.{map-append}
use Rattle.std.specs.List.{filter, list_any}
use Rattle.std.proofs.lemmas.List.Elements.{filter-append}
use Rattle.std.proofs.lemmas.List.Folds.{list_any-append}
use Rattle.bt_core.specs.declared.item.Cell.{Cell}
use Rattle.bt_core.specs.declared.value.Value.{Value}
use Rattle.agg_core.specs.Changes.{is_key}
use Rattle.agg_core.proofs.SortedRows.{Ascends, ascends-with_key}
use Rattle.map_rows.specs.Merged.{ordered_keys, cells_at}
use Rattle.map_rows.proofs.KeySets.{has, has-with_key}

-- a row has the key
abbrev pub names : List Value → List (List Value × Cell) → Bool
names k rows = list_any (λ row. is_key k row.0) rows

pub ascends-ordered_keys : (rows : List (List Value × Cell)) → Ascends (ordered_keys rows)
ascends-ordered_keys [] = tt
ascends-ordered_keys (r ∷ rs) = ascends-with_key r.0 (ordered_keys rs) (ascends-ordered_keys rs)

pub has-ordered_keys : (k : List Value) (rows : List (List Value × Cell)) → has k (ordered_keys rows) ≡ names k rows
has-ordered_keys k [] = refl
has-ordered_keys k (r ∷ rs) = has-with_key k r.0 (ordered_keys rs) ∙ ap (λ (t : Bool). is_key k r.0 || t) (has-ordered_keys k rs)

pub names-append : (k : List Value) (xs ys : List (List Value × Cell)) → names k (xs ++ ys) ≡ (names k xs || names k ys)
names-append k xs ys = list_any-append (λ row. is_key k row.0) xs ys

pub cells_at-append : (k : List Value) (xs ys : List (List Value × Cell)) → cells_at k (xs ++ ys) ≡ cells_at k xs ++ cells_at k ys
cells_at-append k xs ys =
    ap (map (λ row. row.1)) (filter-append (λ row. is_key k row.0) xs ys)
    ∙ map-append (λ (row : List Value × Cell). row.1) (filter (λ row. is_key k row.0) xs) (filter (λ row. is_key k row.0) ys)

at_first : (t : Bool) (r : List Value × Cell) (rs : List (List Value × Cell)) → map (λ (row : List Value × Cell). row.1) (cond t (r ∷ rs) rs) ≡ cond t (r.1 ∷ map (λ row. row.1) rs) (map (λ row. row.1) rs)
at_first true r rs = refl
at_first false r rs = refl

pub cells_at-cons : (k : List Value) (r : List Value × Cell) (rs : List (List Value × Cell)) → cells_at k (r ∷ rs) ≡ cond (is_key k r.0) (r.1 ∷ cells_at k rs) (cells_at k rs)
cells_at-cons k r rs = at_first (is_key k r.0) r (filter (λ row. is_key k row.0) rs)

pub cells_at-none : (k : List Value) (rows : List (List Value × Cell)) → names k rows ≡ false → cells_at k rows ≡ []
cells_at-none k [] gone = refl
cells_at-none k (r ∷ rs) gone = cells_at-cons k r rs ∙ elim (is_key k r.0) as (λ t. (t || names k rs) ≡ false → cond t (r.1 ∷ cells_at k rs) (cells_at k rs) ≡ [])
    [ true ↦ (λ q. cc) | false ↦ (λ q. cells_at-none k rs q) ] gone

-- a key of some row has a first cell
pub record Holds (k : List Value) (rows : List (List Value × Cell)) : Type 0 where
  pub first : Cell
  pub later : List Cell
  pub is : cells_at k rows ≡ first ∷ later

holds_first : (k : List Value) (r : List Value × Cell) (rs : List (List Value × Cell)) → is_key k r.0 ≡ true → Holds k (r ∷ rs)
holds_first k r rs e = record { first = r.1; later = cells_at k rs; is = cells_at-cons k r rs ∙ ap (λ (t : Bool). cond t (r.1 ∷ cells_at k rs) (cells_at k rs)) e }

holds_later : (k : List Value) (r : List Value × Cell) (rs : List (List Value × Cell)) → is_key k r.0 ≡ false → Holds k rs → Holds k (r ∷ rs)
holds_later k r rs e rest = record { first = rest.first; later = rest.later; is = cells_at-cons k r rs ∙ ap (λ (t : Bool). cond t (r.1 ∷ cells_at k rs) (cells_at k rs)) e ∙ rest.is }

pub holds : (k : List Value) (rows : List (List Value × Cell)) → names k rows ≡ true → Holds k rows
holds k [] named = cc
holds k (r ∷ rs) named = elim (is_key k r.0) as (λ t. is_key k r.0 ≡ t → (t || names k rs) ≡ true → Holds k (r ∷ rs))
    [ true ↦ (λ e q. holds_first k r rs e) | false ↦ (λ e q. holds_later k r rs e (holds k rs q)) ] refl named
