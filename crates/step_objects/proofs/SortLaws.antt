-- Rows with distinct keys, sorted by their keys, are the rows in key order.
use Rattle.std.proofs.Common.{◌≡◌, Bool, true, false, cond, List, [], ◌∷◌, refl, sym, ap, ◌∙◌, map, Some, None}
use Rattle.std.specs.Cmp.{IsStrictWeakOrder}
use Rattle.std.specs.List.{IsDistinct}
use Rattle.std.specs.List.Sorted.{IsSortedBy, IsStableBy}
use Rattle.std.specs.Map.{keys_of, lookup}
use Rattle.std.specs.BTreeMap.{insert_entry}
use Rattle.std.specs.Ordering.{is_lt}
use Rattle.std.proofs.lemmas.List.MinMax.{ranks_by}
use Rattle.bt_core.specs.declared.value.Value.{Value}
use Rattle.bt_core.specs.Order.{key_order}
use Rattle.bt_core.proofs.OrderLaws.{keys_total}
use Rattle.agg_core.specs.Changes.{is_key}
use Rattle.agg_core.proofs.KeyLaws.{Before, Same, After, side, is_key-same, is_key-after}
use Rattle.bt_core.specs.Sorted.{put_in, ordered}
use Rattle.step_objects.specs.Rows.{in_key_order}
use Rattle.step_objects.proofs.RowLaws.{rows-found, not-among, not-none}
use Rattle.bt_core.proofs.StableOrder.{stable_order}

module _ {C : Type 0} where
  abbrev pub comes_before : List Value × C → List Value × C → Bool
  comes_before a b = is_lt (key_order a.0 b.0)

  pub before_strict : IsStrictWeakOrder comes_before
  before_strict = ranks_by keys_total (λ (r : List Value × C). r.0)

  -- a key that has no row
  put-new : (r : List Value × C) (rows : List (List Value × C)) → lookup (is_key r.0) rows ≡ None → put_in comes_before r rows ≡ insert_entry key_order rows r.0 r.1
  put-new r [] none = refl
  put-new r (s ∷ ss) none = elim (side r.0 s.0) [
    | Before e back ↦ rw e (rw back refl)
    | Same e ↦ not-none s.1 ((λ i. cond (sym (is_key-same r.0 s.0 e) i) (Some s.1) (lookup (is_key r.0) ss)) ∙ none)
    | After e back ↦ rw e (rw back (ap (λ l. s ∷ l) (put-new r ss ((λ i. cond (sym (is_key-after r.0 s.0 e) i) (Some s.1) (lookup (is_key r.0) ss)) ∙ none))))
  ]

  ordered-rows : (es : List (List Value × C)) → IsDistinct is_key (keys_of es) → ordered comes_before es ≡ in_key_order es
  unfolding IsDistinct
  ordered-rows [] d = refl
  ordered-rows (e ∷ es) d = ap (put_in comes_before e) (ordered-rows es d.1) ∙ put-new e (in_key_order es) (rows-found e.0 es ∙ not-among e.0 es d.0)

  pub sorted-rows : (es rows : List (List Value × C)) → IsDistinct is_key (keys_of es) → IsSortedBy comes_before rows → IsStableBy comes_before es rows → rows ≡ in_key_order es
  sorted-rows es rows d up keeps = stable_order comes_before before_strict es rows up keeps ∙ ordered-rows es d

-- the same of what shows the rows, as references to them do
module _ {A C : Type 0} (show : A → List Value × C) where
  pub shown_strict : IsStrictWeakOrder (λ (a b : A). comes_before (show a) (show b))
  shown_strict = ranks_by keys_total (λ (a : A). (show a).0)

  map-put : (a : A) (bs : List A) → map show (put_in (λ (x y : A). comes_before (show x) (show y)) a bs) ≡ put_in comes_before (show a) (map show bs)
  map-put a [] = refl
  map-put a (b ∷ bs) = elim (comes_before (show b) (show a)) as (λ t. map show (cond t (b ∷ put_in (λ (x y : A). comes_before (show x) (show y)) a bs) (a ∷ b ∷ bs)) ≡ cond t (show b ∷ put_in comes_before (show a) (map show bs)) (show a ∷ show b ∷ map show bs))
      [ true ↦ ap (λ l. show b ∷ l) (map-put a bs) | false ↦ refl ]

  map-ordered : (xs : List A) → map show (ordered (λ (x y : A). comes_before (show x) (show y)) xs) ≡ ordered comes_before (map show xs)
  map-ordered [] = refl
  map-ordered (x ∷ xs) = map-put x (ordered (λ (a b : A). comes_before (show a) (show b)) xs) ∙ ap (put_in comes_before (show x)) (map-ordered xs)

  pub shown-rows : (es : List (List Value × C)) (xs ys : List A) → map show xs ≡ es → IsDistinct is_key (keys_of es) → IsSortedBy (λ (a b : A). comes_before (show a) (show b)) ys → IsStableBy (λ (a b : A). comes_before (show a) (show b)) xs ys → map show ys ≡ in_key_order es
  shown-rows es xs ys is d up keeps =
      ap (map show) (stable_order (λ (a b : A). comes_before (show a) (show b)) shown_strict xs ys up keeps) ∙ map-ordered xs ∙ ap (ordered comes_before) is ∙ ordered-rows es d
