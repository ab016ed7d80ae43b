-- Lists of keys in order, in the words of the standard library.
use Rattle.std.proofs.Common.{◌≡◌, true, List, [], ◌∷◌, sym}
use Rattle.std.specs.List.{Contains}
use Rattle.std.specs.List.Sorted.{IsStrictlySortedBy}
use Rattle.std.proofs.lemmas.List.Folds.{list_any_at}
use Rattle.std.proofs.lemmas.Map.Views.{Contains-from_any}
use Rattle.bt_core.specs.declared.value.Value.{Value}
use Rattle.bt_core.specs.Order.{key_order}
use Rattle.agg_core.specs.Changes.{is_key}
use Rattle.agg_core.proofs.KeyLaws.{is_key-true, is_key-same}
use Rattle.agg_core.proofs.SortedRows.{Ascends}
use Rattle.map_rows.proofs.KeySets.{has}

pub sorted_from_ascends : (ks : List (List Value)) → Ascends ks → IsStrictlySortedBy key_order ks
unfolding IsStrictlySortedBy
sorted_from_ascends [] a = tt
sorted_from_ascends (k ∷ ks) a = (a.0, sorted_from_ascends ks a.1)

pub ascends_from_sorted : (ks : List (List Value)) → IsStrictlySortedBy key_order ks → Ascends ks
unfolding IsStrictlySortedBy
ascends_from_sorted [] s = tt
ascends_from_sorted (k ∷ ks) s = (s.0, ascends_from_sorted ks s.1)

pub contains_from_has : (k : List Value) (ks : List (List Value)) → has k ks ≡ true → Contains ks k
contains_from_has k ks h = Contains-from_any is_key-true k ks h

pub has_from_contains : (k : List Value) (ks : List (List Value)) → Contains ks k → has k ks ≡ true
has_from_contains k ks c = list_any_at (is_key k) ks c.0 k c.1 (is_key-same k _ (sym c.2))
