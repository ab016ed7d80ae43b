-- Laws of the order of keys.
use Rattle.std.proofs.Common.{◌≡◌, true, false, List, refl, ap, ◌∙◌}
use Rattle.std.specs.declared.cmp.Ordering.{Ordering}
use Rattle.std.specs.declared.cmp.Ordering.TheVariants.{Less, Equal, Greater}
use Rattle.std.specs.Ordering.{is_eq, ordering_reverse}
use Rattle.std.proofs.lemmas.Cmp.{tied_itself}
use Rattle.bt_core.specs.declared.value.Value.{Value}
use Rattle.bt_core.specs.Order.{key_order}
use Rattle.bt_core.proofs.OrderLaws.{keys_total, key_order-Equal}
use Rattle.agg_core.specs.Changes.{is_key}

is_eq-true : (o : Ordering) → is_eq o ≡ true → o ≡ Equal
is_eq-true Less e = cc
is_eq-true Equal e = refl
is_eq-true Greater e = cc

back_to : (j k : List Value) (o : Ordering) → key_order j k ≡ o → key_order k j ≡ ordering_reverse o
back_to j k o e = keys_total.antisymm k j ∙ ap ordering_reverse e

pub key_itself : (k : List Value) → key_order k k ≡ Equal
key_itself k = tied_itself keys_total k

-- what the order of two keys can be
pub data Side (j k : List Value) : Type 0 where
  Before : (is : key_order j k ≡ Less) (back : key_order k j ≡ Greater) → Side j k
  Same : (is : j ≡ k) → Side j k
  After : (is : key_order j k ≡ Greater) (back : key_order k j ≡ Less) → Side j k

side_by : (j k : List Value) (o : Ordering) → key_order j k ≡ o → Side j k
side_by j k Less e = Before e (back_to j k Less e)
side_by j k Equal e = Same (key_order-Equal j k e)
side_by j k Greater e = After e (back_to j k Greater e)

pub side : (j k : List Value) → Side j k
side j k = side_by j k (key_order j k) refl

pub is_key-true : (j k : List Value) → is_key j k ≡ true → j ≡ k
is_key-true j k e = key_order-Equal j k (is_eq-true (key_order j k) e)

pub is_key-same : (j k : List Value) → j ≡ k → is_key j k ≡ true
is_key-same j k e = rw e (ap is_eq (key_itself k))

pub is_key-before : (j k : List Value) → key_order j k ≡ Less → is_key j k ≡ false
is_key-before j k e = ap is_eq e

pub is_key-after : (j k : List Value) → key_order j k ≡ Greater → is_key j k ≡ false
is_key-after j k e = ap is_eq e
