-- The order that is derived for keys is the order of keys.
use Rattle.std.proofs.Common.{◌≡◌, refl, ap}
use Rattle.std.specs.declared.cmp.Ordering.{Ordering}
use Rattle.std.specs.Cmp.Lexicographic.{slice_cmp}
use Rattle.bt_core.specs.declared.value.Value.{Value}
use Rattle.bt_core.specs.declared.value.Value.TheVariants.{Int, Str}
use Rattle.bt_core.specs.contracts.key.KeyOrd.TheImpl as key_ord
use Rattle.bt_core.specs.contracts.value.ValueOrd.TheImpl as value_ord
use Rattle.bt_core.specs.Order.{value_order, key_order}

same_order : (a b : Value) → value_ord.ghosts.cmp a b ≡ value_order a b
same_order (Int a) (Int b) = refl
same_order (Int a) (Str t) = refl
same_order (Str s) (Int b) = refl
same_order (Str s) (Str t) = refl

values_are : value_ord.ghosts.cmp ≡ value_order
values_are = λ i a b. same_order a b i

pub order_is : key_ord.ghosts.cmp ≡ key_order
order_is = ap (λ (R : Value → Value → Ordering). slice_cmp R) values_are
