-- Keys that are told to be equal are one key.
use Rattle.std.proofs.Common.{◌≡◌, true, List, refl, sym, ◌∙◌}
use Rattle.std.specs.Cmp.{Equal-is}
use Rattle.std.specs.Cmp.Lexicographic.{lists_ties, texts_ties}
use Rattle.std.specs.Ordering.{eq_by_cmp}
use Rattle.bt_core.specs.declared.value.Value.{Value}
use Rattle.bt_core.specs.declared.value.Value.TheVariants.{Int, Str}
use Rattle.bt_core.specs.contracts.key.KeyPartialEq.TheImpl as key_eq
use Rattle.bt_core.specs.contracts.value.ValuePartialEq.TheImpl as value_eq
use Rattle.bt_core.specs.Order.{value_order, key_order}
use Rattle.bt_core.proofs.OrderLaws.{key_order-Equal}

value_ties : (a b : Value) → value_eq.ghosts.eq a b ≡ eq_by_cmp value_order a b
value_ties (Int a) (Int b) = refl
value_ties (Int a) (Str t) = refl
value_ties (Str s) (Int b) = refl
value_ties (Str s) (Str t) = texts_ties s t

pub equal_keys : (j k : List Value) → key_eq.ghosts.eq j k ≡ true → j ≡ k
equal_keys j k e = key_order-Equal j k ((Equal-is (key_order j k)).0 (sym (lists_ties value_order value_ties j k) ∙ e))
