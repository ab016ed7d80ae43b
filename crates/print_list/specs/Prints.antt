-- Printed items in bytes.
use Rattle.std.specs.Prelude.{ℕ, ◌-◌, ◌≤◌, List, length, map, take, drop}
use Rattle.std.specs.List.{AllByRecursion}
use Rattle.bt_core.specs.declared.item.Item.{Item}
use Rattle.bt_core.specs.declared.item.Item.TheVariants.{Printf}
use Rattle.print_list.specs.declared.list.Print.{Print}
use Rattle.print_list.specs.Codes.{values_in}

-- what lies in the bytes
abbrev pub print_in : List ℕ → Print → Item
print_in bytes p = Printf p.format (values_in p.count (take (p.end - p.start) (drop p.start bytes)))

abbrev pub prints_in : List ℕ → List Print → List Item
prints_in bytes prints = map (print_in bytes) prints

-- each lies in the bytes that there are
abbrev pub AreWithin : List ℕ → List Print → Type 0
AreWithin bytes prints = AllByRecursion (λ (p : Print). p.end ≤ length bytes) prints
