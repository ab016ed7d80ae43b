-- A list that mostly has one item.
use Rattle.std.specs.Prelude.{List}
use Rattle.bt_core.specs.declared.few.Held.{Held}
use Rattle.bt_core.specs.declared.few.Held.TheVariants.{One, Many}

-- the items, wherever they lie
abbrev pub held_items : {T : Type 0} → Held T → List T
held_items (One items) = items
held_items (Many items) = items
