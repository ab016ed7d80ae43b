-- What goes with the code that writes texts.
use Rattle.std.specs.Prelude.{List}
use Rattle.std.specs.List.{AllByRecursion}
use Rattle.bt_core.specs.declared.item.Item.{Item}
use Rattle.bt_core.specs.declared.step.Step.{Step}
use Rattle.map_rows.specs.Items.{IsItemOf}
use Rattle.step_list.specs.Emits.{item_told}
use Rattle.step_list.specs.declared.emits.Emitted.{Emitted}
use Rattle.typed_tree.specs.declared.script.Typed.{Typed}
use Rattle.walk_meaning.specs.Admits.{EmitsOnly}

-- each item that these steps emit is one of the script's formats and maps
abbrev pub EmitOwn : Typed → List Step → Type 0
EmitOwn script steps = AllByRecursion (λ (s : Step). EmitsOnly (IsItemOf script.formats script.maps) s.op) steps

-- the item that was emitted
abbrev pub item_of : Emitted → Item
item_of e = item_told e.item
