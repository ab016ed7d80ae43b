-- `Items` tells of each item what is known of the item's type, as `Vec` does (`the_facts` of its file in specs/formers/).
use mathlib.Core.List.{List}
use mathlib.Core.Path.{subst}
use mir.Val.{Val}
use base.Fml.{Lft}
use Prim.Native.Nat.{ℕ}
use denote.RattleType.{RattleType}
use denote.Known.{All, Known, Says, Says-map, nothing_known, declared_known, view_known}
use Rattle.std.specs.formers.vec.Vec as vec
use Rattle.std.specs.contracts.alloc.Global as heap
use Rattle.std.specs.contracts.impls.GlobalAllocator.TheImpl.{ghosts}
use Rattle.bt_core.specs.declared.items.Items as D
use Rattle.bt_core.specs.declared.items.Items.TheView.{view, invariant}
use Rattle.bt_core.specs.contracts.items.Items as C
use Rattle.bt_core.specs.contracts.items.Items.TheInside as I

module _ (R : RattleType) (k : Known R) where
  abbrev inside : Known (I.the_row R)
  inside = declared_known (I.the_type R) (vec.the_facts R heap.the_row ghosts k (nothing_known heap.the_row), tt)

  abbrev behind : Known (C.the_row R)
  behind = view_known (I.the_row R) inside (D.Items R.Denot) (D.the_code R.Denot R.coded) (view R.Denot) (invariant R.Denot)

  turn : (d : (C.the_row R).Denot) → behind.Fact d → All k.Fact d
  turn d f = subst (All k.Fact) f.1.0 f.2.0

  pub items_owned : (d : (C.the_row R).Denot) (vs : List Val) → Says ((C.the_row R).own_val d vs) (All k.Fact d)
  items_owned d vs = Says-map _ (turn d) (behind.owned d vs)

  pub items_shared : (d : (C.the_row R).Denot) (b o : ℕ) (κ : Lft) → Says ((C.the_row R).shr_at d b o κ) (All k.Fact d)
  items_shared d b o κ = Says-map _ (turn d) (behind.shared d b o κ)

  -- each item has what is known of its type
  abbrev pub items_known : Known (C.the_row R)
  items_known = record { Fact = All k.Fact; owned = items_owned; shared = items_shared }
