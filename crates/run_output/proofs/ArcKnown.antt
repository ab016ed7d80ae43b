-- An `Arc` tells of its value what is known of the value's type.
use mathlib.Core.Bool.{Bool, true, false}
use mathlib.Core.List.{List}
use mir.Val.{Val}
use base.Fml.{Fml, Lft}
use Prim.Native.Nat.{ℕ}
use denote.RattleType.{RattleType}
use denote.RawPtr.{Ptr}
use denote.Known.{Known, Says, Says-first, Says-second, Says-some, lies_Says, lent_Says}
use Rattle.std.specs.declared.alloc.Allocator.{Ghosts}
use Rattle.std.specs.Arc.Ownership.{fields_shared, sole_owns, counted_owns}
use Rattle.std.specs.contracts.sync.Arc as C

module _ (R A : RattleType) (G : Ghosts A.Denot) (k : Known R) where
  shared_say : (p : Ptr) (x : R.Denot) (κ : Lft) → Says (fields_shared A G.dealloc_token R p x κ) (k.Fact x)
  shared_say p x κ = Says-first _ _ (lent_Says R k _ x κ)

  alone_says : (p : Ptr) (x : R.Denot) → Says (sole_owns A G.dealloc_token R p x) (k.Fact x)
  alone_says p x = Says-second _ _ (Says-first _ _ (lies_Says R k _ _ x))

  counted_say : (p : Ptr) (x : R.Denot) → Says (counted_owns A G.dealloc_token R p x) (k.Fact x)
  counted_say p x = Says-some ℕ _ (λ a. Says-second _ _ (Says-second _ _ (shared_say p x _)))

  abbrev either : Ptr → R.Denot → Bool → Fml
  either p x true = sole_owns A G.dealloc_token R p x
  either p x false = counted_owns A G.dealloc_token R p x

  either_says : (p : Ptr) (x : R.Denot) (alone : Bool) → Says (either p x alone) (k.Fact x)
  either_says p x true = alone_says p x
  either_says p x false = counted_say p x

  pub arc_owned : (d : (C.the_row R A G).Denot) (vs : List Val) → Says ((C.the_row R A G).own_val d vs) (k.Fact d.value)
  arc_owned d vs = Says-second _ _ (Says-second _ _ (Says-some Bool (either d.ptr d.value) (either_says d.ptr d.value)))

  pub arc_shared : (d : (C.the_row R A G).Denot) (b o : ℕ) (κ : Lft) → Says ((C.the_row R A G).shr_at d b o κ) (k.Fact d.value)
  arc_shared d b o κ = Says-second _ _ (Says-second _ _ (Says-some ℕ _ (λ a. Says-second _ _ (Says-second _ _ (shared_say d.ptr d.value _)))))

  -- its value has what is known of the value's type
  abbrev pub arc_known : Known (C.the_row R A G)
  arc_known = record { Fact = λ d. k.Fact d.value; owned = arc_owned; shared = arc_shared }
