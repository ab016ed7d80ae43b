-- Parts of bodies that only add and print, and the scenes in which they add the same.
use Rattle.std.specs.Prelude.{◌≡◌, List}
use Rattle.std.specs.List.{AllByRecursion}
use Rattle.typed_tree.specs.declared.expr.NumBuiltin.{NumBuiltin}
use Rattle.typed_tree.specs.declared.expr.NumBuiltin.TheVariants as builtins
use Rattle.typed_tree.specs.Parts.{TreePart, Numeric, MapOf, AggOf, Deleted, Cleared, Zeroed, Jumped}
use Rattle.bt_meaning.specs.Totals.{StaysInBody}
use Rattle.walk_meaning.specs.Does.{BodyScene}

-- what is seen of two scenes is alike, but for the actor and the context's `cpu`
pub record AreLike (one two : BodyScene) : Type 0 where
  pub time : one.context.time ≡ two.context.time
  pub start : one.context.start ≡ two.context.start
  pub pid : one.context.pid ≡ two.context.pid
  pub tid : one.context.tid ≡ two.context.tid
  pub uid : one.context.uid ≡ two.context.uid
  pub gid : one.context.gid ≡ two.context.gid
  pub comm : one.context.comm ≡ two.context.comm
  pub payload : one.payload ≡ two.payload
  pub actors : one.actors ≡ two.actors
  pub maps : one.maps ≡ two.maps

abbrev pub IsQuietBuiltin : BodyScene → BodyScene → NumBuiltin → Type 0
IsQuietBuiltin one two builtins.Cpu = one.context.cpu ≡ two.context.cpu
IsQuietBuiltin one two builtin = Unit {0}

-- the part reads and changes no map but by an aggregation or `print`, stays in the body, and reads the same in both scenes
abbrev pub IsQuiet : BodyScene → BodyScene → TreePart → Type 0
IsQuiet one two (Numeric builtin) = IsQuietBuiltin one two builtin
IsQuiet one two (MapOf number keys shape) = ⊥
IsQuiet one two (AggOf number keys) = ⊥
IsQuiet one two (Deleted number keys) = ⊥
IsQuiet one two (Cleared number) = ⊥
IsQuiet one two (Zeroed number) = ⊥
IsQuiet one two (Jumped jump inside) = StaysInBody jump
IsQuiet one two part = Unit {0}

abbrev pub AreQuiet : BodyScene → BodyScene → List TreePart → Type 0
AreQuiet one two parts = AllByRecursion (IsQuiet one two) parts
