-- The entries of an account: how a step is spelled, and of which steps an entry can tell.
use Rattle.std.specs.Prelude.{◌≡◌, ℕ, ◌<◌, ◌≤◌, ◌^◌, List, [], ◌∷◌, ◌++◌, length, FitsSigned}
use Rattle.std.specs.Int.{w32, w64, to_le_bytes, cast_unsigned}
use Rattle.std.specs.List.{AllByRecursion}
use Rattle.bt_core.specs.declared.limits.TheConstants.{KEY_PARTS}
use Rattle.bt_core.specs.declared.map.MapId.{MapId}
use Rattle.bt_core.specs.declared.step.ObjectId.{ObjectId}
use Rattle.bt_core.specs.declared.step.ObjectId.TheVariants.{Shared, Cpu, Clock, Out}
use Rattle.bt_core.specs.declared.step.Op.{Op}
use Rattle.bt_core.specs.declared.step.Op.TheVariants.{Get, Set, Delete, Clear, Zero, ReadAll, Add, ClearOf, ZeroOf, Read, Cross, Check, Stop, Emit}
use Rattle.bt_core.specs.declared.step.Step.{Step}
use Rattle.bt_core.specs.declared.value.Value.{Value}
use Rattle.bt_core.specs.KeyBytes.{FitsValue, key_bytes, value_bytes, part_of}
use Rattle.bt_core.specs.Ports.{Setting, CanStep}
use Rattle.step_entries.specs.Blank.{blank}

-- a kind and a map
abbrev pub of_map : ℕ → MapId → List ℕ
of_map kind m = kind ∷ to_le_bytes w32 m.0

-- An operation by its kind and what belongs to it. The part that a key is in and the table that is added to follow, and what is emitted
-- is left out. An operation that is not the object's own has no bytes.
abbrev pub call_bytes : ObjectId → Op → List ℕ
call_bytes (Shared m part) (Get key) = of_map 1 m ++ key_bytes key
call_bytes (Shared m part) (Set key value) = of_map 2 m ++ (key_bytes key ++ value_bytes value)
call_bytes (Shared m part) (Delete key) = of_map 3 m ++ key_bytes key
call_bytes (Shared m part) ReadAll = of_map 4 m ++ to_le_bytes w32 part
call_bytes (Shared m part) Clear = of_map 5 m ++ to_le_bytes w32 part
call_bytes (Shared m part) Zero = of_map 6 m ++ to_le_bytes w32 part
call_bytes (Cpu table) (Add m key number) = of_map 7 m ++ (key_bytes key ++ to_le_bytes w64 (cast_unsigned w64 number))
call_bytes (Cpu table) (Read m) = of_map 8 m ++ to_le_bytes w32 table
call_bytes (Cpu table) (ClearOf m) = of_map 9 m ++ to_le_bytes w32 table
call_bytes (Cpu table) (ZeroOf m) = of_map 10 m ++ to_le_bytes w32 table
call_bytes Clock (Cross tick) = 11 ∷ to_le_bytes w32 tick
call_bytes Clock Check = 12 ∷ []
call_bytes Clock Stop = 13 ∷ []
call_bytes Out (Emit item) = 14 ∷ []
call_bytes object op = []

abbrev pub entry_bytes : Step → List ℕ
entry_bytes s = to_le_bytes w32 s.actor ++ (to_le_bytes w64 s.stamp ++ call_bytes s.object s.op)

-- an operation under a key stands at the key's part, and an actor adds at its own table
abbrev pub IsAtHome : ℕ → ObjectId → Op → Type 0
IsAtHome actor (Shared m part) (Get key) = part ≡ part_of key
IsAtHome actor (Shared m part) (Set key value) = part ≡ part_of key
IsAtHome actor (Shared m part) (Delete key) = part ≡ part_of key
IsAtHome actor (Cpu table) (Add m key number) = table ≡ actor
IsAtHome actor object op = Unit {0}

-- a key as a program holds it
pub record FitsKey (key : List Value) : Type 0 where
  pub few : length key ≤ KEY_PARTS
  pub values : AllByRecursion FitsValue key

-- an operation as a program holds it; what is emitted is left open
abbrev pub FitsOp : Op → Type 0
FitsOp (Get key) = FitsKey key
FitsOp (Set key value) = FitsKey key × FitsValue value
FitsOp (Delete key) = FitsKey key
FitsOp (ClearOf m) = m.0 < 2 ^ 32
FitsOp (ZeroOf m) = m.0 < 2 ^ 32
FitsOp (Read m) = m.0 < 2 ^ 32
FitsOp (Add m key number) = (m.0 < 2 ^ 32) × FitsKey key × FitsSigned w64 number
FitsOp (Cross tick) = tick < 2 ^ 32
FitsOp op = Unit {0}

abbrev pub FitsObject : ObjectId → Type 0
FitsObject (Shared m part) = (m.0 < 2 ^ 32) × (part < 2 ^ 32)
FitsObject (Cpu table) = table < 2 ^ 32
FitsObject object = Unit {0}

-- a step as a program holds it; its reply and what it emits are left open
pub record FitsStep (s : Step) : Type 0 where
  pub actor : s.actor < 2 ^ 32
  pub stamp : s.stamp < 2 ^ 64
  pub object : FitsObject s.object
  pub op : FitsOp s.op

-- A step that an entry can tell of, where so many actors, these maps and so many ticks exist. Whose steps the setting is for is not looked at.
pub record IsTold (setting : Setting) (s : Step) : Type 0 where
  pub fits : FitsStep s
  pub actor : s.actor < setting.actors
  pub own : CanStep setting s.object s.op
  pub home : IsAtHome s.actor s.object s.op

-- a step as an entry tells it
pub record IsEntry (setting : Setting) (s : Step) : Type 0 where
  pub told : IsTold setting s
  pub is_blank : blank s ≡ s
