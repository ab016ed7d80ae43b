-- How many bytes a value is written in.
use Rattle.std.specs.Prelude.{ℕ}
use Rattle.bt_core.specs.declared.value.Value.{Value}
use Rattle.bt_core.specs.declared.value.Value.TheVariants.{Int, Str}

abbrev pub room_of : Value → ℕ
room_of (Int n) = 8
room_of (Str s) = 64
