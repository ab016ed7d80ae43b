-- The parts of shared maps.
use Rattle.std.specs.Prelude.{ℕ, ◌<◌, Bool, nat_lt}
use Rattle.bt_core.specs.declared.limits.TheConstants.{PARTS}
use Rattle.bt_core.specs.declared.map.MapKind.{MapKind}
use Rattle.bt_core.specs.declared.map.MapKind.TheVariants.{Aggs}

-- a shared map has a part with this number
abbrev pub IsPartNumber : ℕ → Type 0
IsPartNumber part = part < PARTS

-- the test of it
abbrev pub is_part_number : ℕ → Bool
is_part_number part = nat_lt part PARTS

-- how many parts a map of this kind has: none where it is an aggregation
abbrev pub part_count : MapKind → ℕ
part_count (Aggs kind) = 0
part_count kind = PARTS
