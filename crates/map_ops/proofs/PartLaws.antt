-- The parts of shared maps.
use Rattle.std.proofs.Common.{◌≡◌, ℕ, ◌<◌, List, true, arith}
use Rattle.std.proofs.lemmas.Bool.{ltb-true, lt-ltb}
use Rattle.bt_core.specs.declared.limits.TheConstants.{PARTS}
use Rattle.bt_core.specs.declared.map.MapKind.{MapKind}
use Rattle.bt_core.specs.declared.map.MapKind.TheVariants.{Ints, Strs, Aggs}
use Rattle.bt_core.specs.declared.value.Value.{Value}
use Rattle.bt_core.specs.KeyBytes.{part_of}
use Rattle.bt_core.specs.Kinds.{IsShared}
use Rattle.map_ops.specs.Parts.{IsPartNumber, is_part_number, part_count}

-- a key is in a part that is there
pub part_below : (key : List Value) → IsPartNumber (part_of key)
part_below key = omega arith

-- what the test of a number tells
pub part_number_told : (part : ℕ) → is_part_number part ≡ true → IsPartNumber part
part_number_told part told = ltb-true part PARTS told

pub part_number_tells : (part : ℕ) → IsPartNumber part → is_part_number part ≡ true
part_number_tells part below = lt-ltb part PARTS below

-- a shared map has each part
pub shared_has_part : (kind : MapKind) (part : ℕ) → IsShared kind → IsPartNumber part → part < part_count kind
shared_has_part Ints part shared below = below
shared_has_part Strs part shared below = below
shared_has_part (Aggs k) part shared below = absurd shared

-- what has a part is a shared map
pub part_is_shared : (kind : MapKind) (part : ℕ) → part < part_count kind → IsShared kind
part_is_shared Ints part within = tt
part_is_shared Strs part within = tt
part_is_shared (Aggs k) part within = absurd (let none : ⊥ = omega (arith, within) in none)

-- and the part is one
pub part_has_number : (kind : MapKind) (part : ℕ) → part < part_count kind → IsPartNumber part
part_has_number Ints part within = within
part_has_number Strs part within = within
part_has_number (Aggs k) part within = absurd (let none : ⊥ = omega (arith, within) in none)
