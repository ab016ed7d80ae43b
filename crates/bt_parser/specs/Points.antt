-- Attach tokens as the code takes them apart.
use Rattle.std.specs.Prelude.{ℕ, ◌+◌, ◌-◌, ◌*◌, ◌^◌, Bool, not, ◌==◌, nat_lt, List, [], ◌∷◌, Option, Some, None, if◌then◌else◌}
use Rattle.std.specs.Str.Parse.{digits_value}
use Rattle.bt_core.specs.declared.place.Place.{Place}
use Rattle.bt_ast.specs.declared.probe.Point.{Point}
use Rattle.bt_ast.specs.declared.probe.Point.TheVariants as points
use Rattle.bt_parser.specs.declared.attach.Attach.{Attach}
use Rattle.bt_parser.specs.declared.attach.Attach.TheVariants as attaches
use Rattle.bt_core.specs.Bytes.{is_digit}
use Rattle.bt_grammar.specs.Attach.{are_digits}

abbrev pub is_colon : ℕ → Bool
is_colon b = b == 58

abbrev pub not_colon : ℕ → Bool
not_colon b = not (b == 58)

abbrev pub limited : ℕ → Option ℕ
limited n = if nat_lt n (2 ^ 64) then Some n else None

-- a number with one more digit
abbrev pub with_digit : ℕ → ℕ → Option ℕ
with_digit n b = if is_digit b then limited (n * 10 + (b - 48)) else None

abbrev pub and_more : Option ℕ → (ℕ → Option ℕ) → Option ℕ
and_more None f = None
and_more (Some n) f = f n

-- with all of them
abbrev pub with_digits : ℕ → List ℕ → Option ℕ
with_digits n [] = Some n
with_digits n (b ∷ bs) = and_more (with_digit n b) (λ m. with_digits m bs)

abbrev pub number_of : List ℕ → Option ℕ
number_of digits = if are_digits digits then limited (digits_value 10 digits) else None

-- the point that is named, at a place
abbrev pub point_named : Option Attach → Place → Option Point
point_named None place = None
point_named (Some (attaches.Tracepoint system name)) place = Some (points.Tracepoint system.now name.now place)
point_named (Some (attaches.Interval unit number)) place = Some (points.Interval unit number place)
