-- Attach tokens: which are points, and of what.
use Rattle.std.specs.Prelude.{ℕ, ◌^◌, Bool, false, ◌||◌, ◌&&◌, ◌==◌, nat_lt, bytes_eq, codes, List, [], ◌∷◌, Option, Some, None, if◌then◌else◌}
use Rattle.std.specs.List.{slice_split, list_all}
use Rattle.std.specs.Str.Parse.{digits_value}
use Rattle.bt_core.specs.Bytes.{is_word_byte, is_digit}
use Rattle.bt_core.specs.declared.place.Place.{Place}
use Rattle.bt_ast.specs.declared.probe.Unit.{Unit as TimeUnit}
use Rattle.bt_ast.specs.declared.probe.Unit.TheVariants as units
use Rattle.bt_ast.specs.declared.probe.Point.{Point}
use Rattle.bt_ast.specs.declared.probe.Point.TheVariants as points

-- a letter, a digit, `-` or `*`
abbrev pub is_name_byte : ℕ → Bool
is_name_byte b = is_word_byte b || (b == 45 || b == 42)

abbrev pub is_name : List ℕ → Bool
is_name [] = false
is_name (b ∷ bs) = list_all is_name_byte (b ∷ bs)

abbrev pub are_digits : List ℕ → Bool
are_digits [] = false
are_digits (b ∷ bs) = list_all is_digit (b ∷ bs)

abbrev pub is_tracepoint_word : List ℕ → Bool
is_tracepoint_word word = bytes_eq word (codes "tracepoint") || bytes_eq word (codes "t")

abbrev pub is_interval_word : List ℕ → Bool
is_interval_word word = bytes_eq word (codes "interval") || bytes_eq word (codes "i")

abbrev pub unit_of : List ℕ → Option TimeUnit
unit_of word =
    if bytes_eq word (codes "s") then Some units.S else
    if bytes_eq word (codes "ms") then Some units.Ms else
    if bytes_eq word (codes "us") then Some units.Us else
    if bytes_eq word (codes "hz") then Some units.Hz else None

abbrev pub tracepoint_point : List ℕ → List ℕ → Place → Option Point
tracepoint_point system name place = if is_name system && is_name name then Some (points.Tracepoint system name place) else None

abbrev pub interval_point : Option TimeUnit → List ℕ → Place → Option Point
interval_point None number place = None
interval_point (Some unit) number place = if are_digits number && nat_lt (digits_value 10 number) (2 ^ 64)
    then Some (points.Interval unit (digits_value 10 number) place) else None

abbrev pub point_of_parts : List (List ℕ) → Place → Option Point
point_of_parts (word ∷ first ∷ second ∷ []) place =
    if is_tracepoint_word word then tracepoint_point first second place else
    if is_interval_word word then interval_point (unit_of first) second place else None
point_of_parts _ place = None

-- the point that an attach token is, by its three parts between colons
abbrev pub attach_point : List ℕ → Place → Option Point
attach_point bytes place = point_of_parts (slice_split (λ b. b == 58) bytes) place
