-- When the ticks of intervals stand.
use Rattle.std.specs.Prelude.{ℕ, zero, suc, ◌+◌, ◌*◌, ◌/◌, ◌^◌, ◌&&◌}
use Rattle.std.specs.Prelude.{nat_le, nat_lt, List, [], ◌∷◌, ◌++◌, Option, Some, None, if◌then◌else◌}
use Rattle.std.specs.Ordering.{nat_cmp}
use Rattle.std.specs.List.Sorted.{IsSortedByKey, IsStableByKey}
use Rattle.bt_ast.specs.declared.probe.Unit.{Unit as TimeUnit}
use Rattle.bt_ast.specs.declared.probe.Unit.TheVariants.{S, Ms, Us, Hz}
use Rattle.bt_ast.specs.declared.attached.Tick.{Tick}

-- the period of an interval in nanoseconds
abbrev pub nanoseconds : TimeUnit → ℕ → ℕ
nanoseconds S number = number * 1000000000
nanoseconds Ms number = number * 1000000
nanoseconds Us number = number * 1000
nanoseconds Hz number = 1000000000 / number

-- the period of an interval, if its number is not 0 and the period is from 1 to 2^63 - 1
abbrev pub period_in : TimeUnit → ℕ → Option ℕ
period_in unit number =
    if nat_le 1 number && (nat_le 1 (nanoseconds unit number) && nat_lt (nanoseconds unit number) (2 ^ 63))
    then Some (nanoseconds unit number) else None

-- how many ticks an interval has: one at each whole number of periods from the first on, up to the end
abbrev pub tick_count : ℕ → Option ℕ → ℕ
tick_count span None = 0
tick_count span (Some period) = span / period

-- the first so many ticks of a period
abbrev pub first_ticks : ℕ → ℕ → ℕ → ℕ → List Tick
first_ticks start period body zero = []
first_ticks start period body (suc k) = first_ticks start period body k ++ record { time = start + (k + 1) * period; body = body } ∷ []

abbrev pub ticks_by : ℕ → ℕ → ℕ → Option ℕ → List Tick
ticks_by start span body None = []
ticks_by start span body (Some period) = first_ticks start period body (span / period)

-- the points' ticks in order: by time, and at one time as the points stand
pub record AreInOrder (points ticks : List Tick) : Type 0 where
  pub by_time : IsSortedByKey (λ (t : Tick). t.time) nat_cmp ticks
  pub by_point : IsStableByKey (λ (t : Tick). t.time) nat_cmp points ticks
