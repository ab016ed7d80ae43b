-- What goes with the code: what is seen of a probe behind some of its points.
use Rattle.std.specs.Prelude.{◌≡◌, ◌≢◌, ◌≤◌, ℕ, ◌+◌, Bool, true, List, []}
use Rattle.std.specs.Prelude.{◌++◌, map, sum_by, length, take, drop, Option, Some, None, Result, Ok, Err}
use Rattle.std.specs.List.{list_any, flat_map}
use Rattle.bt_core.specs.declared.limits.TheConstants.{TICKS, BODIES}
use Rattle.bt_ast.specs.declared.probe.Point.{Point}
use Rattle.bt_ast.specs.declared.probe.Point.TheVariants.{Begin, End, Tracepoint, Interval}
use Rattle.bt_ast.specs.declared.attached.BodyPoint.{BodyPoint}
use Rattle.bt_ast.specs.declared.attached.BodyPoint.TheVariants.{Begin as AtBegin, End as AtEnd, Interval as AtTicks, Event}
use Rattle.bt_ast.specs.declared.attached.BodyId.{BodyId}
use Rattle.event_layout.specs.declared.format.Format.{Format}
use Rattle.bt_attach.specs.declared.error.AttachError.{AttachError}
use Rattle.bt_attach.specs.declared.error.AttachError.TheVariants.{Memory}
use Rattle.bt_attach.specs.declared.seen.Seen.{Seen}
use Rattle.bt_attach.specs.declared.attach.Found.{Found}
use Rattle.bt_attach.specs.declared.bodies.Runs.{Runs}
use Rattle.bt_ast.specs.declared.probe.Probe.{Probe}
use Rattle.bt_attach.specs.Attaching.{points_fault, probes_fault, body_points, begin_and_end, bodies_from, point_ticks, ticks_from, at_each, bodies_at}
use Rattle.bt_attach.specs.Attaching.{is_begin, is_end, is_interval, is_matched, once, places, places_from, point_tick_count}
use Rattle.bt_attach.specs.Marks.{is_named, either_each}

-- with one more point
abbrev pub added : List Format → ℕ → Seen → Point → Seen
added formats span s (Begin place) = record s { begin = true }
added formats span s (End place) = record s { end = true }
added formats span s (Tracepoint system name place) = record s { marks = either_each (is_named system name) s.marks formats }
added formats span s (Interval unit number place) = record s { interval = true; ticks = s.ticks + point_tick_count span (Interval unit number place) }

-- behind these points, where so many ticks stand before the probe
pub record IsSeen (formats : List Format) (span before : ℕ) (points : List Point) (s : Seen) : Type 0 where
  pub begin : s.begin ≡ list_any is_begin points
  pub finish : s.end ≡ list_any is_end points
  pub interval : s.interval ≡ list_any is_interval points
  pub marks : s.marks ≡ map (is_matched points) formats
  pub ticks : s.ticks ≡ before + sum_by (point_tick_count span) points

-- the bodies that the points seen give
abbrev pub seen_points : Seen → List BodyPoint
seen_points s = (once s.begin AtBegin ++ once s.end AtEnd) ++ (once s.interval AtTicks ++ map Event (places (λ m. m) s.marks))

-- an error is the fault that there is, or want of memory
abbrev pub Answers : {X : Type 0} → Option AttachError → (X → Type 0) → Result X AttachError → Type 0
Answers fault P (Ok x) = (fault ≡ None) × P x
Answers fault P (Err e) = e ≢ Memory → fault ≡ Some e

-- what stays while a probe's points are looked at: behind the first ones no rule was broken
pub record NoneBroken (formats : List Format) (span ticks bodies : ℕ) (points : List Point) (place : ℕ) (s : Seen) : Type 0 where
  pub seen : IsSeen formats span ticks (take place points) s
  pub left : points_fault formats span ticks bodies (take place points) (drop place points) ≡ points_fault formats span ticks bodies [] points
  pub ticks_fit : s.ticks ≤ TICKS
  pub bodies_fit : bodies + length (seen_points s) ≤ BODIES

-- the bodies of a probe at points
abbrev pub with_probe : ℕ → List BodyPoint → List BodyId
with_probe probe points = map (λ (point : BodyPoint). record { probe = probe; point = point }) points

-- the events of the formats that are marked, counted from a number on
abbrev pub events_marked : ℕ → List Bool → List BodyPoint
events_marked n marks = map Event (places_from (λ m. m) n marks)

-- what a probe adds to the bodies and to the ticks
pub record AddsProbe (formats : List Format) (start span probe : ℕ) (points : List Point) (old new : Found) : Type 0 where
  pub bodies : new.bodies ≡ old.bodies ++ with_probe probe (body_points formats points)
  pub ticks : new.ticks.items ≡ old.ticks.items ++ flat_map (point_ticks start span (length old.bodies + length (begin_and_end points))) points
  pub tick_count : length new.ticks.items ≡ length old.ticks.items + sum_by (point_tick_count span) points
  pub bodies_fit : length new.bodies ≤ BODIES
  pub ticks_fit : length new.ticks.items ≤ TICKS

-- where bodies are run
pub record AreRuns (bodies : List BodyId) (formats : ℕ) (runs : Runs) : Type 0 where
  pub by_format : runs.by_format ≡ at_each bodies formats
  pub begin : runs.begin ≡ bodies_at bodies AtBegin
  pub finish : runs.end ≡ bodies_at bodies AtEnd

-- all that the probes add
pub record IsFound (formats : List Format) (start span : ℕ) (probes : List Probe) (f : Found) : Type 0 where
  pub bodies : f.bodies ≡ bodies_from formats 0 probes
  pub ticks : f.ticks.items ≡ ticks_from start span formats 0 probes
  pub bodies_fit : length f.bodies ≤ BODIES

-- what stays while probes are looked at: what there is, with what is to come, is the whole
pub record NoneFailed (formats : List Format) (start span : ℕ) (probes : List Probe) (place : ℕ) (f : Found) : Type 0 where
  pub bodies : f.bodies ++ bodies_from formats place (drop place probes) ≡ bodies_from formats 0 probes
  pub ticks : f.ticks.items ++ ticks_from start span formats (length f.bodies) (drop place probes) ≡ ticks_from start span formats 0 probes
  pub left : probes_fault formats span (length f.ticks.items) (length f.bodies) (drop place probes) ≡ probes_fault formats span 0 0 probes
  pub bodies_fit : length f.bodies ≤ BODIES
  pub ticks_fit : length f.ticks.items ≤ TICKS
