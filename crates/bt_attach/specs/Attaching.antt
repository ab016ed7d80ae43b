-- What the probes of a script are attached to in a recording, and the first point that is attached to nothing that may be.
use Rattle.std.specs.Prelude.{◌≡◌, ℕ, zero, suc, ◌+◌, ◌-◌, ◌&&◌, ◌||◌, ◌==◌, nat_lt, Bool}
use Rattle.std.specs.Prelude.{true, false, List, [], ◌∷◌, ◌++◌, map, length, sum_by, Option, Some, None, if◌then◌else◌}
use Rattle.std.specs.List.{list_any, flat_map}
use Rattle.bt_core.specs.declared.place.Place.{Place}
use Rattle.bt_core.specs.declared.limits.TheConstants.{BODIES, TICKS}
use Rattle.bt_ast.specs.declared.probe.Point.{Point}
use Rattle.bt_ast.specs.declared.probe.Point.TheVariants.{Begin, End, Tracepoint, Interval}
use Rattle.bt_ast.specs.declared.probe.Probe.{Probe}
use Rattle.bt_ast.specs.declared.probe.Script.{Script}
use Rattle.bt_ast.specs.declared.attached.BodyPoint.{BodyPoint}
use Rattle.bt_ast.specs.declared.attached.BodyPoint.TheVariants.{Begin as AtBegin, End as AtEnd, Interval as AtTicks, Event}
use Rattle.bt_ast.specs.declared.attached.BodyId.{BodyId}
use Rattle.bt_ast.specs.declared.attached.Tick.{Tick}
use Rattle.bt_ast.specs.declared.attached.Attached.{Attached}
use Rattle.event_layout.specs.declared.format.Format.{Format}
use Rattle.bt_attach.specs.declared.error.AttachError.{AttachError}
use Rattle.bt_attach.specs.declared.error.AttachError.TheVariants.{UnknownTracepoint, NoMatch, BadPeriod, TooManyTicks, TooManyAttached}
use Rattle.bt_attach.specs.Pattern.{matches}
use Rattle.bt_attach.specs.Ticks.{period_in, tick_count, ticks_by, AreInOrder}

-- the places, counted from a number on, at which a test holds
abbrev pub places_from : {A : Type 0} → (A → Bool) → ℕ → List A → List ℕ
places_from test place [] = []
places_from test place (x ∷ xs) = if test x then place ∷ places_from test (place + 1) xs else places_from test (place + 1) xs

abbrev pub places : {A : Type 0} → (A → Bool) → List A → List ℕ
places test xs = places_from test 0 xs

-- points of each kind
abbrev pub is_begin : Point → Bool
is_begin (Begin place) = true
is_begin (End place) = false
is_begin (Tracepoint system name place) = false
is_begin (Interval unit number place) = false

abbrev pub is_end : Point → Bool
is_end (Begin place) = false
is_end (End place) = true
is_end (Tracepoint system name place) = false
is_end (Interval unit number place) = false

abbrev pub is_interval : Point → Bool
is_interval (Begin place) = false
is_interval (End place) = false
is_interval (Tracepoint system name place) = false
is_interval (Interval unit number place) = true

abbrev pub place_of : Point → Place
place_of (Begin place) = place
place_of (End place) = place
place_of (Tracepoint system name place) = place
place_of (Interval unit number place) = place

-- a tracepoint point matches a format by its system and its name
abbrev pub matches_format : Format → Point → Bool
matches_format f (Begin place) = false
matches_format f (End place) = false
matches_format f (Tracepoint system name place) = matches system f.system && matches name f.layout.name
matches_format f (Interval unit number place) = false

-- some of the points match a format
abbrev pub is_matched : List Point → Format → Bool
is_matched points f = list_any (matches_format f) points

-- the bodies of a probe: BEGIN, END, interval, each once, and then its events in the order of the formats
abbrev pub once : Bool → BodyPoint → List BodyPoint
once some point = if some then point ∷ [] else []

abbrev pub begin_and_end : List Point → List BodyPoint
begin_and_end points = once (list_any is_begin points) AtBegin ++ once (list_any is_end points) AtEnd

abbrev pub body_points : List Format → List Point → List BodyPoint
body_points formats points =
    begin_and_end points ++ (once (list_any is_interval points) AtTicks ++ map Event (places (is_matched points) formats))

abbrev pub bodies_from : List Format → ℕ → List Probe → List BodyId
bodies_from formats probe [] = []
bodies_from formats probe (p ∷ ps) =
    map (λ point. record { probe = probe; point = point }) (body_points formats p.points) ++ bodies_from formats (probe + 1) ps

-- the ticks of a point and of probes, before they are put in order; so many bodies stand before a probe's own
abbrev pub point_ticks : ℕ → ℕ → ℕ → Point → List Tick
point_ticks start span body (Begin place) = []
point_ticks start span body (End place) = []
point_ticks start span body (Tracepoint system name place) = []
point_ticks start span body (Interval unit number place) = ticks_by start span body (period_in unit number)

abbrev pub ticks_from : ℕ → ℕ → List Format → ℕ → List Probe → List Tick
ticks_from start span formats bodies [] = []
ticks_from start span formats bodies (p ∷ ps) =
    flat_map (point_ticks start span (bodies + length (begin_and_end p.points))) p.points
    ++ ticks_from start span formats (bodies + length (body_points formats p.points)) ps

-- the bodies at a point
abbrev pub is_at : BodyPoint → BodyPoint → Bool
is_at AtBegin AtBegin = true
is_at AtEnd AtEnd = true
is_at AtTicks AtTicks = true
is_at (Event a) (Event b) = a == b
is_at _ _ = false

abbrev pub bodies_at : List BodyId → BodyPoint → List ℕ
bodies_at bodies point = places (λ (b : BodyId). is_at point b.point) bodies

-- the bodies at events of each of the first so many formats
abbrev pub at_each : List BodyId → ℕ → List (List ℕ)
at_each bodies zero = []
at_each bodies (suc count) = at_each bodies count ++ bodies_at bodies (Event count) ∷ []

-- what the probes of a script are attached to
pub record IsAttachedTo (script : Script) (formats : List Format) (start end : ℕ) (attached : Attached) : Type 0 where
  pub bodies : attached.bodies ≡ bodies_from formats 0 script.probes
  pub by_format : attached.by_format ≡ at_each attached.bodies (length formats)
  pub begin : attached.begin ≡ bodies_at attached.bodies AtBegin
  pub finish : attached.end ≡ bodies_at attached.bodies AtEnd
  pub ticks : AreInOrder (ticks_from start (end - start) formats 0 script.probes) attached.ticks

-- how many ticks a point has
abbrev pub point_tick_count : ℕ → Point → ℕ
point_tick_count span (Begin place) = 0
point_tick_count span (End place) = 0
point_tick_count span (Tracepoint system name place) = 0
point_tick_count span (Interval unit number place) = tick_count span (period_in unit number)

-- the first rule that a point breaks by itself
abbrev pub has_star : List ℕ → List ℕ → Bool
has_star system name = list_any (λ b. b == 42) system || list_any (λ b. b == 42) name

abbrev pub bad_period : Place → Option ℕ → Option AttachError
bad_period place None = Some (BadPeriod place)
bad_period place (Some period) = None

abbrev pub own_fault : List Format → Point → Option AttachError
own_fault formats (Begin place) = None
own_fault formats (End place) = None
own_fault formats (Tracepoint system name place) =
    if list_any (λ f. matches_format f (Tracepoint system name place)) formats then None
    else Some (if has_star system name then NoMatch place else UnknownTracepoint place)
own_fault formats (Interval unit number place) = bad_period place (period_in unit number)

-- the first rule that a point breaks, where so many ticks and bodies there are up to and with it
abbrev pub or_else : Option AttachError → Option AttachError → Option AttachError
or_else None other = other
or_else (Some e) other = Some e

abbrev pub too_many_ticks : ℕ → Point → Option AttachError
too_many_ticks ticks point = if nat_lt TICKS ticks then Some (TooManyTicks (place_of point)) else None

abbrev pub too_many_bodies : ℕ → Point → Option AttachError
too_many_bodies bodies point = if nat_lt BODIES bodies then Some (TooManyAttached (place_of point)) else None

abbrev pub point_fault : List Format → ℕ → ℕ → Point → Option AttachError
point_fault formats ticks bodies point = or_else (or_else (own_fault formats point) (too_many_ticks ticks point)) (too_many_bodies bodies point)

-- the first fault of a probe's points, where so many ticks and bodies stand before it and some of its points were seen
abbrev pub points_fault : List Format → ℕ → ℕ → ℕ → List Point → List Point → Option AttachError
points_fault formats span ticks bodies seen [] = None
points_fault formats span ticks bodies seen (p ∷ ps) =
    or_else
    (point_fault formats (ticks + sum_by (point_tick_count span) (seen ++ p ∷ [])) (bodies + length (body_points formats (seen ++ p ∷ []))) p)
    (points_fault formats span ticks bodies (seen ++ p ∷ []) ps)

abbrev pub probes_fault : List Format → ℕ → ℕ → ℕ → List Probe → Option AttachError
probes_fault formats span ticks bodies [] = None
probes_fault formats span ticks bodies (p ∷ ps) =
    or_else (points_fault formats span ticks bodies [] p.points)
    (probes_fault formats span (ticks + sum_by (point_tick_count span) p.points) (bodies + length (body_points formats p.points)) ps)

-- the first point that fails, in the order of the script, with the first rule that it breaks
unfoldable pub attach_fault : Script → List Format → ℕ → ℕ → Option AttachError
attach_fault script formats start end = probes_fault formats (end - start) 0 0 script.probes
