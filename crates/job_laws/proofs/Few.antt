-- Where no rule of attaching is broken, there are no more bodies and ticks than a script may have.
use Rattle.std.proofs.Common.{◌≡◌, ◌+◌, ◌*◌, ◌/◌, ◌≤◌, ◌++◌, ℕ, zero, suc, Bool, true, false, List, [], ◌∷◌, length, map, sum_by, Option, Some, None, nat_lt, refl, sym, ◌∙◌, subst, arith, rules, append_assoc, append-nil}
use Rattle.std.specs.List.{flat_map}
use Rattle.std.proofs.lemmas.List.{length-append, length-map}
use Rattle.std.proofs.lemmas.List.Sums.{sum_by-cons}
use Rattle.std.proofs.lemmas.Bool.{ltb-false}
use Rattle.bt_core.specs.declared.limits.TheConstants.{TICKS, BODIES}
use Rattle.bt_ast.specs.declared.attached.BodyId.{BodyId}
use Rattle.bt_ast.specs.declared.attached.BodyPoint.{BodyPoint}
use Rattle.bt_ast.specs.declared.attached.BodyPoint.TheVariants.{Event}
use Rattle.bt_ast.specs.declared.probe.Point.{Point}
use Rattle.bt_ast.specs.declared.probe.Point.TheVariants.{Begin, End, Tracepoint, Interval}
use Rattle.bt_ast.specs.declared.probe.Probe.{Probe}
use Rattle.event_layout.specs.declared.format.Format.{Format}
use Rattle.bt_attach.specs.declared.error.AttachError.{AttachError}
use Rattle.bt_attach.specs.Ticks.{first_ticks, ticks_by, tick_count, period_in}
use Rattle.bt_attach.specs.Attaching.{body_points, bodies_from, begin_and_end, point_ticks, ticks_from, point_tick_count, or_else, own_fault, too_many_ticks, too_many_bodies, point_fault, points_fault, probes_fault, places_from, is_matched}

none_first : (a b : Option AttachError) → or_else a b ≡ None → a ≡ None
none_first None b e = refl
none_first (Some x) b e = search rules

none_second : (a b : Option AttachError) → or_else a b ≡ None → b ≡ None
none_second None b e = e
none_second (Some x) b e = search rules

few_bodies : (n : ℕ) (p : Point) → too_many_bodies n p ≡ None → n ≤ BODIES
few_bodies n p e = by (nat_lt BODIES n) refl
  where
    by : (b : Bool) → nat_lt BODIES n ≡ b → n ≤ BODIES
    by true f = search rules
    by false f = ltb-false BODIES n f

few_ticks : (n : ℕ) (p : Point) → too_many_ticks n p ≡ None → n ≤ TICKS
few_ticks n p e = by (nat_lt TICKS n) refl
  where
    by : (b : Bool) → nat_lt TICKS n ≡ b → n ≤ TICKS
    by true f = search rules
    by false f = ltb-false TICKS n f

record AreFew (ticks bodies : ℕ) : Type 0 where
  ticks_fit : ticks ≤ TICKS
  bodies_fit : bodies ≤ BODIES

module _ (formats : List Format) (span ticks bodies : ℕ) where
  points_few : (seen ps : List Point) → AreFew (ticks + sum_by (point_tick_count span) seen) (bodies + length (body_points formats seen))
      → points_fault formats span ticks bodies seen ps ≡ None
      → AreFew (ticks + sum_by (point_tick_count span) (seen ++ ps)) (bodies + length (body_points formats (seen ++ ps)))
  points_few seen [] few e = subst (λ (l : List Point). AreFew (ticks + sum_by (point_tick_count span) l) (bodies + length (body_points formats l))) (sym (append-nil seen)) few
  points_few seen (p ∷ ps) few e =
      let one = none_first (point_fault formats (ticks + sum_by (point_tick_count span) (seen ++ p ∷ [])) (bodies + length (body_points formats (seen ++ p ∷ []))) p) _ e in
      let rest = none_second (point_fault formats (ticks + sum_by (point_tick_count span) (seen ++ p ∷ [])) (bodies + length (body_points formats (seen ++ p ∷ []))) p) _ e in
      let early = none_first (or_else (own_fault formats p) (too_many_ticks (ticks + sum_by (point_tick_count span) (seen ++ p ∷ [])) p)) _ one in
      let now : AreFew (ticks + sum_by (point_tick_count span) (seen ++ p ∷ [])) (bodies + length (body_points formats (seen ++ p ∷ []))) = record {
        ticks_fit = few_ticks _ p (none_second (own_fault formats p) _ early);
        bodies_fit = few_bodies _ p (none_second (or_else (own_fault formats p) (too_many_ticks (ticks + sum_by (point_tick_count span) (seen ++ p ∷ [])) p)) _ one);
      } in
      subst (λ (l : List Point). AreFew (ticks + sum_by (point_tick_count span) l) (bodies + length (body_points formats l))) (append_assoc seen (p ∷ []) ps)
      (points_few (seen ++ p ∷ []) ps now rest)

none_matched : (k : ℕ) (formats : List Format) → length (places_from (is_matched []) k formats) ≡ 0
none_matched k [] = refl
none_matched k (f ∷ fs) = none_matched (k + 1) fs

-- no points, no bodies
no_points : (formats : List Format) → length (body_points formats []) ≡ 0
no_points formats = length-map (places_from (is_matched []) 0 formats) Event ∙ none_matched 0 formats

-- how many ticks and bodies some probes have
abbrev tick_sum : ℕ → List Probe → ℕ
tick_sum span [] = 0
tick_sum span (p ∷ ps) = sum_by (point_tick_count span) p.points + tick_sum span ps

abbrev body_sum : List Format → List Probe → ℕ
body_sum formats [] = 0
body_sum formats (p ∷ ps) = length (body_points formats p.points) + body_sum formats ps

probes_few : (formats : List Format) (span ticks bodies : ℕ) (ps : List Probe) → AreFew ticks bodies → probes_fault formats span ticks bodies ps ≡ None
    → AreFew (ticks + tick_sum span ps) (bodies + body_sum formats ps)
probes_few formats span ticks bodies [] few e =
    let t = few.ticks_fit in let b = few.bodies_fit in record { ticks_fit = omega (arith, t); bodies_fit = omega (arith, b) }
probes_few formats span ticks bodies (p ∷ ps) few e =
    let none = no_points formats in
    let t = few.ticks_fit in let b = few.bodies_fit in
    let start : AreFew (ticks + 0) (bodies + length (body_points formats [])) = record { ticks_fit = omega (arith, t); bodies_fit = omega (arith, b, none) } in
    let here = points_few formats span ticks bodies [] p.points start (none_first (points_fault formats span ticks bodies [] p.points) _ e) in
    let rest = probes_few formats span (ticks + sum_by (point_tick_count span) p.points) (bodies + length (body_points formats p.points)) ps here
    (none_second (points_fault formats span ticks bodies [] p.points) _ e) in
    let u = rest.ticks_fit in let c = rest.bodies_fit in
    record { ticks_fit = omega (arith, u); bodies_fit = omega (arith, c) }

-- as many bodies and ticks as that are made
pub bodies_length : (formats : List Format) (k : ℕ) (ps : List Probe) → length (bodies_from formats k ps) ≡ body_sum formats ps
bodies_length formats k [] = refl
bodies_length formats k (p ∷ ps) =
    let e = length-append (map (λ (point : BodyPoint). record { probe = k; point = point }) (body_points formats p.points)) (bodies_from formats (k + 1) ps) in
    let f = length-map {B = BodyId} (body_points formats p.points) (λ (point : BodyPoint). record { probe = k; point = point }) in
    let g = bodies_length formats (k + 1) ps in omega (arith, e, f, g)

first_length : (start period body k : ℕ) → length (first_ticks start period body k) ≡ k
first_length start period body zero = refl
first_length start period body (suc k) =
    let e = length-append (first_ticks start period body k) (record { time = start + (k + 1) * period; body = body } ∷ []) in
    let f = first_length start period body k in omega (arith, e, f)

by_length : (start span body : ℕ) (period : Option ℕ) → length (ticks_by start span body period) ≡ tick_count span period
by_length start span body None = refl
by_length start span body (Some period) = first_length start period body (span / period)

point_length : (start span body : ℕ) (p : Point) → length (point_ticks start span body p) ≡ point_tick_count span p
point_length start span body (Begin place) = refl
point_length start span body (End place) = refl
point_length start span body (Tracepoint system name place) = refl
point_length start span body (Interval unit number place) = by_length start span body (period_in unit number)

points_length : (start span body : ℕ) (points : List Point) → length (flat_map (point_ticks start span body) points) ≡ sum_by (point_tick_count span) points
points_length start span body [] = refl
points_length start span body (p ∷ ps) =
    let e = length-append (point_ticks start span body p) (flat_map (point_ticks start span body) ps) in
    let f = point_length start span body p in
    let g = points_length start span body ps in
    let h = sum_by-cons (point_tick_count span) p ps in
    omega (arith, e, f, g, h)

pub ticks_length : (start span : ℕ) (formats : List Format) (k : ℕ) (ps : List Probe) → length (ticks_from start span formats k ps) ≡ tick_sum span ps
ticks_length start span formats k [] = refl
ticks_length start span formats k (p ∷ ps) =
    let e = length-append (flat_map (point_ticks start span (k + length (begin_and_end p.points))) p.points) (ticks_from start span formats (k + length (body_points formats p.points)) ps) in
    let f = points_length start span (k + length (begin_and_end p.points)) p.points in
    let g = ticks_length start span formats (k + length (body_points formats p.points)) ps in
    omega (arith, e, f, g)

pub few_of_both : (formats : List Format) (start span : ℕ) (ps : List Probe) → probes_fault formats span 0 0 ps ≡ None
    → (length (ticks_from start span formats 0 ps) ≤ TICKS) × (length (bodies_from formats 0 ps) ≤ BODIES)
few_of_both formats start span ps e =
    let all = probes_few formats span 0 0 ps (record { ticks_fit = omega arith; bodies_fit = omega arith }) e in
    let t = all.ticks_fit in let b = all.bodies_fit in
    let f = ticks_length start span formats 0 ps in
    let g = bodies_length formats 0 ps in
    (omega (arith, t, f), omega (arith, b, g))
