-- What is seen of a probe, point by point.
use Rattle.std.proofs.Common.{◌≡◌, ◌+◌, ◌<◌, ◌≤◌, ◌++◌, ◌||◌, ℕ, suc, Bool, true, false, cond, List, [], ◌∷◌, map, length, take, drop, get_or, replicate, sum_by, count_by, Option, Some, None, Result, Err, ◌≢◌, refl, sym, ap, ◌∙◌, arith, drop-cons, subst, nat_lt}
use Rattle.std.proofs.Math.Seq.{take-suc}
use Rattle.std.proofs.lemmas.Bool.Decides.{nat_tests}
use Rattle.std.specs.List.{list_any}
use Rattle.std.proofs.lemmas.List.{length-append, length-map, drop_all, take_all}
use Rattle.std.proofs.lemmas.List.Folds.{list_any-append}
use Rattle.std.proofs.lemmas.List.Sums.{sum_by-append, sum_by-cons}
use Rattle.bt_core.specs.declared.limits.TheConstants.{TICKS, BODIES}
use Rattle.bt_ast.specs.declared.probe.Point.{Point}
use Rattle.bt_ast.specs.declared.probe.Point.TheVariants.{Begin, End, Tracepoint, Interval}
use Rattle.bt_ast.specs.declared.attached.BodyPoint.{BodyPoint}
use Rattle.bt_ast.specs.declared.attached.BodyPoint.TheVariants.{Begin as AtBegin, End as AtEnd, Interval as AtTicks, Event}
use Rattle.event_layout.specs.declared.format.Format.{Format}
use Rattle.bt_attach.specs.declared.error.AttachError.{AttachError}
use Rattle.bt_attach.specs.declared.error.AttachError.TheVariants.{TooManyAttached, Memory}
use Rattle.bt_attach.specs.declared.seen.Seen.{Seen}
use Rattle.bt_attach.specs.Attaching.{is_begin, is_end, is_interval, matches_format, is_matched, once, places, places_from, point_tick_count, body_points, begin_and_end, or_else, own_fault, too_many_ticks, too_many_bodies, point_fault, points_fault, place_of}
use Rattle.bt_attach.specs.Marks.{is_named, either_each}
use Rattle.bt_attach.specs.Steps.{added, IsSeen, seen_points, NoneBroken, Answers}

number : Bool → ℕ
number b = cond b 1 0

pub once_length : (b : Bool) (p : BodyPoint) → length (once b p) ≡ cond b 1 0
once_length true p = refl
once_length false p = refl

places_length : (marks : List Bool) (n : ℕ) → length (places_from (λ m. m) n marks) ≡ count_by (λ m. m) marks
places_length [] n = refl
places_length (true ∷ ms) n =
    let later : length (places_from (λ m. m) (n + 1) ms) ≡ count_by (λ m. m) ms = places_length ms (n + 1) in
    let one : count_by (λ m. m) (true ∷ ms) ≡ 1 + count_by (λ m. m) ms = sum_by-cons (λ (m : Bool). cond m 1 0) true ms in
    let more : length (places_from (λ m. m) n (true ∷ ms)) ≡ suc (length (places_from (λ m. m) (n + 1) ms)) = refl in
    omega (arith, later, one, more)
places_length (false ∷ ms) n = places_length ms (n + 1)

pub seen_length : (s : Seen) → length (seen_points s) ≡ cond s.begin 1 0 + cond s.end 1 0 + cond s.interval 1 0 + count_by (λ m. m) s.marks
seen_length s =
    let a = length-append (once s.begin AtBegin ++ once s.end AtEnd) (once s.interval AtTicks ++ map Event (places (λ m. m) s.marks)) in
    let b = length-append (once s.begin AtBegin) (once s.end AtEnd) in
    let c = length-append (once s.interval AtTicks) (map Event (places (λ m. m) s.marks)) in
    let d = length-map (places (λ m. m) s.marks) (λ (k : ℕ). Event k) in
    let e = places_length s.marks 0 in
    let f = once_length s.begin AtBegin in
    let g = once_length s.end AtEnd in
    let h = once_length s.interval AtTicks in
    omega (arith, a, b, c, d, e, f, g, h)

or_false : (a : Bool) → (a || false) ≡ a
or_false true = refl
or_false false = refl

or_true : (a : Bool) → (a || true) ≡ true
or_true true = refl
or_true false = refl

-- one more point at the end
any_more : (test : Point → Bool) (points : List Point) (p : Point) → list_any test (points ++ p ∷ []) ≡ (list_any test points || test p)
any_more test points p = list_any-append test points (p ∷ []) ∙ ap (λ (v : Bool). list_any test points || v) (or_false (test p))

kept : (test : Point → Bool) (points : List Point) (p : Point) (b : Bool) → b ≡ list_any test points → test p ≡ false → b ≡ list_any test (points ++ p ∷ [])
kept test points p b is no_test = is ∙ sym (any_more test points p ∙ (ap (λ (v : Bool). list_any test points || v) no_test ∙ or_false (list_any test points)))

set : (test : Point → Bool) (points : List Point) (p : Point) → test p ≡ true → true ≡ list_any test (points ++ p ∷ [])
set test points p holds = sym (any_more test points p ∙ (ap (λ (v : Bool). list_any test points || v) holds ∙ or_true (list_any test points)))

marks_kept : (points : List Point) (p : Point) (formats : List Format) → ((f : Format) → matches_format f p ≡ false) → map (is_matched points) formats ≡ map (is_matched (points ++ p ∷ [])) formats
marks_kept points p [] h = refl
marks_kept points p (f ∷ fs) h =
    ap (λ (b : Bool). b ∷ map (is_matched points) fs) (kept (matches_format f) points p (is_matched points f) refl (h f))
    ∙ ap (λ (bs : List Bool). is_matched (points ++ p ∷ []) f ∷ bs) (marks_kept points p fs h)

marks_set : (system name : List ℕ) (points : List Point) (p : Point) (formats : List Format) → ((f : Format) → matches_format f p ≡ is_named system name f)
    → either_each (is_named system name) (map (is_matched points) formats) formats ≡ map (is_matched (points ++ p ∷ [])) formats
marks_set system name points p [] h = refl
marks_set system name points p (f ∷ fs) h =
    ap (λ (b : Bool). b ∷ either_each (is_named system name) (map (is_matched points) fs) fs)
    (ap (λ (v : Bool). is_matched points f || v) (sym (h f)) ∙ sym (any_more (matches_format f) points p))
    ∙ ap (λ (bs : List Bool). is_matched (points ++ p ∷ []) f ∷ bs) (marks_set system name points p fs h)

ticks_more : (span before ticks : ℕ) (points : List Point) (p : Point) → ticks ≡ before + sum_by (point_tick_count span) points
    → ticks + point_tick_count span p ≡ before + sum_by (point_tick_count span) (points ++ p ∷ [])
ticks_more span before ticks points p h =
    let e = sum_by-append (point_tick_count span) points (p ∷ []) in
    omega (arith, e, h)

no_ticks : (span before ticks : ℕ) (points : List Point) (p : Point) → ticks ≡ before + sum_by (point_tick_count span) points → point_tick_count span p ≡ 0
    → ticks ≡ before + sum_by (point_tick_count span) (points ++ p ∷ [])
no_ticks span before ticks points p h none = let e = ticks_more span before ticks points p h in omega (arith, e, none)

pub seen_more : (formats : List Format) (span before : ℕ) (points : List Point) (p : Point) (s : Seen) → IsSeen formats span before points s → IsSeen formats span before (points ++ p ∷ []) (added formats span s p)
seen_more formats span before points (Begin place) s h = record {
  begin = set is_begin points (Begin place) refl;
  finish = kept is_end points (Begin place) s.end h.finish refl;
  interval = kept is_interval points (Begin place) s.interval h.interval refl;
  marks = h.marks ∙ marks_kept points (Begin place) formats (λ f. refl);
  ticks = no_ticks span before s.ticks points (Begin place) h.ticks refl;
}
seen_more formats span before points (End place) s h = record {
  begin = kept is_begin points (End place) s.begin h.begin refl;
  finish = set is_end points (End place) refl;
  interval = kept is_interval points (End place) s.interval h.interval refl;
  marks = h.marks ∙ marks_kept points (End place) formats (λ f. refl);
  ticks = no_ticks span before s.ticks points (End place) h.ticks refl;
}
seen_more formats span before points (Tracepoint system name place) s h =
    let p = Tracepoint system name place in
    record {
      begin = kept is_begin points p s.begin h.begin refl;
      finish = kept is_end points p s.end h.finish refl;
      interval = kept is_interval points p s.interval h.interval refl;
      marks = ap (λ (m : List Bool). either_each (is_named system name) m formats) h.marks ∙ marks_set system name points p formats (λ f. refl);
      ticks = no_ticks span before s.ticks points p h.ticks refl;
    }
seen_more formats span before points (Interval unit number place) s h =
    let p = Interval unit number place in
    record {
      begin = kept is_begin points p s.begin h.begin refl;
      finish = kept is_end points p s.end h.finish refl;
      interval = set is_interval points p refl;
      marks = h.marks ∙ marks_kept points p formats (λ f. refl);
      ticks = ticks_more span before s.ticks points p h.ticks;
    }

no_marks_yet : (formats : List Format) → replicate (length formats) false ≡ map (is_matched []) formats
no_marks_yet [] = refl
no_marks_yet (f ∷ fs) = ap (λ (bs : List Bool). false ∷ bs) (no_marks_yet fs)

-- the bodies of the points seen
places_map : (test : Format → Bool) (n : ℕ) (formats : List Format) → places_from (λ m. m) n (map test formats) ≡ places_from test n formats
places_map test n [] = refl
places_map test n (f ∷ fs) =
    ap (λ (l : List ℕ). cond (test f) (n ∷ places_from (λ m. m) (n + 1) (map test fs)) l) (places_map test (n + 1) fs)
    ∙ ap (λ (l : List ℕ). cond (test f) (n ∷ l) (places_from test (n + 1) fs)) (places_map test (n + 1) fs)

pub seen_bodies : (formats : List Format) (span before : ℕ) (points : List Point) (s : Seen) → IsSeen formats span before points s → seen_points s ≡ body_points formats points
seen_bodies formats span before points s h =
    ap (λ (b : Bool). (once b AtBegin ++ once s.end AtEnd) ++ (once s.interval AtTicks ++ map Event (places (λ m. m) s.marks))) h.begin
    ∙ (ap (λ (b : Bool). (once (list_any is_begin points) AtBegin ++ once b AtEnd) ++ (once s.interval AtTicks ++ map Event (places (λ m. m) s.marks))) h.finish
    ∙ (ap (λ (b : Bool). begin_and_end points ++ (once b AtTicks ++ map Event (places (λ m. m) s.marks))) h.interval
    ∙ (ap (λ (m : List Bool). begin_and_end points ++ (once (list_any is_interval points) AtTicks ++ map Event (places (λ m. m) m))) h.marks
    ∙ ap (λ (l : List ℕ). begin_and_end points ++ (once (list_any is_interval points) AtTicks ++ map Event l)) (places_map (is_matched points) 0 formats))))

pub seen_start : (formats : List Format) (span before : ℕ) (s : Seen) → s.begin ≡ false → s.end ≡ false → s.interval ≡ false → s.marks ≡ replicate (length formats) false → s.ticks ≡ before → IsSeen formats span before [] s
seen_start formats span before s b e i m t = record { begin = b; finish = e; interval = i; marks = m ∙ no_marks_yet formats; ticks = omega (arith, t) }

pub seen_marks : (formats : List Format) (span before : ℕ) (points : List Point) (s : Seen) → IsSeen formats span before points s → length s.marks ≡ length formats
seen_marks formats span before points s h = ap length h.marks ∙ length-map formats (is_matched points)

none_placed : (n : ℕ) (formats : List Format) → places_from (is_matched []) n formats ≡ []
none_placed n [] = refl
none_placed n (f ∷ fs) = none_placed (n + 1) fs

none_seen : (formats : List Format) → length (body_points formats []) ≡ 0
none_seen formats = ap (λ (l : List ℕ). length (map Event l)) (none_placed 0 formats)

pub nothing_broken : (formats : List Format) (span ticks bodies : ℕ) (points : List Point) (s : Seen) → IsSeen formats span ticks [] s → ticks ≤ TICKS → bodies ≤ BODIES → s.ticks ≡ ticks
    → NoneBroken formats span ticks bodies points 0 s
nothing_broken formats span ticks bodies points s seen few_ticks few_bodies same = record {
  seen = seen;
  left = refl;
  ticks_fit = omega (arith, same, few_ticks);
  bodies_fit = (let e = ap length (seen_bodies formats span ticks [] s seen) ∙ none_seen formats in omega (arith, e, few_bodies));
}

added_ticks : (formats : List Format) (span : ℕ) (s : Seen) (p : Point) → (added formats span s p).ticks ≡ s.ticks + point_tick_count span p
added_ticks formats span s (Begin place) = omega arith
added_ticks formats span s (End place) = omega arith
added_ticks formats span s (Tracepoint system name place) = omega arith
added_ticks formats span s (Interval unit number place) = refl

or_else_none : (a b : Option AttachError) → or_else a b ≡ None → b ≡ None
or_else_none None b h = h
or_else_none (Some e) b h = cc

not_many : (most count : ℕ) (e : AttachError) → cond (nat_lt most count) (Some e) None ≡ None → count ≤ most
not_many most count e h = grind (arith, nat_tests)

many : (most count : ℕ) (e : AttachError) → most < count → cond (nat_lt most count) (Some e) None ≡ Some e
many most count e h = grind (arith, nat_tests)

few : (most count : ℕ) (e : AttachError) → count ≤ most → cond (nat_lt most count) (Some e) None ≡ None
few most count e h = grind (arith, nat_tests)

-- the next point
next_take : (points : List Point) (i : ℕ) (p : Point) → i < length points → p ≡ get_or points i p → take (i + 1) points ≡ take i points ++ p ∷ []
next_take points i p within is =
    ap (λ (n : ℕ). take n points) (let e : i + 1 ≡ suc i = omega arith in e) ∙ (take-suc points i p within ∙ ap (λ (q : Point). take i points ++ q ∷ []) (sym is))

next_drop : (points : List Point) (i : ℕ) (p : Point) → i < length points → p ≡ get_or points i p → drop i points ≡ p ∷ drop (i + 1) points
next_drop points i p within is =
    drop-cons points i p within
    ∙ (ap (λ (q : Point). q ∷ drop (suc i) points) (sym is) ∙ ap (λ (n : ℕ). p ∷ drop n points) (let e : suc i ≡ i + 1 = omega arith in e))

pub next_seen : (formats : List Format) (span ticks : ℕ) (points : List Point) (i : ℕ) (p : Point) (s next : Seen) → IsSeen formats span ticks (take i points) s → i < length points → p ≡ get_or points i p
    → next ≡ added formats span s p → IsSeen formats span ticks (take (i + 1) points) next
next_seen formats span ticks points i p s next h within is made =
    subst (λ (ps : List Point). IsSeen formats span ticks ps next) (sym (next_take points i p within is))
    (subst (λ (n : Seen). IsSeen formats span ticks (take i points ++ p ∷ []) n) (sym made) (seen_more formats span ticks (take i points) p s h))

-- what the next point's faults are
own_now : (formats : List Format) (span ticks bodies : ℕ) (points : List Point) (i : ℕ) (p : Point) (s : Seen) → NoneBroken formats span ticks bodies points i s → i < length points → p ≡ get_or points i p
    → points_fault formats span ticks bodies [] points
    ≡ or_else (or_else (or_else (own_fault formats p) (too_many_ticks (s.ticks + point_tick_count span p) p)) (too_many_bodies (bodies + length (body_points formats (take (i + 1) points))) p))
    (points_fault formats span ticks bodies (take (i + 1) points) (drop (i + 1) points))
own_now formats span ticks bodies points i p s h within is =
    let t = next_take points i p within is in
    sym h.left
    ∙ (ap (points_fault formats span ticks bodies (take i points)) (next_drop points i p within is)
    ∙ (ap (λ (ps : List Point). or_else (point_fault formats (ticks + sum_by (point_tick_count span) ps) (bodies + length (body_points formats ps)) p)
    (points_fault formats span ticks bodies ps (drop (i + 1) points))) (sym t)
    ∙ ap (λ (n : ℕ). or_else (or_else (or_else (own_fault formats p) (too_many_ticks n p)) (too_many_bodies (bodies + length (body_points formats (take (i + 1) points))) p))
    (points_fault formats span ticks bodies (take (i + 1) points) (drop (i + 1) points)))
    (ap (λ (ps : List Point). ticks + sum_by (point_tick_count span) ps) t ∙ sym (ticks_more span ticks s.ticks (take i points) p h.seen.ticks))))

pub still_none : (formats : List Format) (span ticks bodies : ℕ) (points : List Point) (i : ℕ) (p : Point) (s next : Seen) → NoneBroken formats span ticks bodies points i s → i < length points → p ≡ get_or points i p
    → or_else (own_fault formats p) (too_many_ticks (s.ticks + point_tick_count span p) p) ≡ None → next ≡ added formats span s p → bodies + length (seen_points next) ≤ BODIES
    → NoneBroken formats span ticks bodies points (i + 1) next
still_none formats span ticks bodies points i p s next h within is none made fit =
    let seen = next_seen formats span ticks points i p s next h.seen within is made in
    let bodies_are = ap length (seen_bodies formats span ticks (take (i + 1) points) next seen) in
    let rest = points_fault formats span ticks bodies (take (i + 1) points) (drop (i + 1) points) in
    let count = bodies + length (body_points formats (take (i + 1) points)) in
    let small : count ≤ BODIES = omega (arith, bodies_are, fit) in
    record {
      seen = seen;
      left = sym (own_now formats span ticks bodies points i p s h within is
          ∙ (ap (λ (o : Option AttachError). or_else (or_else o (too_many_bodies count p)) rest) none
          ∙ ap (λ (o : Option AttachError). or_else o rest) (few BODIES count _ small)));
      ticks_fit = (let t = not_many TICKS (s.ticks + point_tick_count span p) _ (or_else_none (own_fault formats p) _ none) in
          let e = ap (λ (n : Seen). n.ticks) made ∙ added_ticks formats span s p in omega (arith, t, e));
      bodies_fit = fit;
    }

pub broken_here : (formats : List Format) (span ticks bodies : ℕ) (points : List Point) (i : ℕ) (p : Point) (s : Seen) (e : AttachError) → NoneBroken formats span ticks bodies points i s → i < length points
    → p ≡ get_or points i p → or_else (own_fault formats p) (too_many_ticks (s.ticks + point_tick_count span p) p) ≡ Some e → points_fault formats span ticks bodies [] points ≡ Some e
broken_here formats span ticks bodies points i p s e h within is fault =
    own_now formats span ticks bodies points i p s h within is
    ∙ ap (λ (o : Option AttachError). or_else (or_else o (too_many_bodies (bodies + length (body_points formats (take (i + 1) points))) p))
    (points_fault formats span ticks bodies (take (i + 1) points) (drop (i + 1) points))) fault

pub crowded_here : (formats : List Format) (span ticks bodies : ℕ) (points : List Point) (i : ℕ) (p : Point) (s next : Seen) → NoneBroken formats span ticks bodies points i s → i < length points → p ≡ get_or points i p
    → or_else (own_fault formats p) (too_many_ticks (s.ticks + point_tick_count span p) p) ≡ None → next ≡ added formats span s p → BODIES < bodies + length (seen_points next)
    → points_fault formats span ticks bodies [] points ≡ Some (TooManyAttached (place_of p))
crowded_here formats span ticks bodies points i p s next h within is none made past =
    let seen = next_seen formats span ticks points i p s next h.seen within is made in
    let bodies_are = ap length (seen_bodies formats span ticks (take (i + 1) points) next seen) in
    let rest = points_fault formats span ticks bodies (take (i + 1) points) (drop (i + 1) points) in
    let count = bodies + length (body_points formats (take (i + 1) points)) in
    let great : BODIES < count = omega (arith, bodies_are, past) in
    own_now formats span ticks bodies points i p s h within is
    ∙ (ap (λ (o : Option AttachError). or_else (or_else o (too_many_bodies count p)) rest) none
    ∙ ap (λ (o : Option AttachError). or_else o rest) (many BODIES count _ great))

-- behind all points
pub all_seen : (formats : List Format) (span ticks bodies : ℕ) (points : List Point) (i : ℕ) (s : Seen) → NoneBroken formats span ticks bodies points i s → length points ≤ i
    → (points_fault formats span ticks bodies [] points ≡ None) × IsSeen formats span ticks points s
all_seen formats span ticks bodies points i s h past = (
  sym h.left ∙ ap (points_fault formats span ticks bodies (take i points)) (drop_all i points past),
  subst (λ (ps : List Point). IsSeen formats span ticks ps s) (take_all i points past) h.seen,
)

-- an error that is handed on
pub handed_on : {X : Type 0} (P : X → Type 0) (r : Result X AttachError) (e f : AttachError) (fault : Option AttachError) → r ≡ Err e → e ≡ f → (f ≢ Memory → fault ≡ Some f) → Answers fault P r
handed_on P r e f fault is same known = rw is (rw same known)
