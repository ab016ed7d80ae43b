-- Ticks: their bodies are those of intervals, they stand in turn, and none comes or goes as they are put in order.
use Rattle.std.proofs.Common.{◌≡◌, ◌+◌, ◌/◌, ◌<◌, ◌≤◌, ◌++◌, ℕ, zero, suc, Bool, true, false, ◌||◌, List, [], ◌∷◌, length, map, Option, Some, None, slice_get, get_or, refl, sym, ap, ◌∙◌, subst, arith, rules, append_assoc}
use Rattle.std.specs.List.{AllByRecursion, list_any, flat_map}
use Rattle.std.specs.Ordering.{nat_cmp, is_lt}
use Rattle.std.specs.List.Sorted.{IsSortedByKey}
use Rattle.std.proofs.lemmas.List.{length-append, length-map}
use Rattle.std.proofs.lemmas.List.Sorted.{ties_still_rise}
use Rattle.std.proofs.lemmas.Bool.Decides.{nat_tests}
use Rattle.std.specs.Option.{option_map}
use Rattle.bt_ast.specs.declared.attached.BodyId.{BodyId}
use Rattle.bt_ast.specs.declared.attached.BodyPoint.{BodyPoint}
use Rattle.bt_ast.specs.declared.attached.BodyPoint.TheVariants.{Interval as AtTicks, Event}
use Rattle.bt_ast.specs.declared.attached.Tick.{Tick}
use Rattle.bt_ast.specs.declared.probe.Point.{Point}
use Rattle.bt_ast.specs.declared.probe.Point.TheVariants.{Begin, End, Tracepoint, Interval}
use Rattle.bt_ast.specs.declared.probe.Probe.{Probe}
use Rattle.event_layout.specs.declared.format.Format.{Format}
use Rattle.bt_attach.specs.Ticks.{first_ticks, ticks_by, period_in, AreInOrder}
use Rattle.bt_attach.specs.Attaching.{is_interval, is_matched, once, places, begin_and_end, body_points, bodies_from, point_ticks, ticks_from}
use Rattle.std.proofs.lemmas.Option.{slice_get_within, get_or_from_slice_get}
use Rattle.actor_plan.specs.Agendas.{AreInTurn}
use Rattle.job_laws.proofs.Lists.{get_behind, get_front, alike_lengths, alike_all}

both : {A : Type 0} (P : A → Type 0) (xs ys : List A) → AllByRecursion P xs → AllByRecursion P ys → AllByRecursion P (xs ++ ys)
both P [] ys f g = g
both P (x ∷ xs) ys f g = (f.0, both P xs ys f.1 g)

weaker : {A : Type 0} (P Q : A → Type 0) → ((x : A) → P x → Q x) → (xs : List A) → AllByRecursion P xs → AllByRecursion Q xs
weaker P Q f [] g = tt
weaker P Q f (x ∷ xs) g = (f x g.0, weaker P Q f xs g.1)

-- ---- whose body a tick runs

-- a tick of a probe's points runs the body with this number, and one of the points is an interval
record IsTickOf (body : ℕ) (points : List Point) (t : Tick) : Type 0 where
  runs : t.body ≡ body
  some : list_any is_interval points ≡ true

first_of : (start period body k : ℕ) (points : List Point) → list_any is_interval points ≡ true → AllByRecursion (IsTickOf body points) (first_ticks start period body k)
first_of start period body zero points e = tt
first_of start period body (suc k) points e = both (IsTickOf body points) (first_ticks start period body k) _ (first_of start period body k points e) (record { runs = refl; some = e }, tt)

by_of : (start span body : ℕ) (period : Option ℕ) (points : List Point) → list_any is_interval points ≡ true → AllByRecursion (IsTickOf body points) (ticks_by start span body period)
by_of start span body None points e = tt
by_of start span body (Some period) points e = first_of start period body (span / period) points e

point_of : (start span body : ℕ) (p : Point) (points : List Point) → (is_interval p ≡ true → list_any is_interval points ≡ true) → AllByRecursion (IsTickOf body points) (point_ticks start span body p)
point_of start span body (Begin place) points e = tt
point_of start span body (End place) points e = tt
point_of start span body (Tracepoint system name place) points e = tt
point_of start span body (Interval unit number place) points e = by_of start span body (period_in unit number) points (e refl)

any_here : (p : Point) (ps : List Point) → is_interval p ≡ true → list_any is_interval (p ∷ ps) ≡ true
any_here p ps e = rw e refl

any_later : (p : Point) (ps : List Point) → list_any is_interval ps ≡ true → list_any is_interval (p ∷ ps) ≡ true
any_later p ps e = by (is_interval p) refl
  where
    by : (b : Bool) → is_interval p ≡ b → (is_interval p || list_any is_interval ps) ≡ true
    by true f = rw f refl
    by false f = rw f e

points_of : (start span body : ℕ) (points : List Point) → AllByRecursion (IsTickOf body points) (flat_map (point_ticks start span body) points)
points_of start span body [] = tt
points_of start span body (p ∷ ps) =
    both (IsTickOf body (p ∷ ps)) (point_ticks start span body p) (flat_map (point_ticks start span body) ps)
    (point_of start span body p (p ∷ ps) (any_here p ps))
    (weaker (IsTickOf body ps) (IsTickOf body (p ∷ ps)) (λ t h. record { runs = h.runs; some = any_later p ps h.some }) _ (points_of start span body ps))

-- an interval's body stands behind those of BEGIN and END
interval_at : (formats : List Format) (points : List Point) → list_any is_interval points ≡ true
    → slice_get (body_points formats points) (length (begin_and_end points)) ≡ Some AtTicks
interval_at formats points e =
    subst (λ (b : Bool). slice_get (begin_and_end points ++ (once b AtTicks ++ map Event (places (is_matched points) formats))) (length (begin_and_end points)) ≡ Some AtTicks) (sym e)
    (get_behind (begin_and_end points) AtTicks (map Event (places (is_matched points) formats)))

-- the body of a tick is that of an interval
pub record IsIntervals (ids : List BodyId) (t : Tick) : Type 0 where
  pub id : BodyId
  pub there : slice_get ids t.body ≡ Some id
  pub point : id.point ≡ AtTicks

get_mapped : {A B : Type 0} (f : A → B) (xs : List A) (i : ℕ) (x : A) → slice_get xs i ≡ Some x → slice_get (map f xs) i ≡ Some (f x)
get_mapped {A = A} {B = B} f [] i x e = cc
get_mapped f (z ∷ xs) zero x e = ap (option_map f) e
get_mapped f (z ∷ xs) (suc i) x e = get_mapped f xs i x e

get_after : {A : Type 0} (xs ys : List A) (i : ℕ) → slice_get (xs ++ ys) (length xs + i) ≡ slice_get ys i
get_after [] ys i = let same : 0 + i ≡ i = omega arith in ap (λ n. slice_get ys n) same
get_after {A = A} (x ∷ xs) ys i =
    let same : suc (length xs) + i ≡ suc (length xs + i) = omega arith in
    ap (λ n. slice_get {X = A} (x ∷ (xs ++ ys)) n) same ∙ get_after xs ys i

-- the ticks of some probes, whose bodies stand behind those of the probes before
pub ticks_are : (start span : ℕ) (formats : List Format) (n probe : ℕ) (front : List BodyId) (ps : List Probe) → n ≡ length front
    → AllByRecursion (IsIntervals (front ++ bodies_from formats probe ps)) (ticks_from start span formats n ps)
ticks_are start span formats n probe front [] e = tt
ticks_are start span formats n probe front (p ∷ ps) e =
    let own = map (λ (point : BodyPoint). record { probe = probe; point = point }) (body_points formats p.points) in
    let later = bodies_from formats (probe + 1) ps in
    let long = length-map {B = BodyId} (body_points formats p.points) (λ (point : BodyPoint). record { probe = probe; point = point }) in
    let joined = length-append front own in
    both (IsIntervals (front ++ (own ++ later))) (flat_map (point_ticks start span (n + length (begin_and_end p.points))) p.points) (ticks_from start span formats (n + length (body_points formats p.points)) ps)
    (weaker (IsTickOf (n + length (begin_and_end p.points)) p.points) (IsIntervals (front ++ (own ++ later)))
    (λ t h. record {
      id = record { probe = probe; point = AtTicks };
      there = ap (λ i. slice_get (front ++ (own ++ later)) i) (h.runs ∙ ap (λ m. m + length (begin_and_end p.points)) e)
          ∙ get_after front (own ++ later) (length (begin_and_end p.points))
          ∙ get_front own later (length (begin_and_end p.points)) _ (get_mapped (λ (point : BodyPoint). record { probe = probe; point = point }) (body_points formats p.points) (length (begin_and_end p.points)) AtTicks (interval_at formats p.points h.some));
      point = refl;
    })
    _ (points_of start span (n + length (begin_and_end p.points)) p.points))
    (subst (λ (l : List BodyId). AllByRecursion (IsIntervals l) (ticks_from start span formats (n + length (body_points formats p.points)) ps)) (append_assoc front own later)
    (ticks_are start span formats (n + length (body_points formats p.points)) (probe + 1) (front ++ own) ps (omega (arith, e, long, joined))))

-- ---- ticks that are put in order

abbrev by_time : Tick → Tick → Bool
by_time s t = is_lt (nat_cmp s.time t.time)

-- the bodies do not fall, and are none below this number
abbrev Up : ℕ → List Tick → Type 0
Up m [] = Unit {0}
Up m (t ∷ ts) = (m ≤ t.body) × Up t.body ts

up_lower : (m n : ℕ) (ts : List Tick) → m ≤ n → Up n ts → Up m ts
up_lower m n [] le h = tt
up_lower m n (t ∷ ts) le h = let low = h.0 in (omega (arith, le, low), h.1)

up_same : (m b : ℕ) (points : List Point) (ts us : List Tick) → m ≤ b → AllByRecursion (IsTickOf b points) ts → Up b us → Up m (ts ++ us)
up_same m b points [] us le h g = up_lower m b us le g
up_same m b points (t ∷ ts) us le h g =
    let e = h.0.runs in
    (omega (arith, le, e), subst (λ n. Up n (ts ++ us)) (sym e) (up_same b b points ts us (omega arith) h.1 g))

up_from : (start span : ℕ) (formats : List Format) (n : ℕ) (ps : List Probe) → Up n (ticks_from start span formats n ps)
up_from start span formats n [] = tt
up_from start span formats n (p ∷ ps) =
    let long = length-append (begin_and_end p.points) (once (list_any is_interval p.points) AtTicks ++ map Event (places (is_matched p.points) formats)) in
    up_same n (n + length (begin_and_end p.points)) p.points (flat_map (point_ticks start span (n + length (begin_and_end p.points))) p.points) _ (omega arith)
    (points_of start span (n + length (begin_and_end p.points)) p.points)
    (up_lower (n + length (begin_and_end p.points)) (n + length (body_points formats p.points)) _ (omega (arith, long))
    (up_from start span formats (n + length (body_points formats p.points)) ps))

not_less : (a b : ℕ) → a ≤ b → is_lt (nat_cmp b a) ≡ false
not_less a b h = grind (arith, nat_tests)

at_most : (a b : ℕ) → is_lt (nat_cmp b a) ≡ false → a ≤ b
at_most a b h = grind (arith, nat_tests)

up_sorted : (m : ℕ) (ts : List Tick) → Up m ts → IsSortedByKey (λ (t : Tick). t.body) nat_cmp ts
up_sorted m [] h k d low within = absurd (omega (arith, within))
up_sorted m (t ∷ []) h k d low within = absurd (omega (arith, within))
up_sorted m (t ∷ u ∷ ts) h zero d low within = not_less t.body u.body h.1.0
up_sorted m (t ∷ u ∷ ts) h (suc k) d low within =
    let same : suc k + 1 ≡ suc (k + 1) = omega arith in
    subst (λ n. is_lt (nat_cmp (get_or (t ∷ u ∷ ts) n d).body (get_or (u ∷ ts) k d).body) ≡ false) (sym same)
    (up_sorted t.body (u ∷ ts) h.1 k d (omega arith) (omega (arith, within)))

module _ (start span : ℕ) (formats : List Format) (ps : List Probe) (ticks : List Tick) (ordered : AreInOrder (ticks_from start span formats 0 ps) ticks) where
  abbrev pub made : List Tick
  made = ticks_from start span formats 0 ps

  pub ticks_count : length ticks ≡ length made
  ticks_count = alike_lengths by_time (λ t. search rules) (length made) made ticks (omega arith) ordered.by_point

  pub ticks_run : AllByRecursion (IsIntervals (bodies_from formats 0 ps)) ticks
  ticks_run = alike_all by_time (λ t. search rules) (IsIntervals (bodies_from formats 0 ps)) made ticks ordered.by_point (ticks_are start span formats 0 0 [] ps refl)

  pub ticks_in_turn : AreInTurn ticks
  ticks_in_turn = record {
    times = λ k s t e f.
        let within = slice_get_within ticks (suc k) t f in
        let g = get_or_from_slice_get ticks k s s e in
        let h = get_or_from_slice_get ticks (suc k) t s f in
        let sorted = ordered.by_time k s (omega arith) (omega (arith, within)) in
        times_rise k s t g h sorted;
    bodies = λ k s t e f same.
        let within = slice_get_within ticks (suc k) t f in
        let g = get_or_from_slice_get ticks k s s e in
        let h = get_or_from_slice_get ticks (suc k) t s f in
        bodies_rise k s t g h same (omega (arith, within));
  }
    where
      next : (k : ℕ) → k + 1 ≡ suc k
      next k = omega arith

      times_rise : (k : ℕ) (s t : Tick) → get_or ticks k s ≡ s → get_or ticks (suc k) s ≡ t
          → is_lt (nat_cmp (get_or ticks (k + 1) s).time (get_or ticks k s).time) ≡ false → s.time ≤ t.time
      times_rise k s t g h sorted =
          let a : is_lt (nat_cmp t.time s.time) ≡ false = subst (λ (x : Tick). is_lt (nat_cmp x.time s.time) ≡ false) (ap (λ n. get_or ticks n s) (next k) ∙ h)
          (subst (λ (x : Tick). is_lt (nat_cmp (get_or ticks (k + 1) s).time x.time) ≡ false) g sorted) in
          at_most s.time t.time a

      bodies_rise : (k : ℕ) (s t : Tick) → get_or ticks k s ≡ s → get_or ticks (suc k) s ≡ t → s.time ≡ t.time → k + 1 < length ticks → s.body ≤ t.body
      bodies_rise k s t g h same within =
          let h' = ap (λ n. get_or ticks n s) (next k) ∙ h in
          let ends : (get_or ticks k s).time ≡ (get_or ticks (k + 1) s).time = ap (λ (x : Tick). x.time) g ∙ same ∙ sym (ap (λ (x : Tick). x.time) h') in
          let rise = ties_still_rise (λ (x : Tick). x.body) (λ (x : Tick). x.time) made ticks (up_sorted 0 made (up_from start span formats 0 ps)) ordered.by_point k s within ends in
          subst (λ (x : Tick). x.body ≤ t.body) g (subst (λ (x : Tick). (get_or ticks k s).body ≤ x.body) h' rise)
