-- Bodies that were checked, one behind the other.
use Rattle.std.proofs.Common.{◌≡◌, ◌++◌, ◌+◌, ℕ, ◌<◌, ◌≤◌, suc, List, [], ◌∷◌, length, map, take, drop, get_or, Option, Some, Result, Ok, Err, IsErrAnd, MatchResult, slice_get, refl, sym, ap, subst, ◌∙◌, arith, drop-cons, append-nil}
use Rattle.std.specs.List.{AllZip}
use Rattle.std.proofs.lemmas.List.{take_all, take-append-drop}
use Rattle.std.proofs.Math.Seq.{take-suc}
use Rattle.bt_ast.specs.declared.attached.BodyId.{BodyId}
use Rattle.bt_ast.specs.declared.probe.Probe.{Probe}
use Rattle.bt_ast.specs.declared.probe.Script.{Script}
use Rattle.event_layout.specs.declared.format.Format.{Format}
use Rattle.event_layout.specs.declared.layout.Layout.{Layout}
use Rattle.bt_types.specs.declared.body.OpenBody.{OpenBody}
use Rattle.expr_types.specs.declared.fault.Fault.{Fault}
use Rattle.expr_types.specs.declared.fault.TypeError.{TypeError}
use Rattle.expr_types.specs.declared.known.Known.{Known}
use Rattle.bt_types.specs.Bodies.{begun_told, body_told, layout_at, script_told, told_at}
use Rattle.expr_types.specs.Grows.{Grows}
use Rattle.expr_types.specs.Judge.{judged, SaysFault}
use Rattle.expr_types.specs.Known.{begun}
use Rattle.expr_types.specs.Mentions.{Point}
use Rattle.bt_types.specs.Open.{BodyDone, OneDone, HasNumbers, IsOpen, BodiesDone, again}
use Rattle.bt_types.specs.Told.{Told, told_in_turn}
use Rattle.bt_types.specs.Under.{IsUnder, AreBehind, known_or, known_behind}
use Rattle.expr_types.proofs.Growing.{grows_none, grows_on}
use Rattle.expr_types.proofs.Judging.{judged_ok, judged_err}
use Rattle.bt_types.proofs.Runs.{map_more, map_both, points_both}
use Rattle.bt_types.proofs.Turns.{fault_first}

one_more : (i : ℕ) → suc i ≡ i + 1
one_more i = omega arith

-- one more is judged, and a fault of one more
whole_more : {A : Type 0} (f : A → Told) (xs : List A) (i : ℕ) (x : A) (k0 k1 k2 : Known) → i < length xs → x ≡ get_or xs i x → judged (told_in_turn (map f (take i xs))).points k0 ≡ Ok k1 → judged (f x).points k1 ≡ Ok k2
    → judged (told_in_turn (map f (take (i + 1) xs))).points k0 ≡ Ok k2
whole_more f xs i x k0 k1 k2 within is c d =
    let longer : take (i + 1) xs ≡ take i xs ++ x ∷ [] = ap (λ (n : ℕ). take n xs) (sym (one_more i)) ∙ (take-suc xs i x within ∙ ap (λ z. take i xs ++ z ∷ []) (sym is)) in
    rw (longer, map_more f (take i xs) x, points_both (map f (take i xs)) (f x ∷ []), append-nil (f x).points)
    (judged_ok (told_in_turn (map f (take i xs))).points (f x).points k0 k1 c ∙ d)

whole_refused : {A : Type 0} (f : A → Told) (xs : List A) (i : ℕ) (x : A) (k0 k1 : Known) (e : TypeError) → i < length xs → x ≡ get_or xs i x → judged (told_in_turn (map f (take i xs))).points k0 ≡ Ok k1
    → SaysFault (judged (f x).points k1) e → SaysFault (judged (told_in_turn (map f xs)).points k0) e
whole_refused {A} f xs i x k0 k1 e within is c h =
    let rest : drop i xs ≡ x ∷ drop (suc i) xs = drop-cons xs i x within ∙ ap (λ z. z ∷ drop (suc i) xs) (sym is) in
    let parted : map f xs ≡ map f (take i xs) ++ f x ∷ map f (drop (suc i) xs) =
    ap (λ (l : List A). map f l) (sym (take-append-drop i xs)) ∙ (map_both f (take i xs) (drop i xs) ∙ ap (λ (l : List A). map f (take i xs) ++ map f l) rest) in
    rw (parted, points_both (map f (take i xs)) (f x ∷ map f (drop (suc i) xs)))
    (subst (λ (v : Result Known Fault). SaysFault v e) (sym (judged_ok (told_in_turn (map f (take i xs))).points (told_in_turn (f x ∷ map f (drop (suc i) xs))).points k0 k1 c))
    (fault_first (f x).points (told_in_turn (map f (drop (suc i) xs))).points k1 e h))

-- a body that is open stays so while others are checked
again_later : (past k0 k1 : Known) (event : Option Layout) → Grows past (again past k0) → Grows (begun k0 event) k1 → Grows past (again past k1)
again_later past k0 k1 event g h =
    let same = grows_none past in
    grows_on past (again past k0) (again past k1) g
    (record { event = refl; vars = same.vars; named = same.named; calls = same.calls; names = h.names; decided = h.decided; printed = h.printed })

open_later : (script : Script) (formats : List Format) (k0 k1 : Known) (event : Option Layout) (id : BodyId) (body : OpenBody) → Grows (begun k0 event) k1 → IsOpen script formats k0 id body → IsOpen script formats k1 id body
open_later script formats k0 k1 event id body g o =
    record {
      probe = o.probe;
      of_probe = o.of_probe;
      past = o.past;
      grows = again_later o.past k0 k1 event o.grows g;
      fits = o.fits;
      written = o.written;
      layout = o.layout;
      keeps = o.keeps;
    }

opens_later : (script : Script) (formats : List Format) (k0 k1 : Known) (event : Option Layout) (ids : List BodyId) (bodies : List OpenBody) → Grows (begun k0 event) k1 → AllZip (IsOpen script formats k0) ids bodies
    → AllZip (IsOpen script formats k1) ids bodies
opens_later script formats k0 k1 event [] [] g h = tt
opens_later script formats k0 k1 event [] (b ∷ bs) g h = absurd h
opens_later script formats k0 k1 event (i ∷ is) [] g h = absurd h
opens_later script formats k0 k1 event (i ∷ is) (b ∷ bs) g h = (open_later script formats k0 k1 event i b g h.0, opens_later script formats k0 k1 event is bs g h.1)

zip_more : {A B : Type 0} (R : A → B → Type 0) (xs : List A) (ys : List B) (x : A) (y : B) → AllZip R xs ys → R x y → AllZip R (xs ++ x ∷ []) (ys ++ y ∷ [])
zip_more R [] [] x y h r = (r, tt)
zip_more R [] (b ∷ bs) x y h r = absurd h
zip_more R (a ∷ as_) [] x y h r = absurd h
zip_more R (a ∷ as_) (b ∷ bs) x y h r = (h.0, zip_more R as_ bs x y h.1 r)

-- a body that was just checked
just_open : (script : Script) (formats : List Format) (id : BodyId) (k0 k1 : Known) (body : OpenBody) → OneDone script formats id k0 k1 body → IsOpen script formats k1 id body
just_open script formats id k0 k1 body o =
    let d = o.done in
    record { probe = o.probe; of_probe = o.of_probe; past = k1; grows = grows_none k1; fits = d.done.fits; written = d.done.written; layout = d.layout; keeps = d.keeps }

pub told_is : (script : Script) (formats : List Format) (id : BodyId) (probe : Probe) → slice_get script.probes id.probe ≡ Some probe → told_at script formats id ≡ begun_told formats id.point (Some probe)
told_is script formats id probe p = ap (begun_told formats id.point) p

-- an answer of a probe is one of the body
pub one_done : (script : Script) (formats : List Format) (id : BodyId) (probe : Probe) (k0 k1 : Known) (r : Result OpenBody TypeError) → slice_get script.probes id.probe ≡ Some probe
    → MatchResult r (λ body. BodyDone formats id.point probe k0 k1 body) (λ e. SaysFault (judged (body_told probe).points (begun k0 (layout_at formats id.point))) e)
    → MatchResult r (λ body. OneDone script formats id k0 k1 body) (λ e. SaysFault (judged (told_at script formats id).points k0) e)
one_done script formats id probe k0 k1 (Ok body) p h = record { probe = probe; of_probe = p; done = h }
one_done script formats id probe k0 k1 (Err e) p h = subst (λ (t : Told). SaysFault (judged t.points k0) e) (sym (told_is script formats id probe p)) h

pub bodies_begin : (script : Script) (formats : List Format) (k : Known) → BodiesDone script formats [] k k []
bodies_begin script formats k = record { whole = refl; each = tt; under = tt; numbers = tt }

-- what is judged behind the first of two lists
rest_judged : (ps qs : List Point) (before now : Known) → judged (ps ++ qs) before ≡ Ok now → judged qs (known_or before (judged ps before)) ≡ Ok now
rest_judged ps qs before now j = by (judged ps before) refl
  where
    by : (r : Result Known Fault) → judged ps before ≡ r → judged qs (known_or before r) ≡ Ok now
    by (Ok mid) e = sym (judged_ok ps qs before mid e) ∙ j
    by (Err f) e = absurd (let bad : Err f ≡ Ok now = sym (judged_err ps qs before f e) ∙ j in cc)

ok_same : (a b : Known) → ◌≡◌ {A = Result Known Fault} (Ok a) (Ok b) → a ≡ b
ok_same a b e = cc

-- one more
behind_more : {A : Type 0} (Is : Known → BodyId → A → Type 0) (script : Script) (formats : List Format) (ids : List BodyId) (xs : List A) (before now : Known) (id : BodyId) (x : A)
    → AreBehind Is script formats before ids xs → judged (told_in_turn (map (told_at script formats) ids)).points before ≡ Ok now
    → Is (known_behind script formats now id) id x → AreBehind Is script formats before (ids ++ id ∷ []) (xs ++ x ∷ [])
behind_more Is script formats [] [] before now id x h j u = (subst (λ (k : Known). Is (known_behind script formats k id) id x) (sym (ok_same before now j)) u, tt)
behind_more Is script formats [] (y ∷ ys) before now id x h j u = absurd h
behind_more Is script formats (i ∷ is) [] before now id x h j u = absurd h
behind_more Is script formats (i ∷ is) (y ∷ ys) before now id x h j u =
    let rest = rest_judged (told_at script formats i).points (told_in_turn (map (told_at script formats) is)).points before now j in
    (h.0, behind_more Is script formats is ys (known_behind script formats before i) now id x h.1 rest u)

-- what is known behind a body that was just checked is what is known now
known_now : (script : Script) (formats : List Format) (id : BodyId) (k0 k1 : Known) (body : OpenBody) → OneDone script formats id k0 k1 body → known_behind script formats k0 id ≡ k1
known_now script formats id k0 k1 body o =
    ap (λ (t : Told). known_or k0 (judged t.points k0)) (told_is script formats id o.probe o.of_probe) ∙ ap (known_or k0) o.done.done.whole

-- a body that was just checked is typed under what is known now, and has the numbers of what it has named
just_under : (script : Script) (formats : List Format) (id : BodyId) (k0 k1 : Known) (body : OpenBody) → OneDone script formats id k0 k1 body
    → IsUnder (known_behind script formats k0 id) (told_at script formats id).words body.tree
just_under script formats id k0 k1 body o =
    let d = o.done in
    let words : (body_told o.probe).words ≡ (told_at script formats id).words = ap (λ (t : Told). t.words) (sym (told_is script formats id o.probe o.of_probe)) in
    subst (λ (k : Known). IsUnder k (told_at script formats id).words body.tree) (sym (known_now script formats id k0 k1 body o))
    (record { variables = d.keeps.variables; fits = d.done.fits; written = d.done.written ∙ words })

just_numbered : (script : Script) (formats : List Format) (id : BodyId) (k0 k1 : Known) (body : OpenBody) → OneDone script formats id k0 k1 body → HasNumbers (known_behind script formats k0 id) body
just_numbered script formats id k0 k1 body o =
    subst (λ (k : Known). HasNumbers k body) (sym (known_now script formats id k0 k1 body o)) (record { named = o.done.keeps.named; calls = o.done.keeps.calls })

pub bodies_more : (script : Script) (formats : List Format) (ids : List BodyId) (i : ℕ) (id : BodyId) (k0 k1 k2 : Known) (bodies : List OpenBody) (body : OpenBody) → i < length ids → id ≡ get_or ids i id
    → BodiesDone script formats (take i ids) k0 k1 bodies → OneDone script formats id k1 k2 body → BodiesDone script formats (take (i + 1) ids) k0 k2 (bodies ++ body ∷ [])
bodies_more script formats ids i id k0 k1 k2 bodies body within is c d =
    let longer : take (i + 1) ids ≡ take i ids ++ id ∷ [] = ap (λ (n : ℕ). take n ids) (sym (one_more i)) ∙ (take-suc ids i id within ∙ ap (λ z. take i ids ++ z ∷ []) (sym is)) in
    record {
      whole = whole_more (told_at script formats) ids i id k0 k1 k2 within is c.whole (ap (λ (t : Told). judged t.points k1) (told_is script formats id d.probe d.of_probe) ∙ d.done.done.whole);
      each = subst (λ (l : List BodyId). AllZip (IsOpen script formats k2) l (bodies ++ body ∷ [])) (sym longer)
          (zip_more (IsOpen script formats k2) (take i ids) bodies id body (opens_later script formats k1 k2 (layout_at formats id.point) (take i ids) bodies d.done.done.grows c.each) (just_open script formats id k1 k2 body d));
      under = rw (longer, map_more (λ (b : OpenBody). b.tree) bodies body)
          (behind_more (λ k b tree. IsUnder k (told_at script formats b).words tree) script formats (take i ids) (map (λ (b : OpenBody). b.tree) bodies) k0 k1 id body.tree c.under c.whole (just_under script formats id k1 k2 body d));
      numbers = rw longer (behind_more (λ k b body. HasNumbers k body) script formats (take i ids) bodies k0 k1 id body c.numbers c.whole (just_numbered script formats id k1 k2 body d));
    }

pub bodies_refused : (script : Script) (formats : List Format) (ids : List BodyId) (i : ℕ) (id : BodyId) (k0 k1 : Known) (bodies : List OpenBody) (e : TypeError) → i < length ids → id ≡ get_or ids i id
    → BodiesDone script formats (take i ids) k0 k1 bodies → SaysFault (judged (told_at script formats id).points k1) e → SaysFault (judged (script_told script formats ids).points k0) e
bodies_refused script formats ids i id k0 k1 bodies e within is c h = whole_refused (told_at script formats) ids i id k0 k1 e within is c.whole h

-- an error that is handed on
pub bodies_err : (script : Script) (formats : List Format) (ids : List BodyId) (k0 k1 : Known) (r : Result (List OpenBody) TypeError) (f : TypeError) → IsErrAnd r (λ e. e ≡ f) → SaysFault (judged (script_told script formats ids).points k0) f
    → MatchResult r (λ all. BodiesDone script formats ids k0 k1 all) (λ e. SaysFault (judged (script_told script formats ids).points k0) e)
bodies_err script formats ids k0 k1 (Ok all) f is h = absurd is
bodies_err script formats ids k0 k1 (Err e) f is h = subst (λ (x : TypeError). SaysFault (judged (script_told script formats ids).points k0) x) (sym is) h

pub bodies_end : (script : Script) (formats : List Format) (ids : List BodyId) (i : ℕ) (k0 k1 : Known) (bodies : List OpenBody) → length ids ≤ i → BodiesDone script formats (take i ids) k0 k1 bodies → BodiesDone script formats ids k0 k1 bodies
bodies_end script formats ids i k0 k1 bodies past c = subst (λ (l : List BodyId). BodiesDone script formats l k0 k1 bodies) (take_all i ids past) c
