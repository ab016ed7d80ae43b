-- What one round of a loop adds, where what there is, with what is to come, is the whole.
use Rattle.std.proofs.Common.{◌≡◌, ◌+◌, ◌*◌, ◌<◌, ◌≤◌, ◌++◌, ◌&&◌, ◌||◌, ℕ, suc, nat_eq, Bool, true, false, List, [], ◌∷◌, length, drop, get_or, refl, sym, ap, ◌∙◌, arith, append_assoc, append-nil}
use Rattle.std.proofs.Math.Nat.{mul-le-mul_right}
use Rattle.std.proofs.lemmas.List.{drop_more, drop_all}
use Rattle.std.specs.List.{flat_map, list_any}
use Rattle.bt_ast.specs.declared.attached.Tick.{Tick}
use Rattle.event_layout.specs.declared.format.Format.{Format}
use Rattle.bt_attach.specs.Marks.{either_each}
use Rattle.bt_attach.specs.Rows.{starred, met}
use Rattle.bt_attach.specs.Ticks.{first_ticks}

-- one item, and what is left behind it
one_item : {A : Type 0} (have next all : List A) (x : A) (left rest : List A) → have ++ left ≡ all → left ≡ x ∷ rest → next ≡ have ++ x ∷ [] → next ++ rest ≡ all
one_item have next all x left rest h e n =
    ap (λ (l : List _). l ++ rest) n ∙ (append_assoc have (x ∷ []) rest ∙ (ap (λ (l : List _). have ++ l) (sym e) ∙ h))

-- nothing is left
pub at_end : {X A : Type 0} (F : List X → List A) (xs : List X) (i : ℕ) (have all : List A) → F [] ≡ [] → length xs ≤ i → have ++ F (drop i xs) ≡ all → have ≡ all
at_end F xs i have all none past h =
    sym (append-nil have) ∙ (ap (λ (l : List _). have ++ l) (sym none) ∙ (ap (λ (l : List _). have ++ F l) (sym (drop_all i xs past)) ∙ h))

-- rows of places that are reached
pub starred_more : (row : List Bool) (i : ℕ) (d r reached : Bool) (have next all : List Bool) → i < length row → have ++ starred r (drop i row) ≡ all
    → reached ≡ (r || get_or row i d) → next ≡ have ++ reached ∷ [] → next ++ starred reached (drop (i + 1) row) ≡ all
starred_more row i d r reached have next all within h is n =
    one_item have next all reached (starred r (drop i row)) (starred reached (drop (i + 1) row)) h
    (ap (starred r) (drop_more row i d within) ∙ ap (λ (b : Bool). b ∷ starred b (drop (i + 1) row)) (sym is)) n

pub met_more : (byte : ℕ) (name : List ℕ) (row : List Bool) (i d : ℕ) (e r reached : Bool) (have next all : List Bool) → i < length name → length row ≡ length name + 1
    → have ++ met byte r (drop i row) (drop i name) ≡ all → reached ≡ (get_or row i e && nat_eq (get_or name i d) byte) → next ≡ have ++ r ∷ []
    → next ++ met byte reached (drop (i + 1) row) (drop (i + 1) name) ≡ all
met_more byte name row i d e r reached have next all within long h is n =
    one_item have next all r (met byte r (drop i row) (drop i name)) (met byte reached (drop (i + 1) row) (drop (i + 1) name)) h
    (ap (λ (l : List Bool). met byte r l (drop i name)) (drop_more row i e (omega arith))
    ∙ (ap (met byte r (get_or row i e ∷ drop (i + 1) row)) (drop_more name i d within)
    ∙ ap (λ (b : Bool). r ∷ met byte b (drop (i + 1) row) (drop (i + 1) name)) (sym is))) n

pub met_end : (byte : ℕ) (name : List ℕ) (row : List Bool) (i : ℕ) (r : Bool) (have next all : List Bool) → length name ≤ i → have ++ met byte r row (drop i name) ≡ all → next ≡ have ++ r ∷ [] → next ≡ all
met_end byte name row i r have next all past h n = n ∙ (ap (λ (l : List ℕ). have ++ met byte r row l) (sym (drop_all i name past)) ∙ h)

-- the pieces of one more item
pub piece_more : {X A : Type 0} (f : X → List A) (xs : List X) (i : ℕ) (x : X) (have next all : List A) → i < length xs → x ≡ get_or xs i x → have ++ flat_map f (drop i xs) ≡ all → next ≡ have ++ f x
    → next ++ flat_map f (drop (i + 1) xs) ≡ all
piece_more f xs i x have next all within is h n =
    ap (λ (l : List _). l ++ flat_map f (drop (i + 1) xs)) n
    ∙ (append_assoc have (f x) (flat_map f (drop (i + 1) xs))
    ∙ (ap (λ (y : _). have ++ (f y ++ flat_map f (drop (i + 1) xs))) is ∙ (ap (λ (l : List _). have ++ flat_map f l) (sym (drop_more xs i x within)) ∙ h)))

-- one more tick of a period, and that its time fits
pub tick_more : (start period body k : ℕ) (before have next : List Tick) → have ≡ before ++ first_ticks start period body k
    → next ≡ have ++ (let tick : Tick = record { time = start + (k + 1) * period; body = body } in tick) ∷ [] → next ≡ before ++ first_ticks start period body (k + 1)
tick_more start period body k before have next h n =
    let tick : Tick = record { time = start + (k + 1) * period; body = body } in
    n ∙ (ap (λ (l : List Tick). l ++ tick ∷ []) h
    ∙ (append_assoc before (first_ticks start period body k) (tick ∷ [])
    ∙ ap (λ (m : ℕ). before ++ first_ticks start period body m) (let e : suc k ≡ k + 1 = omega arith in e)))

pub time_within : (period k count : ℕ) → k < count → (k + 1) * period ≤ count * period
time_within period k count h = mul-le-mul_right period (omega arith)

-- marks of formats
or_false : (a : Bool) → (a || false) ≡ a
or_false true = refl
or_false false = refl

or_assoc : (a b c : Bool) → ((a || b) || c) ≡ (a || (b || c))
or_assoc true b c = refl
or_assoc false b c = refl

pub marks_more : (test : Format → Bool) (marks : List Bool) (formats : List Format) (k : ℕ) (d b here : Bool) (f : Format) (have next all : List Bool) → k < length formats → length marks ≡ length formats → f ≡ get_or formats k f
    → have ++ either_each test (drop k marks) (drop k formats) ≡ all → here ≡ test f → b ≡ (get_or marks k d || here) → next ≡ have ++ b ∷ []
    → next ++ either_each test (drop (k + 1) marks) (drop (k + 1) formats) ≡ all
marks_more test marks formats k d b here f have next all within long is h tested either n =
    let rest = either_each test (drop (k + 1) marks) (drop (k + 1) formats) in
    one_item have next all b (either_each test (drop k marks) (drop k formats)) rest h
    (ap (λ (l : List Bool). either_each test l (drop k formats)) (drop_more marks k d (omega arith))
    ∙ (ap (either_each test (get_or marks k d ∷ drop (k + 1) marks)) (drop_more formats k f within)
    ∙ (ap (λ (g : Format). (get_or marks k d || test g) ∷ rest) (sym is) ∙ (ap (λ (v : Bool). (get_or marks k d || v) ∷ rest) (sym tested) ∙ ap (λ (v : Bool). v ∷ rest) (sym either))))) n

pub marks_end : (test : Format → Bool) (marks : List Bool) (formats : List Format) (k : ℕ) (have all : List Bool) → length formats ≤ k → length marks ≡ length formats
    → have ++ either_each test (drop k marks) (drop k formats) ≡ all → have ≡ all
marks_end test marks formats k have all past long h =
    at_end (λ (l : List Bool). either_each test l (drop k formats)) marks k have all refl (omega (arith, past, long)) h

pub found_more : (test : Format → Bool) (formats : List Format) (k : ℕ) (f : Format) (here found seen any : Bool) → k < length formats → f ≡ get_or formats k f → here ≡ test f → seen ≡ (found || here)
    → (found || list_any test (drop k formats)) ≡ any → (seen || list_any test (drop (k + 1) formats)) ≡ any
found_more test formats k f here found seen any within is tested s h =
    let rest = list_any test (drop (k + 1) formats) in
    ap (λ (v : Bool). v || rest) s
    ∙ (or_assoc found here rest
    ∙ (ap (λ (v : Bool). found || (v || rest)) tested
    ∙ (ap (λ (g : Format). found || (test g || rest)) is ∙ (ap (λ (l : List Format). found || list_any test l) (sym (drop_more formats k f within)) ∙ h))))

pub found_end : (test : Format → Bool) (formats : List Format) (k : ℕ) (found any : Bool) → length formats ≤ k → (found || list_any test (drop k formats)) ≡ any → found ≡ any
found_end test formats k found any past h = sym (or_false found) ∙ (ap (λ (l : List Format). found || list_any test l) (sym (drop_all k formats past)) ∙ h)
