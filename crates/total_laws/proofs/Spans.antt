-- Entries of several lists, one after the other.
use Rattle.std.proofs.Common.{◌≡◌, ℕ, zero, suc, ◌+◌, ◌<◌, ◌≤◌, ◌==◌, ◌||◌, Bool, true, false, cond, List, [], ◌∷◌, ◌++◌, length, refl, sym, ap, ◌∙◌, inl, inr, eq-eqb, ne_eqb, append-nil, append_assoc, arith}
use Rattle.std.specs.Prelude.{slice_get, Some}
use Rattle.std.specs.List.{flat_map, range_with_len}
use mathlib.Core.Logic.{dite}
use native.Mathlib.Decide.{ℕ_discrete}
use Rattle.bt_core.specs.declared.value.Value.{Value}
use Rattle.weave.proofs.Less.{less_or_not}
use Rattle.bt_meaning.specs.Totals.{Addition, addition_keys}
use Rattle.total_laws.proofs.Alike.{Alike, alike_same, alike_trans, alike_append, alike_middle, alike_sym}
use Rattle.total_laws.proofs.Given.{named, ascends-entry_keys, has-entry_keys, named-append}
use Rattle.total_laws.proofs.Members.{fewer_keys}

pub flat_map-none : (xs : List ℕ) → flat_map {A = Addition} (λ x. []) xs ≡ []
flat_map-none [] = refl
flat_map-none (x ∷ xs) = flat_map-none xs

pub flat_map_both : {X A : Type 0} (f : X → List A) (xs ys : List X) → flat_map f (xs ++ ys) ≡ flat_map f xs ++ flat_map f ys
flat_map_both f [] ys = refl
flat_map_both f (x ∷ xs) ys = ap (λ (l : List _). f x ++ l) (flat_map_both f xs ys) ∙ sym (append_assoc (f x) (flat_map f xs) (flat_map f ys))

-- one more number at the end of a range
pub range_more : (first n : ℕ) → range_with_len first (suc n) ≡ range_with_len first n ++ (first + n) ∷ []
range_more first zero = let e : first ≡ first + 0 = omega arith in ap (λ (x : ℕ). x ∷ []) e
range_more first (suc n) =
    let e : first + 1 + n ≡ first + suc n = omega arith in
    ap (λ (l : List ℕ). first ∷ l) (range_more (first + 1) n ∙ ap (λ (x : ℕ). range_with_len (first + 1) n ++ x ∷ []) e)

-- of the one and the other of each
pub alike_both : (f g : ℕ → List Addition) (xs : List ℕ) → Alike (flat_map (λ x. f x ++ g x) xs) (flat_map f xs ++ flat_map g xs)
alike_both f g [] = alike_same [] [] refl
alike_both f g (x ∷ xs) =
    let fs = flat_map f xs in let gs = flat_map g xs in let both = flat_map (λ x. f x ++ g x) xs in
    alike_trans ((f x ++ g x) ++ both) ((f x ++ g x) ++ (fs ++ gs)) ((f x ++ fs) ++ (g x ++ gs))
    (alike_append (f x ++ g x) both (f x ++ g x) (fs ++ gs) (alike_same (f x ++ g x) (f x ++ g x) refl) (alike_both f g xs))
    (alike_middle (f x) (g x) fs gs)

-- two lists change places
pub alike_swap : (g : ℕ → ℕ → List Addition) (xs ys : List ℕ)
    → Alike (flat_map (λ x. flat_map (λ y. g x y) ys) xs) (flat_map (λ y. flat_map (λ x. g x y) xs) ys)
alike_swap g [] ys = alike_same [] (flat_map (λ y. []) ys) (sym (flat_map-none ys))
alike_swap g (x ∷ xs) ys =
    let first = flat_map (λ y. g x y) ys in
    let rest = flat_map (λ x. flat_map (λ y. g x y) ys) xs in
    let swapped = flat_map (λ y. flat_map (λ x. g x y) xs) ys in
    let both = flat_map (λ y. g x y ++ flat_map (λ x. g x y) xs) ys in
    alike_trans (first ++ rest) (first ++ swapped) both
    (alike_append first rest first swapped (alike_same first first refl) (alike_swap g xs ys))
    (alike_sym both (first ++ swapped) (alike_both (λ y. g x y) (λ y. flat_map (λ x. g x y) xs) ys))

pub alike_range : (f g : ℕ → List Addition) (first n : ℕ) → ((a : ℕ) → first ≤ a → a < first + n → Alike (f a) (g a))
    → Alike (flat_map f (range_with_len first n)) (flat_map g (range_with_len first n))
alike_range f g first zero same = alike_same [] [] refl
alike_range f g first (suc n) same =
    alike_append (f first) (flat_map f (range_with_len (first + 1) n)) (g first) (flat_map g (range_with_len (first + 1) n))
    (same first (omega arith) (omega arith)) (alike_range f g (first + 1) n (λ a le lt. same a (omega arith) (omega arith)))

pub range_same : {A : Type 0} (f g : ℕ → List A) (first n : ℕ) → ((a : ℕ) → first ≤ a → a < first + n → f a ≡ g a)
    → flat_map f (range_with_len first n) ≡ flat_map g (range_with_len first n)
range_same f g first zero same = refl
range_same f g first (suc n) same =
    λ i. same first (omega arith) (omega arith) i ++ range_same f g (first + 1) n (λ a le lt. same a (omega arith) (omega arith)) i

-- the one that is picked
pub pick_none : (w : ℕ) (f : ℕ → List Addition) (first n : ℕ) → w < first → flat_map (λ a. cond (w == a) (f a) []) (range_with_len first n) ≡ []
pick_none w f first zero lt = refl
pick_none w f first (suc n) lt =
    let here : cond (w == first) (f first) [] ≡ [] = ap (λ (b : Bool). cond b (f first) []) (ne_eqb w first (λ q. omega arith)) in
    λ i. here i ++ pick_none w f (first + 1) n (omega arith) i

pub pick_one : (w : ℕ) (f : ℕ → List Addition) (first n : ℕ) → first ≤ w → w < first + n → flat_map (λ a. cond (w == a) (f a) []) (range_with_len first n) ≡ f w
pick_one w f first zero le lt = absurd (omega arith)
pick_one w f first (suc n) le lt = dite (ℕ_discrete w first)
    (λ e. let here : cond (w == first) (f first) [] ≡ f first = ap (λ (b : Bool). cond b (f first) []) (eq-eqb w first e) in
    (λ i. here i ++ pick_none w f (first + 1) n (omega arith) i) ∙ append-nil (f first) ∙ ap f (sym e))
    (λ ne. let here : cond (w == first) (f first) [] ≡ [] = ap (λ (b : Bool). cond b (f first) []) (ne_eqb w first ne) in
    λ i. here i ++ pick_one w f (first + 1) n (omega arith) (omega arith) i)

pick_past : (w : ℕ) (f : ℕ → List Addition) (first n : ℕ) → first + n ≤ w → flat_map (λ a. cond (w == a) (f a) []) (range_with_len first n) ≡ []
pick_past w f first zero le = refl
pick_past w f first (suc n) le =
    let here : cond (w == first) (f first) [] ≡ [] = ap (λ (b : Bool). cond b (f first) []) (ne_eqb w first (λ q. omega arith)) in
    λ i. here i ++ pick_past w f (first + 1) n (omega arith) i

-- of those below n, where the others have nothing
pub pick : (w : ℕ) (f : ℕ → List Addition) (n : ℕ) → ((a : ℕ) → n ≤ a → f a ≡ []) → flat_map (λ a. cond (w == a) (f a) []) (range_with_len 0 n) ≡ f w
pick w f n none = elim (less_or_not w n) [
  | inl lt ↦ pick_one w f 0 n (omega arith) (omega (arith, lt))
  | inr ge ↦ pick_past w f 0 n (omega (arith, ge)) ∙ sym (none w ge)
]

-- a list of lists that is made by recursion on members and their places, as one over the places
pub places : {X A : Type 0} (f : ℕ → X → List A) (all : ℕ → List X → List A) → ((p : ℕ) → all p [] ≡ [])
    → ((p : ℕ) (x : X) (xs : List X) → all p (x ∷ xs) ≡ f p x ++ all (p + 1) xs) → (h : ℕ → List A) (xs : List X) (p : ℕ)
    → ((i : ℕ) (x : X) → slice_get xs i ≡ Some x → h (p + i) ≡ f (p + i) x) → flat_map h (range_with_len p (length xs)) ≡ all p xs
places f all nil more h [] p at = sym (nil p)
places f all nil more h (x ∷ xs) p at =
    let here : p + 0 ≡ p = omega arith in
    let first : h p ≡ f p x = ap h (sym here) ∙ at 0 x refl ∙ ap (λ (q : ℕ). f q x) here in
    let rest = places f all nil more h xs (p + 1) (λ i y there.
    let e : p + 1 + i ≡ p + suc i = omega arith in ap h e ∙ at (suc i) y there ∙ ap (λ (q : ℕ). f q y) (sym e)) in
    (λ i. first i ++ rest i) ∙ sym (more p x xs)

-- ---- keys of one among several

or_front : (a b : Bool) → a ≡ true → (a || b) ≡ true
or_front a b e = λ i. e i || b

or_back : (a b : Bool) → b ≡ true → (a || b) ≡ true
or_back true b e = refl
or_back false b e = e

named_in : (k : List Value) (f : ℕ → List Addition) (first n a : ℕ) → first ≤ a → a < first + n → named k (f a) ≡ true
    → named k (flat_map f (range_with_len first n)) ≡ true
named_in k f first zero a le lt e = absurd (omega arith)
named_in k f first (suc n) a le lt e = named-append k (f first) (flat_map f (range_with_len (first + 1) n)) ∙ dite (ℕ_discrete a first)
    (λ same. or_front (named k (f first)) (named k (flat_map f (range_with_len (first + 1) n))) (ap (λ (b : ℕ). named k (f b)) (sym same) ∙ e))
    (λ ne. or_back (named k (f first)) (named k (flat_map f (range_with_len (first + 1) n))) (named_in k f (first + 1) n a (omega arith) (omega arith) e))

pub few_in : (f : ℕ → List Addition) (n a : ℕ) → a < n → length (addition_keys (f a)) ≤ length (addition_keys (flat_map f (range_with_len 0 n)))
few_in f n a lt = fewer_keys (addition_keys (f a)) (addition_keys (flat_map f (range_with_len 0 n))) (ascends-entry_keys (f a)) (ascends-entry_keys (flat_map f (range_with_len 0 n)))
    (λ k e. has-entry_keys k (flat_map f (range_with_len 0 n)) ∙ named_in k f 0 n a (omega arith) (omega (arith, lt)) (sym (has-entry_keys k (f a)) ∙ e))

-- a beginning has no more keys
pub few_front : (xs ys : List Addition) → length (addition_keys xs) ≤ length (addition_keys (xs ++ ys))
few_front xs ys = fewer_keys (addition_keys xs) (addition_keys (xs ++ ys)) (ascends-entry_keys xs) (ascends-entry_keys (xs ++ ys))
    (λ k e. has-entry_keys k (xs ++ ys) ∙ named-append k xs ys ∙ or_front (named k xs) (named k ys) (sym (has-entry_keys k xs) ∙ e))
