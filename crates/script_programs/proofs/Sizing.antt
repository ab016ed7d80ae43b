-- Bodies that are looked at for their size, from the first one on.
use Rattle.std.proofs.Common.{◌≡◌, ℕ, zero, suc, ◌+◌, ◌≤◌, ◌<◌, ◌^◌, List, [], ◌∷◌, length, drop, drop-cons, get_or, refl, sym, ap, ◌∙◌, subst, arith}
use Rattle.std.specs.Prelude.{Option, Some, None, slice_get}
use Rattle.std.specs.Option.{option_map}
use Rattle.std.proofs.lemmas.Bool.Decides.{nat_tests}
use Rattle.bt_core.specs.declared.limits.TheConstants.{FRAME_BYTES, CODE_SLOTS}
use Rattle.bt_lower.specs.declared.need.Need.{Need}
use Rattle.bt_lower.specs.Needs.{tree_need, IsTooMuch}
use Rattle.typed_tree.specs.declared.body.TypedBody.{TypedBody}
use Rattle.script_programs.specs.declared.error.SizeFault.{SizeFault}
use Rattle.script_programs.specs.Sizes.{first_size_fault, or_else, size_fault, too_large, IsUntold}

rest_from : (bodies : List TypedBody) (k : ℕ) (body : TypedBody) → k < length bodies → body ≡ get_or bodies k body → drop k bodies ≡ body ∷ drop (k + 1) bodies
rest_from bodies k body low at =
    let here : drop k bodies ≡ body ∷ drop (suc k) bodies = drop-cons bodies k body low ∙ ap (λ (b : TypedBody). b ∷ drop (suc k) bodies) (sym at) in
    let same : suc k ≡ k + 1 = omega arith in
    subst (λ (m : ℕ). drop k bodies ≡ body ∷ drop m bodies) same here

cons_fits : (n : ℕ) (b : TypedBody) (bs : List TypedBody) → size_fault b ≡ None → first_size_fault n (b ∷ bs) ≡ first_size_fault (n + 1) bs
cons_fits n b bs e = λ j. or_else (option_map (λ fault. (n, fault)) (e j)) (first_size_fault (n + 1) bs)

cons_wrong : (n : ℕ) (b : TypedBody) (bs : List TypedBody) (f : SizeFault) → size_fault b ≡ Some f → first_size_fault n (b ∷ bs) ≡ Some (n, f)
cons_wrong n b bs f e = λ j. or_else (option_map (λ fault. (n, fault)) (e j)) (first_size_fault (n + 1) bs)

-- a body that is not too large is passed
pub first_passed : (bodies : List TypedBody) (k : ℕ) (body : TypedBody) → k < length bodies → body ≡ get_or bodies k body → size_fault body ≡ None
    → first_size_fault (k + 1) (drop (k + 1) bodies) ≡ first_size_fault k (drop k bodies)
first_passed bodies k body low at fits =
    sym (ap (first_size_fault k) (rest_from bodies k body low at) ∙ cons_fits k body (drop (k + 1) bodies) fits)

-- one that is too large is the first
pub first_found : (bodies : List TypedBody) (k : ℕ) (body : TypedBody) (f : SizeFault) → k < length bodies → body ≡ get_or bodies k body → size_fault body ≡ Some f
    → first_size_fault k (drop k bodies) ≡ Some (k, f)
first_found bodies k body f low at wrong = ap (first_size_fault k) (rest_from bodies k body low at) ∙ cons_wrong k body (drop (k + 1) bodies) f wrong

same_fault : (a b : ℕ × SizeFault) → Some a ≡ Some b → a ≡ b
same_fault a b e = cc

here_or_later : (found : Option SizeFault) (later : Option (ℕ × SizeFault)) (n p : ℕ) (f : SizeFault)
    → or_else (option_map (λ fault. (n, fault)) found) later ≡ Some (p, f) → (later ≡ Some (p, f) → n ≤ p) → n ≤ p
here_or_later None later n p f e rest = rest e
here_or_later (Some g) later n p f e rest =
    let same : n ≡ p = ap (λ (x : ℕ × SizeFault). x.0) (same_fault (n, g) (p, f) e) in
    omega arith

at_least : (bs : List TypedBody) (n p : ℕ) (f : SizeFault) → first_size_fault n bs ≡ Some (p, f) → n ≤ p
at_least [] n p f e = absurd (let none : ⊥ = cc in none)
at_least (b ∷ bs) n p f e = here_or_later (size_fault b) (first_size_fault (n + 1) bs) n p f e
    (λ later. (let above : n + 1 ≤ p = at_least bs (n + 1) p f later in omega arith))

only_here : (found : Option SizeFault) (later : Option (ℕ × SizeFault)) (k p : ℕ) (f : SizeFault)
    → or_else (option_map (λ fault. (k, fault)) found) later ≡ Some (p, f) → (found ≡ None → ⊥) → k ≡ p
only_here None later k p f e some = absurd (some refl)
only_here (Some g) later k p f e some = ap (λ (x : ℕ × SizeFault). x.0) (same_fault (k, g) (p, f) e)

-- what 64 bits do not hold is too large
not_small : (n : Need) → IsTooMuch n → too_large n.frame n.code ≡ None → ⊥
not_small n much none = grind (arith, nat_tests)

-- what is not too large has room
pub frame_fits : (frame code : ℕ) → too_large frame code ≡ None → frame ≤ FRAME_BYTES
frame_fits frame code none = grind (arith, nat_tests)

pub code_fits : (frame code : ℕ) → too_large frame code ≡ None → code ≤ CODE_SLOTS
code_fits frame code none = grind (arith, nat_tests)

same_body : (bodies : List TypedBody) (k : ℕ) (body b : TypedBody) → k < length bodies → body ≡ get_or bodies k body → slice_get bodies k ≡ Some b → b ≡ body
same_body [] k body b low at on = absurd (omega arith)
same_body (x ∷ xs) zero body b low at on = cc
same_body (x ∷ xs) (suc k) body b low at on = same_body xs k body b (omega arith) at on

-- where what a body needs cannot be told, the first fault is none that can
pub untold : (bodies : List TypedBody) (k : ℕ) (body : TypedBody) (p : ℕ) (f : SizeFault) → k < length bodies → body ≡ get_or bodies k body
    → first_size_fault k (drop k bodies) ≡ first_size_fault 0 bodies → (k < 2 ^ 32 → IsTooMuch (tree_need body.tree))
    → first_size_fault 0 bodies ≡ Some (p, f) → IsUntold bodies p
untold bodies k body p f low at left too first = λ b on small.
    (let rest = drop (k + 1) bodies in
    let e : first_size_fault k (body ∷ rest) ≡ Some (p, f) = ap (first_size_fault k) (sym (rest_from bodies k body low at)) ∙ left ∙ first in
    let least : k ≤ p = at_least (body ∷ rest) k p f e in
    let below : k < 2 ^ 32 = omega arith in
    let much = too below in
    let here : k ≡ p = only_here (size_fault body) (first_size_fault (k + 1) rest) k p f e (λ none. not_small (tree_need body.tree) much none) in
    let is : b ≡ body = same_body bodies k body b low at (subst (λ (n : ℕ). slice_get bodies n ≡ Some b) (sym here) on) in
    subst (λ (x : TypedBody). IsTooMuch (tree_need x.tree)) (sym is) much)
