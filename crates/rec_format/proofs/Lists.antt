-- Lists, and what was read of bytes so far, with one more.
use Rattle.std.proofs.Common.{◌≡◌, ℕ, ◌+◌, List, [], ◌∷◌, ◌++◌, length, drop, refl, ap, sym, subst, ◌∙◌, append_assoc, arith}
use Rattle.std.specs.List.{flat_map, AllByRecursion}
use Rattle.std.proofs.lemmas.List.{take_at, drop_at, length-append, flat_map_more}
use Rattle.recordings.proofs.Fields.{IsBytes, IsBytes-take, IsBytes-drop}

pub suffix_fits : (front rest bytes : List ℕ) → bytes ≡ front ++ rest → IsBytes bytes → IsBytes rest
suffix_fits front rest bytes e fits = subst IsBytes (ap (λ (l : List ℕ). drop (length front) l) e ∙ drop_at front rest (length front) refl) (IsBytes-drop (length front) bytes fits)

pub prefix_fits : (front rest : List ℕ) → IsBytes (front ++ rest) → IsBytes front
prefix_fits front rest fits = subst IsBytes (take_at front rest (length front) refl) (IsBytes-take (length front) (front ++ rest) fits)

pub each_more : {X : Type 0} (P : X → Type 0) (xs : List X) (x : X) → AllByRecursion P xs → P x → AllByRecursion P (xs ++ x ∷ [])
each_more P [] x all here = (here, tt)
each_more P (y ∷ ys) x all here = (all.0, each_more P ys x all.1 here)

-- the bytes so far, and one part more
pub spelled_more : {X : Type 0} (spelling : X → List ℕ) (xs : List X) (x : X) (bytes rest part after : List ℕ) → bytes ≡ flat_map spelling xs ++ rest → rest ≡ part ++ after → part ≡ spelling x
    → bytes ≡ flat_map spelling (xs ++ x ∷ []) ++ after
spelled_more spelling xs x bytes rest part after e f g =
    e ∙ ap (λ (l : List ℕ). flat_map spelling xs ++ l) f ∙ sym (append_assoc (flat_map spelling xs) part after)
    ∙ ap (λ (l : List ℕ). (flat_map spelling xs ++ l) ++ after) g ∙ ap (λ (l : List ℕ). l ++ after) (flat_map_more spelling [] xs x)

pub length_more : {X : Type 0} (xs : List X) (x : X) (n : ℕ) → length xs ≡ n → length (xs ++ x ∷ []) ≡ n + 1
length_more xs x n e = omega (arith, length-append xs (x ∷ []), e)
