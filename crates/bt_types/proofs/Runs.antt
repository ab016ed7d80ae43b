-- What is done for each item of a list in turn.
use Rattle.std.proofs.Common.{◌≡◌, ◌++◌, ◌+◌, ℕ, ◌<◌, ◌≤◌, suc, List, [], ◌∷◌, length, map, take, drop, get_or, refl, sym, ap, subst, ◌∙◌, arith, drop-cons, append_assoc, append-nil}
use Rattle.std.proofs.lemmas.List.{take_all, take-append-drop}
use Rattle.std.proofs.Math.Seq.{take-suc}
use Rattle.expr_types.specs.declared.fault.TypeError.{TypeError}
use Rattle.expr_types.specs.declared.known.Known.{Known}
use Rattle.expr_types.specs.Mentions.{Point, Word}
use Rattle.expr_types.specs.Judge.{judged, SaysFault}
use Rattle.typed_tree.specs.Parts.{TreePart}
use Rattle.bt_types.specs.Told.{Told, told, next, told_in_turn}
use Rattle.typed_tree.specs.Parts.{joined}
use Rattle.bt_types.specs.Done.{Done}
use Rattle.expr_types.proofs.Growing.{grows_none}
use Rattle.bt_types.proofs.Turns.{done_next, refused_next, refused_front}

pub map_more : {A B : Type 0} (f : A → B) (xs : List A) (x : A) → map f (xs ++ x ∷ []) ≡ map f xs ++ f x ∷ []
map_more f [] x = refl
map_more {A} {B} f (y ∷ xs) x = ap (λ (l : List B). f y ∷ l) (map_more f xs x)

joined_more : (pss : List (List TreePart)) (ps : List TreePart) → joined (pss ++ ps ∷ []) ≡ joined pss ++ ps
joined_more [] ps = append-nil ps
joined_more (qs ∷ pss) ps = ap (λ (l : List TreePart). qs ++ l) (joined_more pss ps) ∙ sym (append_assoc qs (joined pss) ps)

pub points_both : (ts us : List Told) → (told_in_turn (ts ++ us)).points ≡ (told_in_turn ts).points ++ (told_in_turn us).points
points_both [] us = refl
points_both (t ∷ ts) us = ap (λ (l : List Point). t.points ++ l) (points_both ts us) ∙ sym (append_assoc t.points (told_in_turn ts).points (told_in_turn us).points)

words_both : (ts us : List Told) → (told_in_turn (ts ++ us)).words ≡ (told_in_turn ts).words ++ (told_in_turn us).words
words_both [] us = refl
words_both (t ∷ ts) us = ap (λ (l : List Word). t.words ++ l) (words_both ts us) ∙ sym (append_assoc t.words (told_in_turn ts).words (told_in_turn us).words)

-- one more behind
turn_more : (ts : List Told) (t : Told) → told_in_turn (ts ++ t ∷ []) ≡ next (told_in_turn ts) t
turn_more ts t =
    let a : (told_in_turn (ts ++ t ∷ [])).points ≡ (told_in_turn ts).points ++ t.points = points_both ts (t ∷ []) ∙ ap (λ (l : List Point). (told_in_turn ts).points ++ l) (append-nil t.points) in
    let b : (told_in_turn (ts ++ t ∷ [])).words ≡ (told_in_turn ts).words ++ t.words = words_both ts (t ∷ []) ∙ ap (λ (l : List Word). (told_in_turn ts).words ++ l) (append-nil t.words) in
    ap (λ (p : List Point). told p (told_in_turn (ts ++ t ∷ [])).words) a ∙ ap (λ (w : List Word). told ((told_in_turn ts).points ++ t.points) w) b

one_more : (i : ℕ) → suc i ≡ i + 1
one_more i = omega arith

pub run_begins : (k : Known) → Done (told_in_turn []) k k []
run_begins k = record { whole = refl; grows = grows_none k; fits = tt; written = refl }

pub run_more : {A B : Type 0} (f : A → Told) (g : B → List TreePart) (xs : List A) (i : ℕ) (x : A) (k0 k1 k2 : Known) (ys : List B) (y : B) → i < length xs → x ≡ get_or xs i x → Done (told_in_turn (map f (take i xs))) k0 k1 (joined (map g ys)) → Done (f x) k1 k2 (g y)
    → Done (told_in_turn (map f (take (i + 1) xs))) k0 k2 (joined (map g (ys ++ y ∷ [])))
run_more f g xs i x k0 k1 k2 ys y within is c d =
    let longer : take (i + 1) xs ≡ take i xs ++ x ∷ [] = ap (λ (n : ℕ). take n xs) (sym (one_more i)) ∙ (take-suc xs i x within ∙ ap (λ z. take i xs ++ z ∷ []) (sym is)) in
    rw (longer, map_more f (take i xs) x, map_more g ys y, turn_more (map f (take i xs)) (f x), joined_more (map g ys) (g y))
    (done_next (told_in_turn (map f (take i xs))) (f x) k0 k1 k2 (joined (map g ys)) (g y) c d)

pub map_both : {A B : Type 0} (f : A → B) (xs ys : List A) → map f (xs ++ ys) ≡ map f xs ++ map f ys
map_both f [] ys = refl
map_both {A} {B} f (x ∷ xs) ys = ap (λ (l : List B). f x ∷ l) (map_both f xs ys)

pub run_refused : {A : Type 0} (f : A → Told) (xs : List A) (i : ℕ) (x : A) (k0 k1 : Known) (ps : List TreePart) (e : TypeError) → i < length xs → x ≡ get_or xs i x → Done (told_in_turn (map f (take i xs))) k0 k1 ps → SaysFault (judged (f x).points k1) e
    → SaysFault (judged (told_in_turn (map f xs)).points k0) e
run_refused {A} f xs i x k0 k1 ps e within is c h =
    let rest : drop i xs ≡ x ∷ drop (suc i) xs = drop-cons xs i x within ∙ ap (λ z. z ∷ drop (suc i) xs) (sym is) in
    let parted : map f xs ≡ map f (take i xs) ++ f x ∷ map f (drop (suc i) xs) =
    ap (λ (l : List A). map f l) (sym (take-append-drop i xs)) ∙ (map_both f (take i xs) (drop i xs) ∙ ap (λ (l : List A). map f (take i xs) ++ map f l) rest) in
    rw (parted, points_both (map f (take i xs)) (f x ∷ map f (drop (suc i) xs)))
    (refused_next (told_in_turn (map f (take i xs))) (told_in_turn (f x ∷ map f (drop (suc i) xs))) k0 k1 ps e c (refused_front (f x) (told_in_turn (map f (drop (suc i) xs))) k1 e h))

pub run_ends : {A : Type 0} (f : A → Told) (xs : List A) (i : ℕ) (k0 k1 : Known) (ps : List TreePart) → length xs ≤ i → Done (told_in_turn (map f (take i xs))) k0 k1 ps → Done (told_in_turn (map f xs)) k0 k1 ps
run_ends {A} f xs i k0 k1 ps past c = subst (λ (l : List A). Done (told_in_turn (map f l)) k0 k1 ps) (take_all i xs past) c
