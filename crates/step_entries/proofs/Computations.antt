-- What a computation asks next, and how steps of one computation are told apart.
use Rattle.std.proofs.Common.{◌≡◌, List, [], ◌∷◌, ◌++◌, map, sym, refl, ap, ◌∙◌, subst}
use Rattle.bt_core.specs.declared.step.Step.{Step}
use Rattle.bt_core.specs.Interaction.{call_of, Interaction, Ended, Asks, Begins, Runs}
use Rattle.step_entries.specs.Blank.{without_item}

pub Begins-front : {A : Type 0} (t : Interaction A) (xs ys : List Step) → Begins t (xs ++ ys) → Begins t xs
Begins-front (Ended a) [] ys h = tt
Begins-front (Ended a) (x ∷ xs) ys h = absurd h
Begins-front (Asks c f) [] ys h = tt
Begins-front (Asks c f) (x ∷ xs) ys h = (h.0, Begins-front (f x.reply) xs ys h.1)

pub Runs-Begins-all : {A : Type 0} (t : Interaction A) (xs : List Step) (a : A) → Runs t xs a → Begins t xs
Runs-Begins-all (Ended x) [] a h = tt
Runs-Begins-all (Ended x) (s ∷ ss) a h = absurd h
Runs-Begins-all (Asks c f) [] a h = absurd h
Runs-Begins-all (Asks c f) (s ∷ ss) a h = (h.0, Runs-Begins-all (f s.reply) ss a h.1)

-- what is whole goes no further
pub whole_ends : {A : Type 0} (t : Interaction A) (xs : List Step) (s : Step) (ys : List Step) (a : A) → Runs t xs a → Begins t (xs ++ s ∷ ys) → ⊥
whole_ends (Ended x) [] s ys a h g = g
whole_ends (Ended x) (z ∷ zs) s ys a h g = h
whole_ends (Asks c f) [] s ys a h g = h
whole_ends (Asks c f) (z ∷ zs) s ys a h g = whole_ends (f z.reply) zs s ys a h.1 g.1

-- the next call is one
pub next_is_one : {A : Type 0} (t : Interaction A) (xs : List Step) (s u : Step) (ys zs : List Step) → Begins t (xs ++ s ∷ ys) → Begins t (xs ++ u ∷ zs) → call_of s ≡ call_of u
next_is_one (Ended x) [] s u ys zs h g = absurd h
next_is_one (Ended x) (w ∷ ws) s u ys zs h g = absurd h
next_is_one (Asks c f) [] s u ys zs h g = h.0 ∙ sym g.0
next_is_one (Asks c f) (w ∷ ws) s u ys zs h g = next_is_one (f w.reply) ws s u ys zs h.1 g.1

pub step_is : (s u : Step) → s.actor ≡ u.actor → s.stamp ≡ u.stamp → call_of s ≡ call_of u → s.reply ≡ u.reply → s ≡ u
step_is s u a t c r = λ i. record { actor = a i; object = (c i).object; stamp = t i; op = (c i).op; reply = r i }

-- steps of one computation that are the same but for items are the same
pub items_follow : {A : Type 0} (t : Interaction A) (xs ys : List Step) → Begins t xs → Begins t ys → map without_item xs ≡ map without_item ys → xs ≡ ys
items_follow t [] [] h g e = refl
items_follow t [] (y ∷ ys) h g e = absurd (let q : ⊥ = cc in q)
items_follow t (x ∷ xs) [] h g e = absurd (let q : ⊥ = cc in q)
items_follow (Ended a) (x ∷ xs) (y ∷ ys) h g e = absurd h
items_follow (Asks c f) (x ∷ xs) (y ∷ ys) h g e =
    let head : without_item x ≡ without_item y = cc in
    let tail : map without_item xs ≡ map without_item ys = cc in
    let r : x.reply ≡ y.reply = ap (λ (s : Step). s.reply) head in
    let same : x ≡ y = step_is x y (ap (λ (s : Step). s.actor) head) (ap (λ (s : Step). s.stamp) head) (h.0 ∙ sym g.0) r in
    let rest = items_follow (f x.reply) xs ys h.1 (subst (λ q. Begins (f q) ys) (sym r) g.1) tail in
    λ i. same i ∷ rest i

-- a computation's whole steps at the front of a list are one
pub one_front : {A : Type 0} (t : Interaction A) (xs ys us vs : List Step) (a b : A) → Runs t xs a → Runs t ys b → xs ++ us ≡ ys ++ vs → xs ≡ ys
one_front (Ended x) [] [] us vs a b h g e = refl
one_front (Ended x) [] (y ∷ ys) us vs a b h g e = absurd g
one_front (Ended x) (z ∷ zs) ys us vs a b h g e = absurd h
one_front (Asks c f) [] ys us vs a b h g e = absurd h
one_front (Asks c f) (x ∷ xs) [] us vs a b h g e = absurd g
one_front (Asks c f) (x ∷ xs) (y ∷ ys) us vs a b h g e =
    let head : x ≡ y = cc in
    let tail : xs ++ us ≡ ys ++ vs = cc in
    let rest = one_front (f x.reply) xs ys us vs a b h.1 (subst (λ (s : Step). Runs (f s.reply) ys b) (sym head) g.1) tail in
    λ i. head i ∷ rest i
