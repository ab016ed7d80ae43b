-- What is read of one object more.
use Rattle.std.proofs.Common.{◌≡◌, ◌⊎◌, ℕ, zero, suc, ◌+◌, ◌<◌, ◌≤◌, List, [], ◌∷◌, ◌++◌, map, sum, refl, sym, ap, subst, ◌∙◌, arith, inl, inr}
use Rattle.std.specs.Prelude.{Option, Some, Result, Ok, Err, OnErr}
use Rattle.std.specs.List.{range_with_len}
use Rattle.bt_core.specs.declared.map.MapDecl.{MapDecl}
use Rattle.std.proofs.lemmas.List.{map-append}
use Rattle.std.proofs.lemmas.List.Sums.{sum_by-append}
use Rattle.run_objects.specs.Moments.{of_first}

range_more : (from n : ℕ) → range_with_len from (n + 1) ≡ range_with_len from n ++ (from + n) ∷ []
range_more from zero = ap (λ k. k ∷ []) (let e : from ≡ from + 0 = omega arith in e)
range_more from (suc n) =
    ap (range_with_len from) (let e : suc n + 1 ≡ suc (n + 1) = omega arith in e)
    ∙ ap (λ l. from ∷ l) (range_more (from + 1) n ∙ ap (λ k. range_with_len (from + 1) n ++ k ∷ []) (let e : from + 1 + n ≡ from + suc n = omega arith in e))

pub first_more : {A : Type 0} (f : ℕ → A) (n : ℕ) → of_first f (n + 1) ≡ of_first f n ++ f n ∷ []
first_more f n = ap (map f) (range_more 0 n) ∙ map-append f (range_with_len 0 n) ((0 + n) ∷ []) ∙ ap (λ k. of_first f n ++ f k ∷ []) (let e : 0 + n ≡ n = omega arith in e)

pub read_more : {A : Type 0} (f : ℕ → A) (n : ℕ) (got new : List A) (x : A) → got ≡ of_first f n → x ≡ f n → new ≡ got ++ x ∷ [] → new ≡ of_first f (n + 1)
read_more f n got new x e one is = is ∙ (λ i. e i ++ one i ∷ []) ∙ sym (first_more f n)

pub sum_more : (f : ℕ → ℕ) (n total new x : ℕ) → total ≡ sum (of_first f n) → x ≡ f n → new ≡ total + x → new ≡ sum (of_first f (n + 1))
sum_more f n total new x e one is = is ∙ (λ i. e i + one i) ∙ sym (ap sum (first_more f n) ∙ sum_by-append (λ (k : ℕ). k) (of_first f n) (f n ∷ []) ∙ (let z : sum (f n ∷ []) ≡ f n = one_sum (f n) in ap (λ k. sum (of_first f n) + k) z))
  where
    one_sum : (k : ℕ) → sum (k ∷ []) ≡ k
    one_sum k = let e : 0 + k ≡ k = omega arith in e

at_most : (a b : ℕ) → a ≤ b → (a ≡ b) ⊎ (a < b)
at_most a b h = grind arith

one_more : (f : ℕ → ℕ) (n : ℕ) → sum (of_first f n) + f n ≡ sum (of_first f (suc n))
one_more f n = let e : n + 1 ≡ suc n = omega arith in sum_more f n (sum (of_first f n)) (sum (of_first f n) + f n) (f n) refl refl refl ∙ ap (λ k. sum (of_first f k)) e

within_more : (f : ℕ → ℕ) (i n : ℕ) → (i ≤ n → sum (of_first f i) ≤ sum (of_first f n)) → (i ≡ suc n) ⊎ (i < suc n) → sum (of_first f i) ≤ sum (of_first f (suc n))
within_more f i n earlier (inl e) = let P : ℕ → Type 0 = λ k. sum (of_first f i) ≤ sum (of_first f k) in subst P e (omega arith)
within_more f i n earlier (inr lt) = let before = earlier (omega arith) in let more = one_more f n in omega (arith, before, more)

-- the first of them come to no more than all
sum_within : (f : ℕ → ℕ) (i n : ℕ) → i ≤ n → sum (of_first f i) ≤ sum (of_first f n)
sum_within f i zero le = let e : 0 ≡ i = omega arith in let P : ℕ → Type 0 = λ k. sum (of_first f k) ≤ sum (of_first f 0) in subst P e (omega arith)
sum_within f i (suc n) le = within_more f i n (sum_within f i n) (at_most i (suc n) le)

-- where one more is too much, all are
pub sum_beyond : (f : ℕ → ℕ) (most i n total x : ℕ) → i < n → total ≡ sum (of_first f i) → x ≡ f i → most ≤ total + x → most ≤ sum (of_first f n)
sum_beyond f most i n total x lt e one much =
    let more = sum_more f i total (total + x) x e one refl in let all = sum_within f (i + 1) n (omega arith) in omega (arith, more, all, much)

-- a fact of each error holds of whatever came
pub on_err : {A E : Type 0} (r : Result A E) (P : Type 0) → P → OnErr r P
on_err (Ok x) P h = tt
on_err (Err e) P h = h

pub same_decl : (a b : MapDecl) (o : Option MapDecl) → o ≡ Some a → o ≡ Some b → a ≡ b
same_decl a b o e f = cc
