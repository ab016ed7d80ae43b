-- Runs of bytes of one class.
use Rattle.std.proofs.Common.{◌≡◌, ℕ, suc, Bool, true, false, List, [], ◌∷◌, ◌++◌, length, take, cond, refl, ap, ◌∙◌}
use Rattle.std.specs.Prelude.{take_while}
use Rattle.std.proofs.lemmas.List.Sums.{take_while-cons}
use Rattle.std.proofs.lemmas.List.{take_at}
use Rattle.bt_lexer.specs.Bytes.{Every, begins}

-- the longest front whose bytes are of the class
pub record IsRun (p : ℕ → Bool) (bs front rest : List ℕ) : Type 0 where
  pub parts : bs ≡ front ++ rest
  pub every : Every p front
  pub stop : begins p rest ≡ false
  pub len : length (take_while p bs) ≡ length front

pub run : (p : ℕ → Bool) (bs : List ℕ) → (front rest : List ℕ) × IsRun p bs front rest
run p [] = ([], [], record { parts = refl; every = tt; stop = refl; len = refl })
run p (b ∷ bs) =
    elim (p b) as (λ t. p b ≡ t → (front rest : List ℕ) × IsRun p (b ∷ bs) front rest) [
      | true ↦ λ h.
          let r = run p bs in
          (b ∷ r.0, r.1, record { parts = ap (λ (l : List ℕ). b ∷ l) r.2.parts; every = (h, r.2.every); stop = r.2.stop; len = rw (take_while-cons p b bs, h) (ap suc r.2.len) })
      | false ↦ λ h. ([], b ∷ bs, record { parts = refl; every = tt; stop = h; len = rw (take_while-cons p b bs, h) refl })
    ] refl

-- there is one such front
pub run_unique : (p : ℕ → Bool) (f g r s : List ℕ) → Every p f → begins p r ≡ false → Every p g → begins p s ≡ false → f ++ r ≡ g ++ s → (f ≡ g) × (r ≡ s)
run_unique p [] [] r s hf hr hg hs e = (refl, e)
run_unique p [] (b ∷ g) r s hf hr hg hs e = absurd (let q : begins p r ≡ p b = ap (begins p) e in cc)
run_unique p (b ∷ f) [] r s hf hr hg hs e = absurd (let q : p b ≡ begins p s = ap (begins p) e in cc)
run_unique p (b ∷ f) (c ∷ g) r s hf hr hg hs e =
    let tail : f ++ r ≡ g ++ s = cc in
    let both = run_unique p f g r s hf.1 hr hg.1 hs tail in
    (cc (both.0, e), both.1)

-- it does not go on
pub no_more : (p : ℕ → Bool) (more after rest : List ℕ) → rest ≡ more ++ after → begins p rest ≡ false → Every p more → more ≡ []
no_more p [] after rest e s h = refl
no_more p (m ∷ more) after rest e s h = absurd (let q : begins p rest ≡ p m = ap (begins p) e in cc)

pub every_front : (p : ℕ → Bool) (xs ys : List ℕ) → Every p (xs ++ ys) → Every p xs
every_front p [] ys h = tt
every_front p (x ∷ xs) ys h = (h.0, every_front p xs ys h.1)

pub every_back : (p : ℕ → Bool) (xs ys : List ℕ) → Every p (xs ++ ys) → Every p ys
every_back p [] ys h = h
every_back p (x ∷ xs) ys h = every_back p xs ys h.1

pub run_front : (p : ℕ → Bool) (bs front rest : List ℕ) → IsRun p bs front rest → take_while p bs ≡ front
run_front p bs front rest r = taken bs ∙ ap (λ (n : ℕ). take n bs) r.len ∙ ap (take (length front)) r.parts ∙ take_at front rest (length front) refl
  where
    taken : (xs : List ℕ) → take_while p xs ≡ take (length (take_while p xs)) xs
    taken [] = refl
    taken (x ∷ xs) = rw (take_while-cons p x xs)
        (elim (p x) as (λ b. cond b (x ∷ take_while p xs) [] ≡ take (length (cond b (x ∷ take_while p xs) [])) (x ∷ xs)) [
          | true ↦ ap (λ (l : List ℕ). x ∷ l) (taken xs)
          | false ↦ refl
        ])
