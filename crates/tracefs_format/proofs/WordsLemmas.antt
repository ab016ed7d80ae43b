-- The words of bytes, one after the other.
use Rattle.std.proofs.Common.{◌≡◌, ℕ, ◌<◌, Bool, true, false, cond, not, List, [], ◌∷◌, length, refl, ap, ◌∙◌, arith}
use Rattle.std.specs.Prelude.{nat_lt, filter}
use Rattle.std.specs.List.{slice_split, onto_first}
use Rattle.std.proofs.lemmas.List.{length-append}
use Rattle.std.proofs.lemmas.Bool.{lt-ltb}
use Rattle.event_layout.specs.Bytes.{longest_beginning, without_front}
use Rattle.tracefs_format.proofs.BytesLemmas.{front_parts, length-without_front}

abbrev some_bytes : List ℕ → Bool
some_bytes word = nat_lt 0 (length word)

abbrev pub separates : (ℕ → Bool) → ℕ → Bool
separates w b = not (w b)

-- the words, whichever bytes words are made of
abbrev pub words_by : (ℕ → Bool) → List ℕ → List (List ℕ)
words_by w bytes = filter some_bytes (slice_split (separates w) bytes)

-- what stands before the first word is passed over
pub words-skip : (w : ℕ → Bool) (bs : List ℕ) → words_by w (without_front (separates w) bs) ≡ words_by w bs
words-skip w [] = refl
words-skip w (b ∷ bs) = (elim (w b) as (λ v. w b ≡ v → words_by w (cond (not v) (without_front (separates w) bs) (b ∷ bs)) ≡ words_by w (b ∷ bs))
    [ true ↦ λ e. refl | false ↦ λ e. words-skip w bs ∙ rw e refl ]) refl

-- the pieces after the first
abbrev other_pieces : (ℕ → Bool) → List ℕ → List (List ℕ)
other_pieces w [] = []
other_pieces w (b ∷ bs) = slice_split (separates w) bs

pieces : (w : ℕ → Bool) (bs : List ℕ) → slice_split (separates w) bs ≡ longest_beginning w bs ∷ other_pieces w (without_front w bs)
pieces w [] = refl
pieces w (b ∷ bs) = elim (w b) as (λ v. cond (not v) ([] ∷ slice_split (separates w) bs) (onto_first b (slice_split (separates w) bs)) ≡ cond v (b ∷ longest_beginning w bs) [] ∷ other_pieces w (cond v (without_front w bs) (b ∷ bs)))
    [ true ↦ ap (onto_first b) (pieces w bs) | false ↦ refl ]

other_words : (w : ℕ → Bool) (bs : List ℕ) → filter some_bytes (other_pieces w (without_front w bs)) ≡ words_by w (without_front w bs)
other_words w [] = refl
other_words w (b ∷ bs) = (elim (w b) as (λ v. w b ≡ v → filter some_bytes (other_pieces w (cond v (without_front w bs) (b ∷ bs))) ≡ words_by w (cond v (without_front w bs) (b ∷ bs)))
    [ true ↦ λ e. other_words w bs | false ↦ λ e. rw e refl ]) refl

pub words-some : (w : ℕ → Bool) (bs : List ℕ) → 0 < length (longest_beginning w bs) → words_by w bs ≡ longest_beginning w bs ∷ words_by w (without_front w bs)
words-some w bs h = ap (filter some_bytes) (pieces w bs) ∙ rw (lt-ltb 0 (length (longest_beginning w bs)) h) (ap (λ ws. longest_beginning w bs ∷ ws) (other_words w bs))

some_first : (w : ℕ → Bool) (b : ℕ) (bs : List ℕ) → w b ≡ true → length (longest_beginning w (b ∷ bs)) ≡ 0 → ⊥
some_first w b bs e g = omega (arith, rw e at g)

pub words-none : (w : ℕ → Bool) (bs : List ℕ) → length (longest_beginning w (without_front (separates w) bs)) ≡ 0 → words_by w bs ≡ []
words-none w [] h = refl
words-none w (b ∷ bs) h =
    (elim (w b) as (λ v. w b ≡ v → length (longest_beginning w (cond (not v) (without_front (separates w) bs) (b ∷ bs))) ≡ 0 → words_by w (b ∷ bs) ≡ [])
    [ true ↦ λ e g. absurd (some_first w b bs e g) | false ↦ λ e g. rw e (words-none w bs g) ]) refl h

pub words-shorter : (w : ℕ → Bool) (bs : List ℕ) → 0 < length (longest_beginning w (without_front (separates w) bs)) → length (without_front w (without_front (separates w) bs)) < length bs
words-shorter w bs h =
    let rest = without_front (separates w) bs in
    omega (arith, length-without_front (separates w) bs, length-append (longest_beginning w rest) (without_front w rest), ap length (front_parts w rest))
