-- Strings between quotes.
use Rattle.std.specs.Prelude.{◌≡◌, ◌≢◌, ℕ, ◌⊎◌, List, [], ◌∷◌, ◌++◌}

-- the byte that an escape stands for, by the byte behind the backslash: `\n`, `\t`, `\r`, `\"` and `\\`
abbrev pub IsEscape : ℕ → ℕ → Type 0
IsEscape e c = ((e ≡ 110) × (c ≡ 10)) ⊎ (((e ≡ 116) × (c ≡ 9)) ⊎ (((e ≡ 114) × (c ≡ 13)) ⊎ (((e ≡ 34) × (c ≡ 34)) ⊎ ((e ≡ 92) × (c ≡ 92)))))

-- a byte that stands for itself: no quote, backslash, newline or zero byte
abbrev pub IsPlain : ℕ → Type 0
IsPlain c = (c ≢ 34) × (c ≢ 92) × (c ≢ 10) × (c ≢ 0)

-- the source of one byte of a string: the byte itself, or a backslash and an escape
abbrev pub IsSpelling : List ℕ → ℕ → Type 0
IsSpelling source c = ((source ≡ c ∷ []) × IsPlain c) ⊎ ((e : ℕ) × (source ≡ 92 ∷ e ∷ []) × IsEscape e c)

-- the source of a string's bytes, one byte after the other
abbrev pub IsSpelled : List ℕ → List ℕ → Type 0
IsSpelled source [] = source ≡ []
IsSpelled source (c ∷ text) = (first more : List ℕ) × (source ≡ first ++ more) × IsSpelling first c × IsSpelled more text

-- the source of a string's bytes between quotes
abbrev pub IsString : List ℕ → List ℕ → Type 0
IsString bs text = (source : List ℕ) × (bs ≡ 34 ∷ source ++ 34 ∷ []) × IsSpelled source text

-- no escape begins behind a backslash
abbrev pub NoEscape : List ℕ → Type 0
NoEscape [] = Unit {0}
NoEscape (e ∷ bs) = (c : ℕ) → IsEscape e c → ⊥

-- the line ends here, or the text does
abbrev pub EndsLine : List ℕ → Type 0
EndsLine [] = Unit {0}
EndsLine (b ∷ bs) = b ≡ 10
