-- What separates tokens: blanks and comments.
use Rattle.std.specs.Prelude.{◌≡◌, ℕ, ◌⊎◌, true, List, [], ◌∷◌, ◌++◌}
use Rattle.bt_lexer.specs.Bytes.{is_blank, not_newline, Every}

abbrev pub IsBlank : List ℕ → Type 0
IsBlank bs = (b : ℕ) × (bs ≡ b ∷ []) × (is_blank b ≡ true)

-- `//` and bytes of one line
abbrev pub IsLineComment : List ℕ → Type 0
IsLineComment bs = (body : List ℕ) × (bs ≡ 47 ∷ 47 ∷ body) × Every not_newline body

-- `*/` stands nowhere in it
abbrev pub NeverCloses : List ℕ → Type 0
NeverCloses bs = (front back : List ℕ) → bs ≡ front ++ 42 ∷ 47 ∷ back → ⊥

-- from `/*` to the first `*/`
abbrev pub IsBlockComment : List ℕ → Type 0
IsBlockComment bs = (body : List ℕ) × (bs ≡ 47 ∷ 42 ∷ body ++ 42 ∷ 47 ∷ []) × NeverCloses body

abbrev pub IsSeparator : List ℕ → Type 0
IsSeparator bs = IsBlank bs ⊎ (IsLineComment bs ⊎ IsBlockComment bs)
