-- Words, attach tokens, and the names of maps and variables.
use Rattle.std.specs.Prelude.{◌≡◌, ℕ, ◌⊎◌, List, [], ◌∷◌, ◌++◌, codes}
use Rattle.bt_core.specs.Bytes.{is_letter, is_word_byte}
use Rattle.bt_lexer.specs.Bytes.{is_attach_byte, Every}
use Rattle.std.specs.Prelude.{true}

-- a letter, then letters and digits
abbrev pub IsWord : List ℕ → Type 0
IsWord [] = ⊥
IsWord (b ∷ bs) = (is_letter b ≡ true) × Every is_word_byte bs

-- the words that an attach token begins with
abbrev pub IsAttachWord : List ℕ → Type 0
IsAttachWord word = (word ≡ codes "tracepoint") ⊎ ((word ≡ codes "t") ⊎ ((word ≡ codes "interval") ⊎ (word ≡ codes "i")))

-- such a word, a colon, then letters, digits, `-`, `*` and `:`
abbrev pub IsAttach : List ℕ → Type 0
IsAttach bs = (word run : List ℕ) × (bs ≡ word ++ 58 ∷ run) × IsAttachWord word × Every is_attach_byte run

-- `@`, alone or with a word
abbrev pub IsMapName : List ℕ → Type 0
IsMapName [] = ⊥
IsMapName (b ∷ name) = (b ≡ 64) × ((name ≡ []) ⊎ IsWord name)

-- `$` and a word
abbrev pub IsVarName : List ℕ → Type 0
IsVarName [] = ⊥
IsVarName (b ∷ name) = (b ≡ 36) × IsWord name
