-- Classes of bytes, and lists whose bytes are all of one class.
use Rattle.std.specs.Prelude.{◌≡◌, ℕ, Bool, true, false, ◌||◌, ◌==◌, List, [], ◌∷◌, if◌then◌else◌}
use Rattle.std.specs.List.{AllByRecursion}
use Rattle.bt_core.specs.Bytes.{is_word_byte}

-- space, tab, newline or carriage return
abbrev pub is_blank : ℕ → Bool
is_blank b = b == 32 || (b == 9 || (b == 10 || b == 13))

-- a letter, a digit, `-`, `*` or `:`
abbrev pub is_attach_byte : ℕ → Bool
is_attach_byte b = is_word_byte b || (b == 45 || (b == 42 || b == 58))

abbrev pub not_newline : ℕ → Bool
not_newline b = if b == 10 then false else true

-- each byte is of the class
abbrev pub Every : (ℕ → Bool) → List ℕ → Type 0
Every p bs = AllByRecursion (λ b. p b ≡ true) bs

-- whether there is a first byte, and it is of the class
abbrev pub begins : (ℕ → Bool) → List ℕ → Bool
begins p [] = false
begins p (b ∷ bs) = p b
