-- Loops over words: each word has what a test asks for, as far as they were looked at.
use Rattle.std.proofs.Common.{◌≡◌, ◌∙◌, ◌+◌, ◌<◌, ◌≤◌, ◌&&◌, ℕ, suc, Bool, true, List, ◌∷◌, String, Global, length, get_or, map, drop, drop-cons, add-one, string_bytes, ap, sym}
use Rattle.std.specs.List.{list_all}
use Rattle.std.proofs.lemmas.List.{at_drop_all}

-- a word and those behind it
first : (words : List (String Global)) (i : ℕ) (w : String Global) → i < length words → w ≡ get_or words i w
    → map string_bytes (drop i words) ≡ string_bytes w ∷ map string_bytes (drop (i + 1) words)
first words i w within is =
    ap (λ (l : List (String Global)). map string_bytes l) (drop-cons words i w within)
    ∙ ap (λ (x : String Global). string_bytes x ∷ map string_bytes (drop (suc i) words)) (sym is)
    ∙ ap (λ (n : ℕ). string_bytes w ∷ map string_bytes (drop n words)) (sym (add-one i))

module _ (test : List ℕ → Bool) (words : List (String Global)) (i : ℕ) (w : String Global) (tested b : Bool) (within : i < length words)
    (is : w ≡ get_or words i w) (answer : tested ≡ test (string_bytes w)) (known : tested ≡ b)
    (left : list_all test (map string_bytes (drop i words)) ≡ list_all test (map string_bytes words)) where
  pub tested_word : (b && list_all test (map string_bytes (drop (i + 1) words))) ≡ list_all test (map string_bytes words)
  tested_word =
      ap (λ (x : Bool). x && list_all test (map string_bytes (drop (i + 1) words))) (sym known ∙ answer)
      ∙ sym (ap (list_all test) (first words i w within is)) ∙ left

-- behind the last word
pub all_tested : (test : List ℕ → Bool) (words : List (String Global)) (i : ℕ) → length words ≤ i
    → list_all test (map string_bytes (drop i words)) ≡ list_all test (map string_bytes words) → true ≡ list_all test (map string_bytes words)
all_tested test words i behind left = sym (at_drop_all (λ (l : List (String Global)). list_all test (map string_bytes l)) words i behind) ∙ left
