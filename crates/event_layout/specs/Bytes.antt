-- Words on the bytes of a format text.
use Rattle.std.specs.Prelude.{ℕ, ◌+◌, ◌*◌, ◌-◌, Bool, true, false, ◌==◌, ◌||◌, ◌&&◌, not}
use Rattle.std.specs.Prelude.{nat_le, nat_lt, filter, codes, List, [], ◌∷◌, length, Option, Some, None, if◌then◌else◌}
use Rattle.std.specs.List.{list_all, fold, slice_split}
use Rattle.std.specs.Str.{bytes_eq}
use Rattle.std.specs.Option.{option_map, option_or}
use Rattle.bt_core.specs.Bytes.{is_digit, is_word_byte}

-- a space or a tab
abbrev pub is_blank : ℕ → Bool
is_blank b = b == 32 || b == 9

-- what is passed over at the end of a line: blanks and carriage returns
abbrev pub is_line_end : ℕ → Bool
is_line_end b = is_blank b || b == 13

-- what stands between words
abbrev pub is_separator : ℕ → Bool
is_separator b = not (is_word_byte b)

-- bytes without those at the front that pass
abbrev pub without_front : (ℕ → Bool) → List ℕ → List ℕ
without_front p [] = []
without_front p (b ∷ bs) = if p b then without_front p bs else b ∷ bs

-- the longest beginning of bytes that all pass
abbrev pub longest_beginning : (ℕ → Bool) → List ℕ → List ℕ
longest_beginning p [] = []
longest_beginning p (b ∷ bs) = if p b then b ∷ longest_beginning p bs else []

-- bytes without those at the end that pass
abbrev pub without_end : (ℕ → Bool) → List ℕ → List ℕ
without_end p [] = []
without_end p (b ∷ bs) = if list_all p (b ∷ bs) then [] else b ∷ without_end p bs

-- the longest ending of bytes that all pass
abbrev pub longest_ending : (ℕ → Bool) → List ℕ → List ℕ
longest_ending p [] = []
longest_ending p (b ∷ bs) = if list_all p (b ∷ bs) then b ∷ bs else longest_ending p bs

-- bytes without the blanks at both ends
abbrev pub stripped : List ℕ → List ℕ
stripped bytes = without_front is_blank (without_end is_blank bytes)

-- what stands before and after the first such byte, if there is one
abbrev pub cut_at : ℕ → List ℕ → Option (List ℕ × List ℕ)
cut_at byte [] = None
cut_at byte (b ∷ bs) = if b == byte then Some ([], bs) else option_map (λ parts. (b ∷ parts.0, parts.1)) (cut_at byte bs)

-- what stands before the last such byte, if there is one
abbrev pub before_last : ℕ → List ℕ → Option (List ℕ)
before_last byte [] = None
before_last byte (b ∷ bs) = option_or (option_map (λ front. b ∷ front) (before_last byte bs)) (if b == byte then Some [] else None)

-- what stands after a label that the bytes begin with
abbrev pub after : List ℕ → List ℕ → Option (List ℕ)
after [] bytes = Some bytes
after (l ∷ label) [] = None
after (l ∷ label) (b ∷ bytes) = if b == l then after label bytes else None

-- what stands after a label, where blanks may stand before and after the label and what follows it
abbrev pub labelled : List ℕ → List ℕ → Option (List ℕ)
labelled label part = option_map stripped (after label (stripped part))

-- the number that decimal digits spell
abbrev pub decimal_value : List ℕ → ℕ
decimal_value digits = fold (λ n digit. 10 * n + (digit - 48)) 0 digits

-- the number that bytes spell in decimal digits, if they spell one and it is at most so great
abbrev pub number_in : ℕ → List ℕ → Option ℕ
number_in greatest [] = None
number_in greatest (b ∷ bs) = if list_all is_digit (b ∷ bs) && nat_le (decimal_value (b ∷ bs)) greatest then Some (decimal_value (b ∷ bs)) else None

-- the flag that bytes spell, as 0 or 1
abbrev pub flag_in : List ℕ → Option Bool
flag_in bytes = if bytes_eq bytes (codes "0") then Some false else if bytes_eq bytes (codes "1") then Some true else None

-- the words of bytes: the longest runs of letters and digits
abbrev pub words : List ℕ → List (List ℕ)
words bytes = filter (λ word. nat_lt 0 (length word)) (slice_split is_separator bytes)
