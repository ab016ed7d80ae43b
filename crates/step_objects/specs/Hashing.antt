-- The hash by which tables find keys.
use Rattle.std.specs.Prelude.{ℕ, ◌+◌, ◌*◌, ◌/◌, ◌%◌, ◌^◌, ◌==◌, if◌then◌else◌, List, [], ◌∷◌, ◌++◌, length, drop, map, fold, bit_xor}
use Rattle.std.specs.List.{range_with_len}
use Rattle.byteorder.specs.Endian.{big_number, little_number}
use Rattle.step_objects.specs.declared.hasher.KeyHasher.{KeyHasher}

-- the two halves of 128 bits, joined by xor
abbrev pub halves_joined : ℕ → ℕ
halves_joined product = bit_xor (product % 2 ^ 64) (product / 2 ^ 64)

-- a state that has taken in one word more
abbrev pub mixed : ℕ → ℕ → ℕ
mixed state word = halves_joined ((state + word) % 2 ^ 64 * 17380933483125451205)

-- the word of eight bytes that has a place, the lowest byte first
abbrev pub word_at : List ℕ → ℕ → ℕ
word_at bytes n = little_number 8 (drop (8 * n) bytes)

-- the first words of bytes
abbrev pub first_words : List ℕ → ℕ → List ℕ
first_words bytes n = map (word_at bytes) (range_with_len 0 n)

-- all bytes as one word, the highest first
abbrev pub rest_word : List ℕ → ℕ
rest_word rest = big_number (length rest) rest

-- the words of bytes: of eight bytes each, and of what is left behind these, where there is something
abbrev pub words_in : List ℕ → List ℕ
words_in bytes =
    let count = length bytes / 8 in
    first_words bytes count ++ (if length bytes % 8 == 0 then [] else rest_word (drop (8 * count) bytes) ∷ [])

-- a hasher that has taken in all words of bytes
abbrev pub fed : KeyHasher → List ℕ → KeyHasher
fed hasher bytes = record { state = fold mixed hasher.state (words_in bytes) }

abbrev pub told : KeyHasher → ℕ
told hasher = hasher.state
