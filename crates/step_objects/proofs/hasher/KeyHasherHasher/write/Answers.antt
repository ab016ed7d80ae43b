use Rattle.std.proofs.Common.{ℕ, Bool, List, [], ◌∷◌, ◌++◌, ap, sym, ◌∙◌, cond, true, false, length, arith, take, drop, ◌≡◌, ◌<◌, ◌≤◌, ◌-◌, ◌*◌, ◌/◌, ◌%◌, nat_eq, length-drop}
use Rattle.std.specs.Prelude.{fold}
use Rattle.std.proofs.lemmas.List.{take_all, append-nil}
use Rattle.std.proofs.lemmas.List.FromFn.{map-range_with_len_more}
use Rattle.std.proofs.lemmas.List.Sums.{fold-append}
use Rattle.byteorder.specs.Endian.{little_number}
use Rattle.step_objects.specs.Hashing.{first_words, mixed, rest_word, word_at, words_in}
use Rattle.step_objects.proofs.hasher.KeyHasherHasher.write.Goals as goal

-- what a test of the bytes that are left makes of the words
abbrev words_by : List ℕ → Bool → List ℕ
words_by bytes none =
    let count = length bytes / 8 in first_words bytes count ++ cond none [] (rest_word (drop (8 * count) bytes) ∷ [])

whole : (n : ℕ) (bytes : List ℕ) → take (length bytes - 8 * n) (drop (8 * n) bytes) ≡ drop (8 * n) bytes
whole n bytes = take_all (length bytes - 8 * n) (drop (8 * n) bytes) (omega (arith, length-drop (8 * n) bytes))

-- all words, where some bytes are left behind those of eight bytes
some_left : (state : ℕ) (bytes : List ℕ) → 0 < length bytes % 8
    → fold mixed state (words_in bytes) ≡ mixed (fold mixed state (first_words bytes (length bytes / 8))) (rest_word (drop (8 * (length bytes / 8)) bytes))
some_left state bytes some =
    let test : nat_eq (length bytes % 8) 0 ≡ false = grind arith in
    ap (λ none. fold mixed state (words_by bytes none)) test ∙ fold-append mixed state (first_words bytes (length bytes / 8)) _

-- all words, where no byte is left
none_left : (state : ℕ) (bytes : List ℕ) → length bytes % 8 ≤ 0
    → fold mixed state (words_in bytes) ≡ fold mixed state (first_words bytes (length bytes / 8))
none_left state bytes none =
    let test : nat_eq (length bytes % 8) 0 ≡ true = grind arith in
    ap (λ none. fold mixed state (words_by bytes none)) test ∙ ap (fold mixed state) (append-nil (first_words bytes (length bytes / 8)))

pub loop-n-preserved : goal.loop-n-preserved
loop-n-preserved c = let bytes = c.args.bytes.now in let state = c.args.self.now.state in let n = c.loop-n.n in
    c.mixed-self.ensures ∙ (λ i. mixed (c.loop-n.invariant i) (c.read_u64.ensures i))
    ∙ (λ i. mixed (fold mixed state (first_words bytes n)) (little_number 8 (whole n bytes i)))
    ∙ sym (ap (fold mixed state) (map-range_with_len_more (word_at bytes) 0 n n (omega arith)) ∙ fold-append mixed state (first_words bytes n) _)

pub returns-then-bytes-gt0 : goal.returns-then-bytes-gt0
returns-then-bytes-gt0 c = let bytes = c.args.bytes.now in let state = c.args.self.now.state in let n = c.loop-n.n in
    let all : n ≡ length bytes / 8 = omega (arith, c.loop-n.auto.n-end, c.loop-n-test.false) in
    ap (λ s. record { state = s })
    (c.mixed-self-then-bytes-gt0.ensures
    ∙ (λ i. mixed (c.loop-n.invariant i) (c.rest_word.ensures i))
    ∙ (λ i. mixed (fold mixed state (first_words bytes (all i))) (rest_word (whole (length bytes / 8) bytes i)))
    ∙ sym (some_left state bytes c.if-bytes-gt0.true))

pub returns-else-bytes-gt0 : goal.returns-else-bytes-gt0
returns-else-bytes-gt0 c = let bytes = c.args.bytes.now in let state = c.args.self.now.state in let n = c.loop-n.n in
    let all : n ≡ length bytes / 8 = omega (arith, c.loop-n.auto.n-end, c.loop-n-test.false) in
    ap (λ s. record { state = s })
    (c.loop-n.invariant ∙ (λ i. fold mixed state (first_words bytes (all i))) ∙ sym (none_left state bytes c.if-bytes-gt0.false))
