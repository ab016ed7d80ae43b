-- The lines of a listing.
use Rattle.std.proofs.Common.{◌≡◌, ℕ, suc, ◌+◌, ◌-◌, ◌*◌, ◌<◌, ◌≤◌, ap, sym, ◌∙◌, List, [], ◌∷◌, ◌++◌, append_assoc, append-nil, length, take, drop, arith}
use Rattle.std.specs.Prelude.{map}
use Rattle.bpf_encode.proofs.Bytes.{slot_after}
use Rattle.bpf_encode.specs.Listing.{hex_byte, joined, line, four_digits, slots_in, lines_from, spaced}

-- blanks before the bytes are a blank and those between
pub spaced_is : (b : ℕ) (bs : List ℕ) → spaced (b ∷ bs) ≡ 32 ∷ joined (map hex_byte (b ∷ bs))
spaced_is b [] = ap (λ (l : List ℕ). 32 ∷ l) (append-nil (hex_byte b))
spaced_is b (c ∷ cs) = ap (λ (l : List ℕ). 32 ∷ (hex_byte b ++ l)) (spaced_is c cs)

spaced_line : (slot : List ℕ) → 0 < length slot → spaced slot ≡ 32 ∷ joined (map hex_byte slot)
spaced_line [] h = absurd (omega arith)
spaced_line (b ∷ bs) h = spaced_is b bs

-- a line as it is written
pub line_written : (old : List ℕ) (n : ℕ) (slot t1 t2 t3 t4 : List ℕ) → 0 < length slot → t1 ≡ old ++ four_digits n → t2 ≡ t1 ++ 58 ∷ []
    → t3 ≡ t2 ++ spaced slot → t4 ≡ t3 ++ 10 ∷ [] → t4 ≡ old ++ line n slot
line_written old n slot t1 t2 t3 t4 h e1 e2 e3 e4 =
    e4
    ∙ ap (λ (l : List ℕ). l ++ 10 ∷ []) (e3 ∙ ap (λ (l : List ℕ). l ++ spaced slot) (e2 ∙ ap (λ (l : List ℕ). l ++ 58 ∷ []) e1))
    ∙ ap (λ (l : List ℕ). (((old ++ four_digits n) ++ 58 ∷ []) ++ l) ++ 10 ∷ []) (spaced_line slot h)
    ∙ append_assoc ((old ++ four_digits n) ++ 58 ∷ []) (32 ∷ joined (map hex_byte slot)) (10 ∷ [])
    ∙ append_assoc (old ++ four_digits n) (58 ∷ []) (32 ∷ (joined (map hex_byte slot) ++ 10 ∷ []))
    ∙ append_assoc old (four_digits n) (58 ∷ 32 ∷ (joined (map hex_byte slot) ++ 10 ∷ []))

-- one line more
pub lines_more : (bytes text new slot : List ℕ) (slots n : ℕ) → n < slots → slot ≡ take 8 (drop (8 * n) bytes) → new ≡ text ++ line n slot
    → text ++ lines_from n (slots_in (slots - n) (drop (8 * n) bytes)) ≡ new ++ lines_from (n + 1) (slots_in (slots - (n + 1)) (drop (8 * (n + 1)) bytes))
lines_more bytes text new slot slots n lt s e =
    let k : slots - n ≡ suc (slots - (n + 1)) = omega arith in
    let rest = slots_in (slots - (n + 1)) (drop (8 * (n + 1)) bytes) in
    ap (λ m. text ++ lines_from n (slots_in m (drop (8 * n) bytes))) k
    ∙ ap (λ (l : List ℕ). text ++ lines_from n (take 8 (drop (8 * n) bytes) ∷ slots_in (slots - (n + 1)) l)) (slot_after bytes n)
    ∙ ap (λ (l : List ℕ). text ++ lines_from n (l ∷ rest)) (sym s)
    ∙ sym (append_assoc text (line n slot) (lines_from (n + 1) rest))
    ∙ ap (λ (l : List ℕ). l ++ lines_from (n + 1) rest) (sym e)

pub lines_all : (bytes text : List ℕ) (slots n : ℕ) → slots ≤ n → text ++ lines_from n (slots_in (slots - n) (drop (8 * n) bytes)) ≡ text
lines_all bytes text slots n le =
    let k : slots - n ≡ 0 = omega arith in
    ap (λ m. text ++ lines_from n (slots_in m (drop (8 * n) bytes))) k ∙ append-nil text
