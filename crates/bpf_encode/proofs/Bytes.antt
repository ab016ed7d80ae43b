-- A slot and its bytes.
use Rattle.std.proofs.Common.{◌≡◌, ℕ, zero, suc, ◌+◌, ◌-◌, ◌*◌, ◌<◌, ◌≤◌, refl, ap, sym, ◌∙◌, subst, List, [], ◌∷◌, ◌++◌, get_or, length, take, drop, Some, None, Bool, true, arith}
use Rattle.std.specs.Prelude.{◌/◌, ◌%◌, ◌^◌, ℤ, pos, negsuc, cond, nat_le}
use Rattle.std.proofs.lemmas.List.{length-drop, drop-drop, get_or-drop}
use Rattle.byteorder.specs.Endian.{little_number}
use Rattle.std.specs.Int.RustNames.{FitsSigned}
use Rattle.std.specs.Int.{w16, w32, to_le_bytes, from_le_bytes, cast_unsigned, cast_signed}
use Rattle.std.proofs.Math.Facts.{sfits_to_z}
use Rattle.std.proofs.lemmas.Int.{to_z-of_z, of_z-to_z}
use Rattle.std.proofs.lemmas.Nat.{from_le_bytes-to_le_bytes_2, from_le_bytes-to_le_bytes_4, le_bytes_2, le_bytes_4}
use Rattle.bpf_insn.specs.declared.slot.Slot.{Slot}
use Rattle.bpf_insn.specs.Encoding.{slot_bytes}
use Rattle.bpf_encode.specs.Decoding.{slot_in}
use Rattle.bpf_encode.specs.Faults.{AreBytes}
use Rattle.bpf_encode.specs.Slots.{next_upper}

pub record FitsSlot (s : Slot) : Type 0 where
  pub dst : s.dst < 16
  pub offset : FitsSigned w16 s.offset
  pub imm : FitsSigned w32 s.imm

below_16 : (z : ℤ) → FitsSigned w16 z → cast_unsigned w16 z < 2 ^ 16
below_16 (pos n) f = omega (arith, f.sfits)
below_16 (negsuc n) f = omega arith

pub below_32 : (z : ℤ) → FitsSigned w32 z → cast_unsigned w32 z < 2 ^ 32
below_32 (pos n) f = omega (arith, f.sfits)
below_32 (negsuc n) f = omega arith

-- the slot that the bytes of a slot spell
pub slot_again : (s : Slot) (rest : List ℕ) → FitsSlot s → slot_in (slot_bytes s ++ rest) ≡ s
slot_again s rest fits =
    let d : (s.dst + 16 * s.src) % 16 ≡ s.dst = let f = fits.dst in omega arith in
    let r : (s.dst + 16 * s.src) / 16 ≡ s.src = let f = fits.dst in omega arith in
    let o : cast_signed w16 (from_le_bytes w16 (to_le_bytes w16 (cast_unsigned w16 s.offset))) ≡ s.offset =
    ap (cast_signed w16) (from_le_bytes-to_le_bytes_2 _ (below_16 s.offset fits.offset)) ∙ to_z-of_z w16 s.offset fits.offset in
    let i : cast_signed w32 (from_le_bytes w32 (to_le_bytes w32 (cast_unsigned w32 s.imm))) ≡ s.imm =
    ap (cast_signed w32) (from_le_bytes-to_le_bytes_4 _ (below_32 s.imm fits.imm)) ∙ to_z-of_z w32 s.imm fits.imm in
    λ k. record { opcode = s.opcode; dst = d k; src = r k; offset = o k; imm = i k }

pub drop_slot : (s : Slot) (rest : List ℕ) → drop 8 (slot_bytes s ++ rest) ≡ rest
drop_slot s rest = refl

below_none : (i : ℕ) → get_or {A = ℕ} [] i 0 < 256
below_none i = omega arith

below_two : (a b : ℕ) → a < 256 → b < 256 → (i : ℕ) → get_or (a ∷ b ∷ []) i 0 < 256
below_two a b ha hb zero = ha
below_two a b ha hb (suc zero) = hb
below_two a b ha hb (suc (suc i)) = below_none i

below_four : (a b c d : ℕ) → a < 256 → b < 256 → c < 256 → d < 256 → (i : ℕ) → get_or (a ∷ b ∷ c ∷ d ∷ []) i 0 < 256
below_four a b c d ha hb hc hd zero = ha
below_four a b c d ha hb hc hd (suc zero) = hb
below_four a b c d ha hb hc hd (suc (suc i)) = below_two c d hc hd i

two_below : (a b : ℕ) → a < 256 → b < 256 → from_le_bytes w16 (a ∷ b ∷ []) < 2 ^ 16
two_below a b ha hb = omega arith

four_below : (a b c d : ℕ) → a < 256 → b < 256 → c < 256 → d < 256 → from_le_bytes w32 (a ∷ b ∷ c ∷ d ∷ []) < 2 ^ 32
four_below a b c d ha hb hc hd = omega arith

-- eight bytes are those of the slot that they spell
bytes_again : (b0 b1 b2 b3 b4 b5 b6 b7 : ℕ) (rest : List ℕ) → b2 < 256 → b3 < 256 → b4 < 256 → b5 < 256 → b6 < 256 → b7 < 256
    → slot_bytes (slot_in (b0 ∷ b1 ∷ b2 ∷ b3 ∷ b4 ∷ b5 ∷ b6 ∷ b7 ∷ rest)) ++ rest ≡ b0 ∷ b1 ∷ b2 ∷ b3 ∷ b4 ∷ b5 ∷ b6 ∷ b7 ∷ rest
bytes_again b0 b1 b2 b3 b4 b5 b6 b7 rest h2 h3 h4 h5 h6 h7 =
    let two = b2 ∷ b3 ∷ [] in
    let four = b4 ∷ b5 ∷ b6 ∷ b7 ∷ [] in
    let n2 = from_le_bytes w16 two in
    let n4 = from_le_bytes w32 four in
    let r : b1 % 16 + 16 * (b1 / 16) ≡ b1 = omega arith in
    let o : to_le_bytes w16 (cast_unsigned w16 (cast_signed w16 n2)) ≡ two = ap (to_le_bytes w16) (of_z-to_z w16 n2 (two_below b2 b3 h2 h3))
    ∙ le_bytes_2 two n2 refl (below_two b2 b3 h2 h3) refl in
    let i : to_le_bytes w32 (cast_unsigned w32 (cast_signed w32 n4)) ≡ four = ap (to_le_bytes w32) (of_z-to_z w32 n4 (four_below b4 b5 b6 b7 h4 h5 h6 h7))
    ∙ le_bytes_4 four n4 refl (below_four b4 b5 b6 b7 h4 h5 h6 h7) refl in
    λ k. b0 ∷ r k ∷ ((o k ++ i k) ++ rest)

few : {P : Type 0} (n : ℕ) → 8 ≤ n → n < 8 → P
few n a b = let h : ⊥ = omega arith in absurd h

pub split_again : (bs : List ℕ) → AreBytes bs → 8 ≤ length bs → slot_bytes (slot_in bs) ++ drop 8 bs ≡ bs
split_again [] h le = few _ le (omega arith)
split_again (b0 ∷ []) h le = few _ le (omega arith)
split_again (b0 ∷ b1 ∷ []) h le = few _ le (omega arith)
split_again (b0 ∷ b1 ∷ b2 ∷ []) h le = few _ le (omega arith)
split_again (b0 ∷ b1 ∷ b2 ∷ b3 ∷ []) h le = few _ le (omega arith)
split_again (b0 ∷ b1 ∷ b2 ∷ b3 ∷ b4 ∷ []) h le = few _ le (omega arith)
split_again (b0 ∷ b1 ∷ b2 ∷ b3 ∷ b4 ∷ b5 ∷ []) h le = few _ le (omega arith)
split_again (b0 ∷ b1 ∷ b2 ∷ b3 ∷ b4 ∷ b5 ∷ b6 ∷ []) h le = few _ le (omega arith)
split_again (b0 ∷ b1 ∷ b2 ∷ b3 ∷ b4 ∷ b5 ∷ b6 ∷ b7 ∷ rest) h le = bytes_again b0 b1 b2 b3 b4 b5 b6 b7 rest (h 2) (h 3) (h 4) (h 5) (h 6) (h 7)

-- the numbers of a slot that bytes spell fit their fields
pub offset_fits : (bs : List ℕ) → AreBytes bs → FitsSigned w16 (slot_in bs).offset
offset_fits bs h = sfits_to_z (record { fits = two_below _ _ (h 2) (h 3) })

pub imm_fits : (bs : List ℕ) → AreBytes bs → FitsSigned w32 (slot_in bs).imm
imm_fits bs h = sfits_to_z (record { fits = four_below _ _ _ _ (h 4) (h 5) (h 6) (h 7) })

-- the slice from a place on
take_whole : (bs : List ℕ) → take (length bs) bs ≡ bs
take_whole [] = refl
take_whole (b ∷ bs) = ap (λ l. b ∷ l) (take_whole bs)

pub rest_of : (bs : List ℕ) (k : ℕ) → take (length bs - k) (drop k bs) ≡ drop k bs
rest_of bs k = ap (λ n. take n (drop k bs)) (sym (length-drop k bs)) ∙ take_whole (drop k bs)

-- the numbers that are read from it
pub offset_read : (bs : List ℕ) (z : ℤ) → AreBytes bs → z ≡ cast_signed w16 (little_number 2 (take (length bs - 2) (drop 2 bs)))
    → cast_signed w16 (cast_unsigned w16 z) ≡ (slot_in bs).offset
offset_read bs z h e =
    let n = from_le_bytes w16 (get_or bs 2 0 ∷ get_or bs 3 0 ∷ []) in
    let e0 = get_or-drop 2 bs 0 0 in
    let e1 = get_or-drop 2 bs 1 0 in
    let same : little_number 2 (drop 2 bs) ≡ n = omega arith in
    let all : z ≡ cast_signed w16 n = e ∙ ap (λ l. cast_signed w16 (little_number 2 l)) (rest_of bs 2) ∙ ap (cast_signed w16) same in
    ap (λ y. cast_signed w16 (cast_unsigned w16 y)) all ∙ ap (cast_signed w16) (of_z-to_z w16 n (two_below _ _ (h 2) (h 3)))

pub imm_read : (bs : List ℕ) (z : ℤ) → AreBytes bs → z ≡ cast_signed w32 (little_number 4 (take (length bs - 4) (drop 4 bs)))
    → cast_signed w32 (cast_unsigned w32 z) ≡ (slot_in bs).imm
imm_read bs z h e =
    let n = from_le_bytes w32 (get_or bs 4 0 ∷ get_or bs 5 0 ∷ get_or bs 6 0 ∷ get_or bs 7 0 ∷ []) in
    let e0 = get_or-drop 4 bs 0 0 in
    let e1 = get_or-drop 4 bs 1 0 in
    let e2 = get_or-drop 4 bs 2 0 in
    let e3 = get_or-drop 4 bs 3 0 in
    let same : little_number 4 (drop 4 bs) ≡ n = omega arith in
    let all : z ≡ cast_signed w32 n = e ∙ ap (λ l. cast_signed w32 (little_number 4 l)) (rest_of bs 4) ∙ ap (cast_signed w32) same in
    ap (λ y. cast_signed w32 (cast_unsigned w32 y)) all ∙ ap (cast_signed w32) (of_z-to_z w32 n (four_below _ _ _ _ (h 4) (h 5) (h 6) (h 7)))

-- the bytes after a slot
pub bytes_after_slot : (bs : List ℕ) → AreBytes bs → AreBytes (drop 8 bs)
bytes_after_slot bs h i = subst (λ x. x < 256) (sym (get_or-drop 8 bs i 0)) (h (8 + i))

-- the bytes after one slot more
pub slot_after : (bytes : List ℕ) (place : ℕ) → drop 8 (drop (8 * place) bytes) ≡ drop (8 * (place + 1)) bytes
slot_after bytes place = drop-drop 8 (8 * place) bytes ∙ ap (λ k. drop k bytes) (omega arith)

-- the upper half that a second slot holds
at_least : (n : ℕ) → 16 ≤ n → nat_le 16 n ≡ true
at_least n h = grind arith

pub next_some : (bs : List ℕ) → 16 ≤ length bs → next_upper bs ≡ Some (cast_unsigned w32 (slot_in (drop 8 bs)).imm)
next_some bs h = ap (λ (b : Bool). cond b (Some (cast_unsigned w32 (slot_in (drop 8 bs)).imm)) None) (at_least (length bs) h)

pub next_read : (bs : List ℕ) (s : Slot) (n : ℕ) → AreBytes bs → 16 ≤ length bs → s ≡ slot_in (take (length bs - 8) (drop 8 bs))
    → n ≡ cast_unsigned w32 (cast_signed w32 (cast_unsigned w32 s.imm)) → Some n ≡ next_upper bs
next_read bs s n h long e f =
    let e2 : s ≡ slot_in (drop 8 bs) = e ∙ ap slot_in (rest_of bs 8) in
    let all : n ≡ cast_unsigned w32 (slot_in (drop 8 bs)).imm =
    f ∙ ap (λ (t : Slot). cast_unsigned w32 (cast_signed w32 (cast_unsigned w32 t.imm))) e2
    ∙ ap (cast_unsigned w32) (to_z-of_z w32 (slot_in (drop 8 bs)).imm (imm_fits (drop 8 bs) (bytes_after_slot bs h))) in
    ap (λ (m : ℕ). Some m) all ∙ sym (next_some bs long)
