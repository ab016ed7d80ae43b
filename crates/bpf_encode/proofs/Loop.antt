-- What is decoded after some slots.
use Rattle.std.proofs.Common.{◌≡◌, ℕ, suc, ◌+◌, ◌-◌, ◌*◌, ◌<◌, ◌≤◌, refl, ap, sym, ◌∙◌, List, [], ◌∷◌, ◌++◌, append_assoc, append-nil, drop, Bool, arith}
use Rattle.std.specs.Prelude.{Result, Ok, Err, MatchResult}
use Rattle.bpf_insn.specs.declared.insn.Insn.{Insn}
use Rattle.bpf_insn.specs.Code.{is_wide}
use Rattle.bpf_encode.specs.declared.decode.DecodeError.{DecodeError}
use Rattle.bpf_encode.specs.declared.decode.DecodeError.TheVariants.{BadLength, BadOpcode, BadField, HalfWide, Memory}
use Rattle.bpf_encode.proofs.Bytes.{slot_after}
use Rattle.bpf_encode.specs.Slots.{slot_decoded, followed, with_rest, decoded, after_code, FaultIs}

-- one slot more
with_slot : (bytes : List ℕ) (slots place : ℕ) (owed : Bool) (is : List Insn) (r : Result Insn DecodeError) → place < slots
    → slot_decoded place owed (drop (8 * place) bytes) ≡ r → after_code is (decoded place owed (slots - place) (drop (8 * place) bytes)) ≡ after_code is
    (with_rest r (λ i. decoded (place + 1) (is_wide i) (slots - (place + 1)) (drop (8 * (place + 1)) bytes)))
with_slot bytes slots place owed is r lt e =
    let s : slots - place ≡ suc (slots - (place + 1)) = omega arith in
    ap (λ k. after_code is (decoded place owed k (drop (8 * place) bytes))) s
    ∙ ap (λ (x : Result Insn DecodeError). after_code is (with_rest x
    (λ i. decoded (place + 1) (is_wide i) (slots - (place + 1)) (drop 8 (drop (8 * place) bytes))))) e
    ∙ ap (λ bs. after_code is (with_rest r (λ i. decoded (place + 1) (is_wide i) (slots - (place + 1)) bs))) (slot_after bytes place)

pub decoded_more : (bytes : List ℕ) (slots place : ℕ) (owed : Bool) (is : List Insn) (i : Insn) → place < slots
    → slot_decoded place owed (drop (8 * place) bytes) ≡ Ok i
    → after_code is (decoded place owed (slots - place) (drop (8 * place) bytes)) ≡ after_code (is ++ i ∷ [])
    (decoded (place + 1) (is_wide i) (slots - (place + 1)) (drop (8 * (place + 1)) bytes))
decoded_more bytes slots place owed is i lt e =
    with_slot bytes slots place owed is (Ok i) lt e ∙ all (decoded (place + 1) (is_wide i) (slots - (place + 1)) (drop (8 * (place + 1)) bytes))
  where
    all : (r : Result (List Insn) DecodeError) → after_code is (followed i r) ≡ after_code (is ++ i ∷ []) r
    all (Ok js) = ap (λ (l : List Insn). Ok l) (sym (append_assoc is (i ∷ []) js))
    all (Err e) = refl

pub decoded_bad : (bytes : List ℕ) (slots place : ℕ) (owed : Bool) (is : List Insn) (e : DecodeError) → place < slots
    → slot_decoded place owed (drop (8 * place) bytes) ≡ Err e → after_code is (decoded place owed (slots - place) (drop (8 * place) bytes)) ≡ Err e
decoded_bad bytes slots place owed is e lt x = with_slot bytes slots place owed is (Err e) lt x

pub decoded_all : (bytes : List ℕ) (slots place : ℕ) (owed : Bool) (is : List Insn) → slots ≤ place
    → after_code is (decoded place owed (slots - place) (drop (8 * place) bytes)) ≡ Ok is
decoded_all bytes slots place owed is le =
    let s : slots - place ≡ 0 = omega arith in
    ap (λ k. after_code is (decoded place owed k (drop (8 * place) bytes))) s ∙ ap (λ l. Ok l) (append-nil is)

pub fault_of : (r : Result (List Insn) DecodeError) (e : DecodeError) → r ≡ Err e → FaultIs r e
fault_of r BadLength h = h
fault_of r (BadOpcode n) h = h
fault_of r (BadField n) h = h
fault_of r (HalfWide n) h = h
fault_of r (Memory m) h = tt

pub either : {A E : Type 0} (r : Result A E) (P Q : A → Type 0) (R S : E → Type 0) → ((a : A) → P a → Q a) → ((e : E) → R e → S e) → MatchResult r P R
    → MatchResult r Q S
either (Ok a) P Q R S f g h = f a h
either (Err e) P Q R S f g h = g e h

pub same_code : (r : Result (List Insn) DecodeError) (a b : List Insn) → r ≡ Ok a → r ≡ Ok b → a ≡ b
same_code r a b p q = let e = sym p ∙ q in cc
