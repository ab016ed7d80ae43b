-- Bytes are those of at most one code, which decoding finds, and else it finds their first fault.
use Rattle.std.proofs.Common.{◌≡◌, ℕ, zero, suc, ◌+◌, ◌*◌, ◌<◌, ◌≤◌, refl, ap, sym, ◌∙◌, subst, List, [], ◌∷◌, ◌++◌, append_assoc, length, drop, Option, Some, None, Bool, true, false, arith}
use Rattle.std.specs.Prelude.{◌/◌, ◌%◌, ◌^◌, cond, ◌&&◌, nat_le, Result, Ok, Err, is_none, unwrap_or, IsTrue}
use Rattle.std.specs.Int.{w32, cast_unsigned}
use Rattle.std.specs.List.{AllByRecursion}
use Rattle.std.proofs.lemmas.List.{length-drop}
use Rattle.std.proofs.lemmas.Bool.{and_parts}
use Rattle.std.proofs.lemmas.Int.{of_z-to_z}
use Rattle.bpf_insn.specs.declared.form.Form.{Form}
use Rattle.bpf_insn.specs.declared.insn.Insn.{Insn}
use Rattle.bpf_insn.specs.declared.insn.Insn.TheVariants.{Half}
use Rattle.bpf_insn.specs.declared.slot.Slot.{Slot}
use Rattle.bpf_insn.specs.Code.{is_valid, is_wide, is_half, HalvesFollow}
use Rattle.bpf_insn.specs.Opcodes.{opcode_of, form_of}
use Rattle.bpf_insn.specs.Classes.{class_form}
use Rattle.bpf_insn.specs.Encoding.{slot_of, slot_bytes, upper_of, bytes_after}
use Rattle.bpf_insn.proofs.Rules.{found_fits, found}
use Rattle.bpf_encode.specs.declared.decode.DecodeError.{DecodeError}
use Rattle.bpf_encode.specs.declared.decode.DecodeError.TheVariants.{BadField, HalfWide}
use Rattle.bpf_encode.specs.Decoding.{Fits, IsCodeOf, slot_in}
use Rattle.bpf_encode.specs.Faults.{AreBytes, missing}
use Rattle.bpf_encode.specs.Slots.{insn_with, is_same_slot, next_upper, completed, checked, first_decoded, half_decoded, slot_decoded, followed, with_rest, decoded}
use Rattle.bpf_encode.proofs.Bytes.{slot_again, split_again, offset_fits, imm_fits, below_32, bytes_after_slot, next_some}
use Rattle.bpf_encode.proofs.Slots.{same_slot, slot_same, found_again, insn_fits, no_half, upper_is, member_of, upper_aside, fits_slot, upper_fits}

-- where a half is due, upper is what the slot holds that comes next, and there is one
pub record Linked (owed : Bool) (upper : ℕ) (slots : ℕ) (bs : List ℕ) : Type 0 where
  pub more : owed ≡ true → 1 ≤ slots
  pub same : owed ≡ true → upper ≡ cast_unsigned w32 (slot_in bs).imm

-- the instruction of the slot at the front
pub record IsOfSlot (owed : Bool) (upper : ℕ) (slots : ℕ) (bs : List ℕ) (i : Insn) : Type 0 where
  pub valid : IsTrue (is_valid i)
  pub half : is_half i ≡ owed
  pub fits : Fits i
  pub slot : slot_of upper i ≡ slot_in bs
  pub linked : Linked (is_wide i) (upper_of i) slots (drop 8 bs)

false_true : {P : Type 0} → false ≡ true → P
false_true h = absurd (cc)

half_ok : (n upper slots : ℕ) (bs : List ℕ) (i : Insn) → Linked true upper (suc slots) bs → (b : Bool)
    → is_same_slot (slot_of (cast_unsigned w32 (slot_in bs).imm) Half) (slot_in bs) ≡ b
    → cond {A = Result Insn DecodeError} b (Ok Half) (Err (BadField n)) ≡ Ok i → IsOfSlot true upper slots bs i
half_ok n upper slots bs i l true t h =
    let e : Half ≡ i = cc in
    let s : slot_of upper Half ≡ slot_in bs = ap (λ (u : ℕ). slot_of u Half) (l.same refl) ∙ same_slot _ _ t in
    subst (IsOfSlot true upper slots bs) e (record {
      valid = refl;
      half = refl;
      fits = tt;
      slot = s;
      linked = record { more = λ w. false_true w; same = λ w. false_true w };
    })
half_ok n upper slots bs i l false t h = absurd (cc)

-- the upper half that stands in the next slot
upper_below : (bs : List ℕ) → AreBytes bs → (b : Bool) → nat_le 16 (length bs) ≡ b
    → unwrap_or (cond b (Some (cast_unsigned w32 (slot_in (drop 8 bs)).imm)) None) 0 < 2 ^ 32
upper_below bs h true t = below_32 (slot_in (drop 8 bs)).imm (imm_fits (drop 8 bs) (bytes_after_slot bs h))
upper_below bs h false t = omega arith

pub next_below : (bs : List ℕ) → AreBytes bs → unwrap_or (next_upper bs) 0 < 2 ^ 32
next_below bs h = upper_below bs h (nat_le 16 (length bs)) refl

abbrev not_none : List ℕ → Bool → Type 0
not_none bs b = is_none (cond b (Some (cast_unsigned w32 (slot_in (drop 8 bs)).imm)) None) ≡ false → b ≡ true

known_next : (bs : List ℕ) (b : Bool) → not_none bs b
known_next bs true h = refl
known_next bs false h = absurd (cc)

long_enough : (bs : List ℕ) → is_none (next_upper bs) ≡ false → 16 ≤ length bs
long_enough bs h = let t = known_next bs (nat_le 16 (length bs)) h in grind arith

pub linked_next : (bs : List ℕ) (slots u : ℕ) (i : Insn) → length bs ≡ 8 * suc slots → (IsTrue (is_wide i) → upper_of i ≡ unwrap_or (next_upper bs) 0)
    → (IsTrue (is_wide i) → is_none (next_upper bs) ≡ false) → Linked (is_wide i) (upper_of i) slots (drop 8 bs)
linked_next bs slots u i l e some = record {
  more = λ w. (let h = long_enough bs (some w) in omega arith);
  same = λ w. e w ∙ ap (λ (o : Option ℕ). unwrap_or o 0) (next_some bs (long_enough bs (some w)));
}

wide_some : (i : Insn) (o : Option ℕ) → (is_wide i && is_none o) ≡ false → IsTrue (is_wide i) → is_none o ≡ false
wide_some i o t w = sym (ap (λ (b : Bool). b && is_none o) w) ∙ t

completed_ok : (n : ℕ) (o : Option ℕ) (j i : Insn) (b : Bool) → (is_wide j && is_none o) ≡ b
    → cond {A = Result Insn DecodeError} b (Err (HalfWide n)) (Ok j) ≡ Ok i → (j ≡ i) × ((is_wide j && is_none o) ≡ false)
completed_ok n o j i true t h = absurd (cc)
completed_ok n o j i false t h = let e : j ≡ i = cc in (e, t)

checked_ok : (n : ℕ) (s : Slot) (o : Option ℕ) (j i : Insn) (b : Bool) → (is_valid j && is_same_slot (slot_of 0 j) s) ≡ b
    → cond {A = Result Insn DecodeError} b (completed n o j) (Err (BadField n)) ≡ Ok i
    → (j ≡ i) × IsTrue (is_valid j) × (slot_of 0 j ≡ s) × ((is_wide j && is_none o) ≡ false)
checked_ok n s o j i true t h =
    let p = and_parts (is_valid j) _ t in
    let q = completed_ok n o j i (is_wide j && is_none o) refl h in
    (q.0, p.0, same_slot _ _ p.1, q.1)
checked_ok n s o j i false t h = absurd (cc)

first_ok : (n upper slots : ℕ) (bs : List ℕ) (i : Insn) → AreBytes bs → length bs ≡ 8 * suc slots → (o : Option Form) → class_form (slot_in bs).opcode ≡ o
    → first_decoded n (slot_in bs) (next_upper bs) o ≡ Ok i → IsOfSlot false upper slots bs i
first_ok n upper slots bs i hb l None e h = absurd (cc)
first_ok n upper slots bs i hb l (Some f) e h =
    let s = slot_in bs in
    let u = unwrap_or (next_upper bs) 0 in
    let j = insn_with s u f in
    let q = checked_ok n s (next_upper bs) j i (is_valid j && is_same_slot (slot_of 0 j) s) refl h in
    let m = (found_fits s.opcode f (hb 0) e).member in
    let half : is_half j ≡ false = no_half s u f m in
    subst (IsOfSlot false upper slots bs) q.0 (record {
      valid = q.1;
      half = half;
      fits = insn_fits s u f (offset_fits bs hb) (imm_fits bs hb) (next_below bs hb);
      slot = upper_aside j upper half ∙ q.2;
      linked = linked_next bs slots u j l (upper_is s u f (imm_fits bs hb)) (wide_some j (next_upper bs) q.3);
    })

slot_ok : (n : ℕ) (owed : Bool) (upper slots : ℕ) (bs : List ℕ) (i : Insn) → AreBytes bs → length bs ≡ 8 * suc slots → Linked owed upper (suc slots) bs
    → slot_decoded n owed bs ≡ Ok i → IsOfSlot owed upper slots bs i
slot_ok n true upper slots bs i hb l k h = half_ok n upper slots bs i k _ refl h
slot_ok n false upper slots bs i hb l k h = first_ok n upper slots bs i hb l (class_form (slot_in bs).opcode) refl h

-- code with its bytes, after upper
pub record Spells (owed : Bool) (upper : ℕ) (code : List Insn) (bytes : List ℕ) : Type 0 where
  pub valid : AllByRecursion (λ i. IsTrue (is_valid i)) code
  pub halves : HalvesFollow owed code
  pub fits : AllByRecursion Fits code
  pub spelt : bytes_after upper code ≡ bytes

-- where a fault stands; at the end says whether a half is due there
pub record Faulty (n : ℕ) (owed : Bool) (upper : ℕ) (bs : List ℕ) (e : DecodeError) : Type 0 where
  pub before : List Insn
  pub rest : List ℕ
  pub left : ℕ
  pub at_end : Bool
  pub valid : AllByRecursion (λ i. IsTrue (is_valid i)) before
  pub halves : HalvesFollow owed (before ++ missing at_end)
  pub fits : AllByRecursion Fits before
  pub split : bs ≡ bytes_after upper before ++ rest
  pub long : length rest ≡ 8 * suc left
  pub bytes : AreBytes rest
  pub stops : slot_decoded (n + length before) at_end rest ≡ Err e

abbrev pub Outcome : ℕ → Bool → ℕ → List ℕ → Result (List Insn) DecodeError → Type 0
Outcome n owed upper bs (Ok is) = Spells owed upper is bs
Outcome n owed upper bs (Err e) = Faulty n owed upper bs e

missing_follows : (owed : Bool) → HalvesFollow owed (missing owed)
missing_follows true = (refl, refl)
missing_follows false = refl

length_after : (bs : List ℕ) (slots : ℕ) → length bs ≡ 8 * suc slots → length (drop 8 bs) ≡ 8 * slots
length_after bs slots e = length-drop 8 bs ∙ (let l = e in omega arith)

no_bytes : (bs : List ℕ) → length bs ≡ 0 → [] ≡ bs
no_bytes [] e = refl
no_bytes (x ∷ xs) e = absurd (cc)

ended : (n : ℕ) (owed : Bool) (upper : ℕ) (bs : List ℕ) → length bs ≡ 0 → Linked owed upper 0 bs → Spells owed upper [] bs
ended n true upper bs l k = let m = k.more refl in absurd (omega arith)
ended n false upper bs l k = record { valid = tt; halves = refl; fits = tt; spelt = no_bytes bs l }

more : (n : ℕ) (owed : Bool) (upper slots : ℕ) (bs : List ℕ) (i : Insn) → AreBytes bs → length bs ≡ 8 * suc slots → IsOfSlot owed upper slots bs i
    → (r : Result (List Insn) DecodeError) → Outcome (n + 1) (is_wide i) (upper_of i) (drop 8 bs) r → Outcome n owed upper bs (followed i r)
more n owed upper slots bs i hb l q (Ok js) o =
    let le : 8 ≤ length bs = omega arith in
    record {
      valid = (q.valid, o.valid);
      halves = (q.half, o.halves);
      fits = (q.fits, o.fits);
      spelt = ap (λ s. slot_bytes s ++ bytes_after (upper_of i) js) q.slot ∙ ap (λ r. slot_bytes (slot_in bs) ++ r) o.spelt ∙ split_again bs hb le;
    }
more n owed upper slots bs i hb l q (Err e) o =
    let le : 8 ≤ length bs = omega arith in
    let z : n + 1 + length o.before ≡ n + suc (length o.before) = omega arith in
    record {
      before = i ∷ o.before;
      rest = o.rest;
      left = o.left;
      at_end = o.at_end;
      valid = (q.valid, o.valid);
      halves = (q.half, o.halves);
      fits = (q.fits, o.fits);
      split = sym (split_again bs hb le) ∙ ap (λ s. slot_bytes s ++ drop 8 bs) (sym q.slot) ∙ ap (λ x. slot_bytes (slot_of upper i) ++ x) o.split
          ∙ sym (append_assoc (slot_bytes (slot_of upper i)) (bytes_after (upper_of i) o.before) o.rest);
      long = o.long;
      bytes = o.bytes;
      stops = subst (λ k. slot_decoded k o.at_end o.rest ≡ Err e) z o.stops;
    }

stopped : (n : ℕ) (owed : Bool) (upper slots : ℕ) (bs : List ℕ) (e : DecodeError) → AreBytes bs → length bs ≡ 8 * suc slots → slot_decoded n owed bs ≡ Err e
    → Faulty n owed upper bs e
stopped n owed upper slots bs e hb l h =
    let z : n ≡ n + 0 = omega arith in
    record {
      before = [];
      rest = bs;
      left = slots;
      at_end = owed;
      valid = tt;
      halves = missing_follows owed;
      fits = tt;
      split = refl;
      long = l;
      bytes = hb;
      stops = subst (λ k. slot_decoded k owed bs ≡ Err e) z h;
    }

-- so many slots are code with these bytes, or one of them is at fault
pub outcome : (slots n : ℕ) (owed : Bool) (upper : ℕ) (bs : List ℕ) → AreBytes bs → length bs ≡ 8 * slots → Linked owed upper slots bs
    → Outcome n owed upper bs (decoded n owed slots bs)
outcome zero n owed upper bs hb l k = ended n owed upper bs (l ∙ refl) k
outcome (suc slots) n owed upper bs hb l k =
    step (slot_decoded n owed bs) refl (λ i. outcome slots (n + 1) (is_wide i) (upper_of i) (drop 8 bs) (bytes_after_slot bs hb) (length_after bs slots l))
  where
    step : (x : Result Insn DecodeError) → slot_decoded n owed bs ≡ x
        → ((i : Insn) → Linked (is_wide i) (upper_of i) slots (drop 8 bs)
        → Outcome (n + 1) (is_wide i) (upper_of i) (drop 8 bs) (decoded (n + 1) (is_wide i) slots (drop 8 bs)))
        → Outcome n owed upper bs (with_rest x (λ i. decoded (n + 1) (is_wide i) slots (drop 8 bs)))
    step (Err e) h rec = stopped n owed upper slots bs e hb l h
    step (Ok i) h rec =
        let q = slot_ok n owed upper slots bs i hb l k h in
        more n owed upper slots bs i hb l q (decoded (n + 1) (is_wide i) slots (drop 8 bs)) (rec i q.linked)

none_linked : (slots : ℕ) (bs : List ℕ) → Linked false 0 slots bs
none_linked slots bs = record { more = λ w. false_true w; same = λ w. false_true w }

pub outcome_at : (bytes : List ℕ) → AreBytes bytes → length bytes % 8 ≡ 0 → Outcome 0 false 0 bytes (decoded 0 false (length bytes / 8) bytes)
outcome_at bytes hb whole =
    let l : length bytes ≡ 8 * (length bytes / 8) = omega arith in
    outcome (length bytes / 8) 0 false 0 bytes hb l (none_linked (length bytes / 8) bytes)

pub outcome_is : (bytes : List ℕ) (r s : Result (List Insn) DecodeError) → r ≡ s → Outcome 0 false 0 bytes r → Outcome 0 false 0 bytes s
outcome_is bytes r s e o = subst (Outcome 0 false 0 bytes) e o

pub found_code : (bytes : List ℕ) (is : List Insn) → AreBytes bytes → length bytes % 8 ≡ 0 → decoded 0 false (length bytes / 8) bytes ≡ Ok is
    → IsCodeOf is bytes
found_code bytes is hb whole d =
    let s = outcome_is bytes _ (Ok is) d (outcome_at bytes hb whole) in
    record { is_code = record { well_formed = record { valid = s.valid; halves = s.halves }; fits = s.fits }; spelt = s.spelt }

-- code is found again
pub half_is : (i : Insn) → is_half i ≡ true → Half ≡ i
half_is Half h = refl
half_is i h = absurd (cc)

pub half_found : (n upper : ℕ) → upper < 2 ^ 32 → half_decoded n (slot_of upper Half) ≡ Ok Half
half_found n upper lt =
    ap (λ (u : ℕ). cond {A = Result Insn DecodeError} (is_same_slot (slot_of u Half) (slot_of upper Half)) (Ok Half) (Err (BadField n)))
    (of_z-to_z w32 upper lt)
    ∙ ap (λ (b : Bool). cond {A = Result Insn DecodeError} b (Ok Half) (Err (BadField n))) (slot_same (slot_of upper Half))

no_gap : (b : Bool) (o : Option ℕ) (u : ℕ) → (b ≡ true → o ≡ Some u) → (b && is_none o) ≡ false
no_gap true o u h = ap is_none (h refl)
no_gap false o u h = refl

first_found : (n : ℕ) (i : Insn) (o : Option ℕ) → IsTrue (is_valid i) → Fits i → is_half i ≡ false → (IsTrue (is_wide i) → o ≡ Some (upper_of i))
    → first_decoded n (slot_of 0 i) o (class_form (opcode_of (form_of i))) ≡ Ok i
first_found n i o v f h next =
    ap (first_decoded n (slot_of 0 i) o) (found (form_of i) (member_of i v h))
    ∙ ap (checked n (slot_of 0 i) o) (found_again i (unwrap_or o 0) h f (λ w. ap (λ (p : Option ℕ). unwrap_or p 0) (next w)))
    ∙ ap (λ (b : Bool). cond (b && is_same_slot (slot_of 0 i) (slot_of 0 i)) (completed n o i) (Err (BadField n))) v
    ∙ ap (λ (b : Bool). cond b (completed n o i) (Err (BadField n))) (slot_same (slot_of 0 i))
    ∙ ap (λ (b : Bool). cond {A = Result Insn DecodeError} b (Err (HalfWide n)) (Ok i)) (no_gap (is_wide i) o (upper_of i) next)

next_found : (s : Slot) (u : ℕ) (is : List Insn) → u < 2 ^ 32 → HalvesFollow true is → next_upper (slot_bytes s ++ bytes_after u is) ≡ Some u
next_found s u [] lt h = absurd (let e = h in cc)
next_found s u (j ∷ js) lt h =
    let bs = slot_bytes s ++ bytes_after u (j ∷ js) in
    let long : 16 ≤ length bs = omega arith in
    let e : slot_in (drop 8 bs) ≡ slot_of u Half = ap (λ (k : Insn). slot_in (slot_bytes (slot_of u k) ++ bytes_after (upper_of j) js)) (sym (half_is j h.0))
    ∙ slot_again (slot_of u Half) (bytes_after (upper_of j) js) (fits_slot Half u refl tt lt) in
    next_some bs long ∙ ap (λ (t : Slot). Some (cast_unsigned w32 t.imm)) e ∙ ap (λ (x : ℕ). Some x) (of_z-to_z w32 u lt)

slot_found : (n : ℕ) (owed : Bool) (upper : ℕ) (i : Insn) (is : List Insn) → IsTrue (is_valid i) → Fits i → is_half i ≡ owed → HalvesFollow (is_wide i) is
    → upper < 2 ^ 32 → slot_decoded n owed (slot_bytes (slot_of upper i) ++ bytes_after (upper_of i) is) ≡ Ok i
slot_found n true upper i is v f h hs lt =
    let rest = bytes_after (upper_of i) is in
    let e : slot_in (slot_bytes (slot_of upper i) ++ rest) ≡ slot_of upper Half = slot_again (slot_of upper i) rest (fits_slot i upper v f lt)
    ∙ ap (slot_of upper) (sym (half_is i h)) in
    ap (half_decoded n) e ∙ half_found n upper lt ∙ ap (λ (x : Insn). Ok x) (half_is i h)
slot_found n false upper i is v f h hs lt =
    let rest = bytes_after (upper_of i) is in
    let bs = slot_bytes (slot_of upper i) ++ rest in
    let e : slot_in bs ≡ slot_of 0 i = slot_again (slot_of upper i) rest (fits_slot i upper v f lt) ∙ upper_aside i upper h in
    ap (λ (s : Slot). first_decoded n s (next_upper bs) (class_form s.opcode)) e
    ∙ first_found n i (next_upper bs) v f h (λ w. next_found (slot_of upper i) (upper_of i) is (upper_fits i f) (subst (λ b. HalvesFollow b is) w hs))

complete : (n : ℕ) (owed : Bool) (upper : ℕ) (is : List Insn) → AllByRecursion (λ i. IsTrue (is_valid i)) is → HalvesFollow owed is → AllByRecursion Fits is
    → upper < 2 ^ 32 → decoded n owed (length is) (bytes_after upper is) ≡ Ok is
complete n owed upper [] v h f lt = refl
complete n owed upper (i ∷ is) v h f lt =
    ap (λ (x : Result Insn DecodeError). with_rest x (λ j. decoded (n + 1) (is_wide j) (length is) (bytes_after (upper_of i) is)))
    (slot_found n owed upper i is v.0 f.0 h.0 h.1 lt)
    ∙ ap (followed i) (complete (n + 1) (is_wide i) (upper_of i) is v.1 h.1 f.1 (upper_fits i f.0))

pub length_of_code : (upper : ℕ) (is : List Insn) → length (bytes_after upper is) ≡ 8 * length is
length_of_code upper [] = refl
length_of_code upper (i ∷ is) = let e = length_of_code (upper_of i) is in omega arith

pub complete_at : (is : List Insn) (bytes : List ℕ) → IsCodeOf is bytes → decoded 0 false (length bytes / 8) bytes ≡ Ok is
complete_at is bytes c =
    let l : length bytes / 8 ≡ length is = (let a = ap length (sym c.spelt) ∙ length_of_code 0 is in omega arith) in
    let w = c.is_code.well_formed in
    ap (λ k. decoded 0 false k bytes) l ∙ ap (decoded 0 false (length is)) (sym c.spelt) ∙ complete 0 false 0 is w.valid w.halves c.is_code.fits (omega arith)

pub whole_of_code : (is : List Insn) (bytes : List ℕ) → IsCodeOf is bytes → length bytes % 8 ≡ 0
whole_of_code is bytes c = let a = ap length (sym c.spelt) ∙ length_of_code 0 is in omega arith
