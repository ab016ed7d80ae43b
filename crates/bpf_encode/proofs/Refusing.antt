-- What a fault says of the bytes.
use Rattle.std.proofs.Common.{◌≡◌, ◌≢◌, ℕ, suc, ◌+◌, ◌*◌, ◌<◌, ◌≤◌, refl, ap, sym, ◌∙◌, subst, inl, inr, List, [], ◌∷◌, ◌++◌, append-nil, length, length-append, drop, Option, Some, None, Bool, true, false, arith}
use Rattle.std.specs.Prelude.{◌/◌, ◌%◌, cond, ◌&&◌, nat_le, Result, Ok, Err, is_none, unwrap_or, IsTrue}
use Rattle.std.specs.Int.{w32, cast_unsigned}
use Rattle.std.specs.List.{AllByRecursion}
use Rattle.std.proofs.lemmas.List.{length-drop}
use Rattle.std.proofs.lemmas.Bool.{and_parts}
use Rattle.std.proofs.lemmas.Int.{of_z-to_z}
use Rattle.bpf_insn.specs.declared.form.Form.{Form}
use Rattle.bt_core.specs.Want.{out_of_memory}
use Rattle.bpf_insn.specs.declared.insn.Insn.{Insn}
use Rattle.bpf_insn.specs.declared.insn.Insn.TheVariants.{Half}
use Rattle.bpf_insn.specs.declared.slot.Slot.{Slot}
use Rattle.bpf_insn.specs.Code.{is_valid, is_wide, is_half}
use Rattle.bpf_insn.specs.Opcodes.{opcode_of, form_of, IsFormAt}
use Rattle.bpf_insn.specs.Classes.{class_form}
use Rattle.bpf_insn.specs.Encoding.{slot_of, slot_bytes, bytes_after}
use Rattle.bpf_insn.proofs.Rules.{found, found_fits, form_found}
use Rattle.bpf_encode.specs.declared.decode.DecodeError.{DecodeError}
use Rattle.bpf_encode.specs.declared.decode.DecodeError.TheVariants.{BadLength, BadOpcode, BadField, HalfWide, Memory}
use Rattle.bpf_encode.specs.Decoding.{Fits, IsCode, IsCodeOf, slot_in}
use Rattle.bpf_encode.specs.Faults.{AreBytes, BeginsWith, missing, FaultAt, HasBadOpcode, HasBadField, HasBadHalf, IsHalfWide, IsFirstFault}
use Rattle.bpf_encode.specs.Slots.{insn_with, is_same_slot, next_upper, completed, first_decoded, slot_decoded, decoded, FaultIs}
use Rattle.bpf_encode.proofs.Bytes.{slot_again, split_again, offset_fits, imm_fits}
use Rattle.bpf_encode.proofs.Slots.{same_slot, slot_same, first_again, insn_fits, member_of, fits_slot}
use Rattle.bpf_encode.proofs.Decoding.{Faulty, length_of_code, outcome_at, outcome_is, complete_at, next_below}

all_missing : (P : Insn → Type 0) → P Half → (is : List Insn) → AllByRecursion P is → (b : Bool) → AllByRecursion P (is ++ missing b)
all_missing P h [] a true = (h, tt)
all_missing P h [] a false = tt
all_missing P h (i ∷ is) a b = (a.0, all_missing P h is a.1 b)

code_before : (bs : List ℕ) (e : DecodeError) (r : Faulty 0 false 0 bs e) → IsCode (r.before ++ missing r.at_end)
code_before bs e r = record {
  well_formed = record { valid = all_missing (λ i. IsTrue (is_valid i)) refl r.before r.valid r.at_end; halves = r.halves };
  fits = all_missing Fits tt r.before r.fits r.at_end;
}

fault_at : (bs : List ℕ) (e : DecodeError) (r : Faulty 0 false 0 bs e) (b : Bool) (fault : List ℕ → Type 0) → r.at_end ≡ b → fault r.rest
    → FaultAt b fault bs (length r.before)
fault_at bs e r b fault t f =
    let long : 8 ≤ length r.rest = (let l = r.long in omega arith) in
    let slots : length bs ≡ 8 * length r.before + length r.rest = ap length r.split ∙ length-append (bytes_after 0 r.before) r.rest
    ∙ ap (λ k. k + length r.rest) (length_of_code 0 r.before) in
    let multiple : length bs % 8 ≡ 0 = (let l = r.long in omega arith) in
    record {
      multiple = multiple;
      before = r.before;
      rest = r.rest;
      is_code = subst (λ b. IsCode (r.before ++ missing b)) t (code_before bs e r);
      many = refl;
      split = r.split;
      whole = long;
      at_fault = f;
    }

-- a second slot that is no half
bad_half : (rest : List ℕ) → is_same_slot (slot_of (cast_unsigned w32 (slot_in rest).imm) Half) (slot_in rest) ≡ false → HasBadHalf rest
bad_half rest t upper lt b =
    let e : slot_in rest ≡ slot_of upper Half = ap slot_in (sym b.1) ∙ slot_again (slot_of upper Half) b.0 (fits_slot Half upper refl tt lt) in
    let u : cast_unsigned w32 (slot_in rest).imm ≡ upper = ap (λ (s : Slot). cast_unsigned w32 s.imm) e ∙ of_z-to_z w32 upper lt in
    let same : is_same_slot (slot_of (cast_unsigned w32 (slot_in rest).imm) Half) (slot_in rest) ≡ true =
    ap (λ (x : ℕ). is_same_slot (slot_of x Half) (slot_in rest)) u ∙ ap (is_same_slot (slot_of upper Half)) e ∙ slot_same (slot_of upper Half) in
    cc

half_stops : (bs : List ℕ) (e : DecodeError) (r : Faulty 0 false 0 bs e) → r.at_end ≡ true → (b : Bool)
    → is_same_slot (slot_of (cast_unsigned w32 (slot_in r.rest).imm) Half) (slot_in r.rest) ≡ b
    → cond {A = Result Insn DecodeError} b (Ok Half) (Err (BadField (length r.before))) ≡ Err e → IsFirstFault bs e
half_stops bs e r t true s h = absurd (cc)
half_stops bs e r t false s h =
    let same : BadField (length r.before) ≡ e = cc in
    subst (IsFirstFault bs) same (inr (fault_at bs e r true HasBadHalf t (bad_half r.rest s)))

-- no half has an opcode of the table
no_half_opcode : (f : Form) → class_form 0 ≡ Some f → ⊥
no_half_opcode f h = cc

-- where no form is found, none has the opcode
no_form : (n : ℕ) → class_form n ≡ None → (f : Form) → IsFormAt n f → ⊥
no_form n none f h = let e = sym (form_found n f h) ∙ none in cc

-- a slot whose instruction has another one
bad_field : (rest : List ℕ) (f : Form) → AreBytes rest → class_form (slot_in rest).opcode ≡ Some f
    → (is_valid (insn_with (slot_in rest) (unwrap_or (next_upper rest) 0) f) && is_same_slot
    (slot_of 0 (insn_with (slot_in rest) (unwrap_or (next_upper rest) 0) f)) (slot_in rest)) ≡ false → (i : Insn) → IsTrue (is_valid i) → Fits i
    → BeginsWith (slot_of 0 i) rest → (b : Bool) → is_half i ≡ b → ⊥
bad_field rest f hb c bad i v fits b true h = no_half_opcode f
    (sym (ap (λ (s : Slot). class_form s.opcode) (ap slot_in (sym b.1) ∙ slot_again (slot_of 0 i) b.0 (fits_slot i 0 v fits (omega arith))) ∙ half_opcode i h)
    ∙ c)
  where
    half_opcode : (i : Insn) → is_half i ≡ true → class_form (opcode_of (form_of i)) ≡ class_form 0
    half_opcode Half h = refl
    half_opcode i h = absurd (cc)
bad_field rest f hb c bad i v fits b false h =
    let u = unwrap_or (next_upper rest) 0 in
    let e : slot_in rest ≡ slot_of 0 i = ap slot_in (sym b.1) ∙ slot_again (slot_of 0 i) b.0 (fits_slot i 0 v fits (omega arith)) in
    let g : class_form (slot_in rest).opcode ≡ Some (form_of i) = ap (λ (s : Slot). class_form s.opcode) e ∙ found (form_of i) (member_of i v h) in
    let same : f ≡ form_of i = cc in
    let j : insn_with (slot_in rest) u f ≡ insn_with (slot_of 0 i) u (form_of i) = ap (λ (s : Slot). insn_with s u f) e ∙ ap (insn_with (slot_of 0 i) u) same in
    let k = first_again i u h fits in
    let t : (is_valid (insn_with (slot_in rest) u f) && is_same_slot (slot_of 0 (insn_with (slot_in rest) u f)) (slot_in rest)) ≡ true =
    ap (λ (x : Insn). is_valid x && is_same_slot (slot_of 0 x) (slot_in rest)) j
    ∙ ap (λ (x : Bool). x && is_same_slot (slot_of 0 (insn_with (slot_of 0 i) u (form_of i))) (slot_in rest)) (k.valid ∙ v)
    ∙ ap (λ (x : Slot). is_same_slot x (slot_in rest)) k.same
    ∙ ap (is_same_slot (slot_of 0 i)) e
    ∙ slot_same (slot_of 0 i) in
    cc

-- the last slot begins a wide load
short_next : (bs : List ℕ) (b : Bool) → nat_le 16 (length bs) ≡ b → is_none (cond b (Some (cast_unsigned w32 (slot_in (drop 8 bs)).imm)) None) ≡ true
    → length bs < 16
short_next bs true t h = absurd (cc)
short_next bs false t h = grind arith

no_more : (bs : List ℕ) (left : ℕ) → length bs ≡ 8 * suc left → length bs < 16 → drop 8 bs ≡ []
no_more bs left l lt = empty (drop 8 bs) (length-drop 8 bs ∙ (omega arith))
  where
    empty : (xs : List ℕ) → length xs ≡ 0 → xs ≡ []
    empty [] e = refl
    empty (x ∷ xs) e = absurd (cc)

half_wide : (rest : List ℕ) (left : ℕ) (f : Form) → AreBytes rest → length rest ≡ 8 * suc left
    → IsTrue (is_valid (insn_with (slot_in rest) (unwrap_or (next_upper rest) 0) f))
    → slot_of 0 (insn_with (slot_in rest) (unwrap_or (next_upper rest) 0) f) ≡ slot_in rest
    → IsTrue (is_wide (insn_with (slot_in rest) (unwrap_or (next_upper rest) 0) f)) → is_none (next_upper rest) ≡ true → IsHalfWide rest
half_wide rest left f hb l v s w none =
    let long : 8 ≤ length rest = omega arith in
    record {
      insn = insn_with (slot_in rest) (unwrap_or (next_upper rest) 0) f;
      wide = w;
      valid = v;
      fits = insn_fits (slot_in rest) (unwrap_or (next_upper rest) 0) f (offset_fits rest hb) (imm_fits rest hb) (next_below rest hb);
      spelt = ap slot_bytes s ∙ sym (append-nil (slot_bytes (slot_in rest)))
          ∙ ap (λ r. slot_bytes (slot_in rest) ++ r) (sym (no_more rest left l (short_next rest (nat_le 16 (length rest)) refl none)))
          ∙ split_again rest hb long;
    }

wide_stops : (bs : List ℕ) (e : DecodeError) (r : Faulty 0 false 0 bs e) (f : Form) → r.at_end ≡ false
    → IsTrue (is_valid (insn_with (slot_in r.rest) (unwrap_or (next_upper r.rest) 0) f))
    → slot_of 0 (insn_with (slot_in r.rest) (unwrap_or (next_upper r.rest) 0) f) ≡ slot_in r.rest → (b : Bool)
    → (is_wide (insn_with (slot_in r.rest) (unwrap_or (next_upper r.rest) 0) f) && is_none (next_upper r.rest)) ≡ b
    → cond {A = Result Insn DecodeError} b (Err (HalfWide (length r.before))) (Ok (insn_with (slot_in r.rest) (unwrap_or (next_upper r.rest) 0) f)) ≡ Err e
    → IsFirstFault bs e
wide_stops bs e r f t v s true x h =
    let same : HalfWide (length r.before) ≡ e = cc in
    let p = and_parts (is_wide (insn_with (slot_in r.rest) (unwrap_or (next_upper r.rest) 0) f)) (is_none (next_upper r.rest)) x in
    subst (IsFirstFault bs) same (fault_at bs e r false IsHalfWide t (half_wide r.rest r.left f r.bytes r.long v s p.0 p.1))
wide_stops bs e r f t v s false x h = absurd (cc)

field_stops : (bs : List ℕ) (e : DecodeError) (r : Faulty 0 false 0 bs e) (f : Form) → r.at_end ≡ false → class_form (slot_in r.rest).opcode ≡ Some f
    → (b : Bool) → (is_valid (insn_with (slot_in r.rest) (unwrap_or (next_upper r.rest) 0) f) && is_same_slot
    (slot_of 0 (insn_with (slot_in r.rest) (unwrap_or (next_upper r.rest) 0) f)) (slot_in r.rest)) ≡ b
    → cond b (completed (length r.before) (next_upper r.rest) (insn_with (slot_in r.rest) (unwrap_or (next_upper r.rest) 0) f))
    (Err (BadField (length r.before))) ≡ Err e → IsFirstFault bs e
field_stops bs e r f t o true x h =
    let j = insn_with (slot_in r.rest) (unwrap_or (next_upper r.rest) 0) f in
    let p = and_parts (is_valid j) _ x in
    wide_stops bs e r f t p.0 (same_slot _ _ p.1) (is_wide j && is_none (next_upper r.rest)) refl h
field_stops bs e r f t o false x h =
    let same : BadField (length r.before) ≡ e = cc in
    subst (IsFirstFault bs) same (inl (fault_at bs e r false HasBadField t
    (record {
      form = f;
      opcode = found_fits (slot_in r.rest).opcode f (r.bytes 0) o;
      fields = λ i v fits b. bad_field r.rest f r.bytes o x i v fits b (is_half i) refl;
    })))

first_stops : (bs : List ℕ) (e : DecodeError) (r : Faulty 0 false 0 bs e) → r.at_end ≡ false → (o : Option Form) → class_form (slot_in r.rest).opcode ≡ o
    → first_decoded (length r.before) (slot_in r.rest) (next_upper r.rest) o ≡ Err e → IsFirstFault bs e
first_stops bs e r t None o h =
    let same : BadOpcode (length r.before) ≡ e = cc in
    subst (IsFirstFault bs) same (fault_at bs e r false HasBadOpcode t (no_form (slot_in r.rest).opcode o))
first_stops bs e r t (Some f) o h =
    let j = insn_with (slot_in r.rest) (unwrap_or (next_upper r.rest) 0) f in
    field_stops bs e r f t o (is_valid j && is_same_slot (slot_of 0 j) (slot_in r.rest)) refl h

stops : (bs : List ℕ) (e : DecodeError) (r : Faulty 0 false 0 bs e) (b : Bool) → r.at_end ≡ b → slot_decoded (length r.before) b r.rest ≡ Err e
    → IsFirstFault bs e
stops bs e r true t h = half_stops bs e r t (is_same_slot (slot_of (cast_unsigned w32 (slot_in r.rest).imm) Half) (slot_in r.rest)) refl h
stops bs e r false t h = first_stops bs e r t (class_form (slot_in r.rest).opcode) refl h

refused : (bs : List ℕ) (e : DecodeError) → Faulty 0 false 0 bs e → IsFirstFault bs e
refused bs e r =
    let z : 0 + length r.before ≡ length r.before = omega arith in
    stops bs e r r.at_end refl (subst (λ k. slot_decoded k r.at_end r.rest ≡ Err e) z r.stops)

refused_at : (bytes : List ℕ) (e : DecodeError) → AreBytes bytes → length bytes % 8 ≡ 0 → decoded 0 false (length bytes / 8) bytes ≡ Err e
    → IsFirstFault bytes e
refused_at bytes e hb whole d = refused bytes e (outcome_is bytes _ (Err e) d (outcome_at bytes hb whole))

pub fault_is : (bytes : List ℕ) (e : DecodeError) → AreBytes bytes → length bytes % 8 ≡ 0 → FaultIs (decoded 0 false (length bytes / 8) bytes) e →
    e ≢ Memory out_of_memory → IsFirstFault bytes e
fault_is bytes BadLength h whole f known = refused_at bytes BadLength h whole f
fault_is bytes (BadOpcode n) h whole f known = refused_at bytes (BadOpcode n) h whole f
fault_is bytes (BadField n) h whole f known = refused_at bytes (BadField n) h whole f
fault_is bytes (HalfWide n) h whole f known = refused_at bytes (HalfWide n) h whole f
fault_is bytes (Memory m) h whole f known = absurd (known refl)

pub only_memory : (bytes : List ℕ) (e : DecodeError) (code : List Insn) → IsCodeOf code bytes → FaultIs (decoded 0 false (length bytes / 8) bytes) e
    → e ≡ Memory out_of_memory
only_memory bytes BadLength code c f = let g = complete_at code bytes c in absurd (cc)
only_memory bytes (BadOpcode n) code c f = let g = complete_at code bytes c in absurd (cc)
only_memory bytes (BadField n) code c f = let g = complete_at code bytes c in absurd (cc)
only_memory bytes (HalfWide n) code c f = let g = complete_at code bytes c in absurd (cc)
only_memory bytes (Memory m) code c f = refl
