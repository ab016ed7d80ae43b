-- The first fault of bytes is the one that decoding finds.
use Rattle.std.proofs.Common.{◌≡◌, ◌⊎◌, ℕ, zero, suc, ◌+◌, ◌-◌, ◌*◌, ◌<◌, ◌≤◌, refl, ap, sym, ◌∙◌, subst, inl, inr, List, [], ◌∷◌, ◌++◌, length, length-append, drop, Option, Some, None, Bool, true, false, arith}
use Rattle.std.specs.Prelude.{◌/◌, ◌%◌, ◌^◌, cond, ◌&&◌, Result, Ok, Err, MatchResult, unwrap_or, IsTrue, slice_index}
use Rattle.std.specs.Int.{w32, cast_unsigned}
use Rattle.std.specs.List.{AllByRecursion}
use Rattle.std.proofs.Math.Bool.{and-false}
use Rattle.std.proofs.lemmas.Bool.{and_parts}
use Rattle.std.proofs.lemmas.List.{get_or-append-add}
use Rattle.bpf_insn.specs.declared.form.Form.{Form}
use Rattle.bt_core.specs.Want.{out_of_memory}
use Rattle.bpf_insn.specs.declared.insn.Insn.{Insn}
use Rattle.bpf_insn.specs.declared.insn.Insn.TheVariants.{Wide, Half}
use Rattle.bpf_insn.specs.declared.slot.Slot.{Slot}
use Rattle.bpf_insn.specs.Classes.{class_form}
use Rattle.bpf_insn.specs.Code.{is_valid, is_wide, is_half, HalvesFollow}
use Rattle.bpf_insn.specs.Opcodes.{opcode_of, form_of, IsFormAt}
use Rattle.bpf_insn.specs.Encoding.{slot_of, slot_bytes, upper_of, bytes_after}
use Rattle.bpf_insn.proofs.Rules.{found, found_fits, form_found}
use Rattle.bpf_encode.specs.declared.decode.DecodeError.{DecodeError}
use Rattle.bpf_encode.specs.declared.decode.DecodeError.TheVariants.{BadLength, BadOpcode, BadField, HalfWide, Memory}
use Rattle.bpf_encode.specs.Decoding.{Fits, IsCodeOf, slot_in}
use Rattle.bpf_encode.specs.Faults.{AreBytes, missing, FaultAt, HasBadOpcode, HasBadField, HasBadHalf, IsHalfWide, IsFirstFault}
use Rattle.bpf_encode.specs.Slots.{insn_with, is_same_slot, next_upper, completed, checked, first_decoded, half_decoded, slot_decoded, followed, with_rest, decoded, FaultIs}
use Rattle.bpf_encode.proofs.Bytes.{slot_again, split_again, offset_fits, imm_fits, below_32, next_some}
use Rattle.bpf_encode.proofs.Slots.{same_slot, slot_same, first_again, insn_fits, member_of, upper_aside, fits_slot, upper_fits}
use Rattle.bpf_encode.proofs.Decoding.{half_is, half_found, length_of_code, complete_at, whole_of_code, next_below}

-- an instruction with its half or without is passed, whatever the upper half of its number
pub record Passes (n : ℕ) (owed : Bool) (bs : List ℕ) (i : Insn) : Type 0 where
  pub insn : Insn
  pub decoded : slot_decoded n owed bs ≡ Ok insn
  pub wide : is_wide insn ≡ is_wide i

first_passed : (n : ℕ) (i : Insn) (u : ℕ) → IsTrue (is_valid i) → Fits i → is_half i ≡ false
    → first_decoded n (slot_of 0 i) (Some u) (class_form (opcode_of (form_of i))) ≡ Ok (insn_with (slot_of 0 i) u (form_of i))
first_passed n i u v f h =
    let j = insn_with (slot_of 0 i) u (form_of i) in
    let k = first_again i u h f in
    ap (first_decoded n (slot_of 0 i) (Some u)) (found (form_of i) (member_of i v h))
    ∙ ap (λ (b : Bool). cond (b && is_same_slot (slot_of 0 j) (slot_of 0 i)) (completed n (Some u) j) (Err (BadField n))) (k.valid ∙ v)
    ∙ ap (λ (s : Slot). cond (is_same_slot s (slot_of 0 i)) (completed n (Some u) j) (Err (BadField n))) k.same
    ∙ ap (λ (b : Bool). cond b (completed n (Some u) j) (Err (BadField n))) (slot_same (slot_of 0 i))
    ∙ ap (λ (b : Bool). cond {A = Result Insn DecodeError} b (Err (HalfWide n)) (Ok j)) (and-false (is_wide j))

slot_passed : (n : ℕ) (owed : Bool) (upper : ℕ) (i : Insn) (rest : List ℕ) → IsTrue (is_valid i) → Fits i → is_half i ≡ owed → upper < 2 ^ 32
    → 8 ≤ length rest → Passes n owed (slot_bytes (slot_of upper i) ++ rest) i
slot_passed n true upper i rest v f h lt long =
    let e : slot_in (slot_bytes (slot_of upper i) ++ rest) ≡ slot_of upper Half = slot_again (slot_of upper i) rest (fits_slot i upper v f lt)
    ∙ ap (slot_of upper) (sym (half_is i h)) in
    record { insn = Half; decoded = ap (half_decoded n) e ∙ half_found n upper lt; wide = ap is_wide (half_is i h) }
slot_passed n false upper i rest v f h lt long =
    let bs = slot_bytes (slot_of upper i) ++ rest in
    let u = cast_unsigned w32 (slot_in (drop 8 bs)).imm in
    let e : slot_in bs ≡ slot_of 0 i = slot_again (slot_of upper i) rest (fits_slot i upper v f lt) ∙ upper_aside i upper h in
    let more : 16 ≤ length bs = omega arith in
    record {
      insn = insn_with (slot_of 0 i) u (form_of i);
      decoded = ap (λ (s : Slot). first_decoded n s (next_upper bs) (class_form s.opcode)) e
          ∙ ap (λ (o : Option ℕ). first_decoded n (slot_of 0 i) o (class_form (opcode_of (form_of i)))) (next_some bs more)
          ∙ first_passed n i u v f h;
      wide = (first_again i u h f).wide;
    }

owed_missing : (owed at_end : Bool) → HalvesFollow owed (missing at_end) → owed ≡ at_end
owed_missing owed true h = sym h.0
owed_missing owed false h = h

-- slot by slot to the one at fault
reaches : (n : ℕ) (owed : Bool) (upper : ℕ) (is : List Insn) (rest : List ℕ) (left : ℕ) (at_end : Bool) (e : DecodeError)
    → AllByRecursion (λ i. IsTrue (is_valid i)) is → HalvesFollow owed (is ++ missing at_end) → AllByRecursion Fits is → upper < 2 ^ 32
    → length rest ≡ 8 * suc left → slot_decoded (n + length is) at_end rest ≡ Err e
    → decoded n owed (length is + suc left) (bytes_after upper is ++ rest) ≡ Err e
reaches n owed upper [] rest left at_end e v h f lt l s =
    let k : 0 + suc left ≡ suc left = omega arith in
    let z : n + 0 ≡ n = omega arith in
    ap (λ m. decoded n owed m rest) k
    ∙ ap (λ r. with_rest r (λ i. decoded (n + 1) (is_wide i) left (drop 8 rest)))
    (ap (λ b. slot_decoded n b rest) (owed_missing owed at_end h) ∙ subst (λ m. slot_decoded m at_end rest ≡ Err e) z s)
reaches n owed upper (i ∷ is) rest left at_end e v h f lt l s =
    let more = bytes_after (upper_of i) is ++ rest in
    let long : 8 ≤ length more = (let a = length-append (bytes_after (upper_of i) is) rest in omega arith) in
    let p = slot_passed n owed upper i more v.0 f.0 h.0 lt long in
    let k : suc (length is) + suc left ≡ suc (length is + suc left) = omega arith in
    let m : n + suc (length is) ≡ (n + 1) + length is = omega arith in
    ap (λ slots. decoded n owed slots (slot_bytes (slot_of upper i) ++ more)) k
    ∙ ap (λ r. with_rest r (λ j. decoded (n + 1) (is_wide j) (length is + suc left) more)) p.decoded
    ∙ ap (λ b. followed p.insn (decoded (n + 1) b (length is + suc left) more)) p.wide
    ∙ ap (followed p.insn) (reaches (n + 1) (is_wide i) (upper_of i) is rest left at_end e v.1 h.1 f.1 (upper_fits i f.0) l
    (subst (λ x. slot_decoded x at_end rest ≡ Err e) m s))

all_front : (P : Insn → Type 0) (is js : List Insn) → AllByRecursion P (is ++ js) → AllByRecursion P is
all_front P [] js a = tt
all_front P (i ∷ is) js a = (a.0, all_front P is js a.1)

bytes_of_rest : (bs before rest : List ℕ) → AreBytes bs → bs ≡ before ++ rest → AreBytes rest
bytes_of_rest bs before rest h e i = subst (λ x. x < 2 ^ 8) (ap (λ (l : List ℕ). slice_index l (length before + i)) e
    ∙ get_or-append-add before rest i 0) (h (length before + i))

-- a slot that stops decoding with an error, at the place of a fault
reached : (bs : List ℕ) (n : ℕ) (at_end : Bool) (fault : List ℕ → Type 0) (e : DecodeError) (r : FaultAt at_end fault bs n)
    → slot_decoded n at_end r.rest ≡ Err e → decoded 0 false (length bs / 8) bs ≡ Err e
reached bs n at_end fault e r s =
    let w = r.is_code.well_formed in
    let all : length bs ≡ 8 * length r.before + length r.rest = ap length r.split ∙ length-append (bytes_after 0 r.before) r.rest
    ∙ ap (λ k. k + length r.rest) (length_of_code 0 r.before) in
    let left = length r.rest / 8 - 1 in
    let whole : length r.rest ≡ 8 * suc left = (let a = r.multiple in let b = r.whole in omega arith) in
    let slots : length bs / 8 ≡ length r.before + suc left = omega arith in
    let z : n ≡ 0 + length r.before = (let m = r.many in omega arith) in
    ap (λ k. decoded 0 false k bs) slots
    ∙ ap (decoded 0 false (length r.before + suc left)) r.split
    ∙ reaches 0 false 0 r.before r.rest left at_end e (all_front (λ i. IsTrue (is_valid i)) r.before (missing at_end) w.valid) w.halves
    (all_front Fits r.before (missing at_end) r.is_code.fits) (omega arith) whole (subst (λ k. slot_decoded k at_end r.rest ≡ Err e) z s)

rest_bytes : (bs : List ℕ) (n : ℕ) (at_end : Bool) (fault : List ℕ → Type 0) (r : FaultAt at_end fault bs n) → AreBytes bs → AreBytes r.rest
rest_bytes bs n at_end fault r h = bytes_of_rest bs (bytes_after 0 r.before) r.rest h r.split

-- an opcode of no form
none_of : (n : ℕ) (o : Option Form) → n < 256 → class_form n ≡ o → ((f : Form) → IsFormAt n f → ⊥) → o ≡ None
none_of n None lt e none = refl
none_of n (Some f) lt e none = absurd (none f (found_fits n f lt e))

opcode_stops : (n : ℕ) (rest : List ℕ) → AreBytes rest → HasBadOpcode rest → slot_decoded n false rest ≡ Err (BadOpcode n)
opcode_stops n rest h bad = ap (first_decoded n (slot_in rest) (next_upper rest))
    (none_of (slot_in rest).opcode (class_form (slot_in rest).opcode) (h 0) refl bad)

-- a slot of no instruction
checked_stops : (n : ℕ) (s : Slot) (o : Option ℕ) (j : Insn) → (IsTrue (is_valid j) → slot_of 0 j ≡ s → ⊥) → (b : Bool)
    → (is_valid j && is_same_slot (slot_of 0 j) s) ≡ b → checked n s o j ≡ Err (BadField n)
checked_stops n s o j none true t = absurd (let p = and_parts (is_valid j) _ t in none p.0 (same_slot _ _ p.1))
checked_stops n s o j none false t = ap (λ (b : Bool). cond b (completed n o j) (Err (BadField n))) t

field_stops : (n : ℕ) (rest : List ℕ) → AreBytes rest → 8 ≤ length rest → HasBadField rest → slot_decoded n false rest ≡ Err (BadField n)
field_stops n rest h long bad =
    let s = slot_in rest in
    let j = insn_with s (unwrap_or (next_upper rest) 0) bad.form in
    let fits = insn_fits s (unwrap_or (next_upper rest) 0) bad.form (offset_fits rest h) (imm_fits rest h) (next_below rest h) in
    ap (first_decoded n s (next_upper rest)) (form_found s.opcode bad.form bad.opcode)
    ∙ checked_stops n s (next_upper rest) j (λ v e. bad.fields j v fits (
      drop 8 rest,
      ap (λ (t : Slot). slot_bytes t ++ drop 8 rest) e
          ∙ split_again rest h long,
    )) _ refl

-- a slot of no half
half_checked : (n : ℕ) (s : Slot) → (slot_of (cast_unsigned w32 s.imm) Half ≡ s → ⊥) → (b : Bool)
    → is_same_slot (slot_of (cast_unsigned w32 s.imm) Half) s ≡ b → half_decoded n s ≡ Err (BadField n)
half_checked n s none true t = absurd (none (same_slot _ _ t))
half_checked n s none false t = ap (λ (b : Bool). cond {A = Result Insn DecodeError} b (Ok Half) (Err (BadField n))) t

half_stops : (n : ℕ) (rest : List ℕ) → AreBytes rest → 8 ≤ length rest → HasBadHalf rest → slot_decoded n true rest ≡ Err (BadField n)
half_stops n rest h long bad =
    let s = slot_in rest in
    half_checked n s (λ e. bad (cast_unsigned w32 s.imm) (below_32 s.imm (imm_fits rest h)) (
      drop 8 rest,
      ap (λ (t : Slot). slot_bytes t ++ drop 8 rest) e
          ∙ split_again rest h long,
    )) _ refl

-- a wide load with nothing after it
wide_no_half : (i : Insn) → IsTrue (is_wide i) → is_half i ≡ false
wide_no_half (Wide d m) w = refl
wide_no_half i w = absurd (cc)

wide_alone : (n : ℕ) (i : Insn) → IsTrue (is_valid i) → Fits i → IsTrue (is_wide i)
    → first_decoded n (slot_of 0 i) None (class_form (opcode_of (form_of i))) ≡ Err (HalfWide n)
wide_alone n i v f w =
    let h = wide_no_half i w in
    let j = insn_with (slot_of 0 i) 0 (form_of i) in
    let k = first_again i 0 h f in
    ap (first_decoded n (slot_of 0 i) None) (found (form_of i) (member_of i v h))
    ∙ ap (λ (b : Bool). cond (b && is_same_slot (slot_of 0 j) (slot_of 0 i)) (completed n None j) (Err (BadField n))) (k.valid ∙ v)
    ∙ ap (λ (s : Slot). cond (is_same_slot s (slot_of 0 i)) (completed n None j) (Err (BadField n))) k.same
    ∙ ap (λ (b : Bool). cond b (completed n None j) (Err (BadField n))) (slot_same (slot_of 0 i))
    ∙ ap (λ (b : Bool). cond {A = Result Insn DecodeError} (b && true) (Err (HalfWide n)) (Ok j)) (k.wide ∙ w)

wide_stops : (n : ℕ) (rest : List ℕ) → IsHalfWide rest → slot_decoded n false rest ≡ Err (HalfWide n)
wide_stops n rest bad =
    let s = slot_of 0 bad.insn in
    let e : slot_in (slot_bytes s) ≡ s = slot_again s [] (fits_slot bad.insn 0 bad.valid bad.fits (omega arith)) in
    ap (slot_decoded n false) (sym bad.spelt)
    ∙ ap (λ (t : Slot). first_decoded n t None (class_form t.opcode)) e
    ∙ wide_alone n bad.insn bad.valid bad.fits bad.wide

-- the first fault is found
pub fault_found : (bytes : List ℕ) (e : DecodeError) → AreBytes bytes → length bytes % 8 ≡ 0 → IsFirstFault bytes e
    → decoded 0 false (length bytes / 8) bytes ≡ Err e
fault_found bytes BadLength h multiple f = absurd (f multiple)
fault_found bytes (BadOpcode n) h multiple f =
    reached bytes n false HasBadOpcode (BadOpcode n) f (opcode_stops n f.rest (rest_bytes bytes n false HasBadOpcode f h) f.at_fault)
fault_found bytes (BadField n) h multiple f = either f
  where
    either : FaultAt false HasBadField bytes n ⊎ FaultAt true HasBadHalf bytes n → decoded 0 false (length bytes / 8) bytes ≡ Err (BadField n)
    either (inl r) = reached bytes n false HasBadField (BadField n) r (field_stops n r.rest (rest_bytes bytes n false HasBadField r h) r.whole r.at_fault)
    either (inr r) = reached bytes n true HasBadHalf (BadField n) r (half_stops n r.rest (rest_bytes bytes n true HasBadHalf r h) r.whole r.at_fault)
fault_found bytes (HalfWide n) h multiple f = reached bytes n false IsHalfWide (HalfWide n) f (wide_stops n f.rest f.at_fault)
fault_found bytes (Memory m) h multiple f = absurd f

-- bytes that are no whole slots have no other fault
pub only_length : (bytes : List ℕ) (e : DecodeError) → (length bytes % 8 ≡ 0 → ⊥) → IsFirstFault bytes e → BadLength ≡ e
only_length bytes BadLength odd f = refl
only_length bytes (BadOpcode n) odd f = absurd (odd f.multiple)
only_length bytes (BadField n) odd f = absurd (either f)
  where
    either : FaultAt false HasBadField bytes n ⊎ FaultAt true HasBadHalf bytes n → ⊥
    either (inl r) = odd r.multiple
    either (inr r) = odd r.multiple
only_length bytes (HalfWide n) odd f = absurd (odd f.multiple)
only_length bytes (Memory m) odd f = absurd f

-- an answer to bytes with a fault
abbrev IsAnswer : {A : Type 0} → Result A DecodeError → DecodeError → Type 0
IsAnswer r e = (r ≡ Err e) ⊎ (r ≡ Err (Memory out_of_memory))

pub fault_answered : {A : Type 0} (items : A → List Insn) (bytes : List ℕ) (r : Result A DecodeError) (e : DecodeError) → AreBytes bytes
    → length bytes % 8 ≡ 0 → MatchResult r (λ code. decoded 0 false (length bytes / 8) bytes ≡ Ok (items code))
    (λ f. FaultIs (decoded 0 false (length bytes / 8) bytes) f) → IsFirstFault bytes e → (r ≡ Err e) ⊎ (r ≡ Err (Memory out_of_memory))
fault_answered {A = A} items bytes (Ok code) e h multiple m f = absurd (let g = sym m ∙ fault_found bytes e h multiple f in cc)
fault_answered {A = A} items bytes (Err g) e h multiple m f = at g m
  where
    same : (g : DecodeError) → decoded 0 false (length bytes / 8) bytes ≡ Err g → g ≡ e
    same g m = let both = sym m ∙ fault_found bytes e h multiple f in cc

    at : (g : DecodeError) → FaultIs (decoded 0 false (length bytes / 8) bytes) g → IsAnswer {A = A} (Err g) e
    at BadLength m = inl (ap (λ (x : DecodeError). Err x) (same BadLength m))
    at (BadOpcode n) m = inl (ap (λ (x : DecodeError). Err x) (same (BadOpcode n) m))
    at (BadField n) m = inl (ap (λ (x : DecodeError). Err x) (same (BadField n) m))
    at (HalfWide n) m = inl (ap (λ (x : DecodeError). Err x) (same (HalfWide n) m))
    at (Memory none) m = inr refl

-- bytes have one first fault at most
whole_or_odd : (n : ℕ) → (n % 8 ≡ 0) ⊎ (n % 8 ≡ 0 → ⊥)
whole_or_odd n = at (n % 8)
  where
    at : (k : ℕ) → (k ≡ 0) ⊎ (k ≡ 0 → ⊥)
    at zero = inl refl
    at (suc k) = inr (λ e. omega arith)

pub one_fault_lem : (bytes : List ℕ) (a b : DecodeError) → AreBytes bytes → IsFirstFault bytes a → IsFirstFault bytes b → a ≡ b
one_fault_lem bytes a b h fa fb = at (whole_or_odd (length bytes))
  where
    at : (length bytes % 8 ≡ 0) ⊎ (length bytes % 8 ≡ 0 → ⊥) → a ≡ b
    at (inl multiple) = let both = sym (fault_found bytes a h multiple fa) ∙ fault_found bytes b h multiple fb in cc
    at (inr odd) = sym (only_length bytes a odd fa) ∙ only_length bytes b odd fb

-- and none beside their code
pub none_beside_lem : (bytes : List ℕ) (code : List Insn) (e : DecodeError) → AreBytes bytes → IsCodeOf code bytes → IsFirstFault bytes e → ⊥
none_beside_lem bytes code e h c f = let both = sym (complete_at code bytes c) ∙ fault_found bytes e h (whole_of_code code bytes c) f in cc
