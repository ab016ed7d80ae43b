-- A slot and its instruction.
use Rattle.std.proofs.Common.{◌≡◌, ℕ, ◌+◌, ◌*◌, ◌<◌, refl, ap, ◌∙◌, Bool, true, false, arith}
use Rattle.std.specs.Prelude.{◌/◌, ◌%◌, ◌^◌, ℤ, pos, ◌&&◌, nat_eq, IsTrue}
use Rattle.std.specs.Ordering.{int_eq}
use Rattle.std.specs.Int.{w16, w32, cast_unsigned, cast_signed}
use Rattle.std.specs.Int.RustNames.{FitsSigned}
use Rattle.std.proofs.Math.Facts.{sfits_to_z, sfits_lit}
use Rattle.std.proofs.lemmas.Int.{of_z-to_z}
use Rattle.std.proofs.lemmas.Bool.{and_parts, eqb-true, eq-eqb}
use Rattle.std.proofs.lemmas.Bool.Decides.{Decides-int_eq}
use Rattle.bpf_insn.specs.declared.form.Form.{Form}
use Rattle.bpf_insn.specs.declared.form.Form.TheVariants.{Alu as AluForm, Neg as NegForm, End as EndForm, Jump as JumpForm, Ja as JaForm, JaLong as JaLongForm, Call as CallForm, Exit as ExitForm, Load as LoadForm, StoreImm as StoreImmForm, Store as StoreForm, Wide as WideForm, Half as HalfForm}
use Rattle.bpf_insn.specs.declared.insn.Insn.{Insn}
use Rattle.bpf_insn.specs.declared.insn.Insn.TheVariants.{Alu, Neg, End, Jump, Ja, JaLong, Call, Exit, Load, StoreImm, Store, Wide, Half}
use Rattle.bpf_insn.specs.declared.insn.Source.TheVariants.{Imm, Reg}
use Rattle.bpf_insn.specs.declared.slot.Slot.{Slot}
use Rattle.bpf_insn.specs.Fields.{is_register, is_end, is_load, dst_of, src_of, offset_of, has_meaning}
use Rattle.bpf_insn.specs.Code.{is_valid, is_wide, is_half}
use Rattle.bpf_insn.specs.Opcodes.{form_of, is_member}
use Rattle.bpf_insn.specs.Encoding.{slot_of, upper_of, imm_of}
use Rattle.bpf_encode.specs.Decoding.{FitsSource, Fits}
use Rattle.bpf_encode.specs.Slots.{insn_with, source_in, wide_number, is_same_slot}
use Rattle.bpf_encode.proofs.Bytes.{FitsSlot, below_32}

int_same : (a b : ℤ) → int_eq a b ≡ true → a ≡ b
int_same a b h = grind (arith, Decides-int_eq)

int_refl : (a : ℤ) → int_eq a a ≡ true
int_refl a = grind (arith, Decides-int_eq)

pub same_slot : (a b : Slot) → is_same_slot a b ≡ true → a ≡ b
same_slot a b h =
    let p = and_parts _ _ h in let q = and_parts _ _ p.1 in let r = and_parts _ _ q.1 in let s = and_parts _ _ r.1 in
    let e0 = eqb-true _ _ p.0 in let e1 = eqb-true _ _ q.0 in let e2 = eqb-true _ _ r.0 in let e3 = int_same _ _ s.0 in let e4 = int_same _ _ s.1 in
    λ i. record { opcode = e0 i; dst = e1 i; src = e2 i; offset = e3 i; imm = e4 i }

pub slot_same : (a : Slot) → is_same_slot a a ≡ true
slot_same a =
    ap (λ (b : Bool). b && (nat_eq a.dst a.dst && (nat_eq a.src a.src && (int_eq a.offset a.offset && int_eq a.imm a.imm)))) (eq-eqb a.opcode a.opcode refl)
    ∙ ap (λ (b : Bool). b && (nat_eq a.src a.src && (int_eq a.offset a.offset && int_eq a.imm a.imm))) (eq-eqb a.dst a.dst refl)
    ∙ ap (λ (b : Bool). b && (int_eq a.offset a.offset && int_eq a.imm a.imm)) (eq-eqb a.src a.src refl)
    ∙ ap (λ (b : Bool). b && int_eq a.imm a.imm) (int_refl a.offset)
    ∙ int_refl a.imm

-- the halves of a number
low_number : (m : ℕ) → cast_unsigned w32 (cast_signed w32 (m % 2 ^ 32)) ≡ m % 2 ^ 32
low_number m = of_z-to_z w32 (m % 2 ^ 32) (omega arith)

wide_again : (m : ℕ) → wide_number (cast_unsigned w32 (cast_signed w32 (m % 2 ^ 32))) (m / 2 ^ 32) ≡ m
wide_again m = ap (λ (x : ℕ). x + 2 ^ 32 * (m / 2 ^ 32)) (low_number m) ∙ (omega arith)

upper_again : (low upper : ℕ) → low < 2 ^ 32 → wide_number low upper / 2 ^ 32 ≡ upper
upper_again low upper l = omega arith

low_again : (low upper : ℕ) → low < 2 ^ 32 → wide_number low upper % 2 ^ 32 ≡ low
low_again low upper l = omega arith

-- the instruction of its own slot
pub found_again : (i : Insn) (u : ℕ) → is_half i ≡ false → Fits i → (IsTrue (is_wide i) → u ≡ upper_of i) → insn_with (slot_of 0 i) u (form_of i) ≡ i
found_again (Alu w op d (Imm n) o) u h f e = refl
found_again (Alu w op d (Reg r) o) u h f e = refl
found_again (Neg w d) u h f e = refl
found_again (End w b d n) u h f e = refl
found_again (Jump w op d (Imm n) o) u h f e = refl
found_again (Jump w op d (Reg r) o) u h f e = refl
found_again (Ja o) u h f e = refl
found_again (JaLong n) u h f e = refl
found_again (Call n) u h f e = ap (λ (m : ℕ). Call m) (of_z-to_z w32 n f)
found_again Exit u h f e = refl
found_again (Load z g d s o) u h f e = refl
found_again (StoreImm z d o n) u h f e = refl
found_again (Store z d s o) u h f e = refl
found_again (Wide d m) u h f e = ap (λ (x : ℕ). Wide d (wide_number (cast_unsigned w32 (cast_signed w32 (m % 2 ^ 32))) x)) (e refl)
    ∙ ap (λ (x : ℕ). Wide d x) (wide_again m)
found_again Half u h f e = absurd (cc)

-- whatever the upper half, it is valid and wide where the instruction is, and has its first slot
pub record SameFirst (i j : Insn) : Type 0 where
  pub valid : is_valid j ≡ is_valid i
  pub wide : is_wide j ≡ is_wide i
  pub same : slot_of 0 j ≡ slot_of 0 i

same_first : (i j : Insn) → j ≡ i → SameFirst i j
same_first i j e = record { valid = ap is_valid e; wide = ap is_wide e; same = ap (slot_of 0) e }

pub first_again : (i : Insn) (u : ℕ) → is_half i ≡ false → Fits i → SameFirst i (insn_with (slot_of 0 i) u (form_of i))
first_again (Alu w op d s o) u h f = same_first _ _ (found_again (Alu w op d s o) u h f (λ t. absurd (cc)))
first_again (Neg w d) u h f = same_first _ _ (found_again (Neg w d) u h f (λ t. absurd (cc)))
first_again (End w b d n) u h f = same_first _ _ (found_again (End w b d n) u h f (λ t. absurd (cc)))
first_again (Jump w op d s o) u h f = same_first _ _ (found_again (Jump w op d s o) u h f (λ t. absurd (cc)))
first_again (Ja o) u h f = same_first _ _ refl
first_again (JaLong n) u h f = same_first _ _ refl
first_again (Call n) u h f = same_first _ _ (found_again (Call n) u h f (λ t. absurd (cc)))
first_again Exit u h f = same_first _ _ refl
first_again (Load z g d s o) u h f = same_first _ _ refl
first_again (StoreImm z d o n) u h f = same_first _ _ refl
first_again (Store z d s o) u h f = same_first _ _ refl
first_again (Wide d m) u h f =
    let l = cast_unsigned w32 (cast_signed w32 (m % 2 ^ 32)) in
    let e : wide_number l u % 2 ^ 32 ≡ m % 2 ^ 32 = ap (λ (x : ℕ). wide_number x u % 2 ^ 32) (low_number m) ∙ low_again (m % 2 ^ 32) u (omega arith) in
    record {
      valid = refl;
      wide = refl;
      same = ap (λ (x : ℕ). let s : Slot =
          record { opcode = 24; dst = d; src = 0; offset = pos 0; imm = cast_signed w32 x } in s) e;
    }
first_again Half u h f = absurd (cc)

-- its numbers are those of the slot
fits_source : (s : Slot) (r : Bool) → FitsSigned w32 s.imm → FitsSource (source_in s r)
fits_source s true f = tt
fits_source s false f = f

pub insn_fits : (s : Slot) (u : ℕ) (form : Form) → FitsSigned w16 s.offset → FitsSigned w32 s.imm → u < 2 ^ 32 → Fits (insn_with s u form)
insn_fits s u (AluForm w op r) fo fi fu = (fits_source s r fi, fo)
insn_fits s u (NegForm w) fo fi fu = tt
insn_fits s u (EndForm w b) fo fi fu = fi
insn_fits s u (JumpForm w op r) fo fi fu = (fits_source s r fi, fo)
insn_fits s u JaForm fo fi fu = fo
insn_fits s u JaLongForm fo fi fu = fi
insn_fits s u CallForm fo fi fu = below_32 s.imm fi
insn_fits s u ExitForm fo fi fu = tt
insn_fits s u (LoadForm z g) fo fi fu = fo
insn_fits s u (StoreImmForm z) fo fi fu = (fo, fi)
insn_fits s u (StoreForm z) fo fi fu = fo
insn_fits s u WideForm fo fi fu = let l = below_32 s.imm fi in omega arith
insn_fits s u HalfForm fo fi fu = tt

pub no_half : (s : Slot) (u : ℕ) (form : Form) → IsTrue (is_member form) → is_half (insn_with s u form) ≡ false
no_half s u (AluForm w op r) m = refl
no_half s u (NegForm w) m = refl
no_half s u (EndForm w b) m = refl
no_half s u (JumpForm w op r) m = refl
no_half s u JaForm m = refl
no_half s u JaLongForm m = refl
no_half s u CallForm m = refl
no_half s u ExitForm m = refl
no_half s u (LoadForm z g) m = refl
no_half s u (StoreImmForm z) m = refl
no_half s u (StoreForm z) m = refl
no_half s u WideForm m = refl
no_half s u HalfForm m = absurd (cc)

pub upper_is : (s : Slot) (u : ℕ) (form : Form) → FitsSigned w32 s.imm → IsTrue (is_wide (insn_with s u form)) → upper_of (insn_with s u form) ≡ u
upper_is s u (AluForm w op r) f h = absurd (cc)
upper_is s u (NegForm w) f h = absurd (cc)
upper_is s u (EndForm w b) f h = absurd (cc)
upper_is s u (JumpForm w op r) f h = absurd (cc)
upper_is s u JaForm f h = absurd (cc)
upper_is s u JaLongForm f h = absurd (cc)
upper_is s u CallForm f h = absurd (cc)
upper_is s u ExitForm f h = absurd (cc)
upper_is s u (LoadForm z g) f h = absurd (cc)
upper_is s u (StoreImmForm z) f h = absurd (cc)
upper_is s u (StoreForm z) f h = absurd (cc)
upper_is s u WideForm f h = upper_again (cast_unsigned w32 s.imm) u (below_32 s.imm f)
upper_is s u HalfForm f h = absurd (cc)

-- a valid instruction is of a form of the set
pub member_of : (i : Insn) → IsTrue (is_valid i) → is_half i ≡ false → IsTrue (is_member (form_of i))
member_of (Alu w op d s o) v h = refl
member_of (Neg w d) v h = refl
member_of (End true true d n) v h = absurd (let q = (and_parts (is_register d) (is_end true true n) v).1 in cc)
member_of (End true false d n) v h = refl
member_of (End false b d n) v h = refl
member_of (Jump w op d s o) v h = refl
member_of (Ja o) v h = refl
member_of (JaLong n) v h = refl
member_of (Call n) v h = refl
member_of Exit v h = refl
member_of (Load z g d s o) v h = (and_parts (is_register s) (is_load z g) (and_parts (is_register d) (is_register s && is_load z g) v).1).1
member_of (StoreImm z d o n) v h = refl
member_of (Store z d s o) v h = refl
member_of (Wide d m) v h = refl
member_of Half v h = absurd (cc)

-- the upper half of the number before it is nothing to an instruction that is no half
pub upper_aside : (i : Insn) (u : ℕ) → is_half i ≡ false → slot_of u i ≡ slot_of 0 i
upper_aside Half u h = absurd (cc)
upper_aside i u h = refl

-- the numbers of its slot fit
register_fits : (r : ℕ) → IsTrue (is_register r) → r < 16
register_fits r h = grind arith

offset_fits : (i : Insn) → Fits i → FitsSigned w16 (offset_of i)
offset_fits (Alu w op d s o) f = f.1
offset_fits (Jump w op d s o) f = f.1
offset_fits (Ja o) f = f
offset_fits (Load z g d s o) f = f
offset_fits (StoreImm z d o n) f = f.0
offset_fits (Store z d s o) f = f
offset_fits i f = sfits_lit tt

imm_fits : (i : Insn) (u : ℕ) → Fits i → u < 2 ^ 32 → FitsSigned w32 (imm_of u i)
imm_fits (Alu w op d (Imm n) o) u f l = f.0
imm_fits (Alu w op d (Reg r) o) u f l = sfits_lit tt
imm_fits (End w b d n) u f l = f
imm_fits (Jump w op d (Imm n) o) u f l = f.0
imm_fits (Jump w op d (Reg r) o) u f l = sfits_lit tt
imm_fits (JaLong n) u f l = f
imm_fits (Call n) u f l = sfits_to_z (record { fits = f })
imm_fits (StoreImm z d o n) u f l = f.1
imm_fits (Wide d m) u f l = sfits_to_z (record { fits = omega arith })
imm_fits Half u f l = sfits_to_z (record { fits = l })
imm_fits i u f l = sfits_lit tt

pub fits_slot : (i : Insn) (u : ℕ) → IsTrue (is_valid i) → Fits i → u < 2 ^ 32 → FitsSlot (slot_of u i)
fits_slot i u v f l = record {
  dst = register_fits (dst_of i) (and_parts (is_register (dst_of i)) (is_register (src_of i) && has_meaning i) v).0;
  offset = offset_fits i f;
  imm = imm_fits i u f l;
}

pub upper_fits : (i : Insn) → Fits i → upper_of i < 2 ^ 32
upper_fits (Wide d m) f = omega (arith, f)
upper_fits i f = omega arith
