-- Code behind code. For crates that put code together.
use Rattle.std.proofs.Common.{◌≡◌, ℕ, ◌*◌, refl, ap, ◌∙◌, subst, sym, List, [], ◌∷◌, ◌++◌, append_assoc, length, Bool, false}
use Rattle.std.specs.Prelude.{IsTrue}
use Rattle.std.specs.List.{AllByRecursion}
use Rattle.bpf_insn.specs.declared.insn.Insn.{Insn}
use Rattle.bpf_insn.specs.declared.insn.Insn.TheVariants.{Wide, Half}
use Rattle.bpf_insn.specs.Code.{is_valid, is_wide, is_half, HalvesFollow, IsWellFormed}
use Rattle.bpf_insn.specs.Encoding.{slot_of, slot_bytes, upper_of, bytes_after, code_bytes}
use Rattle.bpf_encode.specs.Decoding.{Fits, IsCode}
use Rattle.bpf_encode.proofs.Slots.{upper_aside}
use Rattle.bpf_encode.proofs.Decoding.{length_of_code}

pub AllByRecursion-append : (P : Insn → Type 0) (a b : List Insn) → AllByRecursion P a → AllByRecursion P b → AllByRecursion P (a ++ b)
AllByRecursion-append P [] b f g = g
AllByRecursion-append P (i ∷ is) b f g = (f.0, AllByRecursion-append P is b f.1 g)

pub HalvesFollow-append : (owed : Bool) (a b : List Insn) → HalvesFollow owed a → HalvesFollow false b → HalvesFollow owed (a ++ b)
HalvesFollow-append owed [] b f g = subst (λ (x : Bool). HalvesFollow x b) (sym f) g
HalvesFollow-append owed (i ∷ is) b f g = (f.0, HalvesFollow-append (is_wide i) is b f.1 g)

pub IsWellFormed-append : (a b : List Insn) → IsWellFormed a → IsWellFormed b → IsWellFormed (a ++ b)
IsWellFormed-append a b f g = record {
  valid = AllByRecursion-append (λ i. IsTrue (is_valid i)) a b f.valid g.valid;
  halves = HalvesFollow-append false a b f.halves g.halves;
}

pub IsCode-append : (a b : List Insn) → IsCode a → IsCode b → IsCode (a ++ b)
IsCode-append a b f g = record {
  well_formed = IsWellFormed-append a b f.well_formed g.well_formed;
  fits = AllByRecursion-append Fits a b f.fits g.fits;
}

-- code that begins with no half is spelt the same whatever stands before it
bytes_after-front : (upper : ℕ) (b : List Insn) → HalvesFollow false b → bytes_after upper b ≡ code_bytes b
bytes_after-front upper [] g = refl
bytes_after-front upper (i ∷ is) g = ap (λ s. slot_bytes s ++ bytes_after (upper_of i) is) (upper_aside i upper g.0)

bytes_after-append : (upper : ℕ) (a b : List Insn) → HalvesFollow false b → bytes_after upper (a ++ b) ≡ bytes_after upper a ++ code_bytes b
bytes_after-append upper [] b g = bytes_after-front upper b g
bytes_after-append upper (i ∷ is) b g =
    ap (λ bs. slot_bytes (slot_of upper i) ++ bs) (bytes_after-append (upper_of i) is b g)
    ∙ sym (append_assoc (slot_bytes (slot_of upper i)) (bytes_after (upper_of i) is) (code_bytes b))

pub code_bytes-append : (a b : List Insn) → IsWellFormed b → code_bytes (a ++ b) ≡ code_bytes a ++ code_bytes b
code_bytes-append a b g = bytes_after-append 0 a b g.halves

pub length-code_bytes : (code : List Insn) → length (code_bytes code) ≡ 8 * length code
length-code_bytes code = length_of_code 0 code

pub IsWellFormed-one : (i : Insn) → IsTrue (is_valid i) → is_half i ≡ false → is_wide i ≡ false → IsWellFormed (i ∷ [])
IsWellFormed-one i v h w = record { valid = (v, tt); halves = (h, w) }

pub IsWellFormed-wide : (dst number : ℕ) → IsTrue (is_valid (Wide dst number)) → IsWellFormed (Wide dst number ∷ Half ∷ [])
IsWellFormed-wide dst number v = record { valid = (v, (refl, tt)); halves = (refl, (refl, refl)) }
