-- How slots are decoded, one after another: what the code does, for its proofs. No public clause cites it.
use Rattle.std.specs.Prelude.{◌≡◌, ℕ, zero, suc, ◌+◌, ◌*◌, ◌^◌, Bool, true, false, cond, ◌&&◌, nat_eq, nat_le, List, [], ◌∷◌, ◌++◌, length, drop, Option, Some, None, is_none, unwrap_or, Result, Ok, Err}
use Rattle.std.specs.Ordering.{int_eq}
use Rattle.std.specs.Int.{w32, cast_unsigned}
use Rattle.bpf_insn.specs.declared.form.Form.{Form}
use Rattle.bpf_insn.specs.declared.form.Form.TheVariants.{Alu as AluForm, Neg as NegForm, End as EndForm, Jump as JumpForm, Ja as JaForm, JaLong as JaLongForm, Call as CallForm, Exit as ExitForm, Load as LoadForm, StoreImm as StoreImmForm, Store as StoreForm, Wide as WideForm, Half as HalfForm}
use Rattle.bpf_insn.specs.declared.insn.Insn.{Insn}
use Rattle.bpf_insn.specs.declared.insn.Insn.TheVariants.{Alu, Neg, End, Jump, Ja, JaLong, Call, Exit, Load, StoreImm, Store, Wide, Half}
use Rattle.bpf_insn.specs.declared.insn.Source.{Source}
use Rattle.bpf_insn.specs.declared.insn.Source.TheVariants.{Imm, Reg}
use Rattle.bpf_insn.specs.declared.slot.Slot.{Slot}
use Rattle.bpf_insn.specs.Code.{is_valid, is_wide}
use Rattle.bpf_insn.specs.Classes.{class_form}
use Rattle.bpf_insn.specs.Encoding.{slot_of}
use Rattle.bpf_encode.specs.declared.decode.DecodeError.{DecodeError}
use Rattle.bpf_encode.specs.declared.decode.DecodeError.TheVariants.{BadLength, BadOpcode, BadField, HalfWide, Memory}
use Rattle.bpf_encode.specs.Decoding.{slot_in}

abbrev pub source_in : Slot → Bool → Source
source_in s register = cond register (Reg s.src) (Imm s.imm)

abbrev pub wide_number : ℕ → ℕ → ℕ
wide_number low upper = low + 2 ^ 32 * upper

-- the instruction of a form with the fields of a slot; upper is the upper half of a wide load's number
abbrev pub insn_with : Slot → ℕ → Form → Insn
insn_with s upper (AluForm wide op register) = Alu wide op s.dst (source_in s register) s.offset
insn_with s upper (NegForm wide) = Neg wide s.dst
insn_with s upper (EndForm wide big) = End wide big s.dst s.imm
insn_with s upper (JumpForm wide op register) = Jump wide op s.dst (source_in s register) s.offset
insn_with s upper JaForm = Ja s.offset
insn_with s upper JaLongForm = JaLong s.imm
insn_with s upper CallForm = Call (cast_unsigned w32 s.imm)
insn_with s upper ExitForm = Exit
insn_with s upper (LoadForm size sign) = Load size sign s.dst s.src s.offset
insn_with s upper (StoreImmForm size) = StoreImm size s.dst s.offset s.imm
insn_with s upper (StoreForm size) = Store size s.dst s.src s.offset
insn_with s upper WideForm = Wide s.dst (wide_number (cast_unsigned w32 s.imm) upper)
insn_with s upper HalfForm = Half

abbrev pub is_same_slot : Slot → Slot → Bool
is_same_slot a b = nat_eq a.opcode b.opcode && (nat_eq a.dst b.dst && (nat_eq a.src b.src && (int_eq a.offset b.offset && int_eq a.imm b.imm)))

-- the upper half that a second slot holds, where there is one
abbrev pub next_upper : List ℕ → Option ℕ
next_upper bytes = cond (nat_le 16 (length bytes)) (Some (cast_unsigned w32 (slot_in (drop 8 bytes)).imm)) None

-- a wide load has a second slot
abbrev pub completed : ℕ → Option ℕ → Insn → Result Insn DecodeError
completed n next i = cond (is_wide i && is_none next) (Err (HalfWide n)) (Ok i)

-- an instruction is that of a slot where its own slot is the same
abbrev pub checked : ℕ → Slot → Option ℕ → Insn → Result Insn DecodeError
checked n s next i = cond (is_valid i && is_same_slot (slot_of 0 i) s) (completed n next i) (Err (BadField n))

abbrev pub first_decoded : ℕ → Slot → Option ℕ → Option Form → Result Insn DecodeError
first_decoded n s next None = Err (BadOpcode n)
first_decoded n s next (Some f) = checked n s next (insn_with s (unwrap_or next 0) f)

abbrev pub half_decoded : ℕ → Slot → Result Insn DecodeError
half_decoded n s = cond (is_same_slot (slot_of (cast_unsigned w32 s.imm) Half) s) (Ok Half) (Err (BadField n))

-- slot n, at the front of bytes; owed says whether a half is due
abbrev pub slot_decoded : ℕ → Bool → List ℕ → Result Insn DecodeError
slot_decoded n true bytes = half_decoded n (slot_in bytes)
slot_decoded n false bytes = first_decoded n (slot_in bytes) (next_upper bytes) (class_form (slot_in bytes).opcode)

abbrev pub followed : Insn → Result (List Insn) DecodeError → Result (List Insn) DecodeError
followed i (Ok is) = Ok (i ∷ is)
followed i (Err e) = Err e

abbrev pub with_rest : Result Insn DecodeError → (Insn → Result (List Insn) DecodeError) → Result (List Insn) DecodeError
with_rest (Err e) go = Err e
with_rest (Ok i) go = followed i (go i)

-- what so many slots say from slot n on
abbrev pub decoded : ℕ → Bool → ℕ → List ℕ → Result (List Insn) DecodeError
decoded n owed zero bytes = Ok []
decoded n owed (suc slots) bytes = with_rest (slot_decoded n owed bytes) (λ i. decoded (n + 1) (is_wide i) slots (drop 8 bytes))

abbrev pub after_code : List Insn → Result (List Insn) DecodeError → Result (List Insn) DecodeError
after_code is (Ok js) = Ok (is ++ js)
after_code is (Err e) = Err e

-- the answer is this fault, but for want of memory
abbrev pub FaultIs : Result (List Insn) DecodeError → DecodeError → Type 0
FaultIs r (Memory _) = Unit {0}
FaultIs r BadLength = r ≡ Err BadLength
FaultIs r (BadOpcode n) = r ≡ Err (BadOpcode n)
FaultIs r (BadField n) = r ≡ Err (BadField n)
FaultIs r (HalfWide n) = r ≡ Err (HalfWide n)
