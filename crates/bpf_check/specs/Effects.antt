-- What instructions make of what is known, and what they want of it.
use Rattle.std.specs.Prelude.{ℕ, ℤ, pos, ◌+◌, ◌-◌, ◌%◌, ◌^◌, Bool, true, false, cond, List, Option, Some, None, slice_set}
use Rattle.std.specs.Option.{option_and_then}
use Rattle.std.specs.Ordering.{int_eq}
use Rattle.std.specs.Int.{w64, cast_unsigned, byte_len}
use Rattle.bt_core.specs.declared.map.MapDecl.{MapDecl}
use Rattle.fmt_text.specs.declared.piece.Piece.{Piece}
use Rattle.bpf_insn.specs.declared.insn.AluOp.{AluOp}
use Rattle.bpf_insn.specs.declared.insn.AluOp.TheVariants.{Add, Sub, Mov}
use Rattle.bpf_insn.specs.declared.insn.Insn.{Insn}
use Rattle.bpf_insn.specs.declared.insn.Insn.TheVariants.{Alu, Neg, End, Jump, Call, Load, StoreImm, Store, Wide, Half}
use Rattle.bpf_insn.specs.declared.insn.Size.{Size}
use Rattle.bpf_insn.specs.declared.insn.Source.{Source}
use Rattle.bpf_insn.specs.declared.insn.Source.TheVariants.{Imm, Reg}
use Rattle.bpf_insn.specs.Machine.{address_of}
use Rattle.bpf_insn.specs.Words.{size_width}
use Rattle.bpf_check.specs.declared.known.Known.{Known}
use Rattle.bpf_check.specs.declared.known.Known.TheVariants.{Unset, Num, Const}
use Rattle.bpf_check.specs.declared.known.Seen.{Seen}
use Rattle.bpf_check.specs.Sheet.{Sheet}
use Rattle.bpf_check.specs.States.{known_of, register_written}
use Rattle.bpf_check.specs.Reading.{set_known, number_in, may_load, may_store}
use Rattle.bpf_check.specs.Calls.{call_fits}

-- an immediate number is sign-extended
abbrev pub source_known : Seen → Source → Option Known
source_known s (Imm n) = Some (Const (cast_unsigned w64 n))
source_known s (Reg r) = set_known (known_of s r)

-- a move reads its source alone
abbrev pub first_known : AluOp → Seen → ℕ → Option Known
first_known Mov s dst = Some Num
first_known op s dst = set_known (known_of s dst)

abbrev pub sum_known : Known → Known → Known
sum_known (Const a) (Const b) = Const ((a + b) % 2 ^ 64)
sum_known x y = Num

abbrev pub difference_known : Known → Known → Known
difference_known (Const a) (Const b) = Const ((a + (2 ^ 64 - b)) % 2 ^ 64)
difference_known x y = Num

abbrev pub wide_known : AluOp → ℤ → Known → Known → Known
wide_known Mov offset x y = cond (int_eq offset (pos 0)) y Num
wide_known Add offset x y = sum_known x y
wide_known Sub offset x y = difference_known x y
wide_known op offset x y = Num

-- the result of arithmetic is known where 64 bits are moved, added or subtracted
abbrev pub alu_known : Bool → AluOp → ℤ → Known → Known → Known
alu_known false op offset x y = Num
alu_known true op offset x y = wide_known op offset x y

-- a load is of bytes that lie in a region, and a store of bytes of the frame before the count of turns
abbrev pub loaded : ℕ → Seen → Size → ℕ → ℕ → ℤ → Option Seen
loaded payload s size dst src offset =
    option_and_then (λ base. cond (may_load payload (address_of base offset) (byte_len (size_width size))) (register_written s dst Num) None)
    (number_in (known_of s src))

abbrev pub frame_stored : Seen → Size → ℕ → ℤ → Option Seen
frame_stored s size dst offset =
    option_and_then (λ base. cond (may_store (address_of base offset) (byte_len (size_width size))) (Some s) None) (number_in (known_of s dst))

-- a call sets R0 to 0, and unsets R1 to R5
abbrev pub after_helper : Seen → Seen
after_helper s = record s {
  regs = slice_set (slice_set (slice_set (slice_set (slice_set (slice_set s.regs 0 (Const 0)) 1 Unset) 2 Unset) 3 Unset) 4 Unset) 5 Unset;
}

abbrev pub called : List MapDecl → List (List Piece) → Seen → ℕ → Option Seen
called maps formats s n = cond (call_fits maps formats n s) (Some (after_helper s)) None

-- what is known after arithmetic, after a change of a register by itself alone, after a comparison, and after a store of a register
abbrev pub calculated : Seen → Bool → AluOp → ℕ → Source → ℤ → Option Seen
calculated s wide op dst src offset =
    option_and_then (λ x. option_and_then (λ y. register_written s dst (alu_known wide op offset x y)) (source_known s src)) (first_known op s dst)

abbrev pub changed : Seen → ℕ → Option Seen
changed s dst = option_and_then (λ x. register_written s dst Num) (set_known (known_of s dst))

abbrev pub compared : Seen → ℕ → Source → Option Seen
compared s dst src = option_and_then (λ x. option_and_then (λ y. Some s) (source_known s src)) (set_known (known_of s dst))

abbrev pub stored_from : Seen → Size → ℕ → ℕ → ℤ → Option Seen
stored_from s size dst src offset = option_and_then (λ x. frame_stored s size dst offset) (set_known (known_of s src))

-- what is known after an instruction, where it finds what it wants
abbrev pub effect : Sheet → Insn → Seen → Option Seen
effect t (Alu wide op dst src offset) s = calculated s wide op dst src offset
effect t (Neg wide dst) s = changed s dst
effect t (End wide big dst bits) s = changed s dst
effect t (Jump wide op dst src offset) s = compared s dst src
effect t (Load size sign dst src offset) s = loaded t.payload s size dst src offset
effect t (StoreImm size dst offset imm) s = frame_stored s size dst offset
effect t (Store size dst src offset) s = stored_from s size dst src offset
effect t (Wide dst number) s = register_written s dst (Const number)
effect t (Call number) s = called t.maps t.formats s number
effect t Half s = None
effect t i s = Some s
