-- Where instructions lead, and what is known there. A gate, which counts a turn, is taken as one instruction.
use Rattle.std.specs.Prelude.{ℕ, ℤ, pos, negsuc, ◌+◌, ◌-◌, Bool, true, false, cond, not, ◌&&◌, ◌||◌, nat_eq, nat_le, is_some, List, Option, Some, None, slice_get}
use Rattle.std.specs.Option.{option_and_then, option_map}
use Rattle.std.specs.Ordering.{int_eq}
use Rattle.bt_core.specs.declared.limits.TheConstants.{LOOP_TURNS}
use Rattle.bpf_insn.specs.declared.insn.AluOp.TheVariants.{Add}
use Rattle.bpf_insn.specs.declared.insn.Insn.{Insn}
use Rattle.bpf_insn.specs.declared.insn.Insn.TheVariants.{Alu, Jump, Ja, JaLong, Exit, Load, Store, Wide}
use Rattle.bpf_insn.specs.declared.insn.JumpOp.TheVariants.{Ge}
use Rattle.bpf_insn.specs.declared.insn.Size.TheVariants.{Dw}
use Rattle.bpf_insn.specs.declared.insn.Source.TheVariants.{Imm}
use Rattle.bpf_insn.specs.Machine.{is_entry, target_of}
use Rattle.bpf_check.specs.declared.known.Known.TheVariants.{Num}
use Rattle.bpf_check.specs.declared.known.Seen.{Seen}
use Rattle.bpf_check.specs.Sheet.{Sheet}
use Rattle.bpf_check.specs.declared.ways.Way.{Way}
use Rattle.bpf_check.specs.declared.ways.Ways.{Ways}
use Rattle.bpf_check.specs.declared.ways.Ways.TheVariants.{Finish, To, Either}
use Rattle.bpf_check.specs.States.{register_written, paid}
use Rattle.bpf_check.specs.Effects.{effect}

-- ---- gates: the turns that were taken are loaded; where there are 4,096 a jump leads on; and one more is stored

abbrev pub is_turns_load : Option Insn → Bool
is_turns_load (Some (Load Dw false dst src offset)) = nat_eq dst 1 && (nat_eq src 10 && int_eq offset (negsuc 7))
is_turns_load o = false

abbrev pub turns_jump : Option Insn → Option ℤ
turns_jump (Some (Jump true Ge dst (Imm n) offset)) = cond (nat_eq dst 1 && int_eq n (pos LOOP_TURNS)) (Some offset) None
turns_jump o = None

abbrev pub is_turns_add : Option Insn → Bool
is_turns_add (Some (Alu true Add dst (Imm n) offset)) = nat_eq dst 1 && int_eq n (pos 1)
is_turns_add o = false

abbrev pub is_turns_store : Option Insn → Bool
is_turns_store (Some (Store Dw dst src offset)) = nat_eq dst 10 && (nat_eq src 1 && int_eq offset (negsuc 7))
is_turns_store o = false

-- the offset of the jump of the gate that begins there
abbrev pub gate_at : List Insn → ℕ → Option ℤ
gate_at code p =
    cond (is_turns_load (slice_get code p) && (is_turns_add (slice_get code (p + 2)) && is_turns_store (slice_get code (p + 3))))
    (turns_jump (slice_get code (p + 1))) None

-- a gate begins so many slots before
abbrev pub begins_before : List Insn → ℕ → ℕ → Bool
begins_before code q n = nat_le n q && is_some (gate_at code (q - n))

-- the second, third or fourth slot of a gate
abbrev pub is_inside : List Insn → ℕ → Bool
is_inside code q = begins_before code q 1 || (begins_before code q 2 || begins_before code q 3)

-- ---- ways

-- an instruction begins there, and only the slot before goes to the second, third or fourth slot of a gate
abbrev pub may_go : List Insn → ℕ → ℕ → Bool
may_go code from to = is_entry (slice_get code to) && (nat_eq to (from + 1) || not (is_inside code to))

abbrev pub goes : List Insn → ℕ → ℕ → Seen → Option Way
goes code from to s = cond (may_go code from to) (Some (record { place = to; seen = s })) None

abbrev pub is_back : ℤ → Bool
is_back (pos n) = false
is_back (negsuc n) = true

-- a jump back takes one credit
abbrev pub jumped : List Insn → ℕ → ℤ → Seen → Option Way
jumped code p offset s = option_and_then (λ after. option_and_then (λ to. goes code p to after) (target_of p offset)) (paid s (is_back offset))

abbrev pub one_way : Option Way → Option Ways
one_way o = option_map (λ a. To a) o

abbrev pub two_ways : Option Way → Option Way → Option Ways
two_ways o p = option_and_then (λ a. option_map (λ b. Either a b) p) o

-- where an instruction leads, by what is known after it
abbrev pub onward : List Insn → ℕ → Insn → Seen → Option Ways
onward code p Exit s = Some Finish
onward code p (Jump wide op dst src offset) s = two_ways (jumped code p offset s) (goes code p (p + 1) s)
onward code p (Ja offset) s = one_way (jumped code p offset s)
onward code p (JaLong offset) s = one_way (jumped code p offset s)
onward code p (Wide dst number) s = one_way (goes code p (p + 2) s)
onward code p i s = one_way (goes code p (p + 1) s)

abbrev pub taken : Seen → Seen
taken s = record s { credit = s.credit + 1 }

-- a gate gives one credit, and none where its jump, which goes forward, is taken
abbrev pub through_gate : List Insn → ℕ → ℤ → Seen → Option Ways
through_gate code p (pos n) s = option_and_then (λ after. two_ways (goes code p (p + 4) (taken after)) (goes code p (p + 2 + n) after)) (register_written s 1 Num)
through_gate code p (negsuc n) s = None

abbrev pub from_insn : Sheet → List Insn → ℕ → Seen → Option Insn → Option Ways
from_insn t code p s None = None
from_insn t code p s (Some i) = option_and_then (λ after. onward code p i after) (effect t i s)

abbrev pub from_gate : Sheet → List Insn → ℕ → Seen → Option ℤ → Option Ways
from_gate t code p s None = from_insn t code p s (slice_get code p)
from_gate t code p s (Some offset) = through_gate code p offset s

-- where a place leads from a state, where the state meets its condition and each way is to a place that may be gone to
abbrev pub leads : Sheet → List Insn → ℕ → Seen → Option Ways
leads t code p s = from_gate t code p s (gate_at code p)
