-- Ways lead to slots of the code.
use Rattle.std.proofs.Common.{◌≡◌, ℕ, ℤ, pos, negsuc, ◌+◌, ◌-◌, ◌<◌, ◌≤◌, List, length, refl, sym, ap, ◌∙◌, subst, arith, Option, Some, None, Bool, true, false}
use Rattle.std.specs.Prelude.{slice_get, slice_set, cond, nat_le, nat_lt}
use Rattle.std.specs.Int.{byte_len}
use Rattle.std.specs.Option.{option_and_then}
use Rattle.std.proofs.lemmas.Option.{slice_get_within}
use Rattle.bpf_insn.specs.declared.insn.Insn.{Insn}
use Rattle.bpf_insn.specs.declared.insn.Insn.TheVariants.{Alu, Neg, End, Jump, Ja, JaLong, Call, Exit, Load, StoreImm, Store, Wide, Half}
use Rattle.bpf_insn.specs.declared.insn.Size.{Size}
use Rattle.bpf_insn.specs.Machine.{is_entry, target_of, address_of}
use Rattle.bpf_insn.specs.Words.{size_width}
use Rattle.bpf_check.specs.declared.known.Known.{Known}
use Rattle.bpf_check.specs.declared.known.Known.TheVariants.{Num, Const}
use Rattle.bpf_check.specs.declared.known.Seen.{Seen}
use Rattle.bpf_check.specs.Sheet.{Sheet}
use Rattle.bpf_check.specs.declared.ways.Way.{Way}
use Rattle.bpf_check.specs.declared.ways.Ways.{Ways}
use Rattle.bpf_check.specs.declared.ways.Ways.TheVariants.{Finish}
use Rattle.bpf_check.specs.States.{known_of, paid, register_written}
use Rattle.bpf_check.specs.Reading.{set_known, number_in, may_load, may_store}
use Rattle.bpf_check.specs.Calls.{call_fits}
use Rattle.bpf_check.specs.Effects.{source_known, first_known, alu_known, loaded, frame_stored, after_helper, effect}
use Rattle.bpf_check.specs.Ways.{goes, is_back, jumped, one_way, two_ways, onward, taken, through_gate, from_insn, from_gate, gate_at, leads}
use Rattle.bpf_check.specs.Tables.{AreInside, IsFew, AreFew}
use Rattle.bpf_check.proofs.Going.{bind_some, some_is, arrives, one_is, two_is}

entry_inside : (code : List Insn) (q : ℕ) → is_entry (slice_get code q) ≡ true → q < length code
entry_inside code q e = by (slice_get code q) refl e
  where
    by : (o : Option Insn) → slice_get code q ≡ o → is_entry o ≡ true → q < length code
    by None f g = absurd (cc)
    by (Some i) f g = slice_get_within code q i f

goes_inside : (code : List Insn) (p q : ℕ) (s : Seen) (w : Way) → goes code p q s ≡ Some w → w.place < length code
goes_inside code p q s w e = let r = arrives code p q s w e in subst (λ (v : Way). v.place < length code) r.is (entry_inside code q r.entry)

jumped_inside : (code : List Insn) (p : ℕ) (offset : ℤ) (s : Seen) (w : Way) → jumped code p offset s ≡ Some w → w.place < length code
jumped_inside code p offset s w e =
    let a = bind_some (paid s (is_back offset)) (λ after. option_and_then (λ to. goes code p to after) (target_of p offset)) w e in
    let b = bind_some (target_of p offset) (λ to. goes code p to a.0) w a.2 in
    goes_inside code p b.0 a.0 w b.2

one_inside : (n : ℕ) (o : Option Way) (ways : Ways) → one_way o ≡ Some ways → ((w : Way) → o ≡ Some w → w.place < n) → AreInside n ways
one_inside n o ways e h = let r = one_is o ways e in subst (λ (ws : Ways). AreInside n ws) r.2 (h r.0 r.1)

two_inside : (n : ℕ) (o p : Option Way) (ways : Ways) → two_ways o p ≡ Some ways → ((w : Way) → o ≡ Some w → w.place < n) → ((w : Way) → p ≡ Some w → w.place < n) → AreInside n ways
two_inside n o p ways e h k = let r = two_is o p ways e in subst (λ (ws : Ways). AreInside n ws) r.4 (h r.0 r.2, k r.1 r.3)

some_ways : (a b : Ways) → Some a ≡ Some b → a ≡ b
some_ways a b e = cc

onward_inside : (code : List Insn) (p : ℕ) (i : Insn) (s : Seen) (ways : Ways) → onward code p i s ≡ Some ways → AreInside (length code) ways
onward_inside code p Exit s ways e = subst (λ (ws : Ways). AreInside (length code) ws) (some_ways Finish ways e) tt
onward_inside code p (Jump wide op dst src offset) s ways e = two_inside (length code) _ _ ways e (jumped_inside code p offset s) (goes_inside code p (p + 1) s)
onward_inside code p (Ja offset) s ways e = one_inside (length code) _ ways e (jumped_inside code p offset s)
onward_inside code p (JaLong offset) s ways e = one_inside (length code) _ ways e (jumped_inside code p offset s)
onward_inside code p (Wide dst number) s ways e = one_inside (length code) _ ways e (goes_inside code p (p + 2) s)
onward_inside code p i s ways e = one_inside (length code) (goes code p (p + 1) s) ways e (goes_inside code p (p + 1) s)

gate_inside : (code : List Insn) (p : ℕ) (offset : ℤ) (s : Seen) (ways : Ways) → through_gate code p offset s ≡ Some ways → AreInside (length code) ways
gate_inside code p (pos n) s ways e =
    let a = bind_some (register_written s 1 Num) (λ after. two_ways (goes code p (p + 4) (taken after)) (goes code p (p + 2 + n) after)) ways e in
    two_inside (length code) _ _ ways a.2 (goes_inside code p (p + 4) (taken a.0)) (goes_inside code p (p + 2 + n) a.0)
gate_inside code p (negsuc n) s ways e = absurd (cc)

insn_inside : (t : Sheet) (code : List Insn) (p : ℕ) (s : Seen) (o : Option Insn) (ways : Ways) → from_insn t code p s o ≡ Some ways → AreInside (length code) ways
insn_inside t code p s None ways e = absurd (cc)
insn_inside t code p s (Some i) ways e = let a = bind_some (effect t i s) (λ after. onward code p i after) ways e in onward_inside code p i a.0 ways a.2

from_inside : (t : Sheet) (code : List Insn) (p : ℕ) (s : Seen) (o : Option ℤ) (ways : Ways) → from_gate t code p s o ≡ Some ways → AreInside (length code) ways
from_inside t code p s None ways e = insn_inside t code p s (slice_get code p) ways e
from_inside t code p s (Some offset) ways e = gate_inside code p offset s ways e

pub leads_inside : (t : Sheet) (code : List Insn) (p : ℕ) (s : Seen) (ways : Ways) → leads t code p s ≡ Some ways → AreInside (length code) ways
leads_inside t code p s ways e = from_inside t code p s (gate_at code p) ways e

pub ways_inside : (t : Sheet) (code : List Insn) (n p : ℕ) (s : Seen) (o : Option Ways) (ways : Ways) → n ≡ length code → o ≡ leads t code p s → o ≡ Some ways → AreInside n ways
ways_inside t code n p s o ways e led some = subst (λ (m : ℕ). AreInside m ways) (sym e) (leads_inside t code p s ways (sym led ∙ some))

-- ---- ways have at most one credit more

written_credit : (s after : Seen) (r : ℕ) (k : Known) → register_written s r k ≡ Some after → after.credit ≡ s.credit
written_credit s after r k e = by (nat_lt r 10) e
  where
    by : (b : Bool) → cond b (Some (record s { regs = slice_set s.regs r k })) None ≡ Some after → after.credit ≡ s.credit
    by true f = ap (λ (x : Seen). x.credit) (sym (some_is _ _ f))
    by false f = absurd (cc)

same_credit : (b : Bool) (s x after : Seen) → x.credit ≡ s.credit → cond b (Some x) None ≡ Some after → after.credit ≡ s.credit
same_credit true s x after e f = ap (λ (y : Seen). y.credit) (sym (some_is x after f)) ∙ e
same_credit false s x after e f = absurd (cc)

loaded_credit : (payload : ℕ) (s after : Seen) (size : Size) (dst src : ℕ) (offset : ℤ) → loaded payload s size dst src offset ≡ Some after → after.credit ≡ s.credit
loaded_credit payload s after size dst src offset e = by (number_in (known_of s src)) e
  where
    by : (o : Option ℕ) → option_and_then (λ base. cond (may_load payload (address_of base offset) (byte_len (size_width size))) (register_written s dst Num) None) o ≡ Some after → after.credit ≡ s.credit
    by None f = absurd (cc)
    by (Some base) f = one (may_load payload (address_of base offset) (byte_len (size_width size))) f
      where
        one : (b : Bool) → cond b (register_written s dst Num) None ≡ Some after → after.credit ≡ s.credit
        one true g = written_credit s after dst Num g
        one false g = absurd (cc)

stored_credit : (s after : Seen) (size : Size) (dst : ℕ) (offset : ℤ) → frame_stored s size dst offset ≡ Some after → after.credit ≡ s.credit
stored_credit s after size dst offset e = by (number_in (known_of s dst)) e
  where
    by : (o : Option ℕ) → option_and_then (λ base. cond (may_store (address_of base offset) (byte_len (size_width size))) (Some s) None) o ≡ Some after → after.credit ≡ s.credit
    by None f = absurd (cc)
    by (Some base) f = same_credit (may_store (address_of base offset) (byte_len (size_width size))) s s after refl f

effect_credit : (t : Sheet) (i : Insn) (s after : Seen) → effect t i s ≡ Some after → after.credit ≡ s.credit
effect_credit t (Alu wide op dst src offset) s after e =
    let a = bind_some (first_known op s dst) (λ x. option_and_then (λ y. register_written s dst (alu_known wide op offset x y)) (source_known s src)) after e in
    let b = bind_some (source_known s src) (λ y. register_written s dst (alu_known wide op offset a.0 y)) after a.2 in
    written_credit s after dst _ b.2
effect_credit t (Neg wide dst) s after e = written_credit s after dst Num (bind_some (set_known (known_of s dst)) (λ x. register_written s dst Num) after e).2
effect_credit t (End wide big dst bits) s after e = written_credit s after dst Num (bind_some (set_known (known_of s dst)) (λ x. register_written s dst Num) after e).2
effect_credit t (Jump wide op dst src offset) s after e =
    let a = bind_some (set_known (known_of s dst)) (λ x. option_and_then (λ y. Some s) (source_known s src)) after e in
    let b = bind_some (source_known s src) (λ y. Some s) after a.2 in
    ap (λ (x : Seen). x.credit) (sym (some_is s after b.2))
effect_credit t (Ja offset) s after e = ap (λ (x : Seen). x.credit) (sym (some_is s after e))
effect_credit t (JaLong imm) s after e = ap (λ (x : Seen). x.credit) (sym (some_is s after e))
effect_credit t (Call number) s after e = same_credit (call_fits t.maps t.formats number s) s (after_helper s) after refl e
effect_credit t Exit s after e = ap (λ (x : Seen). x.credit) (sym (some_is s after e))
effect_credit t (Load size sign dst src offset) s after e = loaded_credit t.payload s after size dst src offset e
effect_credit t (StoreImm size dst offset imm) s after e = stored_credit s after size dst offset e
effect_credit t (Store size dst src offset) s after e = stored_credit s after size dst offset (bind_some (set_known (known_of s src)) (λ x. frame_stored s size dst offset) after e).2
effect_credit t (Wide dst number) s after e = written_credit s after dst (Const number) e
effect_credit t Half s after e = absurd (cc)

goes_few : (code : List Insn) (p q n : ℕ) (s : Seen) (w : Way) → s.credit ≤ n → goes code p q s ≡ Some w → IsFew n w
goes_few code p q n s w le e = let r = arrives code p q s w e in subst (λ (v : Way). v.seen.credit ≤ n) r.is le

paid_credit : (s after : Seen) (back : Bool) → paid s back ≡ Some after → after.credit ≤ s.credit
paid_credit s after false e = let f = ap (λ (x : Seen). x.credit) (some_is s after e) in omega (arith, f)
paid_credit s after true e = by (nat_le 1 s.credit) e
  where
    by : (b : Bool) → cond b (Some (record s { credit = s.credit - 1 })) None ≡ Some after → after.credit ≤ s.credit
    by true f = subst (λ (x : Seen). x.credit ≤ s.credit) (some_is (record s { credit = s.credit - 1 }) after f) (omega arith)
    by false f = absurd (cc)

jumped_few : (code : List Insn) (p n : ℕ) (offset : ℤ) (s : Seen) (w : Way) → s.credit ≤ n → jumped code p offset s ≡ Some w → IsFew n w
jumped_few code p n offset s w le e =
    let a = bind_some (paid s (is_back offset)) (λ after. option_and_then (λ to. goes code p to after) (target_of p offset)) w e in
    let b = bind_some (target_of p offset) (λ to. goes code p to a.0) w a.2 in
    let c = paid_credit s a.0 (is_back offset) a.1 in
    goes_few code p b.0 n a.0 w (omega (arith, c, le)) b.2

one_few : (n : ℕ) (o : Option Way) (ways : Ways) → one_way o ≡ Some ways → ((w : Way) → o ≡ Some w → IsFew n w) → AreFew n ways
one_few n o ways e h = let r = one_is o ways e in subst (λ (ws : Ways). AreFew n ws) r.2 (h r.0 r.1)

two_few : (n : ℕ) (o p : Option Way) (ways : Ways) → two_ways o p ≡ Some ways → ((w : Way) → o ≡ Some w → IsFew n w) → ((w : Way) → p ≡ Some w → IsFew n w) → AreFew n ways
two_few n o p ways e h k = let r = two_is o p ways e in subst (λ (ws : Ways). AreFew n ws) r.4 (h r.0 r.2, k r.1 r.3)

onward_few : (code : List Insn) (p n : ℕ) (i : Insn) (s : Seen) (ways : Ways) → s.credit ≤ n → onward code p i s ≡ Some ways → AreFew n ways
onward_few code p n Exit s ways le e = subst (λ (ws : Ways). AreFew n ws) (some_ways Finish ways e) tt
onward_few code p n (Jump wide op dst src offset) s ways le e = two_few n _ _ ways e (λ w f. jumped_few code p n offset s w le f) (λ w f. goes_few code p (p + 1) n s w le f)
onward_few code p n (Ja offset) s ways le e = one_few n _ ways e (λ w f. jumped_few code p n offset s w le f)
onward_few code p n (JaLong offset) s ways le e = one_few n _ ways e (λ w f. jumped_few code p n offset s w le f)
onward_few code p n (Wide dst number) s ways le e = one_few n _ ways e (λ w f. goes_few code p (p + 2) n s w le f)
onward_few code p n i s ways le e = one_few n (goes code p (p + 1) s) ways e (λ w f. goes_few code p (p + 1) n s w le f)

gate_few : (code : List Insn) (p : ℕ) (offset : ℤ) (s : Seen) (ways : Ways) → through_gate code p offset s ≡ Some ways → AreFew (s.credit + 1) ways
gate_few code p (pos n) s ways e =
    let a = bind_some (register_written s 1 Num) (λ after. two_ways (goes code p (p + 4) (taken after)) (goes code p (p + 2 + n) after)) ways e in
    let c = written_credit s a.0 1 Num a.1 in
    two_few (s.credit + 1) _ _ ways a.2 (λ w f. goes_few code p (p + 4) (s.credit + 1) (taken a.0) w (omega (arith, c)) f)
    (λ w f. goes_few code p (p + 2 + n) (s.credit + 1) a.0 w (omega (arith, c)) f)
gate_few code p (negsuc n) s ways e = absurd (cc)

insn_few : (t : Sheet) (code : List Insn) (p : ℕ) (s : Seen) (o : Option Insn) (ways : Ways) → from_insn t code p s o ≡ Some ways → AreFew (s.credit + 1) ways
insn_few t code p s None ways e = absurd (cc)
insn_few t code p s (Some i) ways e =
    let a = bind_some (effect t i s) (λ after. onward code p i after) ways e in
    let c = effect_credit t i s a.0 a.1 in
    onward_few code p (s.credit + 1) i a.0 ways (omega (arith, c)) a.2

from_few : (t : Sheet) (code : List Insn) (p : ℕ) (s : Seen) (o : Option ℤ) (ways : Ways) → from_gate t code p s o ≡ Some ways → AreFew (s.credit + 1) ways
from_few t code p s None ways e = insn_few t code p s (slice_get code p) ways e
from_few t code p s (Some offset) ways e = gate_few code p offset s ways e

pub ways_few : (t : Sheet) (code : List Insn) (p : ℕ) (s : Seen) (o : Option Ways) (ways : Ways) → o ≡ leads t code p s → o ≡ Some ways → AreFew (s.credit + 1) ways
ways_few t code p s o ways led some = from_few t code p s (gate_at code p) ways (sym led ∙ some)
