-- Each instruction goes as its ways say.
use Rattle.std.proofs.Common.{◌≡◌, ℕ, ℤ, ◌+◌, ◌-◌, ◌<◌, ◌≤◌, List, ◌++◌, length, take, drop, refl, sym, ap, ◌∙◌, subst, arith, Option, Some, None, Bool, true, false, inl, inr, append_assoc, length-append}
use Rattle.std.specs.Prelude.{◌⊎◌, ◌||◌, slice_set, cond, nat_lt, nat_le, is_some}
use Rattle.std.specs.Option.{option_and_then, option_map, option_or}
use Rattle.std.specs.Int.{w64, Width, cast_unsigned, byte_len, to_le_bytes}
use Rattle.std.proofs.lemmas.List.{take-append-le, drop-append-le, length-take, length-drop}
use Rattle.std.proofs.lemmas.Bool.{ltb-true, leb-true, le-leb, and_parts, or_cases, ne_eqb}
use Rattle.bt_core.specs.declared.step.Reply.{Reply}
use Rattle.bt_core.specs.declared.limits.TheConstants.{FRAME_BYTES}
use Rattle.bt_core.specs.Interaction.{Call as Asked}
use Rattle.bpf_insn.specs.declared.address.TheConstants.{CONTEXT, PAYLOAD, FRAME, CONTEXT_BYTES}
use Rattle.bpf_insn.specs.declared.insn.AluOp.{AluOp}
use Rattle.bpf_insn.specs.declared.insn.AluOp.TheVariants.{Mov}
use Rattle.bpf_insn.specs.declared.insn.JumpOp.{JumpOp}
use Rattle.bpf_insn.specs.declared.insn.Insn.{Insn}
use Rattle.bpf_insn.specs.declared.insn.Insn.TheVariants.{Alu, Neg, End, Jump, Ja, JaLong, Call, Exit, Load, StoreImm, Store, Wide, Half}
use Rattle.bpf_insn.specs.declared.insn.Size.{Size}
use Rattle.bpf_insn.specs.declared.insn.Size.TheVariants.{W, H, B, Dw}
use Rattle.bpf_insn.specs.declared.insn.Source.{Source}
use Rattle.bpf_insn.specs.declared.insn.Source.TheVariants.{Imm, Reg}
use Rattle.bpf_insn.specs.declared.trap.Trap.TheVariants.{BadAddress}
use Rattle.bpf_insn.specs.Regions.{Spaces, place_in, part_of, bytes_in, stored, written}
use Rattle.bpf_insn.specs.Words.{alu_value, neg_value, end_value, size_width, low, test_holds}
use Rattle.bpf_insn.specs.Machine.{Helpers, Answer, Gave, BadBytes, BadArgument, MachineState, Next, Ends, Traps, enters, with_value, set_reg, change, first_operand, source_of, plain_step, machine_step, call_step, answered, args_of, after_call, jump_by, reg_of, address_of, loads, load, stores, store, number_of_bytes}
use Rattle.bpf_check.specs.declared.known.Known.{Known}
use Rattle.bpf_check.specs.declared.known.Known.TheVariants.{Unset, Num, Const}
use Rattle.bpf_check.specs.declared.known.Seen.{Seen}
use Rattle.bpf_check.specs.Sheet.{Sheet}
use Rattle.bpf_check.specs.declared.ways.Way.{Way}
use Rattle.bpf_check.specs.declared.ways.Ways.{Ways}
use Rattle.bpf_check.specs.declared.ways.Ways.TheVariants.{Finish, Either}
use Rattle.bpf_check.specs.States.{known_of, register_written}
use Rattle.bpf_check.specs.Reading.{set_known, number_in, lies_in, may_load, may_store}
use Rattle.bpf_check.specs.Calls.{call_fits}
use Rattle.bpf_check.specs.Effects.{source_known, first_known, alu_known, loaded, frame_stored, after_helper, called, effect}
use Rattle.bpf_check.specs.Ways.{goes, jumped, one_way, two_ways, onward, from_gate, from_insn}
use Rattle.bt_core.specs.Same.{Yields}
use Rattle.check_laws.proofs.Holding.{HoldsKnown, Holds, Counts, GivesWell, HelpersServe}
use Rattle.check_laws.proofs.Sound.{Yields-then, Pays, GoesAs, LeadsAs, Steps}
use Rattle.bpf_check.proofs.Going.{bind_some, some_is, arrives, one_is, two_is}
use Rattle.check_laws.proofs.Rows.{put, set_holds, Means, Read, read_set, read_number, alu_means, comes, pays_on, one_on, jump_goes}

-- ---- regions

pub place_some : (base size size' a n : ℕ) → size ≤ size' → lies_in base size a n ≡ true → place_in base size' a n ≡ Some (a - base)
place_some base size size' a n le e =
    let p = and_parts (nat_le base a) _ e in
    let q = and_parts (nat_le n size) _ p.1 in
    let l1 = leb-true base a p.0 in
    let l2 = leb-true n size q.0 in
    let l3 = leb-true (a - base) (size - n) q.1 in
    ap (λ (b : Bool). cond b (cond (nat_le n size') (cond (nat_le (a - base) (size' - n)) (Some (a - base)) None) None) None) p.0
    ∙ ap (λ (b : Bool). cond b (cond (nat_le (a - base) (size' - n)) (Some (a - base)) None) None) (le-leb n size' (omega (arith, l2, le)))
    ∙ ap (λ (b : Bool). cond b (Some (a - base)) None) (le-leb (a - base) (size' - n) (omega (arith, l2, l3, le)))

unfoldable pub IsThere : Option (List ℕ) → Type 0
IsThere o = (bs : List ℕ) × (o ≡ Some bs)

pub or_first : (o p : Option (List ℕ)) → IsThere o → IsThere (option_or o p)
unfolding IsThere
or_first None p h = absurd (cc (h.1))
or_first (Some x) p h = (x, refl)

pub or_second : (o p : Option (List ℕ)) → IsThere p → IsThere (option_or o p)
unfolding IsThere
or_second None p h = h
or_second (Some x) p h = (x, refl)

pub part_there : (bs : List ℕ) (n at : ℕ) (o : Option ℕ) → o ≡ Some at → IsThere (part_of bs n o)
unfolding IsThere
part_there bs n at None e = absurd (cc)
part_there bs n at (Some x) e = (_, refl)

pub load_there : (s : Spaces) (payload a n : ℕ) → payload ≤ length s.payload → may_load payload a n ≡ true → IsThere (bytes_in s a n)
load_there s payload a n le e = by (or_cases (lies_in CONTEXT CONTEXT_BYTES a n) _ e)
  where
    rest : (lies_in PAYLOAD payload a n ≡ true) ⊎ (lies_in FRAME FRAME_BYTES a n ≡ true) → IsThere (bytes_in s a n)
    rest (inl h) = or_second _ _ (or_first _ _ (part_there s.payload n _ _ (place_some PAYLOAD payload (length s.payload) a n le h)))
    rest (inr h) = or_second _ _ (or_second _ _ (part_there s.frame n _ _ (place_some FRAME FRAME_BYTES FRAME_BYTES a n (omega arith) h)))

    by : (lies_in CONTEXT CONTEXT_BYTES a n ≡ true) ⊎ ((lies_in PAYLOAD payload a n || lies_in FRAME FRAME_BYTES a n) ≡ true) → IsThere (bytes_in s a n)
    by (inl h) = or_first _ _ (part_there s.context n _ _ (place_some CONTEXT CONTEXT_BYTES CONTEXT_BYTES a n (omega arith) h))
    by (inr h) = rest (or_cases (lies_in PAYLOAD payload a n) _ h)

-- bytes before the count of turns are written
pub store_keeps : (front tail bs : List ℕ) (at : ℕ) → at + length bs ≤ length front → written (front ++ tail) at bs ≡ written front at bs ++ tail
store_keeps front tail bs at le =
    let e1 : take at (front ++ tail) ≡ take at front = take-append-le at front tail (omega (arith, le)) in
    let e2 : drop (at + length bs) (front ++ tail) ≡ drop (at + length bs) front ++ tail = drop-append-le (at + length bs) front tail le in
    ap (λ (l : List ℕ). l ++ (bs ++ drop (at + length bs) (front ++ tail))) e1
    ∙ ap (λ (l : List ℕ). take at front ++ (bs ++ l)) e2
    ∙ ap (λ (l : List ℕ). take at front ++ l) (sym (append_assoc bs (drop (at + length bs) front) tail))
    ∙ sym (append_assoc (take at front) (bs ++ drop (at + length bs) front) tail)

pub written_long : (front bs : List ℕ) (at : ℕ) → at + length bs ≤ length front → length (written front at bs) ≡ length front
written_long front bs at le =
    omega (arith, le, length-append (take at front) (bs ++ drop (at + length bs) front), length-append bs (drop (at + length bs) front), length-take at front, length-drop (at + length bs) front)

le_long : (w : Width) (v : ℕ) (size : Size) → w ≡ size_width size → length (to_le_bytes w v) ≡ byte_len w
le_long w v W e = ap (λ (x : Width). length (to_le_bytes x v)) e ∙ ap byte_len (sym e)
le_long w v H e = ap (λ (x : Width). length (to_le_bytes x v)) e ∙ ap byte_len (sym e)
le_long w v B e = ap (λ (x : Width). length (to_le_bytes x v)) e ∙ ap byte_len (sym e)
le_long w v Dw e = ap (λ (x : Width). length (to_le_bytes x v)) e ∙ ap byte_len (sym e)

-- ---- rows

first_read : (op : AluOp) (a : Seen) (dst : ℕ) (x : Known) (regs : List (Option ℕ)) → first_known op a dst ≡ Some x → Holds regs a → Read x (first_operand op regs dst)
first_read Mov a dst x regs e h = record { value = 0; is = refl; means = subst (λ (y : Known). Means y 0) (some_is Num x e) tt }
first_read op a dst x regs e h = read_set (known_of a dst) x (reg_of regs dst) e (h.each dst)

source_read : (a : Seen) (src : Source) (y : Known) (regs : List (Option ℕ)) → source_known a src ≡ Some y → Holds regs a → Read y (source_of regs src)
source_read a (Imm n) y regs e h = record { value = cast_unsigned w64 n; is = refl; means = subst (λ (k : Known). Means k (cast_unsigned w64 n)) (some_is (Const (cast_unsigned w64 n)) y e) refl }
source_read a (Reg r) y regs e h = read_set (known_of a r) y (reg_of regs r) e (h.each r)

pub record Wrote (a after : Seen) (dst : ℕ) (k : Known) : Type 0 where
  pub low : dst < 10
  pub is : put a dst k ≡ after

pub wrote : (a after : Seen) (dst : ℕ) (k : Known) → register_written a dst k ≡ Some after → Wrote a after dst k
wrote a after dst k e = by (nat_lt dst 10) refl e
  where
    by : (b : Bool) → nat_lt dst 10 ≡ b → cond b (Some (put a dst k)) None ≡ Some after → Wrote a after dst k
    by true l f = record { low = ltb-true dst 10 l; is = some_is (put a dst k) after f }
    by false l f = absurd (cc)

module _ (K : Asked → Reply → Type 0) (t : Sheet) (helper : Helpers) (code : List Insn) (serve : HelpersServe K t helper) where
  module _ (st : MachineState) (a : Seen) (turns : ℕ) (h : Holds st.regs a) (c : Counts t st.spaces turns) where
    -- a register is written
    writes : (dst v q : ℕ) (k : Known) (after : Seen) (ways : Ways) (next : Next) → register_written a dst k ≡ Some after → HoldsKnown k (Some v) → next ≡ set_reg code st dst v q
        → one_way (goes code st.place q after) ≡ Some ways → st.place < q → LeadsAs t st.place a turns next ways
    writes dst v q k after ways next e means is go lt =
        let w = wrote a after dst k e in
        let to : MachineState = record st { regs = slice_set st.regs dst (Some v) } in
        let low = w.low in
        let set : set_reg code st dst v q ≡ enters code to q = ap (λ (b : Bool). cond b (Traps (BadAddress st.place)) (enters code to q)) (ne_eqb dst 10 (λ x. omega (arith, low, x))) in
        one_on t code st to q turns a after ways next go (is ∙ set)
        (subst (λ (s : Seen). Holds to.regs s) w.is (set_holds st.regs a dst k (Some v) low means h)) c
        (ap (λ (s : Seen). s.credit) (sym w.is)) lt

    alu_row : (wide : Bool) (op : AluOp) (dst : ℕ) (src : Source) (offset : ℤ) (after : Seen) (ways : Ways) → effect t (Alu wide op dst src offset) a ≡ Some after
        → one_way (goes code st.place (st.place + 1) after) ≡ Some ways → LeadsAs t st.place a turns (plain_step code (Alu wide op dst src offset) st) ways
    alu_row wide op dst src offset after ways e go =
        let p = bind_some (first_known op a dst) _ after e in
        let q = bind_some (source_known a src) _ after p.2 in
        let x = first_read op a dst p.0 st.regs p.1 h in
        let y = source_read a src q.0 st.regs q.1 h in
        let next = λ (m : ℕ) (n : ℕ). set_reg code st dst (alu_value wide op offset m n) (st.place + 1) in
        writes dst (alu_value wide op offset x.value y.value) (st.place + 1) (alu_known wide op offset p.0 q.0) after ways _ q.2 (alu_means wide op offset p.0 q.0 x.value y.value x.means y.means)
        (ap (λ (o : Option ℕ). with_value st.place o (λ m. with_value st.place (source_of st.regs src) (λ n. next m n))) x.is
        ∙ ap (λ (o : Option ℕ). with_value st.place o (λ n. next x.value n)) y.is) go (omega arith)

    change_row : (f : ℕ → ℕ) (dst : ℕ) (after : Seen) (ways : Ways) → option_and_then (λ x. register_written a dst Num) (set_known (known_of a dst)) ≡ Some after
        → one_way (goes code st.place (st.place + 1) after) ≡ Some ways → LeadsAs t st.place a turns (change code st f dst) ways
    change_row f dst after ways e go =
        let p = bind_some (set_known (known_of a dst)) _ after e in
        let x = read_set (known_of a dst) p.0 (reg_of st.regs dst) p.1 (h.each dst) in
        writes dst (f x.value) (st.place + 1) Num after ways _ p.2 (f x.value, refl) (ap (λ (o : Option ℕ). with_value st.place o (λ m. set_reg code st dst (f m) (st.place + 1))) x.is) go (omega arith)

    load_row : (size : Size) (sign : Bool) (dst src : ℕ) (offset : ℤ) (after : Seen) (ways : Ways) → loaded t.payload a size dst src offset ≡ Some after
        → one_way (goes code st.place (st.place + 1) after) ≡ Some ways → LeadsAs t st.place a turns (load code st sign (size_width size) dst src offset) ways
    unfolding IsThere
    load_row size sign dst src offset after ways e go =
        let p = bind_some (number_in (known_of a src)) _ after e in
        let x = read_number (known_of a src) p.0 (reg_of st.regs src) p.1 (h.each src) in
        let w = size_width size in
        by (may_load t.payload (address_of p.0 offset) (byte_len w)) refl p.2 x
      where
        by : {base : ℕ} (b : Bool) → may_load t.payload (address_of base offset) (byte_len (size_width size)) ≡ b → cond b (register_written a dst Num) None ≡ Some after → reg_of st.regs src ≡ Some base
            → LeadsAs t st.place a turns (load code st sign (size_width size) dst src offset) ways
        by {base} true m f x =
            let there = load_there st.spaces t.payload (address_of base offset) (byte_len (size_width size)) c.payload m in
            let v = number_of_bytes sign (size_width size) there.0 in
            writes dst v (st.place + 1) Num after ways _ f (v, refl)
            (ap (λ (o : Option ℕ). with_value st.place o (λ n. loads code st dst (option_map (number_of_bytes sign (size_width size)) (bytes_in st.spaces (address_of n offset) (byte_len (size_width size)))))) x
            ∙ ap (λ (o : Option (List ℕ)). loads code st dst (option_map (number_of_bytes sign (size_width size)) o)) there.1) go (omega arith)
        by {base} false m f x = absurd (cc)

    store_row : (size : Size) (dst : ℕ) (offset : ℤ) (value : Option ℕ) (v : ℕ) (after : Seen) (ways : Ways) → value ≡ Some v → frame_stored a size dst offset ≡ Some after
        → one_way (goes code st.place (st.place + 1) after) ≡ Some ways → LeadsAs t st.place a turns (store code st (size_width size) dst value offset) ways
    store_row size dst offset value v after ways ev e go =
        let p = bind_some (number_in (known_of a dst)) _ after e in
        let x = read_number (known_of a dst) p.0 (reg_of st.regs dst) p.1 (h.each dst) in
        by (may_store (address_of p.0 offset) (byte_len (size_width size))) refl p.2 x
      where
        w : Width
        w = size_width size

        by : {base : ℕ} (b : Bool) → may_store (address_of base offset) (byte_len (size_width size)) ≡ b → cond b (Some a) None ≡ Some after → reg_of st.regs dst ≡ Some base
            → LeadsAs t st.place a turns (store code st (size_width size) dst value offset) ways
        by {base} true m f x =
            let address = address_of base offset in
            let bytes = to_le_bytes (size_width size) (low (size_width size) v) in
            let long : length bytes ≡ byte_len (size_width size) = le_long (size_width size) (low (size_width size) v) size refl in
            let inside : lies_in FRAME 504 address (length bytes) ≡ true = subst (λ (n : ℕ). lies_in FRAME 504 address n ≡ true) (sym long) m in
            let to : MachineState = record st { spaces = stored st.spaces address bytes } in
            let bounds = and_parts (nat_le FRAME address) _ inside in
            let more = and_parts (nat_le (length bytes) 504) _ bounds.1 in
            let l2 = leb-true (length bytes) 504 more.0 in
            let l3 = leb-true (address - FRAME) (504 - length bytes) more.1 in
            let room : address - FRAME + length bytes ≤ length c.front = omega (arith, l2, l3, c.long) in
            one_on t code st to (st.place + 1) turns a after ways _ go
            (ap (λ (o : Option ℕ). with_value st.place o (λ n. with_value st.place value (λ u. stores code st (address_of n offset) (to_le_bytes (size_width size) (low (size_width size) u))))) x
            ∙ ap (λ (o : Option ℕ). with_value st.place o (λ u. stores code st address (to_le_bytes (size_width size) (low (size_width size) u)))) ev
            ∙ ap (λ (o : Option ℕ). cond (is_some o) (enters code to (st.place + 1)) (Traps (BadAddress st.place))) (place_some FRAME 504 FRAME_BYTES address (length bytes) (omega arith) inside))
            (subst (λ (s : Seen). Holds st.regs s) (some_is a after f) h)
            (record {
              payload = c.payload;
              short = c.short;
              front = written c.front (address - FRAME) bytes;
              long = written_long c.front bytes (address - FRAME) room ∙ c.long;
              frame = ap (λ (l : List ℕ). written l (address - FRAME) bytes) c.frame ∙ store_keeps c.front (to_le_bytes w64 turns) bytes (address - FRAME) room;
              few = c.few;
            })
            (ap (λ (s : Seen). s.credit) (sym (some_is a after f))) (omega arith)
        by {base} false m f x = absurd (cc)

    jump_row : (wide : Bool) (op : JumpOp) (dst : ℕ) (src : Source) (offset : ℤ) (after : Seen) (ways : Ways) → effect t (Jump wide op dst src offset) a ≡ Some after
        → two_ways (jumped code st.place offset after) (goes code st.place (st.place + 1) after) ≡ Some ways → LeadsAs t st.place a turns (plain_step code (Jump wide op dst src offset) st) ways
    jump_row wide op dst src offset after ways e go =
        let p = bind_some (set_known (known_of a dst)) _ after e in
        let q = bind_some (source_known a src) _ after p.2 in
        let x = read_set (known_of a dst) p.0 (reg_of st.regs dst) p.1 (h.each dst) in
        let y = source_read a src q.0 st.regs q.1 h in
        let same : a ≡ after = some_is a after q.2 in
        let o = two_is (jumped code st.place offset a) (goes code st.place (st.place + 1) a) ways (subst (λ (s : Seen). two_ways (jumped code st.place offset s) (goes code st.place (st.place + 1) s) ≡ Some ways) (sym same) go) in
        let r = arrives code st.place (st.place + 1) a o.1 o.3 in
        let j = jump_goes t code st a turns offset o.0 o.2 h c in
        let is : plain_step code (Jump wide op dst src offset) st ≡ cond (test_holds wide op x.value y.value) (jump_by code st offset) (enters code st (st.place + 1)) =
        ap (λ (z : Option ℕ). with_value st.place z (λ m. with_value st.place (source_of st.regs src) (λ n. cond (test_holds wide op m n) (jump_by code st offset) (enters code st (st.place + 1))))) x.is
        ∙ ap (λ (z : Option ℕ). with_value st.place z (λ n. cond (test_holds wide op x.value n) (jump_by code st offset) (enters code st (st.place + 1)))) y.is in
        subst (λ (n : Next). LeadsAs t st.place a turns n ways) (sym is)
        (subst (λ (ws : Ways). LeadsAs t st.place a turns (cond (test_holds wide op x.value y.value) (jump_by code st offset) (enters code st (st.place + 1))) ws) o.4
        (by (test_holds wide op x.value y.value) o.0 o.1 (j.goes_as, j.pays) (comes t code st (st.place + 1) turns a o.1 r h c, pays_on t code st.place (st.place + 1) a a o.1 r refl (omega arith))))
      where
        by : (b : Bool) (v w : Way) → GoesAs t v turns (jump_by code st offset) × Pays st.place a v → GoesAs t w turns (enters code st (st.place + 1)) × Pays st.place a w
            → LeadsAs t st.place a turns (cond b (jump_by code st offset) (enters code st (st.place + 1))) (Either v w)
        by true v w f g = inl f
        by false v w f g = inr g

    ja_row : (offset : ℤ) (ways : Ways) → one_way (jumped code st.place offset a) ≡ Some ways → LeadsAs t st.place a turns (jump_by code st offset) ways
    ja_row offset ways go =
        let o = one_is (jumped code st.place offset a) ways go in
        let j = jump_goes t code st a turns offset o.0 o.1 h c in
        subst (λ (ws : Ways). LeadsAs t st.place a turns (jump_by code st offset) ws) o.2 (j.goes_as, j.pays)

    call_row : (n : ℕ) (after : Seen) (ways : Ways) → called t.maps t.formats a n ≡ Some after → one_way (goes code st.place (st.place + 1) after) ≡ Some ways
        → Yields K (λ next. LeadsAs t st.place a turns next ways) (call_step helper code n st)
    call_row n after ways e go = by (call_fits t.maps t.formats n a) refl e
      where
        given : a ≡ a → after_helper a ≡ after → (x : Answer) → GivesWell t turns st.spaces x → LeadsAs t st.place a turns (answered code st x) ways
        given s same (Gave m frame) g =
            let to : MachineState = record st { regs = after_call st.regs m; spaces = record st.spaces { frame = frame } } in
            let h0 = set_holds st.regs a 0 (Const 0) (Some m) (omega arith) (ap (λ (x : ℕ). Some x) g.0) h in
            let h1 = set_holds _ _ 1 Unset None (omega arith) tt h0 in
            let h2 = set_holds _ _ 2 Unset None (omega arith) tt h1 in
            let h3 = set_holds _ _ 3 Unset None (omega arith) tt h2 in
            let h4 = set_holds _ _ 4 Unset None (omega arith) tt h3 in
            let h5 = set_holds _ _ 5 Unset None (omega arith) tt h4 in
            one_on t code st to (st.place + 1) turns a after ways _ go refl (subst (λ (x : Seen). Holds to.regs x) same h5) g.1 (ap (λ (x : Seen). x.credit) (sym same)) (omega arith)
        given s same BadBytes g = absurd g
        given s same BadArgument g = absurd g

        by : (b : Bool) → call_fits t.maps t.formats n a ≡ b → cond b (Some (after_helper a)) None ≡ Some after → Yields K (λ next. LeadsAs t st.place a turns next ways) (call_step helper code n st)
        by true f g = Yields-then K (GivesWell t turns st.spaces) (λ next. LeadsAs t st.place a turns next ways) (helper n (args_of st.regs) st.spaces) _ (serve n turns st.regs st.spaces a f h c) (given refl (some_is (after_helper a) after g))
        by false f g = absurd (cc)

    insn_row : (i : Insn) (after : Seen) (ways : Ways) → effect t i a ≡ Some after → onward code st.place i after ≡ Some ways → Yields K (λ next. LeadsAs t st.place a turns next ways) (machine_step helper code (Some i) st)
    insn_row (Alu wide op dst src offset) after ways e g = alu_row wide op dst src offset after ways e g
    insn_row (Neg wide dst) after ways e g = change_row (neg_value wide) dst after ways e g
    insn_row (End wide big dst bits) after ways e g = change_row (end_value wide big bits) dst after ways e g
    insn_row (Jump wide op dst src offset) after ways e g = jump_row wide op dst src offset after ways e g
    insn_row (Ja offset) after ways e g = ja_row offset ways (subst (λ (s : Seen). one_way (jumped code st.place offset s) ≡ Some ways) (sym (some_is a after e)) g)
    insn_row (JaLong offset) after ways e g = ja_row offset ways (subst (λ (s : Seen). one_way (jumped code st.place offset s) ≡ Some ways) (sym (some_is a after e)) g)
    insn_row (Call n) after ways e g = call_row n after ways e g
    insn_row Exit after ways e g = subst (λ (ws : Ways). LeadsAs t st.place a turns Ends ws) (some_is Finish ways g) refl
    insn_row (Load size sign dst src offset) after ways e g = load_row size sign dst src offset after ways e g
    insn_row (StoreImm size dst offset imm) after ways e g = store_row size dst offset (Some (cast_unsigned w64 imm)) (cast_unsigned w64 imm) after ways refl e g
    insn_row (Store size dst src offset) after ways e g =
        let p = bind_some (set_known (known_of a src)) _ after e in
        let x = read_set (known_of a src) p.0 (reg_of st.regs src) p.1 (h.each src) in
        store_row size dst offset (reg_of st.regs src) x.value after ways x.is p.2 g
    insn_row (Wide dst number) after ways e g = writes dst number (st.place + 2) (Const number) after ways _ e refl refl g (omega arith)
    insn_row Half after ways e g = absurd (cc)

  pub steps_sound : Steps K t helper code
  unfolding Steps
  steps_sound st a turns i ways at none led h c =
      let f : from_insn t code st.place a (Some i) ≡ Some ways = sym (ap (from_gate t code st.place a) none ∙ ap (from_insn t code st.place a) at) ∙ led in
      let p = bind_some (effect t i a) _ ways f in
      insn_row st a turns h c i p.0 ways p.1 p.2
