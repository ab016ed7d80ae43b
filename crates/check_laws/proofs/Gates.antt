-- A gate is passed in four instructions, or left in two.
use Rattle.std.proofs.Common.{◌≡◌, ℕ, ℤ, pos, negsuc, zero, suc, ◌+◌, ◌-◌, ◌<◌, ◌≤◌, List, [], ◌∷◌, ◌++◌, length, take, drop, refl, sym, ap, ◌∙◌, subst, arith, Option, Some, None, Bool, true, false, inl, inr, length-set}
use Rattle.std.specs.Prelude.{◌⊎◌, ◌&&◌, ◌%◌, ◌^◌, slice_get, slice_set, cond, nat_eq, nat_le}
use Rattle.std.specs.Option.{option_map, option_flatten, option_or}
use Rattle.std.specs.Ordering.{int_eq}
use Rattle.std.specs.List.{between}
use Rattle.std.specs.Int.{w64, cast_unsigned, to_le_bytes}
use Rattle.std.proofs.Math.Seq.{drop-append_seam, take-append_seam}
use Rattle.std.proofs.Math.ListN.{drop_of_length-le}
use Rattle.std.proofs.lemmas.List.{append-nil, length-append}
use Rattle.std.proofs.lemmas.Nat.{from_le_bytes-to_le_bytes_8}
use Rattle.std.proofs.lemmas.Option.{slice_get_within}
use Rattle.std.proofs.lemmas.Bool.{lt-leb, le-leb, and_parts, eqb-true, cases_lt}
use Rattle.std.proofs.lemmas.Bool.Decides.{Decides-int_eq}
use Rattle.bt_core.specs.declared.limits.TheConstants.{LOOP_TURNS}
use Rattle.bt_core.specs.declared.step.Reply.{Reply}
use Rattle.bt_core.specs.Interaction.{Call as Asked, and_then}
use Rattle.bpf_insn.specs.declared.address.TheConstants.{PAYLOAD}
use Rattle.bpf_insn.specs.declared.insn.AluOp.TheVariants.{Add}
use Rattle.bpf_insn.specs.declared.insn.JumpOp.TheVariants.{Ge}
use Rattle.bpf_insn.specs.declared.insn.Insn.{Insn}
use Rattle.bpf_insn.specs.declared.insn.Insn.TheVariants.{Alu, Jump, Load, Store}
use Rattle.bpf_insn.specs.declared.insn.Size.TheVariants.{Dw}
use Rattle.bpf_insn.specs.declared.insn.Source.TheVariants.{Imm}
use Rattle.bpf_insn.specs.declared.trap.Trap.TheVariants.{BadJump}
use Rattle.bpf_insn.specs.Regions.{Spaces, place_in, part_of, bytes_in, stored}
use Rattle.bpf_insn.specs.Words.{test_holds}
use Rattle.bpf_insn.specs.Machine.{Helpers, MachineState, GoesOn, Traps, is_entry, enters, with_value, set_reg, plain_step, machine_step, call_or, call_number, reg_of, loads, stores, number_of_bytes, jump_by}
use Rattle.bpf_interp.specs.Running.{after_step, machine_run}
use Rattle.bpf_check.specs.declared.known.Known.TheVariants.{Num}
use Rattle.bpf_check.specs.declared.known.Seen.{Seen}
use Rattle.bpf_check.specs.Sheet.{Sheet}
use Rattle.bpf_check.specs.declared.ways.Way.{Way}
use Rattle.bpf_check.specs.declared.ways.Ways.{Ways}
use Rattle.bpf_check.specs.States.{register_written}
use Rattle.bpf_check.specs.Ways.{goes, two_ways, taken, through_gate, from_gate, gate_at, is_turns_load, turns_jump, is_turns_add, is_turns_store}
use Rattle.check_laws.proofs.Holding.{Holds, Counts}
use Rattle.bpf_check.proofs.Registers.{get-set-same, get-set-other}
use Rattle.check_laws.proofs.Sound.{Gates, GateWays, Passes, Leaves}
use Rattle.bpf_check.proofs.Going.{bind_some, some_is, arrives, Arrives, two_is}
use Rattle.check_laws.proofs.Rows.{set_holds}
use Rattle.check_laws.proofs.Insns.{wrote}

abbrev pub first_of : Insn
first_of = Load Dw false 1 10 (negsuc 7)

abbrev pub second_of : ℤ → Insn
second_of offset = Jump true Ge 1 (Imm (pos 4096)) offset

abbrev pub third_of : ℤ → Insn
third_of offset = Alu true Add 1 (Imm (pos 1)) offset

abbrev pub fourth_of : Insn
fourth_of = Store Dw 10 1 (negsuc 7)

-- ---- the form of a gate

int_is : (m n : ℤ) → int_eq m n ≡ true → m ≡ n
int_is m n e = (Decides-int_eq m n).0 e

load_is : (o : Option Insn) → is_turns_load o ≡ true → o ≡ Some first_of
load_is (Some (Load Dw false dst src offset)) e =
    let p = and_parts (nat_eq dst 1) _ e in
    let q = and_parts (nat_eq src 10) _ p.1 in
    ap (λ (d : ℕ). Some (Load Dw false d src offset)) (eqb-true dst 1 p.0)
    ∙ ap (λ (s : ℕ). Some (Load Dw false 1 s offset)) (eqb-true src 10 q.0)
    ∙ ap (λ (z : ℤ). Some (Load Dw false 1 10 z)) (int_is offset (negsuc 7) q.1)
load_is o e = absurd (cc)

store_is : (o : Option Insn) → is_turns_store o ≡ true → o ≡ Some fourth_of
store_is (Some (Store Dw dst src offset)) e =
    let p = and_parts (nat_eq dst 10) _ e in
    let q = and_parts (nat_eq src 1) _ p.1 in
    ap (λ (d : ℕ). Some (Store Dw d src offset)) (eqb-true dst 10 p.0)
    ∙ ap (λ (s : ℕ). Some (Store Dw 10 s offset)) (eqb-true src 1 q.0)
    ∙ ap (λ (z : ℤ). Some (Store Dw 10 1 z)) (int_is offset (negsuc 7) q.1)
store_is o e = absurd (cc)

add_is : (o : Option Insn) → is_turns_add o ≡ true → (offset : ℤ) × (o ≡ Some (third_of offset))
add_is (Some (Alu true Add dst (Imm n) offset)) e =
    let p = and_parts (nat_eq dst 1) _ e in
    (offset, ap (λ (d : ℕ). Some (Alu true Add d (Imm n) offset)) (eqb-true dst 1 p.0) ∙ ap (λ (z : ℤ). Some (Alu true Add 1 (Imm z) offset)) (int_is n (pos 1) p.1))
add_is o e = absurd (cc)

jump_is : (o : Option Insn) (offset : ℤ) → turns_jump o ≡ Some offset → o ≡ Some (second_of offset)
jump_is (Some (Jump true Ge dst (Imm n) z)) offset e = by (nat_eq dst 1 && int_eq n (pos LOOP_TURNS)) refl e
  where
    by : (b : Bool) → (nat_eq dst 1 && int_eq n (pos LOOP_TURNS)) ≡ b → cond b (Some z) None ≡ Some offset → Some (Jump true Ge dst (Imm n) z) ≡ Some (second_of offset)
    by true f g =
        let p = and_parts (nat_eq dst 1) _ f in
        ap (λ (d : ℕ). Some (Jump true Ge d (Imm n) z)) (eqb-true dst 1 p.0)
        ∙ ap (λ (m : ℤ). Some (Jump true Ge 1 (Imm m) z)) (int_is n (pos LOOP_TURNS) p.1)
        ∙ ap (λ (m : ℤ). Some (second_of m)) (some_is z offset g)
    by false f g = absurd (cc)
jump_is o offset e = absurd (cc)

pub record Gate (code : List Insn) (p : ℕ) (offset : ℤ) : Type 0 where
  pub added : ℤ
  pub first : slice_get code p ≡ Some first_of
  pub second : slice_get code (p + 1) ≡ Some (second_of offset)
  pub third : slice_get code (p + 2) ≡ Some (third_of added)
  pub fourth : slice_get code (p + 3) ≡ Some fourth_of

pub gate_is : (code : List Insn) (p : ℕ) (offset : ℤ) → gate_at code p ≡ Some offset → Gate code p offset
gate_is code p offset e = by (is_turns_load (slice_get code p) && (is_turns_add (slice_get code (p + 2)) && is_turns_store (slice_get code (p + 3)))) refl e
  where
    by : (b : Bool) → (is_turns_load (slice_get code p) && (is_turns_add (slice_get code (p + 2)) && is_turns_store (slice_get code (p + 3)))) ≡ b
        → cond b (turns_jump (slice_get code (p + 1))) None ≡ Some offset → Gate code p offset
    by true f g =
        let x = and_parts (is_turns_load (slice_get code p)) _ f in
        let y = and_parts (is_turns_add (slice_get code (p + 2))) _ x.1 in
        let z = add_is (slice_get code (p + 2)) y.0 in
        record { added = z.0; first = load_is _ x.0; second = jump_is _ offset g; third = z.1; fourth = store_is _ y.1 }
    by false f g = absurd (cc)

-- ---- the count

ahead : (n : ℕ) → (b : Bool) → cond b (cond false (Some n) None) None ≡ None
ahead n true = refl
ahead n false = refl

counted : (t : Sheet) (s : Spaces) (turns : ℕ) → Counts t s turns → bytes_in s 12884902392 8 ≡ Some (to_le_bytes w64 turns)
counted t s turns c =
    let far : nat_le (12884902392 - PAYLOAD) (length s.payload - 8) ≡ false = lt-leb (12884902392 - PAYLOAD) (length s.payload - 8) (omega (arith, c.short)) in
    let none : place_in PAYLOAD (length s.payload) 12884902392 8 ≡ None =
    ap (λ (b : Bool). cond (nat_le 8 (length s.payload)) (cond b (Some (12884902392 - PAYLOAD)) None) None) far ∙ ahead (12884902392 - PAYLOAD) (nat_le 8 (length s.payload)) in
    let long : length c.front ≡ 504 = c.long in
    ap (λ (o : Option ℕ). option_or (part_of s.payload 8 o) (part_of s.frame 8 (Some 504))) none
    ∙ ap (λ (l : List ℕ). Some (between 504 512 l)) c.frame
    ∙ ap (λ (n : ℕ). Some (take 8 (drop n (c.front ++ to_le_bytes w64 turns)))) (sym long)
    ∙ ap (λ (l : List ℕ). Some (take 8 l)) (drop-append_seam c.front (to_le_bytes w64 turns))

drop_past : (n : ℕ) (xs : List ℕ) → length xs ≤ n → drop n xs ≡ []
drop_past n xs le = drop_of_length-le xs le

set_twice : {A : Type 0} (xs : List A) (n : ℕ) (x y : A) → slice_set (slice_set xs n x) n y ≡ slice_set xs n y
set_twice [] n x y = refl
set_twice (z ∷ xs) zero x y = refl
set_twice (z ∷ xs) (suc n) x y = ap (λ l. z ∷ l) (set_twice xs n x y)

module _ (K : Asked → Reply → Type 0) (t : Sheet) (helper : Helpers) (code : List Insn) where
  run_go : (i : Insn) (st st' : MachineState) (f count : ℕ) → slice_get code st.place ≡ Some i → call_number i ≡ None → plain_step code i st ≡ GoesOn st'
      → machine_run helper code (suc f) count st ≡ machine_run helper code f (count + 1) st'
  run_go i st st' f count at none e =
      let after = after_step (machine_run helper code f (count + 1)) count in
      ap (λ (o : Option Insn). and_then (machine_step helper code o st) after) at ∙ ap (λ (o : Option ℕ). and_then (call_or helper code o i st) after) none ∙ ap after e

  enter : (to : MachineState) (q : ℕ) → is_entry (slice_get code q) ≡ true → enters code to q ≡ GoesOn (record to { place = q })
  enter to q e = ap (λ (b : Bool). cond b (GoesOn (record to { place = q })) (Traps (BadJump to.place))) e

  module _ (st : MachineState) (a : Seen) (turns : ℕ) (offset : ℤ) (g : Gate code st.place offset) (h : Holds st.regs a) (c : Counts t st.spaces turns) where
    abbrev one : MachineState
    one = record st { regs = slice_set st.regs 1 (Some turns); place = st.place + 1 }

    top : (regs : List (Option ℕ)) (n : Option ℕ) → reg_of regs 10 ≡ Some 12884902400 → reg_of (slice_set regs 1 n) 10 ≡ Some 12884902400
    top regs n e = ap option_flatten (get-set-other regs 1 10 n (λ x. omega (arith, x))) ∙ e

    at_one : (regs : List (Option ℕ)) (n : ℕ) → length regs ≡ 11 → reg_of (slice_set regs 1 (Some n)) 1 ≡ Some n
    at_one regs n e = ap option_flatten (get-set-same regs 1 (Some n) (omega (arith, e)))

    top_is : reg_of st.regs 10 ≡ Some 12884902400
    top_is = h.each 10

    small : turns < 2 ^ 64
    small = omega (arith, c.few)

    step1 : plain_step code first_of st ≡ GoesOn one
    step1 =
        ap (λ (o : Option ℕ). with_value st.place o (λ x. loads code st 1 (option_map (number_of_bytes false w64) (bytes_in st.spaces ((x + cast_unsigned w64 (negsuc 7)) % 2 ^ 64) 8)))) top_is
        ∙ ap (λ (o : Option (List ℕ)). loads code st 1 (option_map (number_of_bytes false w64) o)) (counted t st.spaces turns c)
        ∙ ap (λ (n : ℕ). enters code (record st { regs = slice_set st.regs 1 (Some n) }) (st.place + 1)) (from_le_bytes-to_le_bytes_8 turns small)
        ∙ enter (record st { regs = slice_set st.regs 1 (Some turns) }) (st.place + 1) (ap is_entry g.second)

    step2 : plain_step code (second_of offset) one ≡ cond (nat_le 4096 turns) (jump_by code one offset) (enters code one (st.place + 1 + 1))
    step2 = ap (λ (o : Option ℕ). with_value (st.place + 1) o (λ x. cond (test_holds true Ge x 4096) (jump_by code one offset) (enters code one (st.place + 1 + 1)))) (at_one st.regs turns h.long)

    -- the count is 4,096, and the jump is taken
    leaves : (n : ℕ) (s : Seen) (w : Way) → offset ≡ pos n → Arrives code (st.place + 2 + n) s w → Holds one.regs s → s.credit ≡ a.credit → 4096 ≤ turns → Leaves K t helper code st a turns w
    leaves n s w eo r hs same most = record {
      to = record one { place = st.place + 1 + 1 + n };
      runs = λ f count. run_go first_of st one (suc f) count g.first refl step1 ∙ run_go (second_of offset) one (record one { place = st.place + 1 + 1 + n }) f (count + 1) g.second refl jumps ∙ ap (λ (m : ℕ). machine_run helper code f m (record one { place = st.place + 1 + 1 + n })) (omega arith);
      place = omega arith ∙ ap (λ (v : Way). v.place) r.is;
      behind = subst (λ (v : Way). st.place + 2 ≤ v.place) r.is (omega arith);
      credit = subst (λ (v : Way). v.seen.credit ≤ a.credit) r.is (omega (arith, same));
      holds = subst (λ (v : Way). Holds one.regs v.seen) r.is hs;
      counts = c;
    }
      where
        jumps : plain_step code (second_of offset) one ≡ GoesOn (record one { place = st.place + 1 + 1 + n })
        jumps =
            let same : st.place + 1 + 1 + n ≡ st.place + 2 + n = omega arith in
            step2 ∙ ap (λ (b : Bool). cond b (jump_by code one offset) (enters code one (st.place + 1 + 1))) (le-leb 4096 turns most)
            ∙ ap (λ (z : ℤ). jump_by code one z) eo
            ∙ enter one (st.place + 1 + 1 + n) (subst (λ (m : ℕ). is_entry (slice_get code m) ≡ true) (sym same) r.entry)

    abbrev two : MachineState
    two = record one { place = st.place + 1 + 1 }

    abbrev three : MachineState
    three = record two { regs = slice_set one.regs 1 (Some (turns + 1)); place = st.place + 1 + 1 + 1 }

    abbrev counted_up : Spaces
    counted_up = stored st.spaces 12884902392 (to_le_bytes w64 (turns + 1))

    abbrev four : MachineState
    four = record three { spaces = counted_up; place = st.place + 1 + 1 + 1 + 1 }

    third_at : slice_get code (st.place + 1 + 1) ≡ Some (third_of g.added)
    third_at = let e : st.place + 1 + 1 ≡ st.place + 2 = omega arith in ap (slice_get code) e ∙ g.third

    fourth_at : slice_get code (st.place + 1 + 1 + 1) ≡ Some fourth_of
    fourth_at = let e : st.place + 1 + 1 + 1 ≡ st.place + 3 = omega arith in ap (slice_get code) e ∙ g.fourth

    step3 : plain_step code (third_of g.added) two ≡ GoesOn three
    step3 =
        let sum : (turns + 1) % 2 ^ 64 ≡ turns + 1 = omega (arith, c.few) in
        ap (λ (o : Option ℕ). with_value two.place o (λ x. set_reg code two 1 ((x + 1) % 2 ^ 64) (two.place + 1))) (at_one st.regs turns h.long)
        ∙ ap (λ (n : ℕ). enters code (record two { regs = slice_set one.regs 1 (Some n) }) (two.place + 1)) sum
        ∙ enter (record two { regs = slice_set one.regs 1 (Some (turns + 1)) }) (two.place + 1) (ap is_entry fourth_at)

    step4 : is_entry (slice_get code (st.place + 1 + 1 + 1 + 1)) ≡ true → plain_step code fourth_of three ≡ GoesOn four
    step4 entry =
        let long1 : length one.regs ≡ 11 = length-set st.regs 1 (Some turns) ∙ h.long in
        ap (λ (o : Option ℕ). with_value three.place o (λ x. with_value three.place (reg_of three.regs 1) (λ v. stores code three ((x + cast_unsigned w64 (negsuc 7)) % 2 ^ 64) (to_le_bytes w64 v)))) (top one.regs (Some (turns + 1)) (top st.regs (Some turns) top_is))
        ∙ ap (λ (o : Option ℕ). with_value three.place o (λ v. stores code three 12884902392 (to_le_bytes w64 v))) (at_one one.regs (turns + 1) long1)
        ∙ enter (record three { spaces = counted_up }) (three.place + 1) entry

    counts_up : turns < 4096 → Counts t counted_up (turns + 1)
    counts_up few =
        let long : length c.front ≡ 504 = c.long in
        let f = c.front in
        let old = to_le_bytes w64 turns in
        let new = to_le_bytes w64 (turns + 1) in
        let e1 : take 504 (f ++ old) ≡ f = ap (λ (n : ℕ). take n (f ++ old)) (sym long) ∙ take-append_seam f old in
        let e2 : length (f ++ old) ≤ 512 = omega (arith, length-append f old, long) in
        record {
          payload = c.payload;
          short = c.short;
          front = f;
          long = long;
          frame = ap (λ (l : List ℕ). take 504 l ++ (new ++ drop 512 l)) c.frame
              ∙ ap (λ (l : List ℕ). l ++ (new ++ drop 512 (f ++ old))) e1
              ∙ ap (λ (l : List ℕ). f ++ (new ++ l)) (drop_past 512 (f ++ old) e2)
              ∙ ap (λ (l : List ℕ). f ++ l) (append-nil new);
          few = omega (arith, few);
        }

    -- one more is counted
    passes : (s : Seen) (w : Way) → Arrives code (st.place + 4) s w → ((o : ℕ) → Holds (slice_set st.regs 1 (Some o)) s) → s.credit ≤ a.credit + 1 → turns < 4096 → Passes K t helper code st a turns w
    passes s w r hs le few = record {
      few = few;
      to = four;
      runs = λ f count. run_go first_of st one (suc (suc (suc f))) count g.first refl step1
          ∙ run_go (second_of offset) one two (suc (suc f)) (count + 1) g.second refl on
          ∙ run_go (third_of g.added) two three (suc f) (count + 1 + 1) third_at refl step3
          ∙ run_go fourth_of three four f (count + 1 + 1 + 1) fourth_at refl (step4 entry)
          ∙ ap (λ (m : ℕ). machine_run helper code f m four) (omega arith);
      place = omega arith ∙ ap (λ (v : Way). v.place) r.is;
      behind = sym (ap (λ (v : Way). v.place) r.is);
      credit = subst (λ (v : Way). v.seen.credit ≤ a.credit + 1) r.is le;
      holds = subst (λ (v : Way). Holds four.regs v.seen) r.is (subst (λ (l : List (Option ℕ)). Holds l s) (sym (set_twice st.regs 1 (Some turns) (Some (turns + 1)))) (hs (turns + 1)));
      counts = counts_up few;
    }
      where
        entry : is_entry (slice_get code (st.place + 1 + 1 + 1 + 1)) ≡ true
        entry = let e : st.place + 1 + 1 + 1 + 1 ≡ st.place + 4 = omega arith in ap (λ (n : ℕ). is_entry (slice_get code n)) e ∙ r.entry

        on : plain_step code (second_of offset) one ≡ GoesOn two
        on = step2 ∙ ap (λ (b : Bool). cond b (jump_by code one offset) (enters code one (st.place + 1 + 1))) (lt-leb 4096 turns few) ∙ enter one (st.place + 1 + 1) (ap is_entry third_at)

  pub gates_sound : Gates K t helper code
  unfolding Gates
  gates_sound st a turns offset ways at led h c =
      let f : through_gate code st.place offset a ≡ Some ways = sym (ap (from_gate t code st.place a) at) ∙ led in
      by offset (gate_is code st.place offset at) f
    where
      by : (offset : ℤ) → Gate code st.place offset → through_gate code st.place offset a ≡ Some ways → GateWays K t helper code st a turns ways
      by (negsuc n) g f = absurd (cc)
      by (pos n) g f =
          let p = bind_some (register_written a 1 Num) (λ after. two_ways (goes code st.place (st.place + 4) (taken after)) (goes code st.place (st.place + 2 + n) after)) ways f in
          let w = wrote a p.0 1 Num p.1 in
          let o = two_is (goes code st.place (st.place + 4) (taken p.0)) (goes code st.place (st.place + 2 + n) p.0) ways p.2 in
          let v = arrives code st.place (st.place + 4) (taken p.0) o.0 o.2 in
          let u = arrives code st.place (st.place + 2 + n) p.0 o.1 o.3 in
          let in' : st.place + 3 < length code = slice_get_within code (st.place + 3) fourth_of g.fourth in
          let same : p.0.credit ≡ a.credit = ap (λ (s : Seen). s.credit) (sym w.is) in
          let hs : (o : ℕ) → Holds (slice_set st.regs 1 (Some o)) p.0 = λ o. subst (λ (s : Seen). Holds (slice_set st.regs 1 (Some o)) s) w.is (set_holds st.regs a 1 Num (Some o) (omega arith) (o, refl) h) in
          subst (λ (ws : Ways). GateWays K t helper code st a turns ws) o.4 (
            omega (arith, in'),
            cases (cases_lt turns 4096) (λ few. passes st a turns (pos n) g h c (taken p.0) o.0 v (λ o. record { each = (hs o).each; long = (hs o).long }) (omega (arith, same)) few)
                (λ most. leaves st a turns (pos n) g h c n p.0 o.1 refl u (hs turns) same most),
          )
        where
          cases : {A B C D : Type 0} → A ⊎ B → (A → C) → (B → D) → C ⊎ D
          cases (inl x) k l = inl (k x)
          cases (inr y) k l = inr (l y)
