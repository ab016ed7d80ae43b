-- A state that is covered meets the conditions that its cover meets, and what comes of it is covered by what comes of its cover.
use Rattle.std.proofs.Common.{◌≡◌, ℕ, ℤ, pos, negsuc, ◌+◌, ◌-◌, ◌<◌, List, length, refl, sym, ap, ◌∙◌, subst, arith, Option, Some, None, Bool, true, false, length-set}
use Rattle.std.specs.Prelude.{◌&&◌, slice_get, slice_set, cond, nat_lt, nat_le, is_some}
use Rattle.std.specs.Option.{option_and_then}
use Rattle.std.specs.Ordering.{int_eq}
use Rattle.std.specs.Int.{byte_len}
use Rattle.std.proofs.lemmas.Bool.{ltb-true, leb-true, le-leb, and_parts, and_from}
use Rattle.bt_core.specs.declared.map.MapDecl.{MapDecl}
use Rattle.fmt_text.specs.declared.piece.Piece.{Piece}
use Rattle.helper_abi.specs.declared.helper.Helper.{Helper}
use Rattle.helper_abi.specs.declared.helper.Helper.TheVariants.{Get, Set, Delete, Aggregate, Print, Clear, Zero, Printf, Exit, Cut, ReadStr, ReadAgg}
use Rattle.helper_abi.specs.Numbers.{helper_at}
use Rattle.helper_abi.specs.Helpers.{numbered, table_map, value_map, summed_map}
use Rattle.bpf_insn.specs.declared.insn.AluOp.{AluOp}
use Rattle.bpf_insn.specs.declared.insn.AluOp.TheVariants.{Add, Sub, Mov}
use Rattle.bpf_insn.specs.declared.insn.Insn.{Insn}
use Rattle.bpf_insn.specs.declared.insn.Insn.TheVariants.{Alu, Neg, End, Jump, Ja, JaLong, Call, Exit, Load, StoreImm, Store, Wide, Half}
use Rattle.bpf_insn.specs.declared.insn.Size.{Size}
use Rattle.bpf_insn.specs.declared.insn.Source.{Source}
use Rattle.bpf_insn.specs.declared.insn.Source.TheVariants.{Imm, Reg}
use Rattle.bpf_insn.specs.Machine.{address_of, target_of}
use Rattle.bpf_insn.specs.Words.{size_width}
use Rattle.bpf_check.specs.declared.known.Known.{Known}
use Rattle.bpf_check.specs.declared.known.Known.TheVariants.{Unset, Num, Const}
use Rattle.bpf_check.specs.declared.known.Seen.{Seen}
use Rattle.bpf_check.specs.Sheet.{Sheet}
use Rattle.bpf_check.specs.declared.ways.Way.{Way}
use Rattle.bpf_check.specs.declared.ways.Ways.{Ways}
use Rattle.bpf_check.specs.declared.ways.Ways.TheVariants.{Finish, To, Either}
use Rattle.bpf_check.specs.States.{known_of, register_written, paid, CoversKnown, Covers}
use Rattle.bpf_check.specs.Reading.{set_known, number_in, may_load, may_store}
use Rattle.bpf_check.specs.Calls.{in_frame, in_results, get_fits, set_fits, delete_fits, add_fits, sum_fits, limits_fit, printf_fits, is_line, helper_fits, known_helper_fits, call_fits}
use Rattle.bpf_check.specs.Effects.{source_known, first_known, sum_known, difference_known, wide_known, alu_known, loaded, frame_stored, after_helper, called, effect}
use Rattle.bpf_check.specs.Ways.{may_go, goes, is_back, jumped, one_way, two_ways, onward, taken, through_gate, from_insn, from_gate, gate_at, leads}
use Rattle.bpf_check.specs.Closed.{HasCover, IsCovered, AreCovered, Meets, IsClosed}
use Rattle.bpf_check.proofs.Registers.{known_refl, covers_at, covers_set, covers_trans}

-- ---- what is also there, and covered

abbrev AlsoKnown : Option Known → Option Known → Type 0
AlsoKnown None o = Unit {0}
AlsoKnown (Some x) None = ⊥
AlsoKnown (Some x) (Some y) = CoversKnown x y

abbrev AlsoNumber : Option ℕ → Option ℕ → Type 0
AlsoNumber None o = Unit {0}
AlsoNumber (Some n) o = o ≡ Some n

abbrev AlsoThe : {A : Type 0} → Option A → Option A → Type 0
AlsoThe None o = Unit {0}
AlsoThe (Some a) o = o ≡ Some a

abbrev AlsoSeen : Option Seen → Option Seen → Type 0
AlsoSeen None o = Unit {0}
AlsoSeen (Some a) None = ⊥
AlsoSeen (Some a) (Some b) = Covers a b

abbrev SameWay : Way → Way → Type 0
SameWay a b = (a.place ≡ b.place) × Covers a.seen b.seen

abbrev AlsoWay : Option Way → Option Way → Type 0
AlsoWay None o = Unit {0}
AlsoWay (Some a) None = ⊥
AlsoWay (Some a) (Some b) = SameWay a b

abbrev SameWays : Ways → Ways → Type 0
SameWays Finish Finish = Unit {0}
SameWays (To a) (To b) = SameWay a b
SameWays (Either a c) (Either b d) = SameWay a b × SameWay c d
SameWays v w = ⊥

abbrev AlsoWays : Option Ways → Option Ways → Type 0
AlsoWays None o = Unit {0}
AlsoWays (Some v) None = ⊥
AlsoWays (Some v) (Some w) = SameWays v w

known_then : (o p : Option Known) (f g : Known → Option Seen) → AlsoKnown o p → ((x y : Known) → CoversKnown x y → AlsoSeen (f x) (g y)) → AlsoSeen (option_and_then f o) (option_and_then g p)
known_then None p f g h k = tt
known_then (Some x) None f g h k = absurd h
known_then (Some x) (Some y) f g h k = k x y h

number_then : (o p : Option ℕ) (f g : ℕ → Option Seen) → AlsoNumber o p → ((n : ℕ) → AlsoSeen (f n) (g n)) → AlsoSeen (option_and_then f o) (option_and_then g p)
number_then None p f g h k = tt
number_then (Some n) p f g h k = subst (λ (o : Option ℕ). AlsoSeen (f n) (option_and_then g o)) (sym h) (k n)

seen_then : (o p : Option Seen) (f g : Seen → Option Ways) → AlsoSeen o p → ((x y : Seen) → Covers x y → AlsoWays (f x) (g y)) → AlsoWays (option_and_then f o) (option_and_then g p)
seen_then None p f g h k = tt
seen_then (Some x) None f g h k = absurd h
seen_then (Some x) (Some y) f g h k = k x y h

-- ---- reading

set_also : (x y : Known) → CoversKnown x y → AlsoKnown (set_known x) (set_known y)
set_also Unset y h = tt
set_also Num Unset h = absurd h
set_also Num Num h = tt
set_also Num (Const n) h = tt
set_also (Const m) y h = subst (λ (k : Known). AlsoKnown (Some (Const m)) (set_known k)) (sym h) refl

number_also : (x y : Known) → CoversKnown x y → AlsoNumber (number_in x) (number_in y)
number_also Unset y h = tt
number_also Num y h = tt
number_also (Const m) y h = ap number_in h

sum_some : (x y : Known) → CoversKnown Num (sum_known x y)
sum_some Unset y = tt
sum_some Num y = tt
sum_some (Const a) Unset = tt
sum_some (Const a) Num = tt
sum_some (Const a) (Const b) = tt

sum_also : (x x' y y' : Known) → CoversKnown x x' → CoversKnown y y' → CoversKnown (sum_known x y) (sum_known x' y')
sum_also Unset x' y y' h k = sum_some x' y'
sum_also Num x' y y' h k = sum_some x' y'
sum_also (Const a) x' Unset y' h k = sum_some x' y'
sum_also (Const a) x' Num y' h k = sum_some x' y'
sum_also (Const a) x' (Const b) y' h k = ap (λ (v : Known). sum_known v y') h ∙ ap (sum_known (Const a)) k

difference_some : (x y : Known) → CoversKnown Num (difference_known x y)
difference_some Unset y = tt
difference_some Num y = tt
difference_some (Const a) Unset = tt
difference_some (Const a) Num = tt
difference_some (Const a) (Const b) = tt

difference_also : (x x' y y' : Known) → CoversKnown x x' → CoversKnown y y' → CoversKnown (difference_known x y) (difference_known x' y')
difference_also Unset x' y y' h k = difference_some x' y'
difference_also Num x' y y' h k = difference_some x' y'
difference_also (Const a) x' Unset y' h k = difference_some x' y'
difference_also (Const a) x' Num y' h k = difference_some x' y'
difference_also (Const a) x' (Const b) y' h k = ap (λ (v : Known). difference_known v y') h ∙ ap (difference_known (Const a)) k

moved_also : (b : Bool) (y y' : Known) → CoversKnown y y' → CoversKnown (cond b y Num) (cond b y' Num)
moved_also true y y' k = k
moved_also false y y' k = tt

wide_also : (op : AluOp) (offset : ℤ) (x x' y y' : Known) → CoversKnown x x' → CoversKnown y y' → CoversKnown (wide_known op offset x y) (wide_known op offset x' y')
wide_also Mov offset x x' y y' h k = moved_also (int_eq offset (pos 0)) y y' k
wide_also Add offset x x' y y' h k = sum_also x x' y y' h k
wide_also Sub offset x x' y y' h k = difference_also x x' y y' h k
wide_also op offset x x' y y' h k = tt

alu_also : (wide : Bool) (op : AluOp) (offset : ℤ) (x x' y y' : Known) → CoversKnown x x' → CoversKnown y y' → CoversKnown (alu_known wide op offset x y) (alu_known wide op offset x' y')
alu_also false op offset x x' y y' h k = tt
alu_also true op offset x x' y y' h k = wide_also op offset x x' y y' h k

module _ (t : Sheet) (a s : Seen) (full : length s.regs ≡ 10) (c : Covers a s) where
  reg_also : (r : ℕ) → AlsoKnown (set_known (known_of a r)) (set_known (known_of s r))
  reg_also r = set_also (known_of a r) (known_of s r) (covers_at a s r c)

  base_also : (r : ℕ) → AlsoNumber (number_in (known_of a r)) (number_in (known_of s r))
  base_also r = number_also (known_of a r) (known_of s r) (covers_at a s r c)

  source_also : (src : Source) → AlsoKnown (source_known a src) (source_known s src)
  source_also (Imm n) = refl
  source_also (Reg r) = reg_also r

  first_also : (op : AluOp) (dst : ℕ) → AlsoKnown (first_known op a dst) (first_known op s dst)
  first_also Mov dst = tt
  first_also op dst = reg_also dst

  written_also : (r : ℕ) (x y : Known) → CoversKnown x y → AlsoSeen (register_written a r x) (register_written s r y)
  written_also r x y h = by (nat_lt r 10) refl
    where
      by : (b : Bool) → nat_lt r 10 ≡ b → AlsoSeen (cond b (Some (record a { regs = slice_set a.regs r x })) None) (cond b (Some (record s { regs = slice_set s.regs r y })) None)
      by true e = covers_set a s r x y (ltb-true r 10 e) full h c
      by false e = tt

  loaded_also : (size : Size) (dst src : ℕ) (offset : ℤ) → AlsoSeen (loaded t.payload a size dst src offset) (loaded t.payload s size dst src offset)
  loaded_also size dst src offset = number_then (number_in (known_of a src)) (number_in (known_of s src)) _ _ (base_also src) (λ base. by (may_load t.payload (address_of base offset) (byte_len (size_width size))))
    where
      by : (b : Bool) → AlsoSeen (cond b (register_written a dst Num) None) (cond b (register_written s dst Num) None)
      by true = written_also dst Num Num tt
      by false = tt

  stored_also : (size : Size) (dst : ℕ) (offset : ℤ) → AlsoSeen (frame_stored a size dst offset) (frame_stored s size dst offset)
  stored_also size dst offset = number_then (number_in (known_of a dst)) (number_in (known_of s dst)) _ _ (base_also dst) (λ base. by (may_store (address_of base offset) (byte_len (size_width size))))
    where
      by : (b : Bool) → AlsoSeen (cond b (Some a) None) (cond b (Some s) None)
      by true = c
      by false = tt

  -- ---- calls

  -- what has a number in a list is there also where more is known
  the_also : {A : Type 0} (f : ℕ → Option A) (o o' : Option ℕ) → AlsoNumber o o' → AlsoThe (option_and_then f o) (option_and_then f o')
  the_also f None o' h = tt
  the_also {A = A} f (Some n) o' h = by (f n) refl
    where
      by : (x : Option A) → f n ≡ x → AlsoThe x (option_and_then f o')
      by None e = tt
      by (Some x) e = ap (option_and_then f) h ∙ e

  there_also : {A : Type 0} (x x' : Option A) → AlsoThe x x' → is_some x ≡ true → is_some x' ≡ true
  there_also None x' h e = absurd (cc)
  there_also (Some x) x' h e = ap is_some h

  limits_also : (o o' p p' : Option ℕ) → AlsoNumber o o' → AlsoNumber p p' → limits_fit o p ≡ true → limits_fit o' p' ≡ true
  limits_also None o' p p' h k e = absurd (cc)
  limits_also (Some n) o' None p' h k e = absurd (cc)
  limits_also (Some n) o' (Some m) p' h k e = ap (λ (x : Option ℕ). limits_fit x p') h ∙ ap (limits_fit (Some n)) k ∙ e

  line_also : (o o' : Option ℕ) → AlsoNumber o o' → is_line o ≡ true → is_line o' ≡ true
  line_also None o' h e = absurd (cc)
  line_also (Some n) o' h e = ap is_line h ∙ e

  frame_also : (n : ℕ) (o o' : Option ℕ) → AlsoNumber o o' → in_frame n o ≡ true → in_frame n o' ≡ true
  frame_also n None o' h e = absurd (cc)
  frame_also n (Some m) o' h e = ap (in_frame n) h ∙ e

  results_also : (n : ℕ) (o o' : Option ℕ) → AlsoNumber o o' → in_results n o ≡ true → in_results n o' ≡ true
  results_also n None o' h e = absurd (cc)
  results_also n (Some m) o' h e = ap (in_results n) h ∙ e

  some_also : (o o' : Option Known) → AlsoKnown o o' → is_some o ≡ true → is_some o' ≡ true
  some_also None o' h e = absurd (cc)
  some_also (Some x) None h e = absurd h
  some_also (Some x) (Some y) h e = refl

  and_also : (x y x' y' : Bool) → (x ≡ true → x' ≡ true) → (y ≡ true → y' ≡ true) → (x && y) ≡ true → (x' && y') ≡ true
  and_also x y x' y' h k e = let p = and_parts x y e in and_from x' y' (h p.0) (k p.1)

  get_also : (m m' : Option MapDecl) → AlsoThe m m' → get_fits m (known_of a 2) (known_of a 3) ≡ true → get_fits m' (known_of s 2) (known_of s 3) ≡ true
  get_also None m' h e = absurd (cc)
  get_also (Some d) m' h e = ap (λ (x : Option MapDecl). get_fits x (known_of s 2) (known_of s 3)) h ∙ and_also _ _ _ _ (frame_also _ _ _ (base_also 2)) (results_also _ _ _ (base_also 3)) e

  set_fits_also : (m m' : Option MapDecl) → AlsoThe m m' → set_fits m (known_of a 2) (known_of a 3) ≡ true → set_fits m' (known_of s 2) (known_of s 3) ≡ true
  set_fits_also None m' h e = absurd (cc)
  set_fits_also (Some d) m' h e = ap (λ (x : Option MapDecl). set_fits x (known_of s 2) (known_of s 3)) h ∙ and_also _ _ _ _ (frame_also _ _ _ (base_also 2)) (frame_also _ _ _ (base_also 3)) e

  delete_also : (m m' : Option MapDecl) → AlsoThe m m' → delete_fits m (known_of a 2) ≡ true → delete_fits m' (known_of s 2) ≡ true
  delete_also None m' h e = absurd (cc)
  delete_also (Some d) m' h e = ap (λ (x : Option MapDecl). delete_fits x (known_of s 2)) h ∙ frame_also _ _ _ (base_also 2) e

  add_also : (m m' : Option MapDecl) → AlsoThe m m' → add_fits m (known_of a 2) (known_of a 3) ≡ true → add_fits m' (known_of s 2) (known_of s 3) ≡ true
  add_also None m' h e = absurd (cc)
  add_also (Some d) m' h e = ap (λ (x : Option MapDecl). add_fits x (known_of s 2) (known_of s 3)) h ∙ and_also _ _ _ _ (frame_also _ _ _ (base_also 2)) (some_also _ _ (reg_also 3)) e

  sum_fits_also : (m m' : Option MapDecl) → AlsoThe m m' → sum_fits m (known_of a 2) (known_of a 3) ≡ true → sum_fits m' (known_of s 2) (known_of s 3) ≡ true
  sum_fits_also None m' h e = absurd (cc)
  sum_fits_also (Some d) m' h e = ap (λ (x : Option MapDecl). sum_fits x (known_of s 2) (known_of s 3)) h ∙ and_also _ _ _ _ (frame_also _ _ _ (base_also 2)) (results_also 8 _ _ (base_also 3)) e

  printf_also : (m m' : Option (List Piece)) → AlsoThe m m' → printf_fits m (known_of a 2) ≡ true → printf_fits m' (known_of s 2) ≡ true
  printf_also None m' h e = absurd (cc)
  printf_also (Some d) m' h e = ap (λ (x : Option (List Piece)). printf_fits x (known_of s 2)) h ∙ frame_also _ _ _ (base_also 2) e

  helper_also : (h : Helper) → helper_fits t.maps t.formats (known_of a 1) (known_of a 2) (known_of a 3) h ≡ true → helper_fits t.maps t.formats (known_of s 1) (known_of s 2) (known_of s 3) h ≡ true
  helper_also Get = get_also _ _ (the_also (value_map t.maps) _ _ (base_also 1))
  helper_also Set = set_fits_also _ _ (the_also (value_map t.maps) _ _ (base_also 1))
  helper_also Delete = delete_also _ _ (the_also (value_map t.maps) _ _ (base_also 1))
  helper_also Aggregate = add_also _ _ (the_also (table_map t.maps) _ _ (base_also 1))
  helper_also Print = and_also _ _ _ _ (there_also _ _ (the_also (numbered t.maps) _ _ (base_also 1))) (limits_also _ _ _ _ (base_also 2) (base_also 3))
  helper_also Clear = there_also _ _ (the_also (numbered t.maps) _ _ (base_also 1))
  helper_also Zero = there_also _ _ (the_also (numbered t.maps) _ _ (base_also 1))
  helper_also Printf = printf_also _ _ (the_also (numbered t.formats) _ _ (base_also 1))
  helper_also Exit = λ e. e
  helper_also Cut = line_also _ _ (base_also 1)
  helper_also ReadStr = and_also _ _ _ _ (results_also 64 _ _ (base_also 1)) (and_also _ _ _ _ (some_also _ _ (reg_also 2)) (some_also _ _ (reg_also 3)))
  helper_also ReadAgg = sum_fits_also _ _ (the_also (summed_map t.maps) _ _ (base_also 1))

  fits_also : (n : ℕ) → call_fits t.maps t.formats n a ≡ true → call_fits t.maps t.formats n s ≡ true
  fits_also n = by (helper_at n)
    where
      by : (o : Option Helper) → known_helper_fits t.maps t.formats (known_of a 1) (known_of a 2) (known_of a 3) o ≡ true
          → known_helper_fits t.maps t.formats (known_of s 1) (known_of s 2) (known_of s 3) o ≡ true
      by None e = absurd (cc)
      by (Some h) e = helper_also h e

abbrev put : Seen → ℕ → Known → Seen
put s r k = record s { regs = slice_set s.regs r k }

record Pair (a s : Seen) : Type 0 where
  full : length s.regs ≡ 10
  covers : Covers a s

put_both : (a s : Seen) (r : ℕ) (k : Known) → r < 10 → Pair a s → Pair (put a r k) (put s r k)
put_both a s r k lt p = record { full = length-set s.regs r k ∙ p.full; covers = covers_set a s r k k lt p.full (known_refl k) p.covers }

after_also : (a s : Seen) → length s.regs ≡ 10 → Covers a s → Covers (after_helper a) (after_helper s)
after_also a s full c =
    let p0 = put_both a s 0 (Const 0) (omega arith) (record { full = full; covers = c }) in
    let p1 = put_both _ _ 1 Unset (omega arith) p0 in
    let p2 = put_both _ _ 2 Unset (omega arith) p1 in
    let p3 = put_both _ _ 3 Unset (omega arith) p2 in
    let p4 = put_both _ _ 4 Unset (omega arith) p3 in
    let p5 = put_both _ _ 5 Unset (omega arith) p4 in
    p5.covers

module _ (t : Sheet) (a s : Seen) (full : length s.regs ≡ 10) (c : Covers a s) where
  called_also : (n : ℕ) → AlsoSeen (called t.maps t.formats a n) (called t.maps t.formats s n)
  called_also n = by (call_fits t.maps t.formats n a) (call_fits t.maps t.formats n s) (fits_also t a s full c n)
    where
      by : (b d : Bool) → (b ≡ true → d ≡ true) → AlsoSeen (cond b (Some (after_helper a)) None) (cond d (Some (after_helper s)) None)
      by true true h = after_also a s full c
      by true false h = let e : false ≡ true = h refl in absurd (cc)
      by false d h = tt

  pub effect_also : (i : Insn) → AlsoSeen (effect t i a) (effect t i s)
  effect_also (Alu wide op dst src offset) =
      known_then (first_known op a dst) (first_known op s dst) _ _ (first_also t a s full c op dst)
      (λ x x' h. known_then (source_known a src) (source_known s src) _ _ (source_also t a s full c src)
      (λ y y' k. written_also t a s full c dst _ _ (alu_also wide op offset x x' y y' h k)))
  effect_also (Neg wide dst) = known_then (set_known (known_of a dst)) (set_known (known_of s dst)) _ _ (reg_also t a s full c dst) (λ x y h. written_also t a s full c dst Num Num tt)
  effect_also (End wide big dst bits) = known_then (set_known (known_of a dst)) (set_known (known_of s dst)) _ _ (reg_also t a s full c dst) (λ x y h. written_also t a s full c dst Num Num tt)
  effect_also (Jump wide op dst src offset) =
      known_then (set_known (known_of a dst)) (set_known (known_of s dst)) _ _ (reg_also t a s full c dst)
      (λ x x' h. known_then (source_known a src) (source_known s src) _ _ (source_also t a s full c src) (λ y y' k. c))
  effect_also (Ja offset) = c
  effect_also (JaLong imm) = c
  effect_also (Call number) = called_also number
  effect_also Exit = c
  effect_also (Load size sign dst src offset) = loaded_also t a s full c size dst src offset
  effect_also (StoreImm size dst offset imm) = stored_also t a s full c size dst offset
  effect_also (Store size dst src offset) = known_then (set_known (known_of a src)) (set_known (known_of s src)) _ _ (reg_also t a s full c src) (λ x y h. stored_also t a s full c size dst offset)
  effect_also (Wide dst number) = written_also t a s full c dst (Const number) (Const number) refl
  effect_also Half = tt

-- ---- ways

goes_also : (code : List Insn) (from to : ℕ) (a s : Seen) → Covers a s → AlsoWay (goes code from to a) (goes code from to s)
goes_also code from to a s c = by (may_go code from to)
  where
    by : (b : Bool) → AlsoWay (cond b (Some (record { place = to; seen = a })) None) (cond b (Some (record { place = to; seen = s })) None)
    by true = (refl, c)
    by false = tt

paid_also : (a s : Seen) (back : Bool) → Covers a s → AlsoSeen (paid a back) (paid s back)
paid_also a s false c = c
paid_also a s true c = by (nat_le 1 a.credit) refl (nat_le 1 s.credit) refl
  where
    by : (b : Bool) → nat_le 1 a.credit ≡ b → (d : Bool) → nat_le 1 s.credit ≡ d
        → AlsoSeen (cond b (Some (record a { credit = a.credit - 1 })) None) (cond d (Some (record s { credit = s.credit - 1 })) None)
    by true e true f = record { regs = c.regs; credit = omega (arith, c.credit) }
    by true e false f = let g = le-leb 1 s.credit (omega (arith, c.credit, leb-true 1 a.credit e)) in absurd (cc)
    by false e d f = tt

jumped_also : (code : List Insn) (p : ℕ) (offset : ℤ) (a s : Seen) → Covers a s → AlsoWay (jumped code p offset a) (jumped code p offset s)
jumped_also code p offset a s c = by (paid a (is_back offset)) (paid s (is_back offset)) (paid_also a s (is_back offset) c)
  where
    there : (o : Option ℕ) (x y : Seen) → Covers x y → AlsoWay (option_and_then (λ to. goes code p to x) o) (option_and_then (λ to. goes code p to y) o)
    there None x y h = tt
    there (Some to) x y h = goes_also code p to x y h

    by : (o q : Option Seen) → AlsoSeen o q → AlsoWay (option_and_then (λ after. option_and_then (λ to. goes code p to after) (target_of p offset)) o) (option_and_then (λ after. option_and_then (λ to. goes code p to after) (target_of p offset)) q)
    by None q h = tt
    by (Some x) None h = absurd h
    by (Some x) (Some y) h = there (target_of p offset) x y h

one_also : (o p : Option Way) → AlsoWay o p → AlsoWays (one_way o) (one_way p)
one_also None p h = tt
one_also (Some a) None h = absurd h
one_also (Some a) (Some b) h = h

two_also : (o p o' p' : Option Way) → AlsoWay o p → AlsoWay o' p' → AlsoWays (two_ways o o') (two_ways p p')
two_also None p o' p' h k = tt
two_also (Some a) None o' p' h k = absurd h
two_also (Some a) (Some b) None p' h k = tt
two_also (Some a) (Some b) (Some c) None h k = absurd k
two_also (Some a) (Some b) (Some c) (Some d) h k = (h, k)

onward_also : (code : List Insn) (p : ℕ) (i : Insn) (a s : Seen) → Covers a s → AlsoWays (onward code p i a) (onward code p i s)
onward_also code p Exit a s c = tt
onward_also code p (Jump wide op dst src offset) a s c = two_also _ _ _ _ (jumped_also code p offset a s c) (goes_also code p (p + 1) a s c)
onward_also code p (Ja offset) a s c = one_also _ _ (jumped_also code p offset a s c)
onward_also code p (JaLong offset) a s c = one_also _ _ (jumped_also code p offset a s c)
onward_also code p (Wide dst number) a s c = one_also _ _ (goes_also code p (p + 2) a s c)
onward_also code p i a s c = one_also _ _ (goes_also code p (p + 1) a s c)

taken_also : (a s : Seen) → Covers a s → Covers (taken a) (taken s)
taken_also a s c = record { regs = c.regs; credit = omega (arith, c.credit) }

gate_also : (t : Sheet) (code : List Insn) (p : ℕ) (offset : ℤ) (a s : Seen) → length s.regs ≡ 10 → Covers a s → AlsoWays (through_gate code p offset a) (through_gate code p offset s)
gate_also t code p (pos n) a s full c =
    seen_then (register_written a 1 Num) (register_written s 1 Num) _ _ (written_also t a s full c 1 Num Num tt)
    (λ x y h. two_also _ _ _ _ (goes_also code p (p + 4) (taken x) (taken y) (taken_also x y h)) (goes_also code p (p + 2 + n) x y h))
gate_also t code p (negsuc n) a s full c = tt

insn_also : (t : Sheet) (code : List Insn) (p : ℕ) (a s : Seen) (o : Option Insn) → length s.regs ≡ 10 → Covers a s → AlsoWays (from_insn t code p a o) (from_insn t code p s o)
insn_also t code p a s None full c = tt
insn_also t code p a s (Some i) full c = seen_then (effect t i a) (effect t i s) _ _ (effect_also t a s full c i) (λ x y h. onward_also code p i x y h)

from_also : (t : Sheet) (code : List Insn) (p : ℕ) (a s : Seen) (o : Option ℤ) → length s.regs ≡ 10 → Covers a s → AlsoWays (from_gate t code p a o) (from_gate t code p s o)
from_also t code p a s None full c = insn_also t code p a s (slice_get code p) full c
from_also t code p a s (Some offset) full c = gate_also t code p offset a s full c

leads_also : (t : Sheet) (code : List Insn) (p : ℕ) (a s : Seen) → length s.regs ≡ 10 → Covers a s → AlsoWays (leads t code p a) (leads t code p s)
leads_also t code p a s full c = from_also t code p a s (gate_at code p) full c

-- ---- closed assignments

pub has_trans : (o : Option Seen) (a b : Seen) → HasCover o a → Covers a b → HasCover o b
has_trans None a b h c = absurd h
has_trans (Some z) a b h c = covers_trans z a b h c

covered_down : (states : ℕ → Option Seen) (v w : Way) → IsCovered states v → SameWay v w → IsCovered states w
covered_down states v w h e = subst (λ (n : ℕ). HasCover (states n) w.seen) e.0 (has_trans (states v.place) v.seen w.seen h e.1)

ways_down : (states : ℕ → Option Seen) (v w : Ways) → AreCovered states v → SameWays v w → AreCovered states w
ways_down states Finish Finish h e = tt
ways_down states Finish (To b) h e = absurd e
ways_down states Finish (Either b d) h e = absurd e
ways_down states (To a) Finish h e = absurd e
ways_down states (To a) (To b) h e = covered_down states a b h e
ways_down states (To a) (Either b d) h e = absurd e
ways_down states (Either a c) Finish h e = absurd e
ways_down states (Either a c) (To b) h e = absurd e
ways_down states (Either a c) (Either b d) h e = (covered_down states a b h.0 e.0, covered_down states c d h.1 e.1)

meets_down : (states : ℕ → Option Seen) (o p : Option Ways) → Meets states o → AlsoWays o p → Meets states p
meets_down states None p h e = absurd h
meets_down states (Some v) None h e = absurd e
meets_down states (Some v) (Some w) h e = ways_down states v w h e

-- in a closed assignment, what is covered at a place also meets the place's condition, and what comes of it is covered
pub closed_meets : (t : Sheet) (code : List Insn) (states : ℕ → Option Seen) (p : ℕ) (a s : Seen) → IsClosed t code states → states p ≡ Some a → length s.regs ≡ 10 → Covers a s → Meets states (leads t code p s)
closed_meets t code states p a s k e full c = meets_down states _ _ (k.each p a e) (leads_also t code p a s full c)
