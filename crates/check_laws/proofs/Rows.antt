-- Each instruction goes as its ways say, where the state before it holds.
use Rattle.std.proofs.Common.{◌≡◌, ℕ, ℤ, pos, negsuc, ◌+◌, ◌-◌, ◌<◌, ◌≤◌, List, refl, sym, ap, ◌∙◌, subst, arith, Option, Some, None, Bool, true, false, inl, inr, length-set}
use Rattle.std.specs.Prelude.{◌⊎◌, slice_set, cond, nat_le}
use Rattle.std.specs.Option.{option_flatten}
use Rattle.std.specs.Ordering.{int_eq}
use Rattle.std.specs.Int.{w64}
use Rattle.std.proofs.lemmas.Bool.{leb-true, cases_eq}
use Rattle.std.proofs.lemmas.Bool.Decides.{Decides-int_eq}
use Rattle.bpf_insn.specs.declared.insn.AluOp.{AluOp}
use Rattle.bpf_insn.specs.declared.insn.AluOp.TheVariants.{Add, Sub, Mov}
use Rattle.bpf_insn.specs.declared.insn.Insn.{Insn}
use Rattle.bpf_insn.specs.declared.trap.Trap.TheVariants.{BadJump}
use Rattle.bpf_insn.specs.Words.{alu_value, moved}
use Rattle.bpf_insn.specs.Machine.{MachineState, Next, GoesOn, Traps, enters, target_of, jump_by, jumps_to, reg_of}
use Rattle.bpf_check.specs.declared.known.Known.{Known}
use Rattle.bpf_check.specs.declared.known.Known.TheVariants.{Unset, Num, Const}
use Rattle.bpf_check.specs.declared.known.Seen.{Seen}
use Rattle.bpf_check.specs.Sheet.{Sheet}
use Rattle.bpf_check.specs.declared.ways.Way.{Way}
use Rattle.bpf_check.specs.declared.ways.Ways.{Ways}
use Rattle.bpf_check.specs.States.{known_in, CoversKnown, paid}
use Rattle.bpf_check.specs.Reading.{set_known, number_in}
use Rattle.bpf_check.specs.Effects.{sum_known, difference_known, wide_known, alu_known}
use Rattle.bpf_check.specs.Ways.{goes, is_back, jumped, one_way}
use Rattle.check_laws.proofs.Holding.{HoldsKnown, Holds, Counts}
use Rattle.bpf_check.proofs.Registers.{get-set-same, get-set-other, known_other, covers_written}
use Rattle.bpf_check.proofs.Going.{bind_some, some_is, Arrives, arrives, one_is}
use Rattle.check_laws.proofs.Sound.{known_less, Pays, GoesAs, LeadsAs}

abbrev pub put : Seen → ℕ → Known → Seen
put s r k = record s { regs = slice_set s.regs r k }

-- ---- registers

pub set_holds : (regs : List (Option ℕ)) (a : Seen) (r : ℕ) (k : Known) (o : Option ℕ) → r < 10 → HoldsKnown k o → Holds regs a → Holds (slice_set regs r o) (put a r k)
set_holds regs a r k o lt h holds = record { each = at; long = length-set regs r o ∙ holds.long }
  where
    at : (n : ℕ) → HoldsKnown (known_in (slice_set a.regs r k) n) (reg_of (slice_set regs r o) n)
    at n = by (cases_eq n r)
      where
        here : HoldsKnown (known_in (slice_set a.regs r k) r) (reg_of (slice_set regs r o) r)
        here = subst (λ (x : Option ℕ). HoldsKnown (known_in (slice_set a.regs r k) r) x) (sym (ap option_flatten (get-set-same regs r o (omega (arith, holds.long, lt)))))
            (known_less _ k o (covers_written a.regs r k k lt (self k)) h)
          where
            self : (k : Known) → CoversKnown k k
            self Unset = tt
            self Num = tt
            self (Const m) = refl

        by : (n ≡ r) ⊎ (n ≡ r → ⊥) → HoldsKnown (known_in (slice_set a.regs r k) n) (reg_of (slice_set regs r o) n)
        by (inl e) = subst (λ (m : ℕ). HoldsKnown (known_in (slice_set a.regs r k) m) (reg_of (slice_set regs r o) m)) (sym e) here
        by (inr ne) = subst (λ (x : Known). HoldsKnown x (reg_of (slice_set regs r o) n)) (sym (known_other a.regs r n k ne))
            (subst (λ (x : Option ℕ). HoldsKnown (known_in a.regs n) x) (sym (ap option_flatten (get-set-other regs r n o ne))) (holds.each n))

-- a number is as it is known
abbrev pub Means : Known → ℕ → Type 0
Means Unset v = Unit {0}
Means Num v = Unit {0}
Means (Const m) v = v ≡ m

pub means_holds : (k : Known) (v : ℕ) → Means k v → HoldsKnown k (Some v)
means_holds Unset v h = tt
means_holds Num v h = (v, refl)
means_holds (Const m) v h = ap (λ (n : ℕ). Some n) h

pub record Read (k : Known) (o : Option ℕ) : Type 0 where
  pub value : ℕ
  pub is : o ≡ Some value
  pub means : Means k value

pub read_set : (k x : Known) (o : Option ℕ) → set_known k ≡ Some x → HoldsKnown k o → Read x o
read_set Unset x o e h = absurd (cc)
read_set Num x o e h = record { value = h.0; is = h.1; means = subst (λ (y : Known). Means y h.0) (some_is Num x e) tt }
read_set (Const m) x o e h = record { value = m; is = h; means = subst (λ (y : Known). Means y m) (some_is (Const m) x e) refl }

pub read_number : (k : Known) (m : ℕ) (o : Option ℕ) → number_in k ≡ Some m → HoldsKnown k o → o ≡ Some m
read_number Unset m o e h = absurd (cc)
read_number Num m o e h = absurd (cc)
read_number (Const n) m o e h = h ∙ e

-- ---- arithmetic

moved_is : (offset : ℤ) (v : ℕ) → offset ≡ pos 0 → moved w64 offset v ≡ v
moved_is offset v e = ap (λ (o : ℤ). moved w64 o v) e

module _ (offset : ℤ) (x y : Known) (vx vy : ℕ) (hx : Means x vx) (hy : Means y vy) where
  move_means : (b : Bool) → int_eq offset (pos 0) ≡ b → HoldsKnown (cond b y Num) (Some (alu_value true Mov offset vx vy))
  move_means true e = subst (λ (n : ℕ). HoldsKnown y (Some n)) (sym (moved_is offset vy ((Decides-int_eq offset (pos 0)).0 e))) (means_holds y vy hy)
  move_means false e = (alu_value true Mov offset vx vy, refl)

sum_means : (offset : ℤ) (x y : Known) (vx vy : ℕ) → Means x vx → Means y vy → HoldsKnown (sum_known x y) (Some (alu_value true Add offset vx vy))
sum_means offset Unset y vx vy hx hy = (alu_value true Add offset vx vy, refl)
sum_means offset Num y vx vy hx hy = (alu_value true Add offset vx vy, refl)
sum_means offset (Const a) Unset vx vy hx hy = (alu_value true Add offset vx vy, refl)
sum_means offset (Const a) Num vx vy hx hy = (alu_value true Add offset vx vy, refl)
sum_means offset (Const a) (Const b) vx vy hx hy = ap (λ (n : ℕ). Some (alu_value true Add offset n vy)) hx ∙ ap (λ (n : ℕ). Some (alu_value true Add offset a n)) hy

difference_means : (offset : ℤ) (x y : Known) (vx vy : ℕ) → Means x vx → Means y vy → HoldsKnown (difference_known x y) (Some (alu_value true Sub offset vx vy))
difference_means offset Unset y vx vy hx hy = (alu_value true Sub offset vx vy, refl)
difference_means offset Num y vx vy hx hy = (alu_value true Sub offset vx vy, refl)
difference_means offset (Const a) Unset vx vy hx hy = (alu_value true Sub offset vx vy, refl)
difference_means offset (Const a) Num vx vy hx hy = (alu_value true Sub offset vx vy, refl)
difference_means offset (Const a) (Const b) vx vy hx hy = ap (λ (n : ℕ). Some (alu_value true Sub offset n vy)) hx ∙ ap (λ (n : ℕ). Some (alu_value true Sub offset a n)) hy

wide_means : (op : AluOp) (offset : ℤ) (x y : Known) (vx vy : ℕ) → Means x vx → Means y vy → HoldsKnown (wide_known op offset x y) (Some (alu_value true op offset vx vy))
wide_means Mov offset x y vx vy hx hy = move_means offset x y vx vy hx hy (int_eq offset (pos 0)) refl
wide_means Add offset x y vx vy hx hy = sum_means offset x y vx vy hx hy
wide_means Sub offset x y vx vy hx hy = difference_means offset x y vx vy hx hy
wide_means op offset x y vx vy hx hy = (alu_value true op offset vx vy, refl)

pub alu_means : (wide : Bool) (op : AluOp) (offset : ℤ) (x y : Known) (vx vy : ℕ) → Means x vx → Means y vy → HoldsKnown (alu_known wide op offset x y) (Some (alu_value wide op offset vx vy))
alu_means false op offset x y vx vy hx hy = (alu_value false op offset vx vy, refl)
alu_means true op offset x y vx vy hx hy = wide_means op offset x y vx vy hx hy

-- ---- ways

module _ (t : Sheet) (code : List Insn) where
  -- the machine goes to a place with a state that holds
  pub comes : (to : MachineState) (q turns : ℕ) (s : Seen) (w : Way) → Arrives code q s w → Holds to.regs s → Counts t to.spaces turns → GoesAs t w turns (enters code to q)
  comes to q turns s w a h c = record {
    to = record to { place = q };
    is = ap (λ (b : Bool). cond b (GoesOn (record to { place = q })) (Traps (BadJump to.place))) a.entry;
    place = ap (λ (v : Way). v.place) a.is;
    holds = subst (λ (v : Way). Holds to.regs v.seen) a.is h;
    counts = c;
  }

  pub pays_on : (p q : ℕ) (a s : Seen) (w : Way) → Arrives code q s w → s.credit ≡ a.credit → p < q → Pays p a w
  unfolding Pays
  pays_on p q a s w r e lt = subst (λ (v : Way). ((p < v.place) × (v.seen.credit ≤ a.credit)) ⊎ (v.seen.credit + 1 ≤ a.credit)) r.is (inl (lt, omega (arith, e)))

  pub pays_back : (p q : ℕ) (a s : Seen) (w : Way) → Arrives code q s w → s.credit + 1 ≤ a.credit → Pays p a w
  unfolding Pays
  pays_back p q a s w r e = subst (λ (v : Way). ((p < v.place) × (v.seen.credit ≤ a.credit)) ⊎ (v.seen.credit + 1 ≤ a.credit)) r.is (inr e)

  -- one way on
  pub one_on : (st to : MachineState) (q turns : ℕ) (a s : Seen) (ways : Ways) (next : Next) → one_way (goes code st.place q s) ≡ Some ways → next ≡ enters code to q → Holds to.regs s → Counts t to.spaces turns
      → s.credit ≡ a.credit → st.place < q → LeadsAs t st.place a turns next ways
  one_on st to q turns a s ways next e is h c same lt =
      let o = one_is (goes code st.place q s) ways e in
      let r = arrives code st.place q s o.0 o.1 in
      subst (λ (ws : Ways). LeadsAs t st.place a turns next ws) o.2
      (subst (λ (n : Next). GoesAs t o.0 turns n) (sym is) (comes to q turns s o.0 r h c), pays_on st.place q a s o.0 r same lt)

  -- a jump
  pub record Jumps (st : MachineState) (a s : Seen) (turns : ℕ) (offset : ℤ) (w : Way) : Type 0 where
    pub goes_as : GoesAs t w turns (jump_by code st offset)
    pub pays : Pays st.place a w

  pub jump_goes : (st : MachineState) (a : Seen) (turns : ℕ) (offset : ℤ) (w : Way) → jumped code st.place offset a ≡ Some w → Holds st.regs a → Counts t st.spaces turns → Jumps st a a turns offset w
  jump_goes st a turns offset w e h c =
      let p = bind_some (paid a (is_back offset)) _ w e in
      let q = bind_some (target_of st.place offset) _ w p.2 in
      let r = arrives code st.place q.0 p.0 w q.2 in
      by offset p.0 q.0 p.1 q.1 r
    where
      is_regs : (b : Bool) (s : Seen) → paid a b ≡ Some s → Holds st.regs s
      is_regs false s f = subst (λ (x : Seen). Holds st.regs x) (some_is a s f) h
      is_regs true s f = one (nat_le 1 a.credit) f
        where
          one : (d : Bool) → cond d (Some (record a { credit = a.credit - 1 })) None ≡ Some s → Holds st.regs s
          one true g = subst (λ (x : Seen). Holds st.regs x) (some_is (record a { credit = a.credit - 1 }) s g) (record { each = h.each; long = h.long })
          one false g = absurd (cc)

      less : (s : Seen) → paid a true ≡ Some s → s.credit + 1 ≤ a.credit
      less s f = one (nat_le 1 a.credit) refl f
        where
          one : (d : Bool) → nat_le 1 a.credit ≡ d → cond d (Some (record a { credit = a.credit - 1 })) None ≡ Some s → s.credit + 1 ≤ a.credit
          one true l g = let le = leb-true 1 a.credit l in subst (λ (x : Seen). x.credit + 1 ≤ a.credit) (some_is (record a { credit = a.credit - 1 }) s g) (omega (arith, le))
          one false l g = absurd (cc)

      there : (offset : ℤ) (s : Seen) (to : ℕ) → target_of st.place offset ≡ Some to → Holds st.regs s → Arrives code to s w → GoesAs t w turns (jump_by code st offset)
      there offset s to f g r = subst (λ (o : Option ℕ). GoesAs t w turns (jumps_to code st o)) (sym f) (comes st to turns s w r g c)

      by : (offset : ℤ) (s : Seen) (to : ℕ) → paid a (is_back offset) ≡ Some s → target_of st.place offset ≡ Some to → Arrives code to s w → Jumps st a a turns offset w
      by (pos n) s to f g r = record { goes_as = there (pos n) s to g (is_regs false s f) r; pays = pays_on st.place to a s w r (ap (λ (x : Seen). x.credit) (sym (some_is a s f))) (let m = some_is (st.place + 1 + n) to g in omega (arith, m)) }
      by (negsuc n) s to f g r = record { goes_as = there (negsuc n) s to g (is_regs true s f) r; pays = pays_back st.place to a s w r (less s f) }
