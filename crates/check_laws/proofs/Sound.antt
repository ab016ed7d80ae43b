-- Closed code is safe: one step leads from a state that holds to one that holds, and a number falls at each.
use Rattle.std.proofs.Common.{◌≡◌, ℕ, ℤ, zero, suc, ◌+◌, ◌-◌, ◌*◌, ◌<◌, ◌≤◌, List, [], ◌∷◌, length, refl, sym, ap, ◌∙◌, subst, arith, Option, Some, None, inl, inr}
use Rattle.std.specs.Prelude.{◌⊎◌, slice_get, Result}
use Rattle.std.proofs.Math.Nat.{mul-le-mul_right, suc-mul}
use Rattle.bpf_check.proofs.Registers.{covers_at}
use Rattle.bt_core.specs.declared.step.Reply.{Reply}
use Rattle.bt_core.specs.Interaction.{Call as Asked, Interaction, Ended, Asks, and_then}
use Rattle.bpf_insn.specs.declared.insn.Insn.{Insn}
use Rattle.bpf_insn.specs.declared.trap.Trap.{Trap}
use Rattle.bpf_insn.specs.Machine.{Helpers, MachineState, Next, GoesOn, Ends, machine_step}
use Rattle.bpf_interp.specs.declared.machine.Ended.{Ended as EndedRun}
use Rattle.bpf_interp.specs.Running.{after_step, machine_run}
use Rattle.bpf_check.specs.declared.known.Known.{Known}
use Rattle.bpf_check.specs.declared.known.Known.TheVariants.{Unset, Num, Const}
use Rattle.bpf_check.specs.declared.known.Seen.{Seen}
use Rattle.bpf_check.specs.Sheet.{Sheet}
use Rattle.bpf_check.specs.declared.ways.Way.{Way}
use Rattle.bpf_check.specs.declared.ways.Ways.{Ways}
use Rattle.bpf_check.specs.declared.ways.Ways.TheVariants.{Finish, To, Either}
use Rattle.bpf_check.specs.States.{known_in, CoversKnown, Covers}
use Rattle.bpf_check.specs.Ways.{gate_at, leads}
use Rattle.bpf_check.specs.Closed.{HasCover, IsCovered, AreCovered, Meets, IsClosed}
use Rattle.bt_core.specs.Same.{Yields}
use Rattle.check_laws.specs.Safe.{EndsWell}
use Rattle.check_laws.proofs.Holding.{HoldsKnown, Holds, Counts}

-- ---- what is covered holds less

pub known_less : (x y : Known) (o : Option ℕ) → CoversKnown x y → HoldsKnown y o → HoldsKnown x o
known_less Unset y o c h = tt
known_less Num Unset o c h = absurd c
known_less Num Num o c h = h
known_less Num (Const m) o c h = (m, h)
known_less (Const m) y o c h = subst (λ (k : Known). HoldsKnown k o) c h

-- a register above 10 is not there
pub holds_less : (regs : List (Option ℕ)) (a b : Seen) → ((r : ℕ) → CoversKnown (known_in a.regs r) (known_in b.regs r)) → Holds regs b → Holds regs a
holds_less regs a b c h = record { each = λ r. known_less _ _ _ (c r) (h.each r); long = h.long }

pub Yields-then : {A B : Type 0} (K : Asked → Reply → Type 0) (P : A → Type 0) (Q : B → Type 0) (t : Interaction A) (k : A → Interaction B) → Yields K P t → ((a : A) → P a → Yields K Q (k a)) → Yields K Q (and_then t k)
Yields-then K P Q (Ended a) k h f = f a h
Yields-then K P Q (Asks c g) k h f = λ r own. Yields-then K P Q (g r) k (h r own) f

-- ---- ways

-- a way goes on, or it takes one credit
unfoldable pub Pays : ℕ → Seen → Way → Type 0
Pays place s w = ((place < w.place) × (w.seen.credit ≤ s.credit)) ⊎ (w.seen.credit + 1 ≤ s.credit)

-- where the machine goes on: at the way's place, with registers of which its state holds, and with so many turns
pub record GoesAs (t : Sheet) (w : Way) (turns : ℕ) (next : Next) : Type 0 where
  pub to : MachineState
  pub is : next ≡ GoesOn to
  pub place : to.place ≡ w.place
  pub holds : Holds to.regs w.seen
  pub counts : Counts t to.spaces turns

-- one of the ways is gone
abbrev pub LeadsAs : Sheet → ℕ → Seen → ℕ → Next → Ways → Type 0
LeadsAs t p s turns next Finish = next ≡ Ends
LeadsAs t p s turns next (To a) = GoesAs t a turns next × Pays p s a
LeadsAs t p s turns next (Either a b) = (GoesAs t a turns next × Pays p s a) ⊎ (GoesAs t b turns next × Pays p s b)

-- ---- the number that falls

unfoldable pub rank : ℕ → ℕ → ℕ → ℕ → ℕ
rank slots turns credit place = (4096 - turns + credit) * slots + (slots - place)

falls_on : (slots turns c d p q : ℕ) → c ≤ d → p < q → p < slots → rank slots turns c q + 1 ≤ rank slots turns d p
unfolding rank
falls_on slots turns c d p q le lt in' =
    let mono : (4096 - turns + c) * slots ≤ (4096 - turns + d) * slots = mul-le-mul_right slots (omega (arith, le)) in
    omega (arith, mono, lt, in')

falls_back : (slots turns c d p q : ℕ) → c + 1 ≤ d → p < slots → rank slots turns c q + 1 ≤ rank slots turns d p
unfolding rank
falls_back slots turns c d p q le lt =
    let mono : suc (4096 - turns + c) * slots ≤ (4096 - turns + d) * slots = mul-le-mul_right slots (omega (arith, le)) in
    let split : suc (4096 - turns + c) * slots ≡ (4096 - turns + c) * slots + slots = suc-mul (4096 - turns + c) slots in
    omega (arith, mono, split, lt)

-- a gate that is passed, with four instructions
falls_gate : (slots turns c d p : ℕ) → c ≤ d + 1 → turns < 4096 → p + 4 ≤ slots → rank slots (turns + 1) c (p + 4) + 4 ≤ rank slots turns d p
unfolding rank
falls_gate slots turns c d p le few in' =
    let mono : (4096 - (turns + 1) + c) * slots ≤ (4096 - turns + d) * slots = mul-le-mul_right slots (omega (arith, le, few)) in
    omega (arith, mono, in')

-- a gate whose jump is taken, with two
falls_cut : (slots turns c d p q : ℕ) → c ≤ d → p + 2 ≤ q → p + 4 ≤ slots → rank slots turns c q + 2 ≤ rank slots turns d p
unfolding rank
falls_cut slots turns c d p q le lt in' =
    let mono : (4096 - turns + c) * slots ≤ (4096 - turns + d) * slots = mul-le-mul_right slots (omega (arith, le)) in
    omega (arith, mono, lt, in')

rank_some : (slots turns d p : ℕ) → p < slots → 1 ≤ rank slots turns d p
unfolding rank
rank_some slots turns d p lt = omega (arith, lt)

rank_four : (slots turns d p : ℕ) → p + 4 ≤ slots → 4 ≤ rank slots turns d p
unfolding rank
rank_four slots turns d p lt = omega (arith, lt)

-- at entry
pub rank_entry : (slots : ℕ) → rank slots 0 0 0 ≡ 4097 * slots
unfolding rank
rank_entry slots = omega arith

rank_less : (slots turns c d p : ℕ) → c ≤ d → rank slots turns c p ≤ rank slots turns d p
unfolding rank
rank_less slots turns c d p le =
    let mono : (4096 - turns + c) * slots ≤ (4096 - turns + d) * slots = mul-le-mul_right slots (omega (arith, le)) in
    omega (arith, mono)

-- ---- runs

not_there : (code : List Insn) (p : ℕ) → slice_get code p ≡ None → length code ≤ p
not_there [] p e = omega arith
not_there (i ∷ is) zero e = absurd (cc)
not_there (i ∷ is) (suc p) e = let h = not_there is p e in omega (arith, h)

-- some state is assigned, and it covers
found : (o : Option Seen) (s : Seen) → HasCover o s → (a : Seen) × (o ≡ Some a) × Covers a s
found None s h = absurd h
found (Some a) s h = (a, refl, h)

met : (states : ℕ → Option Seen) (o : Option Ways) → Meets states o → (ways : Ways) × (o ≡ Some ways) × AreCovered states ways
met states None h = absurd h
met states (Some w) h = (w, refl, h)

module _ (K : Asked → Reply → Type 0) (t : Sheet) (helper : Helpers) (code : List Insn) where
  -- the machine is at a slot with a state that holds
  pub record At (states : ℕ → Option Seen) (st : MachineState) (turns : ℕ) (a : Seen) : Type 0 where
    pub assigned : states st.place ≡ Some a
    pub holds : Holds st.regs a
    pub counts : Counts t st.spaces turns

  -- a single instruction goes as its ways say
  unfoldable pub Steps : Type 0
  Steps = (st : MachineState) (a : Seen) (turns : ℕ) (i : Insn) (ways : Ways) → slice_get code st.place ≡ Some i → gate_at code st.place ≡ None
      → leads t code st.place a ≡ Some ways → Holds st.regs a → Counts t st.spaces turns
      → Yields K (λ next. LeadsAs t st.place a turns next ways) (machine_step helper code (Some i) st)

  -- a gate is passed in four instructions, or left in two
  pub record Passes (st : MachineState) (a : Seen) (turns : ℕ) (w : Way) : Type 0 where
    pub few : turns < 4096
    pub to : MachineState
    pub runs : (f count : ℕ) → machine_run helper code (suc (suc (suc (suc f)))) count st ≡ machine_run helper code f (count + 4) to
    pub place : to.place ≡ w.place
    pub behind : w.place ≡ st.place + 4
    pub credit : w.seen.credit ≤ a.credit + 1
    pub holds : Holds to.regs w.seen
    pub counts : Counts t to.spaces (turns + 1)

  pub record Leaves (st : MachineState) (a : Seen) (turns : ℕ) (w : Way) : Type 0 where
    pub to : MachineState
    pub runs : (f count : ℕ) → machine_run helper code (suc (suc f)) count st ≡ machine_run helper code f (count + 2) to
    pub place : to.place ≡ w.place
    pub behind : st.place + 2 ≤ w.place
    pub credit : w.seen.credit ≤ a.credit
    pub holds : Holds to.regs w.seen
    pub counts : Counts t to.spaces turns

  abbrev pub GateWays : MachineState → Seen → ℕ → Ways → Type 0
  GateWays st a turns (Either v w) = (st.place + 4 ≤ length code) × (Passes st a turns v ⊎ Leaves st a turns w)
  GateWays st a turns ways = ⊥

  unfoldable pub Gates : Type 0
  Gates = (st : MachineState) (a : Seen) (turns : ℕ) (offset : ℤ) (ways : Ways) → gate_at code st.place ≡ Some offset
      → leads t code st.place a ≡ Some ways → Holds st.regs a → Counts t st.spaces turns → GateWays st a turns ways

  module _ (steps : Steps) (gates : Gates) (states : ℕ → Option Seen) (closed : IsClosed t code states) (short : (p : ℕ) (a : Seen) → states p ≡ Some a → p < length code) where
    -- with m instructions or fewer, as many as the number says or more, the run ends well
    unfoldable pub Safe : ℕ → Type 0
    Safe m = (f count turns : ℕ) (st : MachineState) (a : Seen) → f ≤ m → At states st turns a → rank (length code) turns a.credit st.place ≤ f → Yields K EndsWell (machine_run helper code f count st)

    -- at a way's end there is a state that holds
    pub arrive : (w : Way) (to : MachineState) (turns f m count : ℕ) → IsCovered states w → to.place ≡ w.place → Holds to.regs w.seen → Counts t to.spaces turns → f ≤ m
        → rank (length code) turns w.seen.credit w.place ≤ f → Safe m → Yields K EndsWell (machine_run helper code f count to)
    unfolding Safe
    arrive w to turns f m count covered e h c le r go =
        let g = found (states w.place) w.seen covered in
        go f count turns to g.0 le (record { assigned = ap states e ∙ g.1; holds = holds_less to.regs g.0 w.seen (λ r. covers_at g.0 w.seen r g.2) h; counts = c })
        (omega (arith, rank_less (length code) turns g.0.credit w.seen.credit w.place g.2.credit, ap (rank (length code) turns g.0.credit) e, r))

    way_safe : (st : MachineState) (a : Seen) (turns f m count : ℕ) (w : Way) (next : Next) → st.place < length code → IsCovered states w → GoesAs t w turns next → Pays st.place a w
        → f ≤ m → rank (length code) turns a.credit st.place ≤ suc f → Safe m
        → Yields K EndsWell (after_step (machine_run helper code f (count + 1)) count next)
    unfolding Pays
    way_safe st a turns f m count w next lt covered g pays le r go =
        subst (λ (n : Next). Yields K EndsWell (after_step (machine_run helper code f (count + 1)) count n)) (sym g.is)
        (arrive w g.to turns f m (count + 1) covered g.place g.holds g.counts le (by pays) go)
      where
        by : ((st.place < w.place) × (w.seen.credit ≤ a.credit)) ⊎ (w.seen.credit + 1 ≤ a.credit) → rank (length code) turns w.seen.credit w.place ≤ f
        by (inl on) = omega (arith, r, falls_on (length code) turns w.seen.credit a.credit st.place w.place on.1 on.0 lt)
        by (inr back) = omega (arith, r, falls_back (length code) turns w.seen.credit a.credit st.place w.place back lt)

    next_safe : (st : MachineState) (a : Seen) (turns f m count : ℕ) (ways : Ways) (next : Next) → st.place < length code → AreCovered states ways → LeadsAs t st.place a turns next ways
        → f ≤ m → rank (length code) turns a.credit st.place ≤ suc f → Safe m
        → Yields K EndsWell (after_step (machine_run helper code f (count + 1)) count next)
    next_safe st a turns f m count Finish next lt covered g le r go = subst (λ (n : Next). Yields K EndsWell (after_step (machine_run helper code f (count + 1)) count n)) (sym g) tt
    next_safe st a turns f m count (To w) next lt covered g le r go = way_safe st a turns f m count w next lt covered g.0 g.1 le r go
    next_safe st a turns f m count (Either v w) next lt covered (inl g) le r go = way_safe st a turns f m count v next lt covered.0 g.0 g.1 le r go
    next_safe st a turns f m count (Either v w) next lt covered (inr g) le r go = way_safe st a turns f m count w next lt covered.1 g.0 g.1 le r go

    gate_safe : (st : MachineState) (a : Seen) (turns f m count : ℕ) (ways : Ways) → AreCovered states ways → GateWays st a turns ways
        → f ≤ suc m → rank (length code) turns a.credit st.place ≤ f → Safe m → Yields K EndsWell (machine_run helper code f count st)
    gate_safe st a turns f m count Finish covered g le r go = absurd g
    gate_safe st a turns f m count (To w) covered g le r go = absurd g
    gate_safe st a turns f m count (Either v w) covered (in', inl g) le r go = by f refl
      where
        by : (n : ℕ) → n ≡ f → Yields K EndsWell (machine_run helper code n count st)
        by (suc (suc (suc (suc n)))) e =
            subst (λ (x : Interaction (Result EndedRun Trap)). Yields K EndsWell x) (sym (g.runs n count))
            (arrive v g.to (turns + 1) n m (count + 4) covered.0 g.place g.holds g.counts (omega (arith, le, e))
            (omega (arith, e, r, ap (rank (length code) (turns + 1) v.seen.credit) g.behind, falls_gate (length code) turns v.seen.credit a.credit st.place g.credit g.few in')) go)
        by n e = absurd (omega (arith, e, r, rank_four (length code) turns a.credit st.place in'))
    gate_safe st a turns f m count (Either v w) covered (in', inr g) le r go = by f refl
      where
        by : (n : ℕ) → n ≡ f → Yields K EndsWell (machine_run helper code n count st)
        by (suc (suc n)) e =
            subst (λ (x : Interaction (Result EndedRun Trap)). Yields K EndsWell x) (sym (g.runs n count))
            (arrive w g.to turns n m (count + 2) covered.1 g.place g.holds g.counts (omega (arith, le, e))
            (omega (arith, e, r, falls_cut (length code) turns w.seen.credit a.credit st.place w.place g.credit g.behind in')) go)
        by n e = absurd (omega (arith, e, r, rank_four (length code) turns a.credit st.place in'))

    insn_safe : (st : MachineState) (a : Seen) (turns f m count : ℕ) (ways : Ways) (o : Option Insn) → slice_get code st.place ≡ o → gate_at code st.place ≡ None → leads t code st.place a ≡ Some ways
        → st.place < length code → Holds st.regs a → Counts t st.spaces turns → AreCovered states ways
        → f ≤ m → rank (length code) turns a.credit st.place ≤ suc f → Safe m → Yields K EndsWell (machine_run helper code (suc f) count st)
    unfolding Steps
    insn_safe st a turns f m count ways None at none led lt h c covered le r go = absurd (omega (arith, not_there code st.place at, lt))
    insn_safe st a turns f m count ways (Some i) at none led lt h c covered le r go =
        subst (λ (o : Option Insn). Yields K EndsWell (and_then (machine_step helper code o st) (after_step (machine_run helper code f (count + 1)) count))) (sym at)
        (Yields-then K (λ next. LeadsAs t st.place a turns next ways) EndsWell _ _ (steps st a turns i ways at none led h c)
        (λ next g. next_safe st a turns f m count ways next lt covered g le r go))

    pub safe : (m : ℕ) → Safe m
    unfolding Safe Gates
    safe zero f count turns st a le at r = absurd (omega (arith, le, r, rank_some (length code) turns a.credit st.place (short st.place a at.assigned)))
    safe (suc m) f count turns st a le at r =
        let w = met states (leads t code st.place a) (closed.each st.place a at.assigned) in
        by w.0 w.1 w.2 (safe m) (gate_at code st.place) refl f refl
      where
        lt : st.place < length code
        lt = short st.place a at.assigned

        by : (ways : Ways) → leads t code st.place a ≡ Some ways → AreCovered states ways → Safe m → (o : Option ℤ) → gate_at code st.place ≡ o → (n : ℕ) → n ≡ f → Yields K EndsWell (machine_run helper code n count st)
        by ways led covered go (Some offset) e n same = gate_safe st a turns n m count ways covered (gates st a turns offset ways e led at.holds at.counts) (omega (arith, le, same)) (omega (arith, r, same)) go
        by ways led covered go None e zero same = absurd (omega (arith, r, same, rank_some (length code) turns a.credit st.place lt))
        by ways led covered go None e (suc n) same = insn_safe st a turns n m count ways (slice_get code st.place) refl e led lt at.holds at.counts covered (omega (arith, le, same)) (omega (arith, r, same)) go
