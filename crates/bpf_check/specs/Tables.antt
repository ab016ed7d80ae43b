-- Tables of what is known at the places of code, for the proofs. No public clause cites them.
use Rattle.std.specs.Prelude.{◌≡◌, ◌⊎◌, ℕ, zero, suc, ◌+◌, ◌-◌, ◌*◌, ◌<◌, ◌≤◌, Bool, true, false, List, length, Option, Some, None, slice_index_or, slice_set, sum_by}
use Rattle.bt_core.specs.declared.limits.TheConstants.{CODE_SLOTS}
use Rattle.bpf_insn.specs.declared.insn.Insn.{Insn}
use Rattle.bpf_check.specs.declared.known.Known.{Known}
use Rattle.bpf_check.specs.declared.known.Known.TheVariants.{Unset, Num, Const}
use Rattle.bpf_check.specs.declared.known.Seen.{Seen}
use Rattle.bpf_check.specs.Sheet.{Sheet}
use Rattle.bpf_check.specs.declared.ways.Way.{Way}
use Rattle.bpf_check.specs.declared.ways.Ways.{Ways}
use Rattle.bpf_check.specs.declared.ways.Ways.TheVariants.{Finish, To, Either}
use Rattle.bpf_check.specs.States.{known_in, Covers, IsJoin, entry_seen}
use Rattle.bpf_check.specs.Ways.{leads}
use Rattle.bpf_check.specs.Closed.{HasCover, AreCovered, Meets, IsClosed}

-- what a table has at a place
abbrev pub at : List (Option Seen) → ℕ → Option Seen
at table p = slice_index_or table p None

-- what is known on a way is added to what there was
abbrev pub Spreads : Option Seen → List (Option Seen) → List (Option Seen) → Way → Bool → Type 0
Spreads None old new w changed = (changed ≡ true) × (new ≡ slice_set old w.place (Some w.seen)) × (length w.seen.regs ≡ 10)
Spreads (Some a) old new w false = (new ≡ old) × Covers a w.seen
Spreads (Some a) old new w true = (Covers a w.seen → ⊥) × (b : Seen) × IsJoin a w.seen b × (new ≡ slice_set old w.place (Some b)) × (length b.regs ≡ 10)

-- the ways lead to places of the table
abbrev pub IsInside : ℕ → Way → Type 0
IsInside n w = w.place < n

abbrev pub AreInside : ℕ → Ways → Type 0
AreInside n Finish = Unit {0}
AreInside n (To a) = IsInside n a
AreInside n (Either a b) = IsInside n a × IsInside n b

-- it holds of every state in the table
abbrev pub AllStates : (ℕ → Seen → Type 0) → List (Option Seen) → Type 0
AllStates holds table = (p : ℕ) (a : Seen) → at table p ≡ Some a → holds p a

-- ---- what falls with each change: something less is known of a register, or a place is reached

abbrev pub known_weight : Known → ℕ
known_weight Unset = 0
known_weight Num = 1
known_weight (Const n) = 2

-- of the first registers
abbrev pub regs_weight : ℕ → List Known → ℕ
regs_weight zero regs = 0
regs_weight (suc n) regs = known_weight (known_in regs n) + regs_weight n regs

abbrev pub seen_weight : Seen → ℕ
seen_weight s = regs_weight 10 s.regs + s.credit

-- a place that was not reached weighs more than any state
abbrev pub weight_at : Option Seen → ℕ
weight_at None = 4117
weight_at (Some s) = seen_weight s

abbrev pub weight : List (Option Seen) → ℕ
weight table = sum_by weight_at table

abbrev pub reached_at : Option Seen → ℕ
reached_at None = 0
reached_at (Some s) = 1

-- how many places were reached
abbrev pub reached : List (Option Seen) → ℕ
reached table = sum_by reached_at table

-- what is still to be done from a place on
unfoldable pub work : List (Option Seen) → ℕ → ℕ
work table place = weight table * (length table + 1) + (length table - place)

-- the ways have at most so much credit
abbrev pub IsFew : ℕ → Way → Type 0
IsFew n w = w.seen.credit ≤ n

abbrev pub AreFew : ℕ → Ways → Type 0
AreFew n Finish = Unit {0}
AreFew n (To a) = IsFew n a
AreFew n (Either a b) = IsFew n a × IsFew n b

-- no state has more credit than so much
abbrev pub HasFew : ℕ → List (Option Seen) → Type 0
HasFew n table = AllStates (λ p a. a.credit ≤ n) table

-- a table after some ways were added: what was there and what came is covered, by no more than any assignment that covers both, and no
-- place below the answer has changed
pub record Advances (old new : List (Option Seen)) (ways : Ways) (next answer : ℕ) : Type 0 where
  pub long : length new ≡ length old
  pub kept : (p : ℕ) (a : Seen) → at old p ≡ Some a → HasCover (at new p) a
  pub placed : AreCovered (at new) ways
  pub least : (states : ℕ → Option Seen) → AllStates (λ p a. HasCover (states p) a) old → AreCovered states ways → AllStates (λ p a. HasCover (states p) a) new
  pub full : AllStates (λ p a. length a.regs ≡ 10) old → AllStates (λ p a. length a.regs ≡ 10) new
  pub early : answer ≤ next
  pub below : (p : ℕ) → p < answer → at new p ≡ at old p
  pub more : reached old ≤ reached new
  pub few : AreFew (reached old + 1) ways → HasFew (reached old) old → HasFew (reached new) new
  pub falls : AreFew (reached old + 1) ways → length old ≤ CODE_SLOTS → (weight new < weight old) ⊎ ((new ≡ old) × (answer ≡ next))

-- the table as far as it is settled
pub record IsSettled (t : Sheet) (code : List Insn) (table : List (Option Seen)) (place : ℕ) : Type 0 where
  pub long : length table ≡ length code
  pub start : HasCover (at table 0) entry_seen
  pub full : AllStates (λ p a. length a.regs ≡ 10) table
  pub least : (states : ℕ → Option Seen) → IsClosed t code states → AllStates (λ p a. HasCover (states p) a) table
  pub few : HasFew (reached table) table
  pub before : (p : ℕ) (a : Seen) → p < place → at table p ≡ Some a → Meets (at table) (leads t code p a)
