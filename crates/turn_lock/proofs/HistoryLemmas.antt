-- Histories, and turns in a row. For crates that stand on locks.
use Rattle.std.proofs.Common.{◌≡◌, ◌≢◌, ℕ, zero, suc, ◌+◌, ◌<◌, Bool, cond, List, [], ◌∷◌, ◌++◌, length, get_or, sym, refl, ap, ◌∙◌, subst, arith, eq-eqb, ne_eqb, append_assoc}
use Rattle.std.proofs.lemmas.List.{append-nil}
use Rattle.std.proofs.lemmas.List.Elements.{filter-append}
use mathlib.Core.List.{map-append}
use Rattle.atomic_table.specs.Seated.{TableId}
use Rattle.bt_core.specs.declared.step.Op.{Op}
use Rattle.turn_lock.specs.declared.entry.Entry.{Entry}
use Rattle.turn_lock.specs.declared.turn.Turn.{Turn}
use Rattle.turn_lock.specs.History.{Law, IsNext, IsLegalAfter, ops, op_of, made_by, is_by, StartsWith, stamp_after, Each, Rises}
use Rattle.turn_lock.specs.Calls.{caller_of, AreTurns}

pub Each-weaken : {A : Type 0} (P Q : A → Type 0) → ((x : A) → P x → Q x) → (xs : List A) → Each P xs → Each Q xs
Each-weaken P Q f [] h = tt
Each-weaken P Q f (x ∷ xs) h = (f x h.0, Each-weaken P Q f xs h.1)

pub Each-snoc : {A : Type 0} (P : A → Type 0) (xs : List A) (y : A) → Each P xs → P y → Each P (xs ++ y ∷ [])
Each-snoc P [] y h p = (p, tt)
Each-snoc P (x ∷ xs) y h p = (h.0, Each-snoc P xs y h.1 p)

pub starts_with_itself : (log : List Entry) → StartsWith log log
starts_with_itself log = ([], sym (append-nil log))

pub starts_with_less : (log more : List Entry) → StartsWith (log ++ more) log
starts_with_less log more = (more, refl)

pub starts_with_nothing : (log : List Entry) → StartsWith log []
starts_with_nothing log = (log, refl)

pub starts_with_start : (log mid seen : List Entry) → StartsWith log mid → StartsWith mid seen → StartsWith log seen
starts_with_start log mid seen a b = (b.0 ++ a.0, a.1 ∙ ap (λ (z : List Entry). z ++ a.0) b.1 ∙ append_assoc seen b.0 a.0)

pub made_by_own : (c : ℕ) (es : List Entry) → Each (λ e. e.caller ≡ c) es → made_by c es ≡ es
made_by_own c [] h = refl
made_by_own c (e ∷ es) h = ap (λ (b : Bool). cond b (e ∷ made_by c es) (made_by c es)) (eq-eqb e.caller c h.0)
    ∙ ap (λ (z : List Entry). e ∷ z) (made_by_own c es h.1)

pub made_by_others : (c d : ℕ) (es : List Entry) → d ≢ c → Each (λ e. e.caller ≡ c) es → made_by d es ≡ []
made_by_others c d [] ne h = refl
made_by_others c d (e ∷ es) ne h = ap (λ (b : Bool). cond b (e ∷ made_by d es) (made_by d es)) (ne_eqb e.caller d (λ q. ne (sym q ∙ h.0)))
    ∙ made_by_others c d es ne h.1

pub made_by_append : (c : ℕ) (xs ys : List Entry) → made_by c (xs ++ ys) ≡ made_by c xs ++ made_by c ys
made_by_append c xs ys = filter-append (is_by c) xs ys

pub legal_snoc : (l : Law) (before : List Op) (last : ℕ) (es : List Entry) (e : Entry) → IsLegalAfter l before last es
    → IsNext l (before ++ ops es) (stamp_after last es) e → IsLegalAfter l before last (es ++ e ∷ [])
legal_snoc l before last [] e h n = (subst (λ (z : List Op). IsNext l z last e) (append-nil before) n, tt)
legal_snoc l before last (x ∷ xs) e h n = (
  h.0,
  legal_snoc l (before ++ x.op ∷ []) x.stamp xs e h.1
      (subst (λ (z : List Op). IsNext l z (stamp_after x.stamp xs) e) (sym (append_assoc before (x.op ∷ []) (ops xs))) n),
)

pub stamp_snoc : (last : ℕ) (es : List Entry) (e : Entry) → stamp_after last (es ++ e ∷ []) ≡ e.stamp
stamp_snoc last [] e = refl
stamp_snoc last (x ∷ xs) e = stamp_snoc x.stamp xs e

pub ops_snoc : (es : List Entry) (e : Entry) → ops (es ++ e ∷ []) ≡ ops es ++ e.op ∷ []
ops_snoc es e = map-append op_of es (e ∷ [])

pub legal_rises : (l : Law) (before : List Op) (last : ℕ) (es : List Entry) → IsLegalAfter l before last es → Rises last es
legal_rises l before last [] h = tt
legal_rises l before last (e ∷ es) h = let s = h.0.stamp in (omega arith, omega arith, legal_rises l (before ++ e.op ∷ []) e.stamp es h.1)

-- the callers of a legal history are the lock's
pub legal_callers : (l : Law) (before : List Op) (last : ℕ) (es : List Entry) → IsLegalAfter l before last es → Each (λ e. e.caller < l.callers) es
legal_callers l before last [] h = tt
legal_callers l before last (e ∷ es) h = (h.0.caller, legal_callers l (before ++ e.op ∷ []) e.stamp es h.1)

-- turns that are changed place by place are still a table's turns in order
pub turns_changed : (z : TableId) (k : ℕ) (ts us : List Turn) → length us ≡ length ts → AreTurns z k ts
    → ((i : ℕ) (d : Turn) → i < length ts → ((get_or us i d).badge.table_id ≡ z) × (caller_of (get_or us i d) ≡ caller_of (get_or ts i d))) → AreTurns z k us
turns_changed z k ts [] e h same = tt
turns_changed z k [] (u ∷ us) e h same = absurd (omega arith)
turns_changed z k (t ∷ ts) (u ∷ us) e h same = let first = same 0 u (omega arith) in
    (first.0, first.1 ∙ h.1, turns_changed z (k + 1) ts us (omega arith) h.2 (λ i d lt. same (suc i) d (omega arith)))

-- each of a table's turns is one of the table
pub turns_of : (z : TableId) (k : ℕ) (ts : List Turn) → AreTurns z k ts → (i : ℕ) (d : Turn) → i < length ts → (get_or ts i d).badge.table_id ≡ z
turns_of z k [] h i d lt = absurd (omega arith)
turns_of z k (t ∷ ts) h zero d lt = h.0
turns_of z k (t ∷ ts) h (suc i) d lt = turns_of z (k + 1) ts h.2 i d (omega arith)
