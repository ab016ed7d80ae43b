-- Histories of a lock: what is legal, and what of one is a caller's.
use Rattle.std.specs.Prelude.{◌≡◌, ℕ, suc, ◌<◌, max, ◌==◌, Bool, List, [], ◌∷◌, ◌++◌, map, filter}
use Rattle.bt_core.specs.declared.step.Op.{Op}
use Rattle.bt_core.specs.declared.step.Reply.{Reply}
use Rattle.turn_lock.specs.declared.entry.Entry.{Entry}

abbrev pub op_of : Entry → Op
op_of e = e.op

-- the operations of a history
abbrev pub ops : List Entry → List Op
ops es = map op_of es

abbrev pub is_by : ℕ → Entry → Bool
is_by c e = e.caller == c

-- the entries of one caller
abbrev pub made_by : ℕ → List Entry → List Entry
made_by c es = filter (is_by c) es

-- the history begins with what was seen
abbrev pub StartsWith : List Entry → List Entry → Type 0
StartsWith log seen = (rest : List Entry) × (log ≡ seen ++ rest)

-- the stamp of the last entry, or else this one
abbrev pub stamp_after : ℕ → List Entry → ℕ
stamp_after stamp [] = stamp
stamp_after stamp (e ∷ es) = stamp_after e.stamp es

-- what makes a history legal: how many callers there are, which operations are the object's own, and its replies
pub record Law : Type 1 where
  pub callers : ℕ
  pub is_own : Op → Type 0
  pub reply : List Op → Op → Reply

-- the entry may stand after these operations and this stamp
pub record IsNext (l : Law) (before : List Op) (last : ℕ) (e : Entry) : Type 0 where
  pub caller : e.caller < l.callers
  pub own : l.is_own e.op
  pub reply : e.reply ≡ l.reply before e.op
  pub stamp : e.stamp ≡ suc (max e.floor last)

-- each entry may stand where it stands, after these operations and this stamp
abbrev pub IsLegalAfter : Law → List Op → ℕ → List Entry → Type 0
IsLegalAfter l before last [] = Unit {0}
IsLegalAfter l before last (e ∷ es) = IsNext l before last e × IsLegalAfter l (before ++ e.op ∷ []) e.stamp es

-- a whole history is legal
abbrev pub IsLegal : Law → List Entry → Type 0
IsLegal l es = IsLegalAfter l [] 0 es

-- the fact holds of each member
abbrev pub Each : {A : Type 0} → (A → Type 0) → List A → Type 0
Each P [] = Unit {0}
Each P (x ∷ xs) = P x × Each P xs

-- each stamp is above its floor, and above the stamp before it
abbrev pub Rises : ℕ → List Entry → Type 0
Rises last [] = Unit {0}
Rises last (e ∷ es) = (e.floor < e.stamp) × (last < e.stamp) × Rises e.stamp es
