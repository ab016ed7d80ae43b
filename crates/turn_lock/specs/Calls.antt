-- What a call tells its caller.
use Rattle.std.specs.Prelude.{◌≡◌, ◌⊎◌, ℕ, ◌+◌, ◌-◌, ◌^◌, List, [], ◌∷◌, ◌++◌}
use Rattle.atomic_table.specs.Seated.{TableId}
use Rattle.bt_core.specs.declared.step.Op.{Op}
use Rattle.turn_lock.specs.declared.entry.Entry.{Entry}
use Rattle.turn_lock.specs.declared.view.Past.{Past}
use Rattle.turn_lock.specs.declared.view.View.{View}
use Rattle.turn_lock.specs.declared.turn.Turn.{Turn}
use Rattle.turn_lock.specs.History.{Law, IsLegal, ops, made_by, StartsWith, Rises, stamp_after}
use Rattle.turn_lock.specs.Turns.{view_in, past_of}

abbrev pub view_of : Turn → View
view_of t = view_in t.badge.views

-- the number of the turn's caller
abbrev pub caller_of : Turn → ℕ
caller_of t = t.caller

-- the beginning of the history that the turn has seen
abbrev pub seen : Turn → List Entry
seen t = (view_of t).seen

-- the turn's own entries
abbrev pub mine : Turn → List Entry
mine t = (view_of t).mine

-- the turn has seen nothing and has no entries
abbrev pub IsNew : Turn → Type 0
IsNew t = (seen t ≡ []) × (mine t ≡ [])

module _ (l : Law) (caller : ℕ) where
  -- the history that was seen is legal, its stamps rise, and of the caller it has just its own entries
  pub record Sees (v : View) : Type 0 where
    pub legal : IsLegal l v.seen
    pub rises : Rises 0 v.seen
    pub own : made_by caller v.seen ≡ v.mine

  -- the history that was seen begins with what was seen before and ends with this entry, which is one more of the caller's
  pub record Gains (v w : View) (e : Entry) : Type 0 where
    pub sees : Sees w
    pub more : (between : List Entry) × (w.seen ≡ (v.seen ++ between) ++ e ∷ [])
    pub one_more : w.mine ≡ v.mine ++ e ∷ []

  -- the history that was seen begins with what was seen before, and the caller has the same entries
  pub record Stays (v w : View) : Type 0 where
    pub sees : Sees w
    pub more : StartsWith w.seen v.seen
    pub same : w.mine ≡ v.mine

-- the turn's call made this entry
abbrev pub Calls : Law → Turn → Turn → Entry → Type 0
Calls l before now e = Gains l (caller_of before) (view_of before) (view_of now) e

-- the turn's call made no entry
abbrev pub Looks : Law → Turn → Turn → Type 0
Looks l before now = Stays l (caller_of before) (view_of before) (view_of now)

-- why a call may be refused: its operation is not free after what was seen, or a clock stands at its end
abbrev pub MayRefuse : (List Op → Op → Type 0) → List Entry → ℕ → Op → Type 0
MayRefuse is_free h floor op = (¬ is_free (ops h) op) ⊎ ((floor ≡ 2 ^ 64 - 1) ⊎ (stamp_after 0 h ≡ 2 ^ 64 - 1))

-- these are turns of a table, with the caller numbers from k on
abbrev pub AreTurns : TableId → ℕ → List Turn → Type 0
AreTurns z k [] = Unit {0}
AreTurns z k (t ∷ ts) = (t.badge.table_id ≡ z) × (caller_of t ≡ k) × AreTurns z (k + 1) ts

-- the history begins with what the turn has seen, and has of its caller just its own entries
abbrev pub IsPart : List Entry → Turn → Type 0
IsPart h t = StartsWith h (seen t) × (made_by (caller_of t) h ≡ mine t)

-- what is kept of turns that are taken in from the last one on
abbrev pub pasts : List Turn → List Past
pasts [] = []
pasts (t ∷ ts) = pasts ts ++ past_of (view_of t) ∷ []
