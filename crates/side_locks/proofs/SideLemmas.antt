-- One object that was closed.
use Rattle.std.proofs.Common.{◌≡◌, ℕ, ◌<◌, List, [], ◌∷◌, length, get_or, sym, subst, arith}
use Rattle.bt_core.specs.declared.step.Op.{Op}
use Rattle.bt_core.specs.declared.step.Reply.{Reply}
use Rattle.turn_lock.specs.declared.entry.Entry.{Entry}
use Rattle.stamped.specs.Rows.{Row, firsts}
use Rattle.stamped.specs.SetEnds.{IsClosed, AreClosed}

module _ {O Kind : Type 0} (kind_of : O → Kind) (is_own : Kind → Op → Type 0) (reply_after : Kind → List Op → Op → Reply) (stands_for : O → List Op → Type 0) (actors : ℕ) (kind : Kind) (rows : List Row) where
  pub some_closed : (cs : List (O × List Entry)) → AreClosed kind_of is_own reply_after stands_for actors (kind ∷ []) rows cs → 0 < length cs
  some_closed [] h = absurd h
  some_closed (c ∷ cs) h = omega arith

  pub one_closed : (cs : List (O × List Entry)) (c : O × List Entry) → AreClosed kind_of is_own reply_after stands_for actors (kind ∷ []) rows cs → c ≡ get_or cs 0 c
      → IsClosed kind_of is_own reply_after stands_for actors kind (firsts rows) c.0 c.1
  one_closed [] c h e = absurd h
  one_closed (d ∷ cs) c h e = subst (λ (z : O × List Entry). IsClosed kind_of is_own reply_after stands_for actors kind (firsts rows) z.0 z.1) (sym e) h.0
