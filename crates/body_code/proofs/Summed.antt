-- The number of an aggregation that is read out of tables has 64 bits, as a program holds it.
use Rattle.std.proofs.Common.{ℕ, zero, suc, ◌+◌, List, [], ◌∷◌, ◌++◌, ℤ, FitsSigned, w64, map}
use Rattle.std.specs.List.{AllByRecursion, flat_map}
use Rattle.bt_core.specs.declared.agg.Agg.{Agg}
use Rattle.bt_core.specs.declared.item.Cell.{Cell}
use Rattle.bt_core.specs.declared.map.MapDecl.{MapDecl}
use Rattle.bt_core.specs.declared.map.MapId.{MapId}
use Rattle.bt_core.specs.declared.step.ObjectId.TheVariants.{Cpu}
use Rattle.bt_core.specs.declared.step.Op.TheVariants as ops
use Rattle.bt_core.specs.declared.step.Reply.{Reply}
use Rattle.bt_core.specs.declared.step.Reply.TheVariants as replies
use Rattle.bt_core.specs.declared.value.Value.{Value}
use Rattle.bt_core.specs.Interaction.{Interaction, Ended, Asks, Call, and_then}
use Rattle.bt_core.specs.Same.{Yields}
use Rattle.step_list.specs.HeldReplies.{AreHeldAggs, IsHeldReply}
use Rattle.map_rows.specs.Merged.{agg_row, agg_rows}
use Rattle.map_ops.specs.Asking.{asked_from, summed}
use Rattle.body_code.specs.Replies.{IsOwnReply}
use Rattle.body_code.proofs.HeldNumbers.{RowsHeld, merged_number_fits}

Yields-then : {A B : Type 0} (comes : Call → Reply → Type 0) (P : A → Type 0) (Q : B → Type 0) (t : Interaction A) (k : A → Interaction B) → Yields comes P t → ((a : A) → P a → Yields comes Q (k a)) → Yields comes Q (and_then t k)
Yields-then comes P Q (Ended a) k y f = f a y
Yields-then comes P Q (Asks c g) k y f = λ reply h. Yields-then comes P Q (g reply) k (y reply h) f

abbrev AllHeld : List Reply → Type 0
AllHeld rs = AllByRecursion IsHeldReply rs

one_more : (rs : List Reply) (r : Reply) → AllHeld rs → IsHeldReply r → AllHeld (rs ++ r ∷ [])
one_more [] r h p = (p, tt)
one_more (q ∷ rs) r h p = (h.0, one_more rs r h.1 p)

-- ---- the rows of replies

append_held : (a b : List (List Value × Cell)) → RowsHeld a → RowsHeld b → RowsHeld (a ++ b)
append_held [] b p q = q
append_held (row ∷ a) b p q = (p.0, append_held a b p.1 q)

aggs_held : (rows : List (List Value × Agg)) → AreHeldAggs rows → RowsHeld (map agg_row rows)
aggs_held [] h = tt
aggs_held (row ∷ rows) h = (h.0, aggs_held rows h.1)

reply_held : (r : Reply) → IsHeldReply r → RowsHeld (agg_rows r)
reply_held (replies.Aggs rows) h = aggs_held rows h
reply_held (replies.Pairs rows) h = tt
reply_held (replies.Value v) h = tt
reply_held replies.Done h = tt
reply_held (replies.Last b) h = tt
reply_held (replies.Stopped b) h = tt

all_held : (rs : List Reply) → AllHeld rs → RowsHeld (flat_map agg_rows rs)
all_held [] h = tt
all_held (r ∷ rs) h = append_held (agg_rows r) (flat_map agg_rows rs) (reply_held r h.0) (all_held rs h.1)

-- ---- what is asked

tables_held : (maps : List MapDecl) (m : MapId) (n first : ℕ) (rs : List Reply) → AllHeld rs → Yields (IsOwnReply maps) AllHeld (asked_from Cpu (ops.Read m) rs first n)
tables_held maps m zero first rs h = h
tables_held maps m (suc n) first rs h = λ r own. tables_held maps m n (first + 1) (rs ++ r ∷ []) (one_more rs r h own)

pub summed_yields : (maps : List MapDecl) (m : MapId) (key : List Value) (actors : ℕ) → Yields (IsOwnReply maps) (λ (n : ℤ). FitsSigned w64 n) (summed m key actors)
summed_yields maps m key actors =
    Yields-then (IsOwnReply maps) AllHeld (λ (n : ℤ). FitsSigned w64 n) (asked_from Cpu (ops.Read m) [] 0 actors) _ (tables_held maps m actors 0 [] tt)
    (λ rs held. merged_number_fits key (flat_map agg_rows rs) (all_held rs held))
