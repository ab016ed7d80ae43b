-- What an object answers says nothing of what is emitted.
use Rattle.std.proofs.Common.{◌≡◌, ℕ, suc, List, map, sym, refl, ap, ◌∙◌, reverse, ◌==◌}
use Rattle.bt_core.specs.declared.step.Reply.TheVariants as replies
use Rattle.bt_core.specs.declared.item.Item.{Item}
use Rattle.bt_core.specs.declared.map.MapDecl.{MapDecl}
use Rattle.bt_core.specs.declared.step.ObjectId.{ObjectId}
use Rattle.bt_core.specs.declared.step.ObjectId.TheVariants.{Shared, Cpu, Clock, Out}
use Rattle.bt_core.specs.declared.step.Op.{Op}
use Rattle.bt_core.specs.declared.step.Op.TheVariants.{Get, Set, Delete, Clear, Zero, ReadAll, Add, ClearOf, ZeroOf, Read, Cross, Check, Stop, Emit}
use Rattle.agg_core.specs.Aggregates.{aggregate}
use Rattle.agg_core.specs.Answers.{answer, shared_change, table_change, back, is_cross, is_stop, last_given, kind_in, agg_kind_in}
use Rattle.agg_core.specs.Changes.{Change, given_to, rows_of}
use Rattle.step_entries.specs.Blank.{blank_op}
use Rattle.step_entries.proofs.BlankLists.{at_blank, blind_map, blind_count, blind_any}

blind_back : {V : Type 0} (change : Op → Change V) → ((one other : Item) → change (Emit one) ≡ change (Emit other)) → (ops : List Op) → back change (map blank_op ops) ≡ back change ops
blind_back change h ops = ap reverse (blind_map change h ops)

module _ (maps : List MapDecl) (cpus : ℕ) where
  -- what is emitted before
  blind_before : (o : ObjectId) (ops : List Op) (op : Op) → answer maps cpus o (map blank_op ops) op ≡ answer maps cpus o ops op
  blind_before (Shared m p) ops (Get key) = ap (λ c. replies.Value (last_given (kind_in maps m) (given_to c key))) (blind_back shared_change (λ one other. refl) ops)
  blind_before (Shared m p) ops ReadAll = ap (λ c. replies.Pairs (rows_of (last_given (kind_in maps m)) c)) (blind_back shared_change (λ one other. refl) ops)
  blind_before (Shared m p) ops (Set key value) = refl
  blind_before (Shared m p) ops (Delete key) = refl
  blind_before (Shared m p) ops Clear = refl
  blind_before (Shared m p) ops Zero = refl
  blind_before (Shared m p) ops (Add n key number) = refl
  blind_before (Shared m p) ops (ClearOf n) = refl
  blind_before (Shared m p) ops (ZeroOf n) = refl
  blind_before (Shared m p) ops (Read n) = refl
  blind_before (Shared m p) ops (Cross tick) = refl
  blind_before (Shared m p) ops Check = refl
  blind_before (Shared m p) ops Stop = refl
  blind_before (Shared m p) ops (Emit item) = refl
  blind_before (Cpu a) ops (Read n) = ap (λ c. replies.Aggs (rows_of (aggregate (agg_kind_in maps n)) c)) (blind_back (table_change n) (λ one other. refl) ops)
  blind_before (Cpu a) ops (Get key) = refl
  blind_before (Cpu a) ops (Set key value) = refl
  blind_before (Cpu a) ops (Delete key) = refl
  blind_before (Cpu a) ops Clear = refl
  blind_before (Cpu a) ops Zero = refl
  blind_before (Cpu a) ops ReadAll = refl
  blind_before (Cpu a) ops (Add n key number) = refl
  blind_before (Cpu a) ops (ClearOf n) = refl
  blind_before (Cpu a) ops (ZeroOf n) = refl
  blind_before (Cpu a) ops (Cross tick) = refl
  blind_before (Cpu a) ops Check = refl
  blind_before (Cpu a) ops Stop = refl
  blind_before (Cpu a) ops (Emit item) = refl
  blind_before Clock ops (Cross tick) = ap (λ n. replies.Last (suc n == cpus)) (blind_count (is_cross tick) (λ one other. refl) ops)
  blind_before Clock ops Check = ap replies.Stopped (blind_any is_stop (λ one other. refl) ops)
  blind_before Clock ops (Get key) = refl
  blind_before Clock ops (Set key value) = refl
  blind_before Clock ops (Delete key) = refl
  blind_before Clock ops Clear = refl
  blind_before Clock ops Zero = refl
  blind_before Clock ops ReadAll = refl
  blind_before Clock ops (Add n key number) = refl
  blind_before Clock ops (ClearOf n) = refl
  blind_before Clock ops (ZeroOf n) = refl
  blind_before Clock ops (Read n) = refl
  blind_before Clock ops Stop = refl
  blind_before Clock ops (Emit item) = refl
  blind_before Out ops op = refl

  -- what is emitted now
  blind_now : (o : ObjectId) (ops : List Op) (op : Op) → answer maps cpus o ops (blank_op op) ≡ answer maps cpus o ops op
  blind_now (Shared m p) ops op = at_blank (answer maps cpus (Shared m p) ops) (λ one other. refl) op
  blind_now (Cpu a) ops op = at_blank (answer maps cpus (Cpu a) ops) (λ one other. refl) op
  blind_now Clock ops op = at_blank (answer maps cpus Clock ops) (λ one other. refl) op
  blind_now Out ops op = refl

  pub replies_alike : (o : ObjectId) (ops pops : List Op) (op pop : Op) → map blank_op ops ≡ map blank_op pops → blank_op op ≡ blank_op pop → answer maps cpus o ops op ≡ answer maps cpus o pops pop
  replies_alike o ops pops op pop e f =
      sym (blind_before o ops op) ∙ sym (blind_now o (map blank_op ops) op) ∙ (λ i. answer maps cpus o (e i) (f i)) ∙ blind_now o (map blank_op pops) pop ∙ blind_before o pops pop
