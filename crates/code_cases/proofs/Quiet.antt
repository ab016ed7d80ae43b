-- The replies of the quiet port are of their kinds.
use Rattle.std.proofs.Common.{◌≡◌, ℕ, zero, suc, List, [], ◌∷◌, ◌++◌, length, Option, Some, None, Result, Ok, Err, refl, sym, ap, ◌∙◌, subst, arith}
use Rattle.std.specs.Prelude.{All, IsSomeAnd, OnOk, slice_get, get_or}
use Rattle.std.proofs.lemmas.List.Elements.{All-nil}
use Rattle.bt_core.specs.declared.agg.Agg.{Agg}
use Rattle.bt_core.specs.declared.map.MapDecl.{MapDecl}
use Rattle.bt_core.specs.declared.map.MapKind.{MapKind}
use Rattle.bt_core.specs.declared.map.MapKind.TheVariants.{Ints, Strs, Aggs}
use Rattle.bt_core.specs.declared.step.ObjectId.{ObjectId}
use Rattle.bt_core.specs.declared.step.ObjectId.TheVariants.{Shared, Cpu, Clock, Out}
use Rattle.bt_core.specs.declared.step.Op.{Op}
use Rattle.bt_core.specs.declared.step.Op.TheVariants.{Get, Set, Delete, Clear, Zero, ReadAll, Add, ClearOf, ZeroOf, Read, Cross, Check, Stop, Emit}
use Rattle.bt_core.specs.declared.memory.Memory.{Memory}
use Rattle.bt_core.specs.declared.step.Reply.{Reply}
use Rattle.bt_core.specs.declared.step.Step.{Step}
use Rattle.bt_core.specs.declared.value.Value.{Value}
use Rattle.bt_core.specs.Interaction.{last_reply}
use Rattle.bt_core.proofs.InteractionLaws.{last_reply-append}
use Rattle.bt_core.specs.Kinds.{HasShape, IsOfKind, IsAggOf, IsShared, IsAggregation}
use Rattle.bt_core.specs.Ports.{Setting, CanStep, IsSharedOp, IsTableOp, IsReplyOf, IsSharedReply, IsTableReply, IsClockReply}
use Rattle.code_cases.specs.Quiet.{value_of_kind, shared_reply, table_reply, clock_reply, reply_of}

kind_fits : (kind : MapKind) → IsShared kind → IsOfKind kind (value_of_kind kind)
kind_fits Ints h = tt
kind_fits Strs h = tt
kind_fits (Aggs kind) h = absurd h

shared_fits : (decl : MapDecl) (op : Op) → IsShared decl.kind × IsSharedOp decl op → IsSharedReply decl op (shared_reply (Some decl) op)
shared_fits decl (Get key) h = kind_fits decl.kind h.0
shared_fits decl ReadAll h = All-nil (λ (row : List Value × Value). HasShape decl.key_shape row.0 × IsOfKind decl.kind row.1)
shared_fits decl (Set key value) h = refl
shared_fits decl (Delete key) h = refl
shared_fits decl Clear h = refl
shared_fits decl Zero h = refl
shared_fits decl (Add m key n) h = refl
shared_fits decl (ClearOf m) h = refl
shared_fits decl (ZeroOf m) h = refl
shared_fits decl (Read m) h = refl
shared_fits decl (Cross tick) h = refl
shared_fits decl Check h = refl
shared_fits decl Stop h = refl
shared_fits decl (Emit item) h = refl

found_fits : (o : Option MapDecl) (op : Op) → IsSomeAnd o (λ decl. IsShared decl.kind × IsSharedOp decl op) → IsSomeAnd o (λ decl. IsSharedReply decl op (shared_reply o op))
found_fits None op h = absurd h
found_fits (Some decl) op h = shared_fits decl op h

none_fits : (o : Option MapDecl) → IsSomeAnd o (λ decl. IsAggregation decl.kind) → IsSomeAnd o (λ decl. All (λ (row : List Value × Agg). HasShape decl.key_shape row.0 × IsAggOf decl.kind row.1) [])
none_fits None h = absurd h
none_fits (Some decl) h = All-nil (λ (row : List Value × Agg). HasShape decl.key_shape row.0 × IsAggOf decl.kind row.1)

table_fits : (maps : List MapDecl) (op : Op) → IsTableOp maps op → IsTableReply maps op (table_reply op)
table_fits maps (Read m) h = none_fits (slice_get maps m.0) h
table_fits maps (Add m key n) h = refl
table_fits maps (ClearOf m) h = refl
table_fits maps (ZeroOf m) h = refl
table_fits maps (Get key) h = refl
table_fits maps (Set key value) h = refl
table_fits maps (Delete key) h = refl
table_fits maps Clear h = refl
table_fits maps Zero h = refl
table_fits maps ReadAll h = refl
table_fits maps (Cross tick) h = refl
table_fits maps Check h = refl
table_fits maps Stop h = refl
table_fits maps (Emit item) h = refl

clock_fits : (op : Op) → IsClockReply op (clock_reply op)
clock_fits (Cross tick) = tt
clock_fits Check = tt
clock_fits (Get key) = refl
clock_fits (Set key value) = refl
clock_fits (Delete key) = refl
clock_fits Clear = refl
clock_fits Zero = refl
clock_fits ReadAll = refl
clock_fits (Add m key n) = refl
clock_fits (ClearOf m) = refl
clock_fits (ZeroOf m) = refl
clock_fits (Read m) = refl
clock_fits Stop = refl
clock_fits (Emit item) = refl

pub fits : (s : Setting) (object : ObjectId) (op : Op) → CanStep s object op → IsReplyOf s.maps object op (reply_of s.maps object op)
fits s (Shared m part) op h = found_fits (slice_get s.maps m.0) op h.1
fits s (Cpu actor) op h = table_fits s.maps op h.1
fits s Clock op h = clock_fits op
fits s Out op h = refl

-- the reply of a step that was made
pub replied : (s : Setting) (object : ObjectId) (op : Op) (old new : List Step) (step : Step) (r : Result (Unit {0}) Memory) → CanStep s object op → OnOk r (new ≡ old ++ step ∷ []) → step.reply ≡ reply_of s.maps object op → OnOk r (IsReplyOf s.maps object op (last_reply new))
replied s object op old new step (Ok u) can grew is =
    subst (λ (l : List Step). IsReplyOf s.maps object op (last_reply l)) (sym grew)
    (subst (λ (x : Reply). IsReplyOf s.maps object op x) (sym (last_reply-append old step ∙ is)) (fits s object op can))
replied s object op old new step (Err e) can grew is = tt

-- the last step, by its place
pub last_at : (xs : List Step) (s : Step) (n : ℕ) → length xs ≡ suc n → s ≡ get_or xs n s → s.reply ≡ last_reply xs
last_at [] s n h e = cc
last_at (x ∷ []) s zero h e = ap (λ (t : Step). t.reply) e
last_at (x ∷ []) s (suc n) h e = absurd (omega arith)
last_at (x ∷ y ∷ ys) s zero h e = absurd (omega arith)
last_at (x ∷ y ∷ ys) s (suc n) h e = last_at (y ∷ ys) s n (omega arith) e
