-- Objects that are asked one after another.
use Rattle.std.proofs.Common.{◌≡◌, ℕ, suc, ◌+◌, ◌-◌, ◌<◌, ◌≤◌, ◌++◌, List, [], ◌∷◌, Option, Some, None, refl, sym, ap, subst, arith}
use Rattle.std.specs.Prelude.{All, IsSomeAnd, slice_get, get_or}
use Rattle.std.proofs.lemmas.List.Elements.{All-push}
use Rattle.bt_core.specs.declared.agg.Agg.{Agg}
use Rattle.bt_core.specs.declared.map.MapDecl.{MapDecl}
use Rattle.bt_core.specs.declared.map.MapId.{MapId}
use Rattle.bt_core.specs.declared.map.MapKind.{MapKind}
use Rattle.bt_core.specs.declared.map.MapKind.TheVariants.{Ints, Strs, Aggs}
use Rattle.bt_core.specs.declared.step.ObjectId.{ObjectId}
use Rattle.bt_core.specs.declared.step.Op.{Op}
use Rattle.bt_core.specs.declared.step.Op.TheVariants as ops
use Rattle.bt_core.specs.declared.step.Reply.{Reply}
use Rattle.bt_core.specs.declared.step.Reply.TheVariants as replies
use Rattle.bt_core.specs.declared.step.Step.{Step}
use Rattle.bt_core.specs.declared.value.Value.{Value}
use Rattle.bt_core.specs.Interaction.{Interaction, and_then, ask, Whole, Part, Left, MakesStep, last_reply}
use Rattle.bt_core.specs.Kinds.{HasShape, IsOfKind, IsAggOf, IsShared, IsAggregation}
use Rattle.bt_core.specs.Ports.{Setting, CanStep, IsReplyOf, IsSharedReply, IsTableReply}
use Rattle.bt_core.proofs.InteractionLaws.{Left-here, Left-Whole, Left-Part, Left-is, Left-and_then, Performed-none, Whole-ask, Whole-Ended}
use Rattle.map_rows.specs.Merged.{HasRowsOf}
use Rattle.map_ops.specs.declared.sweep.Sweep.{Sweep}
use Rattle.map_ops.specs.declared.sweep.Sweep.TheVariants.{Read, Clear, Zero}
use Rattle.map_ops.specs.Holders.{holder, holders, sweep_op, CanSweep}
use Rattle.map_ops.specs.Asking.{asked_from}

pub sweep-start : (object : ℕ → ObjectId) (op : Op) (n : ℕ) (old : List Step) → Left (asked_from object op [] 0 n) old old (asked_from object op [] 0 (n - 0))
sweep-start object op n old = Left-is _ _ _ _ _ (Left-here _ _) (let e : n ≡ n - 0 = omega arith in ap (λ (k : ℕ). asked_from object op [] 0 k) e)

module _ (whole : Interaction (List Reply)) (object : ℕ → ObjectId) (op : Op) (replies : List Reply) (place n : ℕ) (old mid new : List Step) where
  now_is : place < n → asked_from object op replies place (n - place) ≡ and_then (ask (object place) op) (λ reply. asked_from object op (replies ++ reply ∷ []) (place + 1) (n - (place + 1)))
  now_is h = let e : n - place ≡ suc (n - (place + 1)) = omega (arith, h) in ap (λ (k : ℕ). asked_from object op replies place k) e

  pub sweep-stop : Left whole old mid (asked_from object op replies place (n - place)) → new ≡ mid → Part whole old new
  sweep-stop p e = Left-Part _ _ _ _ _ p (Performed-none _ _ _ e)

  pub sweep-next : (actor : ℕ) → place < n → Left whole old mid (asked_from object op replies place (n - place)) → MakesStep mid new actor (object place) op →
      Left whole old new (asked_from object op (replies ++ last_reply new ∷ []) (place + 1) (n - (place + 1)))
  sweep-next actor h p m =
      Left-and_then whole (ask (object place) op) (λ reply. asked_from object op (replies ++ reply ∷ []) (place + 1) (n - (place + 1))) old mid new (last_reply new)
      (Left-is _ _ _ _ _ p (now_is h)) (Whole-ask (λ r. r) mid new actor (object place) op m)

  pub sweep-drop : (actor : ℕ) → place < n → Left whole old mid (asked_from object op replies place (n - place)) → MakesStep mid new actor (object place) op → Part whole old new
  sweep-drop actor h p m = Left-Part _ _ _ _ _ (sweep-next actor h p m) (Performed-none _ _ _ refl)

pub sweep-end : (whole : Interaction (List Reply)) (object : ℕ → ObjectId) (op : Op) (replies : List Reply) (place n : ℕ) (old now : List Step) →
    n ≤ place → Left whole old now (asked_from object op replies place (n - place)) → Whole whole old now replies
sweep-end whole object op replies place n old now h p =
    Left-Whole _ _ _ _ _ _ (Left-is _ _ _ _ _ p (let e : n - place ≡ 0 = omega (arith, h) in ap (λ (k : ℕ). asked_from object op replies place k) e)) (Whole-Ended _ _ _ refl)

-- ---- replies

pair_rows : (decl : MapDecl) (kind : MapKind) (reply : Reply) → decl.kind ≡ kind → IsSharedReply decl ops.ReadAll reply → HasRowsOf kind reply
pair_rows decl kind (replies.Pairs rows) e h = λ k d l. subst (λ (x : MapKind). IsOfKind x (get_or rows k d).1) e (h k d l).1
pair_rows decl kind replies.Done e h = absurd h
pair_rows decl kind (replies.Value v) e h = absurd h
pair_rows decl kind (replies.Aggs rows) e h = absurd h
pair_rows decl kind (replies.Last b) e h = absurd h
pair_rows decl kind (replies.Stopped b) e h = absurd h

shared_rows : (o : Option MapDecl) (kind : MapKind) (reply : Reply) → IsSomeAnd o (λ decl. decl.kind ≡ kind) → IsSomeAnd o (λ decl. IsSharedReply decl ops.ReadAll reply) → HasRowsOf kind reply
shared_rows None kind reply e h = absurd h
shared_rows (Some decl) kind reply e h = pair_rows decl kind reply e h

agg_rows : (o : Option MapDecl) (kind : MapKind) (rows : List (List Value × Agg)) → IsSomeAnd o (λ decl. decl.kind ≡ kind) → IsSomeAnd o (λ decl. All (λ row. HasShape decl.key_shape row.0 × IsAggOf decl.kind row.1) rows) → All (λ row. IsAggOf kind row.1) rows
agg_rows None kind rows e h = absurd h
agg_rows (Some decl) kind rows e h = λ k d l. subst (λ (x : MapKind). IsAggOf x (get_or rows k d).1) e (h k d l).1

table_rows : (maps : List MapDecl) (m : MapId) (kind : MapKind) (reply : Reply) → IsSomeAnd (slice_get maps m.0) (λ decl. decl.kind ≡ kind) → IsTableReply maps (ops.Read m) reply → HasRowsOf kind reply
table_rows maps m kind (replies.Aggs rows) e h = agg_rows (slice_get maps m.0) kind rows e h
table_rows maps m kind (replies.Pairs rows) e h = absurd h
table_rows maps m kind replies.Done e h = absurd h
table_rows maps m kind (replies.Value v) e h = absurd h
table_rows maps m kind (replies.Last b) e h = absurd h
table_rows maps m kind (replies.Stopped b) e h = absurd h

rows_of : (setting : Setting) (m : MapId) (kind : MapKind) (place : ℕ) (reply : Reply) → IsSomeAnd (slice_get setting.maps m.0) (λ decl. decl.kind ≡ kind) → IsReplyOf setting.maps (holder kind m place) (sweep_op Read kind m) reply → HasRowsOf kind reply
rows_of setting m Ints place reply e h = shared_rows (slice_get setting.maps m.0) Ints reply e h
rows_of setting m Strs place reply e h = shared_rows (slice_get setting.maps m.0) Strs reply e h
rows_of setting m (Aggs kind) place reply e h = table_rows setting.maps m (Aggs kind) reply e h

pub rows-next : (setting : Setting) (m : MapId) (sweep : Sweep) (kind : MapKind) (actors place : ℕ) (before : List Reply) (reply : Reply) → CanSweep setting m kind actors → IsReplyOf setting.maps (holder kind m place) (sweep_op sweep kind m) reply →
    (sweep ≡ Read → All (HasRowsOf kind) before) → sweep ≡ Read → All (HasRowsOf kind) (before ++ reply ∷ [])
rows-next setting m sweep kind actors place before reply can h rows e =
    All-push (HasRowsOf kind) before reply (rows e) (rows_of setting m kind place reply can.declared (subst (λ (s : Sweep). IsReplyOf setting.maps (holder kind m place) (sweep_op s kind m) reply) e h))

-- ---- operations

some_and : (o : Option MapDecl) (P Q : MapDecl → Type 0) → ((d : MapDecl) → P d → Q d) → IsSomeAnd o P → IsSomeAnd o Q
some_and None P Q f h = absurd h
some_and (Some d) P Q f h = f d h

shared_kind : (kind : MapKind) (d : MapDecl) → d.kind ≡ kind → IsShared kind → IsShared d.kind
shared_kind kind d e h = subst (λ (k : MapKind). IsShared k) (sym e) h

agg_kind : (kind : MapKind) (d : MapDecl) → d.kind ≡ kind → IsAggregation kind → IsAggregation d.kind
agg_kind kind d e h = subst (λ (k : MapKind). IsAggregation k) (sym e) h

-- each object of a sweep takes its operation
pub sweep_step : (setting : Setting) (m : MapId) (sweep : Sweep) (kind : MapKind) (actors place : ℕ) → CanSweep setting m kind actors → place < holders kind actors → CanStep setting (holder kind m place) (sweep_op sweep kind m)
sweep_step setting m Read Ints actors place can l = (l, some_and (slice_get setting.maps m.0) _ _ (λ d e. (shared_kind Ints d e tt, tt)) can.declared)
sweep_step setting m Read Strs actors place can l = (l, some_and (slice_get setting.maps m.0) _ _ (λ d e. (shared_kind Strs d e tt, tt)) can.declared)
sweep_step setting m Read (Aggs a) actors place can l = (omega (arith, l, can.tables), some_and (slice_get setting.maps m.0) _ _ (λ d e. agg_kind (Aggs a) d e tt) can.declared)
sweep_step setting m Clear Ints actors place can l = (l, some_and (slice_get setting.maps m.0) _ _ (λ d e. (shared_kind Ints d e tt, tt)) can.declared)
sweep_step setting m Clear Strs actors place can l = (l, some_and (slice_get setting.maps m.0) _ _ (λ d e. (shared_kind Strs d e tt, tt)) can.declared)
sweep_step setting m Clear (Aggs a) actors place can l = (omega (arith, l, can.tables), some_and (slice_get setting.maps m.0) _ _ (λ d e. agg_kind (Aggs a) d e tt) can.declared)
sweep_step setting m Zero Ints actors place can l = (l, some_and (slice_get setting.maps m.0) _ _ (λ d e. (shared_kind Ints d e tt, tt)) can.declared)
sweep_step setting m Zero Strs actors place can l = (l, some_and (slice_get setting.maps m.0) _ _ (λ d e. (shared_kind Strs d e tt, tt)) can.declared)
sweep_step setting m Zero (Aggs a) actors place can l = (omega (arith, l, can.tables), some_and (slice_get setting.maps m.0) _ _ (λ d e. agg_kind (Aggs a) d e tt) can.declared)
