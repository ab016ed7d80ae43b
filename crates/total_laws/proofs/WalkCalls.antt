-- What calls a walk makes.
use Rattle.std.proofs.Common.{◌≡◌, ◌++◌, ◌+◌, ℕ, zero, suc, ℤ, List, [], ◌∷◌, Bool, true, false, map, refl, sym, subst}
use Rattle.std.specs.Prelude.{Option, Some, None}
use Rattle.bt_core.specs.declared.context.Context.{Context}
use Rattle.bt_core.specs.declared.item.Item.{Item}
use Rattle.bt_core.specs.declared.item.Item.TheVariants as items
use Rattle.bt_core.specs.declared.map.MapId.{MapId}
use Rattle.bt_core.specs.declared.map.MapKind.{MapKind}
use Rattle.bt_core.specs.declared.map.MapKind.TheVariants.{Ints, Strs, Aggs}
use Rattle.bt_core.specs.declared.step.ObjectId.{ObjectId}
use Rattle.bt_core.specs.declared.step.ObjectId.TheVariants.{Clock, Out, Cpu}
use Rattle.bt_core.specs.declared.step.Op.{Op}
use Rattle.bt_core.specs.declared.step.Op.TheVariants as ops
use Rattle.bt_core.specs.declared.step.Reply.{Reply}
use Rattle.bt_core.specs.declared.value.Value.{Value}
use Rattle.bt_core.specs.Interaction.{Interaction, Ended, Asks, and_then}
use Rattle.typed_tree.specs.declared.body.TypedBody.{TypedBody}
use Rattle.typed_tree.specs.declared.expr.AnyExpr.{AnyExpr, roll-AnyExpr, map-AnyExpr, fold-roll-AnyExpr, ind-AnyExpr}
use Rattle.typed_tree.specs.declared.expr.AnyExpr.TheOpen.{NumExpr-F, StrExpr-F, AnyExpr-F}
use Rattle.typed_tree.specs.declared.expr.NumExpr.{NumExpr, roll-NumExpr, map-NumExpr, fold-roll-NumExpr, ind-NumExpr}
use Rattle.typed_tree.specs.declared.expr.StrExpr.{StrExpr, roll-StrExpr, map-StrExpr, fold-roll-StrExpr}
use Rattle.typed_tree.specs.declared.stmt.Jump.TheVariants as jumps
use Rattle.typed_tree.specs.declared.stmt.TypedBlock.{TypedBlock, roll-TypedBlock, map-TypedBlock, fold-roll-TypedBlock, ind-TypedBlock}
use Rattle.typed_tree.specs.declared.stmt.TypedStmt.{TypedStmt, roll-TypedStmt, map-TypedStmt, fold-roll-TypedStmt}
use Rattle.typed_tree.specs.declared.stmt.TypedStmt.TheOpen.{TypedStmt-F, TypedBlock-F}
use Rattle.typed_tree.specs.declared.stmt.TypedStmt.TheShapes.{former-TypedStmt-If-0-at-2}
use Rattle.walk_meaning.specs.declared.flow.Flow.{Flow}
use Rattle.walk_meaning.specs.declared.flow.Flow.TheVariants.{Next, Break, Continue, Stop}
use Rattle.walk_meaning.specs.declared.flow.Frame.{Frame}
use Rattle.map_ops.specs.declared.sweep.Sweep.{Sweep}
use Rattle.map_ops.specs.declared.sweep.Sweep.TheVariants.{Read, Clear, Zero}
use Rattle.walk_meaning.specs.Does.{BodyScene, Does, given, looked_at, changed, lifted, bind, choose, gathered, in_order, if_holds}
use Rattle.walk_meaning.specs.Exprs.{read, value_by_parts, number_by_parts, text_by_parts, value_does, values_do, number_does, text_does, step_at}
use Rattle.map_ops.specs.Holders.{part, holder, holders, sweep_op}
use Rattle.walk_meaning.specs.Maps.{get, set, delete, add, kind_in_body, sum_at}
use Rattle.map_ops.specs.Asking.{tells, got, asked_from, swept, printed, summed}
use Rattle.walk_meaning.specs.Stmts.{plain, stmt_by_parts, block_by_parts, stmt_does, block_does, number_or_one, print, clear, zero_all, if_next, in_sequence, first_arm, arm_does, cut, entered, turn, turns, tests, while_true, again}
use Rattle.walk_meaning.specs.Walk.{walk, first_frame, guarded, ending_of, tree_does}
use Rattle.total_laws.specs.WalkCalls.{IsWalkCall, OnlyCalls}

pub only-then : {A B : Type 0} (calls : ObjectId → Op → Type 0) (t : Interaction A) (k : A → Interaction B) → OnlyCalls calls t → ((a : A) → OnlyCalls calls (k a)) → OnlyCalls calls (and_then t k)
only-then calls (Ended a) k p q = q a
only-then calls (Asks c f) k p q = (p.0, λ reply. only-then calls (f reply) k (p.1 reply) q)

-- where each of these calls is one of those
pub only-weaker : {A : Type 0} (calls others : ObjectId → Op → Type 0) (t : Interaction A) → ((object : ObjectId) (op : Op) → calls object op → others object op) → OnlyCalls calls t → OnlyCalls others t
only-weaker calls others (Ended a) is p = tt
only-weaker calls others (Asks c f) is p = (is c.object c.op p.0, λ reply. only-weaker calls others (f reply) is (p.1 reply))

-- ---- words

-- whatever is seen, and from any frame
abbrev pub Calls : {A : Type 0} → Does A → Type 0
Calls d = (scene : BodyScene) (frame : Frame) → OnlyCalls (IsWalkCall scene.actor) (d scene frame)

given-calls : {A : Type 0} (a : A) → Calls (given a)
unfolding given
given-calls a scene frame = tt

looked_at-calls : {A : Type 0} (look : BodyScene → Frame → A) → Calls (looked_at look)
unfolding looked_at
looked_at-calls look scene frame = tt

changed-calls : (change : Frame → Frame) → Calls (changed change)
unfolding changed
changed-calls change scene frame = tt

bind-calls : {A B : Type 0} (d : Does A) (k : A → Does B) → Calls d → ((a : A) → Calls (k a)) → Calls (bind d k)
unfolding bind
bind-calls d k p q scene frame = only-then (IsWalkCall scene.actor) (d scene frame) (λ w. k w.0 scene w.1) (p scene frame) (λ w. q w.0 scene w.1)

-- what objects are asked, where it makes no other call
lifted-calls : {A : Type 0} (ask : BodyScene → Interaction A) → ((scene : BodyScene) → OnlyCalls (IsWalkCall scene.actor) (ask scene)) → Calls (lifted ask)
unfolding lifted
lifted-calls ask p scene frame = only-then (IsWalkCall scene.actor) (ask scene) (λ value. Ended (value, frame)) (p scene) (λ value. tt)

told-calls : (object : ObjectId) (op : Op) → ((actor : ℕ) → IsWalkCall actor object op) → Calls (lifted (λ scene. tells object op))
told-calls object op h = lifted-calls (λ scene. tells object op) (λ scene. (h scene.actor, λ reply. tt))

choose-calls : {A : Type 0} (b : Bool) (one other : Does A) → Calls one → Calls other → Calls (choose b one other)
unfolding choose
choose-calls true one other p q = p
choose-calls false one other p q = q

if_holds-calls : {A : Type 0} (test : Does ℤ) (one other : Does A) → Calls test → Calls one → Calls other → Calls (if_holds test one other)
if_holds-calls test one other t p q = bind-calls test (λ n. choose _ one other) t (λ n. choose-calls _ one other p q)

then-given : {A B : Type 0} (d : Does A) (f : A → B) → Calls d → Calls {A = B} (bind d (λ a. given (f a)))
then-given d f p = bind-calls d (λ a. given (f a)) p (λ a. given-calls (f a))

two-given : {A B C : Type 0} (d : Does A) (e : Does B) (f : A → B → C) → Calls d → Calls e → Calls {A = C} (bind d (λ a. bind e (λ b. given (f a b))))
two-given d e f p q = bind-calls d (λ a. bind e (λ b. given (f a b))) p (λ a. then-given e (f a) q)

-- ---- maps

of_holder : (sweep : Sweep) (kind : MapKind) (m : MapId) (n actor : ℕ) → IsWalkCall actor (holder kind m n) (sweep_op sweep kind m)
of_holder Read Ints m n actor = tt
of_holder Read Strs m n actor = tt
of_holder Read (Aggs kind) m n actor = tt
of_holder Clear Ints m n actor = tt
of_holder Clear Strs m n actor = tt
of_holder Clear (Aggs kind) m n actor = tt
of_holder Zero Ints m n actor = tt
of_holder Zero Strs m n actor = tt
of_holder Zero (Aggs kind) m n actor = tt

set-calls : (m : MapId) (key : List Value) (value : Value) → Calls (lifted (λ scene. tells (part m key) (ops.Set key value)))
set-calls m key value = told-calls (part m key) (ops.Set key value) (λ actor. refl)

get-calls : (m : MapId) (key : List Value) → Calls (get m key)
get-calls m key = lifted-calls (λ scene. got m key) (λ scene. (refl, λ reply. tt))

asked_from-only : (actor : ℕ) (object : ℕ → ObjectId) (op : Op) → ((n : ℕ) → IsWalkCall actor (object n) op) → (replies : List Reply) (first n : ℕ)
    → OnlyCalls (IsWalkCall actor) (asked_from object op replies first n)
asked_from-only actor object op p replies first zero = tt
asked_from-only actor object op p replies first (suc n) = (p first, λ reply. asked_from-only actor object op p (replies ++ reply ∷ []) (first + 1) n)

swept-only : (actor : ℕ) (sweep : Sweep) (kind : MapKind) (m : MapId) (actors : ℕ) → OnlyCalls (IsWalkCall actor) (swept sweep kind m actors)
swept-only actor sweep kind m actors =
    asked_from-only actor (holder kind m) (sweep_op sweep kind m) (λ n. of_holder sweep kind m n actor) [] 0 (holders kind actors)

printed-only : (actor : ℕ) (kind : MapKind) (m : MapId) (top : ℕ) (div : ℤ) (actors : ℕ) → OnlyCalls (IsWalkCall actor) (printed kind m top div actors)
printed-only actor kind m top div actors = only-then (IsWalkCall actor) (swept Read kind m actors) _ (swept-only actor Read kind m actors) (λ replies. (tt, λ reply. tt))

sweep-calls : (sweep : Sweep) (m : MapId) → Calls (lifted (λ scene. swept sweep (kind_in_body m scene.maps) m scene.actors))
sweep-calls sweep m =
    lifted-calls (λ scene. swept sweep (kind_in_body m scene.maps) m scene.actors) (λ scene. swept-only scene.actor sweep (kind_in_body m scene.maps) m scene.actors)

sum-calls : (m : MapId) (key : List Value) → Calls (sum_at m key)
sum-calls m key =
    lifted-calls (λ scene. summed m key scene.actors)
    (λ scene. only-then (IsWalkCall scene.actor) (asked_from Cpu (ops.Read m) [] 0 scene.actors) _ (asked_from-only scene.actor Cpu (ops.Read m) (λ n. tt) [] 0 scene.actors) (λ replies. tt))

-- ---- expressions

abbrev AnyCalls : AnyExpr → Type 0
AnyCalls a = Calls (value_does a)

abbrev NumCalls : NumExpr → Type 0
NumCalls n = Calls (number_does n)

abbrev StrCalls : StrExpr → Type 0
StrCalls s = Calls (text_does s)

abbrev ManyAny : Type 0
ManyAny = (a : AnyExpr) × AnyCalls a

abbrev ManyNum : Type 0
ManyNum = (n : NumExpr) × NumCalls n

abbrev ManyStr : Type 0
ManyStr = (s : StrExpr) × StrCalls s

abbrev firsts : List ManyAny → List AnyExpr
firsts ks = map (λ (k : ManyAny). k.0) ks

gathered-calls : (ks : List ManyAny) (vs : List Value) → Calls (gathered vs (map value_does (firsts ks)))
gathered-calls [] vs = given-calls vs
gathered-calls (k ∷ ks) vs =
    bind-calls (value_does k.0) (λ value. gathered (vs ++ value ∷ []) (map value_does (firsts ks))) k.1 (λ value. gathered-calls ks (vs ++ value ∷ []))

read-calls : (m : MapId) (ks : List ManyAny) → Calls (read m (map value_does (firsts ks)))
read-calls m ks = bind-calls (in_order (map value_does (firsts ks))) (λ key. get m key) (gathered-calls ks []) (λ key. get-calls m key)

step-calls : (m : MapId) (plus prefix : Bool) (key : List Value) → Calls (step_at m key plus prefix)
step-calls m plus prefix key = bind-calls (get m key) _ (get-calls m key) (λ old. then-given (set m key _) (λ u. _) (set-calls m key _))

abbrev num_of : NumExpr-F ManyAny ManyNum ManyStr → NumExpr-F AnyExpr NumExpr StrExpr
num_of h = map-NumExpr ManyAny ManyNum ManyStr AnyExpr NumExpr StrExpr (λ k. k.0) (λ k. k.0) (λ k. k.0) h

num_case : (h : NumExpr-F ManyAny ManyNum ManyStr)
    → Calls (number_by_parts (map-NumExpr AnyExpr NumExpr StrExpr (Does Value) (Does ℤ) (Does (List ℕ)) value_does number_does text_does (num_of h)))
num_case (NumExpr-F.Number n) = given-calls n
num_case (NumExpr-F.Builtin b) = looked_at-calls _
num_case (NumExpr-F.NumExpr::Field f) = looked_at-calls _
num_case (NumExpr-F.NumExpr::Var n) = looked_at-calls _
num_case (NumExpr-F.NumExpr::Map m ks) = then-given (read m (map value_does (firsts ks))) _ (read-calls m ks)
num_case (NumExpr-F.Agg m ks) =
    bind-calls (in_order (map value_does (firsts ks))) (λ key. sum_at m key) (gathered-calls ks []) (λ key. sum-calls m key)
num_case (NumExpr-F.StepVar n plus prefix) = bind-calls _ _ (looked_at-calls _) (λ old. then-given (changed _) _ (changed-calls _))
num_case (NumExpr-F.StepMap m ks plus prefix) =
    bind-calls (in_order (map value_does (firsts ks))) (λ key. step_at m key plus prefix) (gathered-calls ks []) (λ key. step-calls m plus prefix key)
num_case (NumExpr-F.Unary op d) = then-given (number_does d.0) _ d.1
num_case (NumExpr-F.Binary op l r) = two-given (number_does l.0) (number_does r.0) _ l.1 r.1
num_case (NumExpr-F.Compare equal l r) = two-given (text_does l.0) (text_does r.0) _ l.1 r.1
num_case (NumExpr-F.AndThen l r) = if_holds-calls (number_does l.0) _ _ l.1 (then-given (number_does r.0) _ r.1) (given-calls _)
num_case (NumExpr-F.OrElse l r) = if_holds-calls (number_does l.0) _ _ l.1 (given-calls _) (then-given (number_does r.0) _ r.1)
num_case (NumExpr-F.NumExpr::Choose t y o) = if_holds-calls (number_does t.0) (number_does y.0) (number_does o.0) t.1 y.1 o.1

abbrev str_of : StrExpr-F ManyAny ManyNum ManyStr → StrExpr-F AnyExpr NumExpr StrExpr
str_of h = map-StrExpr ManyAny ManyNum ManyStr AnyExpr NumExpr StrExpr (λ k. k.0) (λ k. k.0) (λ k. k.0) h

str_case : (h : StrExpr-F ManyAny ManyNum ManyStr)
    → Calls (text_by_parts (map-StrExpr AnyExpr NumExpr StrExpr (Does Value) (Does ℤ) (Does (List ℕ)) value_does number_does text_does (str_of h)))
str_case (StrExpr-F.Text s) = given-calls s
str_case StrExpr-F.Comm = looked_at-calls _
str_case (StrExpr-F.StrExpr::Field f) = looked_at-calls _
str_case (StrExpr-F.StrExpr::Var n) = looked_at-calls _
str_case (StrExpr-F.StrExpr::Map m ks) = then-given (read m (map value_does (firsts ks))) _ (read-calls m ks)
str_case (StrExpr-F.StrExpr::Choose t y o) = if_holds-calls (number_does t.0) (text_does y.0) (text_does o.0) t.1 y.1 o.1

abbrev any_of : AnyExpr-F ManyAny ManyNum ManyStr → AnyExpr-F AnyExpr NumExpr StrExpr
any_of h = map-AnyExpr ManyAny ManyNum ManyStr AnyExpr NumExpr StrExpr (λ k. k.0) (λ k. k.0) (λ k. k.0) h

any_case : (h : AnyExpr-F ManyAny ManyNum ManyStr)
    → Calls (value_by_parts (map-AnyExpr AnyExpr NumExpr StrExpr (Does Value) (Does ℤ) (Does (List ℕ)) value_does number_does text_does (any_of h)))
any_case (AnyExpr-F.Num d) = then-given (number_does d.0) _ d.1
any_case (AnyExpr-F.Str d) = then-given (text_does d.0) _ d.1

num_step : (x : NumExpr-F AnyExpr NumExpr StrExpr) (h : NumExpr-F ManyAny ManyNum ManyStr) → num_of h ≡ x → NumCalls (roll-NumExpr x)
num_step x h e = subst (λ (y : NumExpr-F AnyExpr NumExpr StrExpr). NumCalls (roll-NumExpr y)) e
    (subst (λ (d : Does ℤ). Calls d) (sym (fold-roll-NumExpr (Does Value) (Does ℤ) (Does (List ℕ)) value_by_parts number_by_parts text_by_parts (num_of h))) (num_case h))

str_step : (x : StrExpr-F AnyExpr NumExpr StrExpr) (h : StrExpr-F ManyAny ManyNum ManyStr) → str_of h ≡ x → StrCalls (roll-StrExpr x)
str_step x h e = subst (λ (y : StrExpr-F AnyExpr NumExpr StrExpr). StrCalls (roll-StrExpr y)) e
    (subst (λ (d : Does (List ℕ)). Calls d) (sym (fold-roll-StrExpr (Does Value) (Does ℤ) (Does (List ℕ)) value_by_parts number_by_parts text_by_parts (str_of h))) (str_case h))

any_step : (x : AnyExpr-F AnyExpr NumExpr StrExpr) (h : AnyExpr-F ManyAny ManyNum ManyStr) → any_of h ≡ x → AnyCalls (roll-AnyExpr x)
any_step x h e = subst (λ (y : AnyExpr-F AnyExpr NumExpr StrExpr). AnyCalls (roll-AnyExpr y)) e
    (subst (λ (d : Does Value). Calls d) (sym (fold-roll-AnyExpr (Does Value) (Does ℤ) (Does (List ℕ)) value_by_parts number_by_parts text_by_parts (any_of h))) (any_case h))

num_calls : (e : NumExpr) → NumCalls e
num_calls e = ind-NumExpr AnyCalls NumCalls StrCalls any_step num_step str_step e

any_calls : (e : AnyExpr) → AnyCalls e
any_calls e = ind-AnyExpr AnyCalls NumCalls StrCalls any_step num_step str_step e

values-calls : (es : List AnyExpr) (vs : List Value) → Calls (gathered vs (values_do es))
values-calls [] vs = given-calls vs
values-calls (e ∷ es) vs =
    bind-calls (value_does e) (λ value. gathered (vs ++ value ∷ []) (values_do es)) (any_calls e) (λ value. values-calls es (vs ++ value ∷ []))

-- ---- statements

flow-calls : (flow : Flow) → Calls (given flow)
flow-calls flow = given-calls flow

plain-calls : {A : Type 0} (d : Does A) → Calls d → Calls (plain d)
plain-calls d p = then-given d (λ u. Next) p

emit-calls : (item : Item) → Calls (plain (lifted (λ scene. tells Out (ops.Emit item))))
emit-calls item = plain-calls (lifted (λ scene. tells Out (ops.Emit item))) (told-calls Out (ops.Emit item) (λ actor. tt))

print-calls : (m : MapId) (top : ℕ) (div : ℤ) → Calls (print m top div)
print-calls m top div =
    plain-calls (lifted (λ scene. printed (kind_in_body m scene.maps) m top div scene.actors))
    (lifted-calls (λ scene. printed (kind_in_body m scene.maps) m top div scene.actors) (λ scene. printed-only scene.actor (kind_in_body m scene.maps) m top div scene.actors))

clear-calls : (m : MapId) → Calls (clear m)
clear-calls m = plain-calls (lifted (λ scene. swept Clear (kind_in_body m scene.maps) m scene.actors)) (sweep-calls Clear m)

zero-calls : (m : MapId) → Calls (zero_all m)
zero-calls m = plain-calls (lifted (λ scene. swept Zero (kind_in_body m scene.maps) m scene.actors)) (sweep-calls Zero m)

cut-calls : (line : ℕ) → Calls (cut line)
cut-calls line = then-given (lifted (λ scene. tells Out (ops.Emit (items.Cut line)))) (λ u. _) (told-calls Out (ops.Emit (items.Cut line)) (λ actor. tt))

entered-calls : (line : ℕ) (block : Does Flow) (n : ℕ) → Calls block → Calls (entered line block n)
entered-calls line block zero p = cut-calls line
entered-calls line block (suc left) p = bind-calls (changed _) (λ u. block) (changed-calls _) (λ u. p)

turn-calls : (line : ℕ) (block : Does Flow) → Calls block → Calls (turn line block)
turn-calls line block p = bind-calls _ (entered line block) (looked_at-calls _) (λ n. entered-calls line block n p)

again-calls : (flow : Flow) (rest : Does Flow) → Calls rest → Calls (again flow rest)
again-calls Next rest p = p
again-calls Break rest p = flow-calls Next
again-calls Continue rest p = p
again-calls (Stop e) rest p = flow-calls (Stop e)

turns-calls : (n line : ℕ) (block : Does Flow) → Calls block → Calls (turns n line block)
turns-calls zero line block p = flow-calls Next
turns-calls (suc n) line block p = bind-calls (turn line block) (λ flow. again flow (turns n line block)) (turn-calls line block p)
    (λ flow. again-calls flow (turns n line block) (turns-calls n line block p))

tests-calls : (n line : ℕ) (test : Does ℤ) (block : Does Flow) → Calls test → Calls block → Calls (tests n line test block)
tests-calls zero line test block t p = flow-calls Next
tests-calls (suc n) line test block t p =
    if_holds-calls test (bind (turn line block) (λ flow. again flow (tests n line test block))) (given Next) t
    (bind-calls (turn line block) (λ flow. again flow (tests n line test block)) (turn-calls line block p)
    (λ flow. again-calls flow (tests n line test block) (tests-calls n line test block t p)))
    (flow-calls Next)

while-calls : (line : ℕ) (test : Does ℤ) (block : Does Flow) → Calls test → Calls block → Calls (while_true line test block)
while-calls line test block t p = bind-calls _ (λ left. tests (suc left) line test block) (looked_at-calls _) (λ left. tests-calls (suc left) line test block t p)

if_next-calls : (flow : Flow) (rest : Does Flow) → Calls rest → Calls (if_next flow rest)
if_next-calls Next rest p = p
if_next-calls Break rest p = flow-calls Break
if_next-calls Continue rest p = flow-calls Continue
if_next-calls (Stop e) rest p = flow-calls (Stop e)

abbrev StmtCalls : TypedStmt → Type 0
StmtCalls s = Calls (stmt_does s)

abbrev BlockCalls : TypedBlock → Type 0
BlockCalls b = Calls (block_does b)

abbrev ManyStmt : Type 0
ManyStmt = (s : TypedStmt) × StmtCalls s

abbrev ManyBlock : Type 0
ManyBlock = (b : TypedBlock) × BlockCalls b

stmts-calls : (ss : List ManyStmt) → Calls (in_sequence (map stmt_does (map (λ (k : ManyStmt). k.0) ss)))
stmts-calls [] = flow-calls Next
stmts-calls (s ∷ ss) =
    let rest = in_sequence (map stmt_does (map (λ (k : ManyStmt). k.0) ss)) in
    bind-calls (stmt_does s.0) (λ flow. if_next flow rest) s.1 (λ flow. if_next-calls flow rest (stmts-calls ss))

abbrev blocks_of : List (NumExpr × ManyBlock) → List (NumExpr × TypedBlock)
blocks_of arms = map (former-TypedStmt-If-0-at-2.map ManyBlock TypedBlock (λ k. k.0)) arms

arms-calls : (arms : List (NumExpr × ManyBlock)) (otherwise : Does Flow) → Calls otherwise
    → Calls (first_arm (map arm_does (map (former-TypedStmt-If-0-at-2.map TypedBlock (Does Flow) block_does) (blocks_of arms))) otherwise)
arms-calls [] otherwise p = p
arms-calls (arm ∷ arms) otherwise p = if_holds-calls (number_does arm.0) (block_does arm.1.0) _ (num_calls arm.0) arm.1.1 (arms-calls arms otherwise p)

abbrev stmt_of : TypedStmt-F ManyStmt ManyBlock → TypedStmt-F TypedStmt TypedBlock
stmt_of h = map-TypedStmt ManyStmt ManyBlock TypedStmt TypedBlock (λ k. k.0) (λ k. k.0) h

number-calls : (e : Option NumExpr) → Calls (number_or_one e)
number-calls None = given-calls _
number-calls (Some e) = num_calls e

stmt_case : (h : TypedStmt-F ManyStmt ManyBlock)
    → Calls (stmt_by_parts (map-TypedStmt TypedStmt TypedBlock (Does Flow) (Does Flow) stmt_does block_does (stmt_of h)))
stmt_case (TypedStmt-F.SetVar var value) = bind-calls (value_does value) _ (any_calls value) (λ x. plain-calls (changed _) (changed-calls _))
stmt_case (TypedStmt-F.SetMap m keys value) =
    bind-calls (in_order (values_do keys)) _ (values-calls keys []) (λ key. bind-calls (value_does value) _ (any_calls value)
    (λ x. plain-calls (set m key x) (set-calls m key x)))
stmt_case (TypedStmt-F.UpdateVar var op e) =
    bind-calls (number_does e) _ (num_calls e) (λ b. bind-calls _ _ (looked_at-calls _) (λ a. plain-calls (changed _) (changed-calls _)))
stmt_case (TypedStmt-F.UpdateMap m keys op e) =
    bind-calls (in_order (values_do keys)) _ (values-calls keys []) (λ key. bind-calls (number_does e) _ (num_calls e)
    (λ b. bind-calls (get m key) _ (get-calls m key) (λ old. plain-calls (set m key _) (set-calls m key _))))
stmt_case (TypedStmt-F.Gather m keys kind number) =
    bind-calls (in_order (values_do keys)) _ (values-calls keys []) (λ key. bind-calls (number_or_one number) _ (number-calls number)
    (λ n. plain-calls (add m key n) (lifted-calls (λ scene. tells (Cpu scene.actor) (ops.Add m key n)) (λ scene. (refl, λ reply. tt)))))
stmt_case (TypedStmt-F.Step e) = plain-calls (number_does e) (num_calls e)
stmt_case (TypedStmt-F.Printf format es) = bind-calls (in_order (values_do es)) _ (values-calls es []) (λ values. emit-calls _)
stmt_case (TypedStmt-F.Print m top div) = print-calls m top div
stmt_case (TypedStmt-F.Clear m) = clear-calls m
stmt_case (TypedStmt-F.Zero m) = zero-calls m
stmt_case (TypedStmt-F.Delete m keys) =
    bind-calls (in_order (values_do keys)) _ (values-calls keys []) (λ key. plain-calls (delete m key) (told-calls (part m key) (ops.Delete key) (λ actor. refl)))
stmt_case (TypedStmt-F.Jump jumps.Break) = flow-calls Break
stmt_case (TypedStmt-F.Jump jumps.Continue) = flow-calls Continue
stmt_case (TypedStmt-F.Jump jumps.Exit) = then-given (lifted (λ scene. tells Clock ops.Stop)) (λ u. _) (told-calls Clock ops.Stop (λ actor. tt))
stmt_case (TypedStmt-F.Jump jumps.Return) = flow-calls (Stop _)
stmt_case (TypedStmt-F.If arms None) = arms-calls arms (given Next) (flow-calls Next)
stmt_case (TypedStmt-F.If arms (Some b)) = arms-calls arms (block_does b.0) b.1
stmt_case (TypedStmt-F.While test b line) = while-calls line (number_does test) (block_does b.0) (num_calls test) b.1
stmt_case (TypedStmt-F.Unroll n b line) = turns-calls n line (block_does b.0) b.1

stmt_step : (x : TypedStmt-F TypedStmt TypedBlock) (h : TypedStmt-F ManyStmt ManyBlock) → stmt_of h ≡ x → StmtCalls (roll-TypedStmt x)
stmt_step x h e = subst (λ (y : TypedStmt-F TypedStmt TypedBlock). StmtCalls (roll-TypedStmt y)) e
    (subst (λ (d : Does Flow). Calls d) (sym (fold-roll-TypedStmt (Does Flow) (Does Flow) stmt_by_parts block_by_parts (stmt_of h))) (stmt_case h))

abbrev block_of : TypedBlock-F ManyStmt ManyBlock → TypedBlock-F TypedStmt TypedBlock
block_of h = map-TypedBlock ManyStmt ManyBlock TypedStmt TypedBlock (λ k. k.0) (λ k. k.0) h

block_step : (x : TypedBlock-F TypedStmt TypedBlock) (h : TypedBlock-F ManyStmt ManyBlock) → block_of h ≡ x → BlockCalls (roll-TypedBlock x)
block_step x h e = subst (λ (y : TypedBlock-F TypedStmt TypedBlock). BlockCalls (roll-TypedBlock y)) e
    (subst (λ (d : Does Flow). Calls d) (sym (fold-roll-TypedBlock (Does Flow) (Does Flow) stmt_by_parts block_by_parts (block_of h))) (stmts-calls h.stmts))

block_calls : (b : TypedBlock) → BlockCalls b
block_calls b = ind-TypedBlock StmtCalls BlockCalls stmt_step block_step b

guarded-calls : (predicate : Option NumExpr) (block : TypedBlock) → Calls (guarded predicate (block_does block))
guarded-calls None block = block_calls block
guarded-calls (Some e) block = if_holds-calls (number_does e) (block_does block) (given Next) (num_calls e) (block_calls block) (flow-calls Next)

-- ---- whole bodies

pub walk_calls : (body : TypedBody) (context : Context) (payload : List ℕ) (actor actors : ℕ) → OnlyCalls (IsWalkCall actor) (walk body context payload actor actors)
unfolding walk
walk_calls body context payload actor actors =
    only-then (IsWalkCall actor) (tree_does body.tree _ (first_frame body.tree.variables)) (λ p. Ended p.0)
    (then-given (guarded body.tree.predicate (block_does body.tree.block)) ending_of (guarded-calls body.tree.predicate body.tree.block) _ (first_frame body.tree.variables)) (λ p. tt)
