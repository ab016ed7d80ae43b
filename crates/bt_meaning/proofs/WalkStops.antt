-- A walk makes no operation at the clock but a stop.
use Rattle.std.proofs.Common.{◌≡◌, ◌++◌, ◌+◌, ℕ, zero, suc, ℤ, List, [], ◌∷◌, Bool, true, false, map, refl, sym, subst}
use Rattle.std.specs.Prelude.{Option, Some, None}
use Rattle.bt_core.specs.declared.context.Context.{Context}
use Rattle.bt_core.specs.declared.item.Item.TheVariants as items
use Rattle.bt_core.specs.declared.map.MapId.{MapId}
use Rattle.bt_core.specs.declared.map.MapKind.{MapKind}
use Rattle.bt_core.specs.declared.map.MapKind.TheVariants.{Ints, Strs, Aggs}
use Rattle.bt_core.specs.declared.step.ObjectId.{ObjectId}
use Rattle.bt_core.specs.declared.step.ObjectId.TheVariants.{Clock, Out, Cpu}
use Rattle.bt_core.specs.declared.step.Op.{Op}
use Rattle.bt_core.specs.declared.step.Op.TheVariants as ops
use Rattle.bt_core.specs.declared.step.Reply.{Reply}
use Rattle.bt_core.specs.declared.value.Value.{Value}
use Rattle.bt_core.specs.Interaction.{Interaction, Ended, Asks, and_then}
use Rattle.typed_tree.specs.declared.body.TypedBody.{TypedBody}
use Rattle.typed_tree.specs.declared.expr.AnyExpr.{AnyExpr, roll-AnyExpr, map-AnyExpr, fold-roll-AnyExpr, ind-AnyExpr}
use Rattle.typed_tree.specs.declared.expr.AnyExpr.TheOpen.{NumExpr-F, StrExpr-F, AnyExpr-F}
use Rattle.typed_tree.specs.declared.expr.NumExpr.{NumExpr, roll-NumExpr, map-NumExpr, fold-roll-NumExpr, ind-NumExpr}
use Rattle.typed_tree.specs.declared.expr.StrExpr.{StrExpr, roll-StrExpr, map-StrExpr, fold-roll-StrExpr}
use Rattle.typed_tree.specs.declared.stmt.Jump.TheVariants as jumps
use Rattle.typed_tree.specs.declared.stmt.TypedBlock.{TypedBlock, roll-TypedBlock, map-TypedBlock, fold-roll-TypedBlock, ind-TypedBlock}
use Rattle.typed_tree.specs.declared.stmt.TypedStmt.{TypedStmt, roll-TypedStmt, map-TypedStmt, fold-roll-TypedStmt}
use Rattle.typed_tree.specs.declared.stmt.TypedStmt.TheOpen.{TypedStmt-F, TypedBlock-F}
use Rattle.typed_tree.specs.declared.stmt.TypedStmt.TheShapes.{former-TypedStmt-If-0-at-2}
use Rattle.walk_meaning.specs.declared.flow.Flow.{Flow}
use Rattle.walk_meaning.specs.declared.flow.Flow.TheVariants.{Next, Break, Continue, Stop}
use Rattle.walk_meaning.specs.declared.flow.Frame.{Frame}
use Rattle.map_ops.specs.declared.sweep.Sweep.{Sweep}
use Rattle.map_ops.specs.declared.sweep.Sweep.TheVariants.{Read, Clear, Zero}
use Rattle.walk_meaning.specs.Does.{BodyScene, Does, given, looked_at, changed, lifted, bind, choose, gathered, in_order, if_holds}
use Rattle.walk_meaning.specs.Exprs.{read, value_by_parts, number_by_parts, text_by_parts, value_does, values_do, number_does, text_does, step_at}
use Rattle.map_ops.specs.Holders.{part, holder, holders, sweep_op}
use Rattle.walk_meaning.specs.Maps.{get, set, delete, add, kind_in_body, sum_at}
use Rattle.map_ops.specs.Asking.{tells, got, asked_from, swept, printed, summed}
use Rattle.walk_meaning.specs.Stmts.{plain, stmt_by_parts, block_by_parts, stmt_does, block_does, number_or_one, print, clear, zero_all, if_next, in_sequence, first_arm, arm_does, cut, entered, turn, turns, tests, while_true, again}
use Rattle.walk_meaning.specs.Walk.{walk, first_frame, guarded, ending_of, tree_does}
use Rattle.bt_meaning.specs.Ticks.{OnlyStops}

pub stops-then : {A B : Type 0} (t : Interaction A) (k : A → Interaction B) → OnlyStops t → ((a : A) → OnlyStops (k a)) → OnlyStops (and_then t k)
stops-then (Ended a) k p q = q a
stops-then (Asks c f) k p q = (p.0, λ reply. stops-then (f reply) k (p.1 reply) q)

-- ---- words

-- whatever is seen, and from any frame
abbrev pub Stops : {A : Type 0} → Does A → Type 0
Stops d = (scene : BodyScene) (frame : Frame) → OnlyStops (d scene frame)

given-stops : {A : Type 0} (a : A) → Stops (given a)
unfolding given
given-stops a scene frame = tt

looked_at-stops : {A : Type 0} (look : BodyScene → Frame → A) → Stops (looked_at look)
unfolding looked_at
looked_at-stops look scene frame = tt

changed-stops : (change : Frame → Frame) → Stops (changed change)
unfolding changed
changed-stops change scene frame = tt

bind-stops : {A B : Type 0} (d : Does A) (k : A → Does B) → Stops d → ((a : A) → Stops (k a)) → Stops (bind d k)
unfolding bind
bind-stops d k p q scene frame = stops-then (d scene frame) (λ w. k w.0 scene w.1) (p scene frame) (λ w. q w.0 scene w.1)

-- what objects are asked, where it makes no other call
lifted-stops : {A : Type 0} (ask : BodyScene → Interaction A) → ((scene : BodyScene) → OnlyStops (ask scene)) → Stops (lifted ask)
unfolding lifted
lifted-stops ask p scene frame = stops-then (ask scene) (λ value. Ended (value, frame)) (p scene) (λ value. tt)

told-only : (object : ObjectId) (op : Op) → (object ≡ Clock → op ≡ ops.Stop) → OnlyStops (tells object op)
told-only object op h = (h, λ reply. tt)

told-stops : (object : ObjectId) (op : Op) → (object ≡ Clock → op ≡ ops.Stop) → Stops (lifted (λ scene. tells object op))
told-stops object op h = lifted-stops (λ scene. tells object op) (λ scene. told-only object op h)

choose-stops : {A : Type 0} (b : Bool) (one other : Does A) → Stops one → Stops other → Stops (choose b one other)
unfolding choose
choose-stops true one other p q = p
choose-stops false one other p q = q

if_holds-stops : {A : Type 0} (test : Does ℤ) (one other : Does A) → Stops test → Stops one → Stops other → Stops (if_holds test one other)
if_holds-stops test one other t p q = bind-stops test (λ n. choose _ one other) t (λ n. choose-stops _ one other p q)

then-given : {A B : Type 0} (d : Does A) (f : A → B) → Stops d → Stops {A = B} (bind d (λ a. given (f a)))
then-given d f p = bind-stops d (λ a. given (f a)) p (λ a. given-stops (f a))

two-given : {A B C : Type 0} (d : Does A) (e : Does B) (f : A → B → C) → Stops d → Stops e → Stops {A = C} (bind d (λ a. bind e (λ b. given (f a b))))
two-given d e f p q = bind-stops d (λ a. bind e (λ b. given (f a b))) p (λ a. then-given e (f a) q)

-- ---- maps

not_part : (m : MapId) (key : List Value) (op : Op) → part m key ≡ Clock → op ≡ ops.Stop
not_part m key op e = absurd cc

not_cpu : (a : ℕ) (op : Op) → Cpu a ≡ Clock → op ≡ ops.Stop
not_cpu a op e = absurd cc

not_out : (op : Op) → Out ≡ Clock → op ≡ ops.Stop
not_out op e = absurd cc

not_holder : (kind : MapKind) (m : MapId) (n : ℕ) (op : Op) → holder kind m n ≡ Clock → op ≡ ops.Stop
not_holder Ints m n op e = absurd cc
not_holder Strs m n op e = absurd cc
not_holder (Aggs kind) m n op e = absurd cc

at_part : (m : MapId) (key : List Value) (op : Op) → Stops (lifted (λ scene. tells (part m key) op))
at_part m key op = told-stops (part m key) op (not_part m key op)

get-stops : (m : MapId) (key : List Value) → Stops (get m key)
get-stops m key = lifted-stops (λ scene. got m key) (λ scene. (not_part m key (ops.Get key), λ reply. tt))

asked_from-only : (object : ℕ → ObjectId) (op : Op) → ((n : ℕ) → object n ≡ Clock → op ≡ ops.Stop) → (replies : List Reply) (first n : ℕ) → OnlyStops (asked_from object op replies first n)
asked_from-only object op p replies first zero = tt
asked_from-only object op p replies first (suc n) = (p first, λ reply. asked_from-only object op p (replies ++ reply ∷ []) (first + 1) n)

swept-only : (sweep : Sweep) (kind : MapKind) (m : MapId) (actors : ℕ) → OnlyStops (swept sweep kind m actors)
swept-only sweep kind m actors = asked_from-only (holder kind m) (sweep_op sweep kind m) (λ n. not_holder kind m n (sweep_op sweep kind m)) [] 0 (holders kind actors)

printed-only : (kind : MapKind) (m : MapId) (top : ℕ) (div : ℤ) (actors : ℕ) → OnlyStops (printed kind m top div actors)
printed-only kind m top div actors = stops-then (swept Read kind m actors) _ (swept-only Read kind m actors) (λ replies. told-only Out _ (not_out _))

sweep-stops : (sweep : Sweep) (m : MapId) → Stops (lifted (λ scene. swept sweep (kind_in_body m scene.maps) m scene.actors))
sweep-stops sweep m =
    lifted-stops (λ scene. swept sweep (kind_in_body m scene.maps) m scene.actors) (λ scene. swept-only sweep (kind_in_body m scene.maps) m scene.actors)

sum-stops : (m : MapId) (key : List Value) → Stops (sum_at m key)
sum-stops m key =
    lifted-stops (λ scene. summed m key scene.actors)
    (λ scene. stops-then (asked_from Cpu (ops.Read m) [] 0 scene.actors) _ (asked_from-only Cpu (ops.Read m) (λ n. not_cpu n (ops.Read m)) [] 0 scene.actors) (λ replies. tt))

-- ---- expressions

abbrev AnyStops : AnyExpr → Type 0
AnyStops a = Stops (value_does a)

abbrev NumStops : NumExpr → Type 0
NumStops n = Stops (number_does n)

abbrev StrStops : StrExpr → Type 0
StrStops s = Stops (text_does s)

abbrev ManyAny : Type 0
ManyAny = (a : AnyExpr) × AnyStops a

abbrev ManyNum : Type 0
ManyNum = (n : NumExpr) × NumStops n

abbrev ManyStr : Type 0
ManyStr = (s : StrExpr) × StrStops s

abbrev firsts : List ManyAny → List AnyExpr
firsts ks = map (λ (k : ManyAny). k.0) ks

gathered-stops : (ks : List ManyAny) (vs : List Value) → Stops (gathered vs (map value_does (firsts ks)))
gathered-stops [] vs = given-stops vs
gathered-stops (k ∷ ks) vs =
    bind-stops (value_does k.0) (λ value. gathered (vs ++ value ∷ []) (map value_does (firsts ks))) k.1 (λ value. gathered-stops ks (vs ++ value ∷ []))

read-stops : (m : MapId) (ks : List ManyAny) → Stops (read m (map value_does (firsts ks)))
read-stops m ks = bind-stops (in_order (map value_does (firsts ks))) (λ key. get m key) (gathered-stops ks []) (λ key. get-stops m key)

step-stops : (m : MapId) (plus prefix : Bool) (key : List Value) → Stops (step_at m key plus prefix)
step-stops m plus prefix key = bind-stops (get m key) _ (get-stops m key) (λ old. then-given (set m key _) (λ u. _) (at_part m key _))

abbrev num_of : NumExpr-F ManyAny ManyNum ManyStr → NumExpr-F AnyExpr NumExpr StrExpr
num_of h = map-NumExpr ManyAny ManyNum ManyStr AnyExpr NumExpr StrExpr (λ k. k.0) (λ k. k.0) (λ k. k.0) h

num_case : (h : NumExpr-F ManyAny ManyNum ManyStr)
    → Stops (number_by_parts (map-NumExpr AnyExpr NumExpr StrExpr (Does Value) (Does ℤ) (Does (List ℕ)) value_does number_does text_does (num_of h)))
num_case (NumExpr-F.Number n) = given-stops n
num_case (NumExpr-F.Builtin b) = looked_at-stops _
num_case (NumExpr-F.NumExpr::Field f) = looked_at-stops _
num_case (NumExpr-F.NumExpr::Var n) = looked_at-stops _
num_case (NumExpr-F.NumExpr::Map m ks) = then-given (read m (map value_does (firsts ks))) _ (read-stops m ks)
num_case (NumExpr-F.Agg m ks) =
    bind-stops (in_order (map value_does (firsts ks))) (λ key. sum_at m key) (gathered-stops ks []) (λ key. sum-stops m key)
num_case (NumExpr-F.StepVar n plus prefix) = bind-stops _ _ (looked_at-stops _) (λ old. then-given (changed _) _ (changed-stops _))
num_case (NumExpr-F.StepMap m ks plus prefix) =
    bind-stops (in_order (map value_does (firsts ks))) (λ key. step_at m key plus prefix) (gathered-stops ks []) (λ key. step-stops m plus prefix key)
num_case (NumExpr-F.Unary op d) = then-given (number_does d.0) _ d.1
num_case (NumExpr-F.Binary op l r) = two-given (number_does l.0) (number_does r.0) _ l.1 r.1
num_case (NumExpr-F.Compare equal l r) = two-given (text_does l.0) (text_does r.0) _ l.1 r.1
num_case (NumExpr-F.AndThen l r) = if_holds-stops (number_does l.0) _ _ l.1 (then-given (number_does r.0) _ r.1) (given-stops _)
num_case (NumExpr-F.OrElse l r) = if_holds-stops (number_does l.0) _ _ l.1 (given-stops _) (then-given (number_does r.0) _ r.1)
num_case (NumExpr-F.NumExpr::Choose t y o) = if_holds-stops (number_does t.0) (number_does y.0) (number_does o.0) t.1 y.1 o.1

abbrev str_of : StrExpr-F ManyAny ManyNum ManyStr → StrExpr-F AnyExpr NumExpr StrExpr
str_of h = map-StrExpr ManyAny ManyNum ManyStr AnyExpr NumExpr StrExpr (λ k. k.0) (λ k. k.0) (λ k. k.0) h

str_case : (h : StrExpr-F ManyAny ManyNum ManyStr)
    → Stops (text_by_parts (map-StrExpr AnyExpr NumExpr StrExpr (Does Value) (Does ℤ) (Does (List ℕ)) value_does number_does text_does (str_of h)))
str_case (StrExpr-F.Text s) = given-stops s
str_case StrExpr-F.Comm = looked_at-stops _
str_case (StrExpr-F.StrExpr::Field f) = looked_at-stops _
str_case (StrExpr-F.StrExpr::Var n) = looked_at-stops _
str_case (StrExpr-F.StrExpr::Map m ks) = then-given (read m (map value_does (firsts ks))) _ (read-stops m ks)
str_case (StrExpr-F.StrExpr::Choose t y o) = if_holds-stops (number_does t.0) (text_does y.0) (text_does o.0) t.1 y.1 o.1

abbrev any_of : AnyExpr-F ManyAny ManyNum ManyStr → AnyExpr-F AnyExpr NumExpr StrExpr
any_of h = map-AnyExpr ManyAny ManyNum ManyStr AnyExpr NumExpr StrExpr (λ k. k.0) (λ k. k.0) (λ k. k.0) h

any_case : (h : AnyExpr-F ManyAny ManyNum ManyStr)
    → Stops (value_by_parts (map-AnyExpr AnyExpr NumExpr StrExpr (Does Value) (Does ℤ) (Does (List ℕ)) value_does number_does text_does (any_of h)))
any_case (AnyExpr-F.Num d) = then-given (number_does d.0) _ d.1
any_case (AnyExpr-F.Str d) = then-given (text_does d.0) _ d.1

num_step : (x : NumExpr-F AnyExpr NumExpr StrExpr) (h : NumExpr-F ManyAny ManyNum ManyStr) → num_of h ≡ x → NumStops (roll-NumExpr x)
num_step x h e = subst (λ (y : NumExpr-F AnyExpr NumExpr StrExpr). NumStops (roll-NumExpr y)) e
    (subst (λ (d : Does ℤ). Stops d) (sym (fold-roll-NumExpr (Does Value) (Does ℤ) (Does (List ℕ)) value_by_parts number_by_parts text_by_parts (num_of h))) (num_case h))

str_step : (x : StrExpr-F AnyExpr NumExpr StrExpr) (h : StrExpr-F ManyAny ManyNum ManyStr) → str_of h ≡ x → StrStops (roll-StrExpr x)
str_step x h e = subst (λ (y : StrExpr-F AnyExpr NumExpr StrExpr). StrStops (roll-StrExpr y)) e
    (subst (λ (d : Does (List ℕ)). Stops d) (sym (fold-roll-StrExpr (Does Value) (Does ℤ) (Does (List ℕ)) value_by_parts number_by_parts text_by_parts (str_of h))) (str_case h))

any_step : (x : AnyExpr-F AnyExpr NumExpr StrExpr) (h : AnyExpr-F ManyAny ManyNum ManyStr) → any_of h ≡ x → AnyStops (roll-AnyExpr x)
any_step x h e = subst (λ (y : AnyExpr-F AnyExpr NumExpr StrExpr). AnyStops (roll-AnyExpr y)) e
    (subst (λ (d : Does Value). Stops d) (sym (fold-roll-AnyExpr (Does Value) (Does ℤ) (Does (List ℕ)) value_by_parts number_by_parts text_by_parts (any_of h))) (any_case h))

num_stops : (e : NumExpr) → NumStops e
num_stops e = ind-NumExpr AnyStops NumStops StrStops any_step num_step str_step e

any_stops : (e : AnyExpr) → AnyStops e
any_stops e = ind-AnyExpr AnyStops NumStops StrStops any_step num_step str_step e

values-stops : (es : List AnyExpr) (vs : List Value) → Stops (gathered vs (values_do es))
values-stops [] vs = given-stops vs
values-stops (e ∷ es) vs =
    bind-stops (value_does e) (λ value. gathered (vs ++ value ∷ []) (values_do es)) (any_stops e) (λ value. values-stops es (vs ++ value ∷ []))

-- ---- statements

flow-stops : (flow : Flow) → Stops (given flow)
flow-stops flow = given-stops flow

plain-stops : {A : Type 0} (d : Does A) → Stops d → Stops (plain d)
plain-stops d p = then-given d (λ u. Next) p

emit-stops : (op : Op) → Stops (plain (lifted (λ scene. tells Out op)))
emit-stops op = plain-stops (lifted (λ scene. tells Out op)) (told-stops Out op (not_out op))

print-stops : (m : MapId) (top : ℕ) (div : ℤ) → Stops (print m top div)
print-stops m top div =
    plain-stops (lifted (λ scene. printed (kind_in_body m scene.maps) m top div scene.actors))
    (lifted-stops (λ scene. printed (kind_in_body m scene.maps) m top div scene.actors) (λ scene. printed-only (kind_in_body m scene.maps) m top div scene.actors))

clear-stops : (m : MapId) → Stops (clear m)
clear-stops m = plain-stops (lifted (λ scene. swept Clear (kind_in_body m scene.maps) m scene.actors)) (sweep-stops Clear m)

zero-stops : (m : MapId) → Stops (zero_all m)
zero-stops m = plain-stops (lifted (λ scene. swept Zero (kind_in_body m scene.maps) m scene.actors)) (sweep-stops Zero m)

cut-stops : (line : ℕ) → Stops (cut line)
cut-stops line = then-given (lifted (λ scene. tells Out (ops.Emit (items.Cut line)))) (λ u. _) (told-stops Out (ops.Emit (items.Cut line)) (not_out (ops.Emit (items.Cut line))))

entered-stops : (line : ℕ) (block : Does Flow) (n : ℕ) → Stops block → Stops (entered line block n)
entered-stops line block zero p = cut-stops line
entered-stops line block (suc left) p = bind-stops (changed _) (λ u. block) (changed-stops _) (λ u. p)

turn-stops : (line : ℕ) (block : Does Flow) → Stops block → Stops (turn line block)
turn-stops line block p = bind-stops _ (entered line block) (looked_at-stops _) (λ n. entered-stops line block n p)

again-stops : (flow : Flow) (rest : Does Flow) → Stops rest → Stops (again flow rest)
again-stops Next rest p = p
again-stops Break rest p = flow-stops Next
again-stops Continue rest p = p
again-stops (Stop e) rest p = flow-stops (Stop e)

turns-stops : (n line : ℕ) (block : Does Flow) → Stops block → Stops (turns n line block)
turns-stops zero line block p = flow-stops Next
turns-stops (suc n) line block p = bind-stops (turn line block) (λ flow. again flow (turns n line block)) (turn-stops line block p)
    (λ flow. again-stops flow (turns n line block) (turns-stops n line block p))

tests-stops : (n line : ℕ) (test : Does ℤ) (block : Does Flow) → Stops test → Stops block → Stops (tests n line test block)
tests-stops zero line test block t p = flow-stops Next
tests-stops (suc n) line test block t p =
    if_holds-stops test (bind (turn line block) (λ flow. again flow (tests n line test block))) (given Next) t
    (bind-stops (turn line block) (λ flow. again flow (tests n line test block)) (turn-stops line block p)
    (λ flow. again-stops flow (tests n line test block) (tests-stops n line test block t p)))
    (flow-stops Next)

while-stops : (line : ℕ) (test : Does ℤ) (block : Does Flow) → Stops test → Stops block → Stops (while_true line test block)
while-stops line test block t p = bind-stops _ (λ left. tests (suc left) line test block) (looked_at-stops _) (λ left. tests-stops (suc left) line test block t p)

if_next-stops : (flow : Flow) (rest : Does Flow) → Stops rest → Stops (if_next flow rest)
if_next-stops Next rest p = p
if_next-stops Break rest p = flow-stops Break
if_next-stops Continue rest p = flow-stops Continue
if_next-stops (Stop e) rest p = flow-stops (Stop e)

abbrev StmtStops : TypedStmt → Type 0
StmtStops s = Stops (stmt_does s)

abbrev BlockStops : TypedBlock → Type 0
BlockStops b = Stops (block_does b)

abbrev ManyStmt : Type 0
ManyStmt = (s : TypedStmt) × StmtStops s

abbrev ManyBlock : Type 0
ManyBlock = (b : TypedBlock) × BlockStops b

stmts-stops : (ss : List ManyStmt) → Stops (in_sequence (map stmt_does (map (λ (k : ManyStmt). k.0) ss)))
stmts-stops [] = flow-stops Next
stmts-stops (s ∷ ss) =
    let rest = in_sequence (map stmt_does (map (λ (k : ManyStmt). k.0) ss)) in
    bind-stops (stmt_does s.0) (λ flow. if_next flow rest) s.1 (λ flow. if_next-stops flow rest (stmts-stops ss))

abbrev blocks_of : List (NumExpr × ManyBlock) → List (NumExpr × TypedBlock)
blocks_of arms = map (former-TypedStmt-If-0-at-2.map ManyBlock TypedBlock (λ k. k.0)) arms

arms-stops : (arms : List (NumExpr × ManyBlock)) (otherwise : Does Flow) → Stops otherwise
    → Stops (first_arm (map arm_does (map (former-TypedStmt-If-0-at-2.map TypedBlock (Does Flow) block_does) (blocks_of arms))) otherwise)
arms-stops [] otherwise p = p
arms-stops (arm ∷ arms) otherwise p = if_holds-stops (number_does arm.0) (block_does arm.1.0) _ (num_stops arm.0) arm.1.1 (arms-stops arms otherwise p)

abbrev stmt_of : TypedStmt-F ManyStmt ManyBlock → TypedStmt-F TypedStmt TypedBlock
stmt_of h = map-TypedStmt ManyStmt ManyBlock TypedStmt TypedBlock (λ k. k.0) (λ k. k.0) h

number-stops : (e : Option NumExpr) → Stops (number_or_one e)
number-stops None = given-stops _
number-stops (Some e) = num_stops e

stmt_case : (h : TypedStmt-F ManyStmt ManyBlock)
    → Stops (stmt_by_parts (map-TypedStmt TypedStmt TypedBlock (Does Flow) (Does Flow) stmt_does block_does (stmt_of h)))
stmt_case (TypedStmt-F.SetVar var value) = bind-stops (value_does value) _ (any_stops value) (λ x. plain-stops (changed _) (changed-stops _))
stmt_case (TypedStmt-F.SetMap m keys value) =
    bind-stops (in_order (values_do keys)) _ (values-stops keys []) (λ key. bind-stops (value_does value) _ (any_stops value)
    (λ x. plain-stops (set m key x) (at_part m key (ops.Set key x))))
stmt_case (TypedStmt-F.UpdateVar var op e) =
    bind-stops (number_does e) _ (num_stops e) (λ b. bind-stops _ _ (looked_at-stops _) (λ a. plain-stops (changed _) (changed-stops _)))
stmt_case (TypedStmt-F.UpdateMap m keys op e) =
    bind-stops (in_order (values_do keys)) _ (values-stops keys []) (λ key. bind-stops (number_does e) _ (num_stops e)
    (λ b. bind-stops (get m key) _ (get-stops m key) (λ old. plain-stops (set m key _) (at_part m key (ops.Set key _)))))
stmt_case (TypedStmt-F.Gather m keys kind number) =
    bind-stops (in_order (values_do keys)) _ (values-stops keys []) (λ key. bind-stops (number_or_one number) _ (number-stops number)
    (λ n. plain-stops (add m key n) (lifted-stops (λ scene. tells (Cpu scene.actor) (ops.Add m key n)) (λ scene. told-only (Cpu scene.actor) (ops.Add m key n) (not_cpu scene.actor (ops.Add m key n))))))
stmt_case (TypedStmt-F.Step e) = plain-stops (number_does e) (num_stops e)
stmt_case (TypedStmt-F.Printf format es) = bind-stops (in_order (values_do es)) _ (values-stops es []) (λ values. emit-stops _)
stmt_case (TypedStmt-F.Print m top div) = print-stops m top div
stmt_case (TypedStmt-F.Clear m) = clear-stops m
stmt_case (TypedStmt-F.Zero m) = zero-stops m
stmt_case (TypedStmt-F.Delete m keys) =
    bind-stops (in_order (values_do keys)) _ (values-stops keys []) (λ key. plain-stops (delete m key) (at_part m key (ops.Delete key)))
stmt_case (TypedStmt-F.Jump jumps.Break) = flow-stops Break
stmt_case (TypedStmt-F.Jump jumps.Continue) = flow-stops Continue
stmt_case (TypedStmt-F.Jump jumps.Exit) = then-given (lifted (λ scene. tells Clock ops.Stop)) (λ u. _) (told-stops Clock ops.Stop (λ e. refl))
stmt_case (TypedStmt-F.Jump jumps.Return) = flow-stops (Stop _)
stmt_case (TypedStmt-F.If arms None) = arms-stops arms (given Next) (flow-stops Next)
stmt_case (TypedStmt-F.If arms (Some b)) = arms-stops arms (block_does b.0) b.1
stmt_case (TypedStmt-F.While test b line) = while-stops line (number_does test) (block_does b.0) (num_stops test) b.1
stmt_case (TypedStmt-F.Unroll n b line) = turns-stops n line (block_does b.0) b.1

stmt_step : (x : TypedStmt-F TypedStmt TypedBlock) (h : TypedStmt-F ManyStmt ManyBlock) → stmt_of h ≡ x → StmtStops (roll-TypedStmt x)
stmt_step x h e = subst (λ (y : TypedStmt-F TypedStmt TypedBlock). StmtStops (roll-TypedStmt y)) e
    (subst (λ (d : Does Flow). Stops d) (sym (fold-roll-TypedStmt (Does Flow) (Does Flow) stmt_by_parts block_by_parts (stmt_of h))) (stmt_case h))

abbrev block_of : TypedBlock-F ManyStmt ManyBlock → TypedBlock-F TypedStmt TypedBlock
block_of h = map-TypedBlock ManyStmt ManyBlock TypedStmt TypedBlock (λ k. k.0) (λ k. k.0) h

block_step : (x : TypedBlock-F TypedStmt TypedBlock) (h : TypedBlock-F ManyStmt ManyBlock) → block_of h ≡ x → BlockStops (roll-TypedBlock x)
block_step x h e = subst (λ (y : TypedBlock-F TypedStmt TypedBlock). BlockStops (roll-TypedBlock y)) e
    (subst (λ (d : Does Flow). Stops d) (sym (fold-roll-TypedBlock (Does Flow) (Does Flow) stmt_by_parts block_by_parts (block_of h))) (stmts-stops h.stmts))

block_stops : (b : TypedBlock) → BlockStops b
block_stops b = ind-TypedBlock StmtStops BlockStops stmt_step block_step b

guarded-stops : (predicate : Option NumExpr) (block : TypedBlock) → Stops (guarded predicate (block_does block))
guarded-stops None block = block_stops block
guarded-stops (Some e) block = if_holds-stops (number_does e) (block_does block) (given Next) (num_stops e) (block_stops block) (flow-stops Next)

-- ---- whole bodies

pub walk_stops : (body : TypedBody) (context : Context) (payload : List ℕ) (actor actors : ℕ) → OnlyStops (walk body context payload actor actors)
unfolding walk
walk_stops body context payload actor actors =
    stops-then (tree_does body.tree _ (first_frame body.tree.variables)) (λ p. Ended p.0)
    (then-given (guarded body.tree.predicate (block_does body.tree.block)) ending_of (guarded-stops body.tree.predicate body.tree.block) _ (first_frame body.tree.variables)) (λ p. tt)
