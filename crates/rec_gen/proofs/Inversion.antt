-- Which typed trees have the words of aggregations, of a field, and of the thread's name.
use Rattle.std.proofs.Common.{◌≡◌, ℕ, ◌++◌, Bool, true, false, List, [], ◌∷◌, length, map, Option, Some, None, refl, ap, sym, subst, ◌∙◌}
use Rattle.bt_core.specs.declared.map.AggKind.{AggKind}
use Rattle.bt_core.specs.declared.map.MapId.{MapId}
use Rattle.bt_ast.specs.declared.expr.Builtin.TheVariants.{Comm}
use Rattle.event_layout.specs.declared.field.Field.{Field}
use Rattle.typed_tree.specs.declared.expr.AnyExpr.{AnyExpr, roll-AnyExpr, out-AnyExpr, roll-out-AnyExpr, map-AnyExpr, fold-roll-AnyExpr}
use Rattle.typed_tree.specs.declared.expr.AnyExpr.TheOpen.{NumExpr-F, StrExpr-F, AnyExpr-F}
use Rattle.typed_tree.specs.declared.expr.AnyExpr.TheVariants as anys
use Rattle.typed_tree.specs.declared.expr.NumBuiltin.{NumBuiltin}
use Rattle.typed_tree.specs.declared.expr.NumBuiltin.TheVariants.{Pid}
use Rattle.typed_tree.specs.declared.expr.NumExpr.{NumExpr, roll-NumExpr, out-NumExpr, roll-out-NumExpr, map-NumExpr, fold-roll-NumExpr}
use Rattle.typed_tree.specs.declared.expr.NumExpr.TheVariants as nums
use Rattle.typed_tree.specs.declared.expr.StrExpr.{StrExpr, roll-StrExpr, out-StrExpr, roll-out-StrExpr, map-StrExpr, fold-roll-StrExpr}
use Rattle.typed_tree.specs.declared.expr.StrExpr.TheVariants as strs
use Rattle.typed_tree.specs.declared.stmt.TypedBlock.{TypedBlock}
use Rattle.typed_tree.specs.declared.stmt.TypedStmt.{TypedStmt, roll-TypedStmt, out-TypedStmt, roll-out-TypedStmt, map-TypedStmt, fold-roll-TypedStmt}
use Rattle.typed_tree.specs.declared.stmt.TypedStmt.TheOpen.{TypedStmt-F}
use Rattle.typed_tree.specs.declared.stmt.TypedStmt.TheVariants as stmts
use Rattle.typed_tree.specs.Parts.{TreePart, Made, made_of, num_parts, str_parts, parts_in, key_shapes, number_parts, stmt_parts, block_parts, any_layer, num_layer, str_layer, stmt_layer, block_layer}
use Rattle.expr_types.specs.Mentions.{Word, BuiltinWord, FieldWord, GatherWord, EndWord}
use Rattle.expr_types.specs.Typing.{Titles, words_by, builtin_of}

-- ---- expressions, a layer over their parts

abbrev num_open : NumExpr-F AnyExpr NumExpr StrExpr → List TreePart
num_open x = num_layer (map-NumExpr AnyExpr NumExpr StrExpr Made (List TreePart) (List TreePart) made_of num_parts str_parts x)

abbrev str_open : StrExpr-F AnyExpr NumExpr StrExpr → List TreePart
str_open x = str_layer (map-StrExpr AnyExpr NumExpr StrExpr Made (List TreePart) (List TreePart) made_of num_parts str_parts x)

abbrev any_open : AnyExpr-F AnyExpr NumExpr StrExpr → Made
any_open x = any_layer (map-AnyExpr AnyExpr NumExpr StrExpr Made (List TreePart) (List TreePart) made_of num_parts str_parts x)

abbrev stmt_open : TypedStmt-F TypedStmt TypedBlock → List TreePart
stmt_open x = stmt_layer (map-TypedStmt TypedStmt TypedBlock (Bool → List TreePart) (Bool → List TreePart) stmt_parts block_parts x) false

num_is : (e : NumExpr) → num_parts e ≡ num_open (out-NumExpr e)
num_is e = ap num_parts (sym (roll-out-NumExpr e)) ∙ fold-roll-NumExpr Made (List TreePart) (List TreePart) any_layer num_layer str_layer (out-NumExpr e)

str_is : (e : StrExpr) → str_parts e ≡ str_open (out-StrExpr e)
str_is e = ap str_parts (sym (roll-out-StrExpr e)) ∙ fold-roll-StrExpr Made (List TreePart) (List TreePart) any_layer num_layer str_layer (out-StrExpr e)

any_is : (e : AnyExpr) → made_of e ≡ any_open (out-AnyExpr e)
any_is e = ap made_of (sym (roll-out-AnyExpr e)) ∙ fold-roll-AnyExpr Made (List TreePart) (List TreePart) any_layer num_layer str_layer (out-AnyExpr e)

stmt_is : (s : TypedStmt) → stmt_parts s false ≡ stmt_open (out-TypedStmt s)
stmt_is s =
    ap (λ (x : TypedStmt). stmt_parts x false) (sym (roll-out-TypedStmt s))
    ∙ ap (λ (f : Bool → List TreePart). f false) (fold-roll-TypedStmt (Bool → List TreePart) (Bool → List TreePart) stmt_layer block_layer (out-TypedStmt s))

-- ---- first words

-- a word of an expression, and one that is no end
abbrev is_value : Word → Bool
is_value (GatherWord name count kind) = false
is_value EndWord = false
is_value w = true

abbrev is_more : Word → Bool
is_more EndWord = false
is_more w = true

value_more : (w : Word) → is_value w ≡ true → is_more w ≡ true
value_more EndWord h = absurd cc
value_more (GatherWord name count kind) h = refl
value_more w h = refl

first_of : (p : Word → Bool) (v w : Word) (vs ws : List Word) → v ∷ vs ≡ w ∷ ws → p v ≡ true → p w ≡ true
first_of p v w vs ws h is = let e : v ≡ w = cc in subst (λ (x : Word). p x ≡ true) e is

num_first_at : (t : Titles) (x : NumExpr-F AnyExpr NumExpr StrExpr) (rest : List TreePart) (w : Word) (ws : List Word) → words_by t (num_open x ++ rest) ≡ w ∷ ws → is_value w ≡ true
num_first_at t (NumExpr-F.Number n) rest w ws h = first_of is_value _ w _ ws h refl
num_first_at t (NumExpr-F.Builtin b) rest w ws h = first_of is_value _ w _ ws h refl
num_first_at t (NumExpr-F.NumExpr::Field f) rest w ws h = first_of is_value _ w _ ws h refl
num_first_at t (NumExpr-F.NumExpr::Var n) rest w ws h = first_of is_value _ w _ ws h refl
num_first_at t (NumExpr-F.NumExpr::Map m keys) rest w ws h = first_of is_value _ w _ ws h refl
num_first_at t (NumExpr-F.Agg m keys) rest w ws h = first_of is_value _ w _ ws h refl
num_first_at t (NumExpr-F.StepVar n plus prefix) rest w ws h = first_of is_value _ w _ ws h refl
num_first_at t (NumExpr-F.StepMap m keys plus prefix) rest w ws h = first_of is_value _ w _ ws h refl
num_first_at t (NumExpr-F.Unary op value) rest w ws h = first_of is_value _ w _ ws h refl
num_first_at t (NumExpr-F.Binary op left right) rest w ws h = first_of is_value _ w _ ws h refl
num_first_at t (NumExpr-F.Compare equal left right) rest w ws h = first_of is_value _ w _ ws h refl
num_first_at t (NumExpr-F.AndThen left right) rest w ws h = first_of is_value _ w _ ws h refl
num_first_at t (NumExpr-F.OrElse left right) rest w ws h = first_of is_value _ w _ ws h refl
num_first_at t (NumExpr-F.NumExpr::Choose test first second) rest w ws h = first_of is_value _ w _ ws h refl

pub num_first : (t : Titles) (e : NumExpr) (rest : List TreePart) (w : Word) (ws : List Word) → words_by t (num_parts e ++ rest) ≡ w ∷ ws → is_value w ≡ true
num_first t e rest w ws h = num_first_at t (out-NumExpr e) rest w ws (ap (λ (l : List TreePart). words_by t (l ++ rest)) (sym (num_is e)) ∙ h)

-- ---- a field

pub record IsFieldExpr (t : Titles) (rest : List TreePart) (ws : List Word) (e : NumExpr) : Type 0 where
  pub field : Field
  pub is : e ≡ nums.Field field
  pub behind : words_by t rest ≡ ws

field_at : (t : Titles) (x : NumExpr-F AnyExpr NumExpr StrExpr) (rest : List TreePart) (name : List ℕ) (ws : List Word) → words_by t (num_open x ++ rest) ≡ FieldWord name ∷ ws
    → IsFieldExpr t rest ws (roll-NumExpr x)
field_at t (NumExpr-F.Number n) rest name ws h = absurd cc
field_at t (NumExpr-F.Builtin b) rest name ws h = absurd cc
field_at t (NumExpr-F.NumExpr::Field f) rest name ws h = record { field = f; is = nums.rolls-Field f; behind = cc }
field_at t (NumExpr-F.NumExpr::Var n) rest name ws h = absurd cc
field_at t (NumExpr-F.NumExpr::Map m keys) rest name ws h = absurd cc
field_at t (NumExpr-F.Agg m keys) rest name ws h = absurd cc
field_at t (NumExpr-F.StepVar n plus prefix) rest name ws h = absurd cc
field_at t (NumExpr-F.StepMap m keys plus prefix) rest name ws h = absurd cc
field_at t (NumExpr-F.Unary op value) rest name ws h = absurd cc
field_at t (NumExpr-F.Binary op left right) rest name ws h = absurd cc
field_at t (NumExpr-F.Compare equal left right) rest name ws h = absurd cc
field_at t (NumExpr-F.AndThen left right) rest name ws h = absurd cc
field_at t (NumExpr-F.OrElse left right) rest name ws h = absurd cc
field_at t (NumExpr-F.NumExpr::Choose test first second) rest name ws h = absurd cc

pub field_found : (t : Titles) (e : NumExpr) (rest : List TreePart) (name : List ℕ) (ws : List Word) → words_by t (num_parts e ++ rest) ≡ FieldWord name ∷ ws → IsFieldExpr t rest ws e
field_found t e rest name ws h =
    subst (IsFieldExpr t rest ws) (roll-out-NumExpr e) (field_at t (out-NumExpr e) rest name ws (ap (λ (l : List TreePart). words_by t (l ++ rest)) (sym (num_is e)) ∙ h))

-- ---- the thread's name

no_comm : (b : NumBuiltin) → builtin_of b ≡ Comm → ⊥
no_comm Pid h = cc
no_comm b h = cc

num_no_comm : (t : Titles) (x : NumExpr-F AnyExpr NumExpr StrExpr) (rest : List TreePart) (ws : List Word) → words_by t (num_open x ++ rest) ≡ BuiltinWord Comm ∷ ws → ⊥
num_no_comm t (NumExpr-F.Number n) rest ws h = cc
num_no_comm t (NumExpr-F.Builtin b) rest ws h = let e : builtin_of b ≡ Comm = cc in no_comm b e
num_no_comm t (NumExpr-F.NumExpr::Field f) rest ws h = cc
num_no_comm t (NumExpr-F.NumExpr::Var n) rest ws h = cc
num_no_comm t (NumExpr-F.NumExpr::Map m keys) rest ws h = cc
num_no_comm t (NumExpr-F.Agg m keys) rest ws h = cc
num_no_comm t (NumExpr-F.StepVar n plus prefix) rest ws h = cc
num_no_comm t (NumExpr-F.StepMap m keys plus prefix) rest ws h = cc
num_no_comm t (NumExpr-F.Unary op value) rest ws h = cc
num_no_comm t (NumExpr-F.Binary op left right) rest ws h = cc
num_no_comm t (NumExpr-F.Compare equal left right) rest ws h = cc
num_no_comm t (NumExpr-F.AndThen left right) rest ws h = cc
num_no_comm t (NumExpr-F.OrElse left right) rest ws h = cc
num_no_comm t (NumExpr-F.NumExpr::Choose test first second) rest ws h = cc

pub record IsCommExpr (t : Titles) (rest : List TreePart) (ws : List Word) (e : AnyExpr) : Type 0 where
  pub is : e ≡ anys.Str strs.Comm
  pub behind : words_by t rest ≡ ws

abbrev IsComm : Titles → List TreePart → List Word → StrExpr → Type 0
IsComm t rest ws e = (e ≡ strs.Comm) × (words_by t rest ≡ ws)

comm_at : (t : Titles) (x : StrExpr-F AnyExpr NumExpr StrExpr) (rest : List TreePart) (ws : List Word) → words_by t (str_open x ++ rest) ≡ BuiltinWord Comm ∷ ws → IsComm t rest ws (roll-StrExpr x)
comm_at t (StrExpr-F.Text text) rest ws h = absurd cc
comm_at t StrExpr-F.Comm rest ws h = (strs.rolls-Comm, cc)
comm_at t (StrExpr-F.StrExpr::Field f) rest ws h = absurd cc
comm_at t (StrExpr-F.StrExpr::Var n) rest ws h = absurd cc
comm_at t (StrExpr-F.StrExpr::Map m keys) rest ws h = absurd cc
comm_at t (StrExpr-F.StrExpr::Choose test first second) rest ws h = absurd cc

any_at : (t : Titles) (x : AnyExpr-F AnyExpr NumExpr StrExpr) (rest : List TreePart) (ws : List Word) → words_by t ((any_open x).parts ++ rest) ≡ BuiltinWord Comm ∷ ws → IsCommExpr t rest ws (roll-AnyExpr x)
any_at t (AnyExpr-F.Num e) rest ws h = absurd (num_no_comm t (out-NumExpr e) rest ws (ap (λ (l : List TreePart). words_by t (l ++ rest)) (sym (num_is e)) ∙ h))
any_at t (AnyExpr-F.Str e) rest ws h =
    let found = subst (IsComm t rest ws) (roll-out-StrExpr e) (comm_at t (out-StrExpr e) rest ws (ap (λ (l : List TreePart). words_by t (l ++ rest)) (sym (str_is e)) ∙ h)) in
    record { is = anys.rolls-Str e ∙ ap anys.Str found.0; behind = found.1 }

pub comm_found : (t : Titles) (e : AnyExpr) (rest : List TreePart) (ws : List Word) → words_by t ((made_of e).parts ++ rest) ≡ BuiltinWord Comm ∷ ws → IsCommExpr t rest ws e
comm_found t e rest ws h =
    subst (IsCommExpr t rest ws) (roll-out-AnyExpr e) (any_at t (out-AnyExpr e) rest ws (ap (λ (m : Made). words_by t (m.parts ++ rest)) (sym (any_is e)) ∙ h))

-- ---- statements

pub record IsGather (t : Titles) (count : ℕ) (kind : AggKind) (rest : List TreePart) (ws : List Word) (s : TypedStmt) : Type 0 where
  pub m : MapId
  pub keys : List AnyExpr
  pub number : Option NumExpr
  pub is : s ≡ stmts.Gather m keys kind number
  pub many : length (key_shapes (map made_of keys)) ≡ count
  pub behind : words_by t ((parts_in (map made_of keys) ++ number_parts number) ++ rest) ≡ ws

is_no_gather : (name : List ℕ) (count : ℕ) (kind : AggKind) → is_value (GatherWord name count kind) ≡ true → ⊥
is_no_gather name count kind h = cc

-- a word of another kind begins no aggregation
abbrev is_other : Word → Bool
is_other (GatherWord name count kind) = false
is_other w = true

other : (v : Word) (vs ws : List Word) (name : List ℕ) (count : ℕ) (kind : AggKind) → v ∷ vs ≡ GatherWord name count kind ∷ ws → is_other v ≡ true → ⊥
other v vs ws name count kind h is = let x : false ≡ true = first_of is_other v (GatherWord name count kind) vs ws h is in cc

gather_at : (t : Titles) (x : TypedStmt-F TypedStmt TypedBlock) (rest : List TreePart) (name : List ℕ) (count : ℕ) (kind : AggKind) (ws : List Word)
    → words_by t (stmt_open x ++ rest) ≡ GatherWord name count kind ∷ ws → IsGather t count kind rest ws (roll-TypedStmt x)
gather_at t (TypedStmt-F.SetVar var value) rest name count kind ws h = absurd (other _ _ ws name count kind h refl)
gather_at t (TypedStmt-F.SetMap m keys value) rest name count kind ws h = absurd (other _ _ ws name count kind h refl)
gather_at t (TypedStmt-F.UpdateVar var op value) rest name count kind ws h = absurd (other _ _ ws name count kind h refl)
gather_at t (TypedStmt-F.UpdateMap m keys op value) rest name count kind ws h = absurd (other _ _ ws name count kind h refl)
gather_at t (TypedStmt-F.Gather m keys sort number) rest name count kind ws h =
    let e : sort ≡ kind = cc in
    record { m = m; keys = keys; number = number; is = stmts.rolls-Gather m keys sort number ∙ ap (λ (k : AggKind). stmts.Gather m keys k number) e; many = cc; behind = cc }
gather_at t (TypedStmt-F.Step value) rest name count kind ws h = absurd (is_no_gather name count kind (num_first t value rest (GatherWord name count kind) ws h))
gather_at t (TypedStmt-F.Printf format values) rest name count kind ws h = absurd (other _ _ ws name count kind h refl)
gather_at t (TypedStmt-F.Print m top div) rest name count kind ws h = absurd (other _ _ ws name count kind h refl)
gather_at t (TypedStmt-F.Clear m) rest name count kind ws h = absurd (other _ _ ws name count kind h refl)
gather_at t (TypedStmt-F.Zero m) rest name count kind ws h = absurd (other _ _ ws name count kind h refl)
gather_at t (TypedStmt-F.Delete m keys) rest name count kind ws h = absurd (other _ _ ws name count kind h refl)
gather_at t (TypedStmt-F.Jump jump) rest name count kind ws h = absurd (other _ _ ws name count kind h refl)
gather_at t (TypedStmt-F.If [] None) rest name count kind ws h = absurd (other _ _ ws name count kind h refl)
gather_at t (TypedStmt-F.If [] (Some block)) rest name count kind ws h = absurd (other _ _ ws name count kind h refl)
gather_at t (TypedStmt-F.If (arm ∷ arms) otherwise) rest name count kind ws h = absurd (other _ _ ws name count kind h refl)
gather_at t (TypedStmt-F.While test block line) rest name count kind ws h = absurd (other _ _ ws name count kind h refl)
gather_at t (TypedStmt-F.Unroll turns block line) rest name count kind ws h = absurd (other _ _ ws name count kind h refl)

pub gather_found : (t : Titles) (s : TypedStmt) (rest : List TreePart) (name : List ℕ) (count : ℕ) (kind : AggKind) (ws : List Word)
    → words_by t (stmt_parts s false ++ rest) ≡ GatherWord name count kind ∷ ws → IsGather t count kind rest ws s
gather_found t s rest name count kind ws h =
    subst (IsGather t count kind rest ws) (roll-out-TypedStmt s)
    (gather_at t (out-TypedStmt s) rest name count kind ws (ap (λ (l : List TreePart). words_by t (l ++ rest)) (sym (stmt_is s)) ∙ h))

stmt_first_at : (t : Titles) (x : TypedStmt-F TypedStmt TypedBlock) (rest : List TreePart) (w : Word) (ws : List Word) → words_by t (stmt_open x ++ rest) ≡ w ∷ ws → is_more w ≡ true
stmt_first_at t (TypedStmt-F.SetVar var value) rest w ws h = first_of is_more _ w _ ws h refl
stmt_first_at t (TypedStmt-F.SetMap m keys value) rest w ws h = first_of is_more _ w _ ws h refl
stmt_first_at t (TypedStmt-F.UpdateVar var op value) rest w ws h = first_of is_more _ w _ ws h refl
stmt_first_at t (TypedStmt-F.UpdateMap m keys op value) rest w ws h = first_of is_more _ w _ ws h refl
stmt_first_at t (TypedStmt-F.Gather m keys sort number) rest w ws h = first_of is_more _ w _ ws h refl
stmt_first_at t (TypedStmt-F.Step value) rest w ws h = value_more w (num_first t value rest w ws h)
stmt_first_at t (TypedStmt-F.Printf format values) rest w ws h = first_of is_more _ w _ ws h refl
stmt_first_at t (TypedStmt-F.Print m top div) rest w ws h = first_of is_more _ w _ ws h refl
stmt_first_at t (TypedStmt-F.Clear m) rest w ws h = first_of is_more _ w _ ws h refl
stmt_first_at t (TypedStmt-F.Zero m) rest w ws h = first_of is_more _ w _ ws h refl
stmt_first_at t (TypedStmt-F.Delete m keys) rest w ws h = first_of is_more _ w _ ws h refl
stmt_first_at t (TypedStmt-F.Jump jump) rest w ws h = first_of is_more _ w _ ws h refl
stmt_first_at t (TypedStmt-F.If [] None) rest w ws h = first_of is_more _ w _ ws h refl
stmt_first_at t (TypedStmt-F.If [] (Some block)) rest w ws h = first_of is_more _ w _ ws h refl
stmt_first_at t (TypedStmt-F.If (arm ∷ arms) otherwise) rest w ws h = first_of is_more _ w _ ws h refl
stmt_first_at t (TypedStmt-F.While test block line) rest w ws h = first_of is_more _ w _ ws h refl
stmt_first_at t (TypedStmt-F.Unroll turns block line) rest w ws h = first_of is_more _ w _ ws h refl

-- no statement begins with an end
pub no_end : (t : Titles) (s : TypedStmt) (rest : List TreePart) (ws : List Word) → words_by t (stmt_parts s false ++ rest) ≡ EndWord ∷ ws → ⊥
no_end t s rest ws h =
    let more : is_more EndWord ≡ true = stmt_first_at t (out-TypedStmt s) rest EndWord ws (ap (λ (l : List TreePart). words_by t (l ++ rest)) (sym (stmt_is s)) ∙ h) in
    cc
