-- A reader of a body's parts that makes its tree again: it goes from the last part to the first, and keeps what it has read on a
-- stack, so that a construct finds its members there.
use Rattle.std.proofs.Common.{◌≡◌, ◌++◌, ℕ, pos, zero, suc, Bool, true, false, List, [], ◌∷◌, length, map, Option, Some, None, refl, ap, ◌∙◌}
use Rattle.bt_core.specs.declared.map.AggKind.{AggKind}
use Rattle.bt_core.specs.declared.map.MapId.{MapId}
use Rattle.bt_core.specs.declared.map.Shape.{Shape}
use Rattle.bt_core.specs.declared.map.Shape.TheVariants.{Int, Str}
use Rattle.bt_core.specs.declared.operator.BinOp.{BinOp}
use Rattle.bt_core.specs.declared.operator.BinOp.TheVariants.{Eq}
use Rattle.event_layout.specs.declared.field.Field.{Field}
use Rattle.typed_tree.specs.declared.expr.AnyExpr.{AnyExpr, roll-AnyExpr}
use Rattle.typed_tree.specs.declared.expr.AnyExpr.TheOpen.{NumExpr-F, StrExpr-F, AnyExpr-F}
use Rattle.typed_tree.specs.declared.expr.NumExpr.{NumExpr, roll-NumExpr}
use Rattle.typed_tree.specs.declared.expr.StrExpr.{StrExpr, roll-StrExpr}
use Rattle.typed_tree.specs.declared.stmt.TypedBlock.{TypedBlock, roll-TypedBlock}
use Rattle.typed_tree.specs.declared.stmt.TypedStmt.{TypedStmt, roll-TypedStmt}
use Rattle.typed_tree.specs.declared.stmt.TypedStmt.TheOpen.{TypedStmt-F}
use Rattle.typed_tree.specs.Parts.{TreePart, Constant, Literal, Numeric, Command, FieldOf, VarOf, MapOf, AggOf, Stepped, Prefixed, Joined, Both, Either, Chosen}
use Rattle.typed_tree.specs.Parts.{Assigned, Gathered, Deleted, Printed, Shown, Cleared, Zeroed, Jumped, Looped, Unrolled, Arm, Otherwise, NoOtherwise, Ending}

-- ---- trees of one layer

abbrev pub num : NumExpr-F AnyExpr NumExpr StrExpr → NumExpr
num layer = roll-NumExpr layer

abbrev pub str : StrExpr-F AnyExpr NumExpr StrExpr → StrExpr
str layer = roll-StrExpr layer

abbrev pub stmt : TypedStmt-F TypedStmt TypedBlock → TypedStmt
stmt layer = roll-TypedStmt layer

abbrev pub map_of : ℕ → MapId
map_of number = record { 0 = number }

-- ---- what was read

-- an expression, or none
pub data Value : Type 0 where
  Num : (e : NumExpr) → Value
  Text : (e : StrExpr) → Value
  Missing : Value

-- an expression; a variable; a map with its key; a statement; the arms and the `else` of an `if`
pub data Item : Type 0 where
  Held : (value : Value) → Item
  Slot : (number : ℕ) (shape : Shape) → Item
  Cell : (number : ℕ) (keys : List AnyExpr) (shape : Shape) → Item
  Done : (made : TypedStmt) → Item
  Choice : (arms : List (NumExpr × TypedBlock)) (otherwise : Option TypedBlock) → Item

-- what was read since the end of several that was read last, and before it
pub record Stack : Type 0 where
  pub here : List Item
  pub outer : List (List Item)

abbrev pub push : Item → Stack → Stack
push item st = record { here = item ∷ st.here; outer = st.outer }

abbrev pub first : List Item → Item
first [] = Held Missing
first (i ∷ is) = i

abbrev pub others : List Item → List Item
others [] = []
others (i ∷ is) = is

abbrev pub top : Stack → Item
top st = first st.here

abbrev pub below : Stack → Stack
below st = record { here = others st.here; outer = st.outer }

abbrev pub first_row : List (List Item) → List Item
first_row [] = []
first_row (row ∷ rows) = row

abbrev pub other_rows : List (List Item) → List (List Item)
other_rows [] = []
other_rows (row ∷ rows) = rows

-- at the end of several, and where they begin
abbrev pub enter : Stack → Stack
enter st = record { here = []; outer = st.here ∷ st.outer }

abbrev pub leave : Stack → Stack
leave st = record { here = first_row st.outer; outer = other_rows st.outer }

-- ---- items as expressions and as statements

abbrev pub field_value : Field → Shape → Value
field_value field Int = Num (num (NumExpr-F.NumExpr::Field field))
field_value field Str = Text (str (StrExpr-F.StrExpr::Field field))

abbrev pub var_value : ℕ → Shape → Value
var_value number Int = Num (num (NumExpr-F.NumExpr::Var number))
var_value number Str = Text (str (StrExpr-F.StrExpr::Var number))

abbrev pub map_value : ℕ → List AnyExpr → Shape → Value
map_value number keys Int = Num (num (NumExpr-F.NumExpr::Map (map_of number) keys))
map_value number keys Str = Text (str (StrExpr-F.StrExpr::Map (map_of number) keys))

abbrev pub value : Item → Value
value (Held v) = v
value (Slot number shape) = var_value number shape
value (Cell number keys shape) = map_value number keys shape
value (Done made) = Missing
value (Choice arms otherwise) = Missing

abbrev pub no_num : NumExpr
no_num = num (NumExpr-F.Number (pos 0))

abbrev pub num_in : Value → NumExpr
num_in (Num e) = e
num_in (Text e) = no_num
num_in Missing = no_num

abbrev pub str_in : Value → StrExpr
str_in (Text e) = e
str_in (Num e) = str StrExpr-F.Comm
str_in Missing = str StrExpr-F.Comm

abbrev pub any_in : Value → AnyExpr
any_in (Num e) = roll-AnyExpr (AnyExpr-F.Num e)
any_in (Text e) = roll-AnyExpr (AnyExpr-F.Str e)
any_in Missing = roll-AnyExpr (AnyExpr-F.Num no_num)

abbrev pub num_of : Item → NumExpr
num_of item = num_in (value item)

abbrev pub any_of : Item → AnyExpr
any_of item = any_in (value item)

abbrev pub stmt_of : Item → TypedStmt
stmt_of (Done made) = made
stmt_of (Choice arms otherwise) = stmt (TypedStmt-F.If arms otherwise)
stmt_of (Held v) = stmt (TypedStmt-F.Step (num_in v))
stmt_of (Slot number shape) = stmt (TypedStmt-F.Step (num_in (var_value number shape)))
stmt_of (Cell number keys shape) = stmt (TypedStmt-F.Step (num_in (map_value number keys shape)))

abbrev pub block_of : List Item → TypedBlock
block_of items = roll-TypedBlock (record { stmts = map stmt_of items })

-- the parts of a key, and what stands behind them
abbrev pub keys_in : ℕ → List Item → List AnyExpr
keys_in zero is = []
keys_in (suc n) [] = []
keys_in (suc n) (i ∷ is) = any_of i ∷ keys_in n is

abbrev pub past : ℕ → List Item → List Item
past zero is = is
past (suc n) [] = []
past (suc n) (i ∷ is) = past n is

abbrev pub past_keys : ℕ → Stack → Stack
past_keys n st = record { here = past n st.here; outer = st.outer }

-- ---- constructs

abbrev pub stepped : Bool → Bool → Item → NumExpr
stepped plus prefix (Slot number shape) = num (NumExpr-F.StepVar number plus prefix)
stepped plus prefix (Cell number keys shape) = num (NumExpr-F.StepMap (map_of number) keys plus prefix)
stepped plus prefix item = num_of item

abbrev pub is_equal : BinOp → Bool
is_equal Eq = true
is_equal op = false

-- an operator: of numbers, or of strings
abbrev pub joined_by : BinOp → Value → Value → NumExpr
joined_by op (Num left) right = num (NumExpr-F.Binary op left (num_in right))
joined_by op (Text left) right = num (NumExpr-F.Compare (is_equal op) left (str_in right))
joined_by op Missing right = no_num

abbrev pub chosen : NumExpr → Value → Value → Value
chosen test (Num one) other = Num (num (NumExpr-F.NumExpr::Choose test one (num_in other)))
chosen test (Text one) other = Text (str (StrExpr-F.StrExpr::Choose test one (str_in other)))
chosen test Missing other = Missing

abbrev pub assigned : Option BinOp → Item → Value → TypedStmt
assigned None (Slot number shape) v = stmt (TypedStmt-F.SetVar number (any_in v))
assigned None (Cell number keys shape) v = stmt (TypedStmt-F.SetMap (map_of number) keys (any_in v))
assigned (Some op) (Slot number shape) v = stmt (TypedStmt-F.UpdateVar number op (num_in v))
assigned (Some op) (Cell number keys shape) v = stmt (TypedStmt-F.UpdateMap (map_of number) keys op (num_in v))
assigned op target v = stmt_of target

-- one more arm before others
abbrev pub arm_added : NumExpr × TypedBlock → Item → Item
arm_added arm (Choice arms otherwise) = Choice (arm ∷ arms) otherwise
arm_added arm item = item

-- a statement that was read
abbrev pub done : TypedStmt-F TypedStmt TypedBlock → Stack → Stack
done layer st = push (Done (stmt layer)) st

abbrev pub gathered : Bool → ℕ → AggKind → List AnyExpr → Stack → Stack
gathered true number kind keys st = done (TypedStmt-F.Gather (map_of number) keys kind None) st
gathered false number kind keys st = done (TypedStmt-F.Gather (map_of number) keys kind (Some (num_of (top st)))) (below st)

-- a part, before what was read behind it
abbrev pub step : TreePart → Stack → Stack
step (Constant number) st = push (Held (Num (num (NumExpr-F.Number number)))) st
step (Literal text) st = push (Held (Text (str (StrExpr-F.Text text)))) st
step (Numeric builtin) st = push (Held (Num (num (NumExpr-F.Builtin builtin)))) st
step Command st = push (Held (Text (str StrExpr-F.Comm))) st
step (FieldOf field shape) st = push (Held (field_value field shape)) st
step (VarOf number shape) st = push (Slot number shape) st
step (MapOf number keys shape) st = push (Cell number (keys_in (length keys) st.here) shape) (past_keys (length keys) st)
step (AggOf number keys) st = push (Held (Num (num (NumExpr-F.Agg (map_of number) (keys_in (length keys) st.here))))) (past_keys (length keys) st)
step (Stepped plus prefix) st = push (Held (Num (stepped plus prefix (top st)))) (below st)
step (Prefixed op) st = push (Held (Num (num (NumExpr-F.Unary op (num_of (top st)))))) (below st)
step (Joined op) st = push (Held (Num (joined_by op (value (top st)) (value (top (below st)))))) (below (below st))
step Both st = push (Held (Num (num (NumExpr-F.AndThen (num_of (top st)) (num_of (top (below st))))))) (below (below st))
step Either st = push (Held (Num (num (NumExpr-F.OrElse (num_of (top st)) (num_of (top (below st))))))) (below (below st))
step Chosen st = push (Held (chosen (num_of (top st)) (value (top (below st))) (value (top (below (below st)))))) (below (below (below st)))
step (Assigned op) st = push (Done (assigned op (top st) (value (top (below st))))) (below (below st))
step (Gathered number keys kind counts) st = gathered counts number kind (keys_in (length keys) st.here) (past_keys (length keys) st)
step (Deleted number keys) st = done (TypedStmt-F.Delete (map_of number) (keys_in (length keys) st.here)) (past_keys (length keys) st)
step (Printed format shapes) st = done (TypedStmt-F.Printf format (map any_of st.here)) (leave st)
step (Shown number rows div) st = done (TypedStmt-F.Print (map_of number) rows div) st
step (Cleared number) st = done (TypedStmt-F.Clear (map_of number)) st
step (Zeroed number) st = done (TypedStmt-F.Zero (map_of number)) st
step (Jumped jump inside) st = done (TypedStmt-F.Jump jump) st
step (Looped line) st = done (TypedStmt-F.While (num_of (top st)) (block_of (others st.here)) line) (leave st)
step (Unrolled turns line) st = done (TypedStmt-F.Unroll turns (block_of st.here) line) (leave st)
step Arm st = push (arm_added (num_of (top st), block_of (others st.here)) (top (leave st))) (below (leave st))
step Otherwise st = push (Choice [] (Some (block_of st.here))) (leave st)
step NoOtherwise st = push (Choice [] None) st
step Ending st = enter st

abbrev pub run : List TreePart → Stack → Stack
run [] st = st
run (p ∷ ps) st = step p (run ps st)

-- nothing was read
abbrev pub fresh : Stack
fresh = record { here = []; outer = [] }

-- the predicate and the block of a body, by its parts
abbrev pub Guarded : Type 0
Guarded = Option NumExpr × TypedBlock

abbrev pub guarded : Stack → Guarded
guarded st = (Some (num_of (top st)), block_of (others st.here))

abbrev pub read_body : List TreePart → Guarded
read_body [] = (None, block_of [])
read_body (Otherwise ∷ ps) = guarded (run ps fresh)
read_body (p ∷ ps) = (None, block_of (run ps fresh).here)

-- ---- parts in turn

pub run-append : (ps qs : List TreePart) (st : Stack) → run (ps ++ qs) st ≡ run ps (run qs st)
run-append [] qs st = refl
run-append (p ∷ ps) qs st = ap (step p) (run-append ps qs st)

pub run_two : (ps qs : List TreePart) (st : Stack) (i j : Item) → run qs st ≡ push j st → run ps (push j st) ≡ push i (push j st) → run (ps ++ qs) st ≡ push i (push j st)
run_two ps qs st i j e f = run-append ps qs st ∙ (ap (run ps) e ∙ f)

-- reading these parts pushes an item that is this expression
pub record Pushes (ps : List TreePart) (st : Stack) (v : Value) : Type 0 where
  pub item : Item
  pub reads : run ps st ≡ push item st
  pub worth : value item ≡ v

pub record PushesAny (ps : List TreePart) (st : Stack) (a : AnyExpr) : Type 0 where
  pub item : Item
  pub reads : run ps st ≡ push item st
  pub worth : any_of item ≡ a

abbrev pub all_pushed : List Item → Stack → Stack
all_pushed items st = record { here = items ++ st.here; outer = st.outer }

-- reading these parts pushes as many items as that, which are these expressions
pub record PushesAll (ps : List TreePart) (n : ℕ) (st : Stack) (es : List AnyExpr) : Type 0 where
  pub items : List Item
  pub reads : run ps st ≡ all_pushed items st
  pub many : n ≡ length items
  pub worth : map any_of items ≡ es

keys_pushed : (items later : List Item) → keys_in (length items) (items ++ later) ≡ map any_of items
keys_pushed [] later = refl
keys_pushed (i ∷ items) later = ap (λ (es : List AnyExpr). any_of i ∷ es) (keys_pushed items later)

past_pushed : (items later : List Item) → past (length items) (items ++ later) ≡ later
past_pushed [] later = refl
past_pushed (i ∷ items) later = past_pushed items later

module _ (ps : List TreePart) (n : ℕ) (st : Stack) (es : List AnyExpr) (p : PushesAll ps n st es) where
  -- the key that is found, and the stack behind it
  pub keys_found : keys_in n (run ps st).here ≡ es
  keys_found =
      ap (λ (s : Stack). keys_in n s.here) p.reads
      ∙ (ap (λ (m : ℕ). keys_in m (p.items ++ st.here)) p.many ∙ (keys_pushed p.items st.here ∙ p.worth))

  pub behind_keys : past_keys n (run ps st) ≡ st
  behind_keys =
      ap (λ (s : Stack). past_keys n s) p.reads
      ∙ (ap (λ (m : ℕ). past_keys m (all_pushed p.items st)) p.many ∙ ap (λ (is : List Item). record { here = is; outer = st.outer }) (past_pushed p.items st.here))
