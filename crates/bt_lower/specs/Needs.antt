-- What the code of a typed body needs: bytes of frame and slots of code. Both are sums over the tree, and do not depend on how code
-- is generated.
use Rattle.std.specs.Prelude.{ℕ, ◌+◌, ◌≤◌, ◌^◌, max, List, [], ◌∷◌, Option, Some, None, map, option_map}
use Rattle.typed_tree.specs.declared.body.TypedTree.{TypedTree}
use Rattle.typed_tree.specs.declared.expr.AnyExpr.{AnyExpr, fold-AnyExpr}
use Rattle.typed_tree.specs.declared.expr.NumExpr.{NumExpr, fold-NumExpr}
use Rattle.typed_tree.specs.declared.expr.StrExpr.{StrExpr, fold-StrExpr}
use Rattle.typed_tree.specs.declared.expr.AnyExpr.TheOpen.{NumExpr-F, StrExpr-F, AnyExpr-F}
use Rattle.typed_tree.specs.declared.stmt.Jump.{Jump}
use Rattle.typed_tree.specs.declared.stmt.Jump.TheVariants.{Break, Continue, Exit, Return}
use Rattle.typed_tree.specs.declared.stmt.TypedStmt.{TypedStmt, fold-TypedStmt}
use Rattle.typed_tree.specs.declared.stmt.TypedBlock.{TypedBlock, fold-TypedBlock}
use Rattle.typed_tree.specs.declared.stmt.TypedStmt.TheOpen.{TypedStmt-F, TypedBlock-F}
use Rattle.typed_tree.specs.Parts.{made_of}
use Rattle.ir_code.specs.Figures.{sizes_of, by_shape}
pub use Rattle.bt_lower.specs.declared.need.Need.{Need}
pub use Rattle.bt_lower.specs.declared.need.Valued.{Valued}
use Rattle.bt_lower.specs.declared.need.Listed.{Listed}

-- so many bytes of frame and slots
abbrev pub need : ℕ → ℕ → Need
need frame code = record { frame = frame; code = code }

-- that it is beyond every number of 64 bits
abbrev pub IsTooMuch : Need → Type 0
IsTooMuch n = 2 ^ 64 ≤ max n.frame n.code

abbrev pub IsTooMuchListed : Listed → Type 0
IsTooMuchListed all = 2 ^ 64 ≤ max all.sizes (max all.need.frame all.need.code)

-- an expression by the bytes of its value and what it needs
abbrev pub valued : ℕ → Need → Valued
valued size n = record { size = size; need = n }

-- expressions one after another, each beside the values of those before it
abbrev pub list_frame : List Valued → ℕ
list_frame [] = 0
list_frame (v ∷ vs) = max v.need.frame (v.size + list_frame vs)

abbrev pub sizes_in : List Valued → ℕ
sizes_in [] = 0
sizes_in (v ∷ vs) = v.size + sizes_in vs

abbrev pub codes_in : List Valued → ℕ
codes_in [] = 0
codes_in (v ∷ vs) = v.need.code + codes_in vs

-- all of them
abbrev pub listed : List Valued → Listed
listed vs = record { sizes = sizes_in vs; need = need (list_frame vs) (codes_in vs) }

-- one before others
abbrev pub before_others : Valued → Listed → Listed
before_others v vs = record { sizes = v.size + vs.sizes; need = need (max v.need.frame (v.size + vs.need.frame)) (v.need.code + vs.need.code) }

-- the one, and then the other beside so many bytes
abbrev pub then_beside : ℕ → Need → Need → Need
then_beside bytes a b = need (max a.frame (bytes + b.frame)) (a.code + b.code)

-- what so many bytes and slots beside a key come to
abbrev pub under : Listed → ℕ → ℕ → Need
under keys frame slots = need (max keys.need.frame (keys.sizes + frame)) (slots + keys.need.code)

-- a key, and what stands beside it
abbrev pub beside : List Valued → ℕ → ℕ
beside keys frame = max (list_frame keys) (sizes_in keys + frame)

abbrev pub greater : Need → Need → Need
greater a b = need (max a.frame b.frame) (a.code + b.code)

-- some slots more
abbrev pub more : ℕ → Need → Need
more slots n = need n.frame (slots + n.code)

abbrev pub number_need_by_parts : NumExpr-F Valued Need Need → Need
number_need_by_parts (NumExpr-F.Number n) = need 8 4
number_need_by_parts (NumExpr-F.Builtin b) = need 8 4
number_need_by_parts (NumExpr-F.NumExpr::Field f) = need 8 8
number_need_by_parts (NumExpr-F.NumExpr::Var n) = need 8 4
number_need_by_parts (NumExpr-F.NumExpr::Map m keys) = need (beside keys 8) (16 + codes_in keys)
number_need_by_parts (NumExpr-F.Agg m keys) = need (beside keys 8) (16 + codes_in keys)
number_need_by_parts (NumExpr-F.StepVar n plus prefix) = need 8 12
number_need_by_parts (NumExpr-F.StepMap m keys plus prefix) = need (beside keys 16) (32 + codes_in keys)
number_need_by_parts (NumExpr-F.Unary op value) = more 8 value
number_need_by_parts (NumExpr-F.Binary op left right) = need (max left.frame (8 + right.frame)) (12 + left.code + right.code)
number_need_by_parts (NumExpr-F.Compare equal left right) = need (max left.frame (64 + right.frame)) (48 + left.code + right.code)
number_need_by_parts (NumExpr-F.AndThen left right) = more 16 (greater left right)
number_need_by_parts (NumExpr-F.OrElse left right) = more 16 (greater left right)
number_need_by_parts (NumExpr-F.NumExpr::Choose test one other) = more 8 (greater test (greater one other))

abbrev pub text_need_by_parts : StrExpr-F Valued Need Need → Need
text_need_by_parts (StrExpr-F.Text text) = need 64 32
text_need_by_parts StrExpr-F.Comm = need 64 24
text_need_by_parts (StrExpr-F.StrExpr::Field f) = need 64 24
text_need_by_parts (StrExpr-F.StrExpr::Var n) = need 64 24
text_need_by_parts (StrExpr-F.StrExpr::Map m keys) = need (beside keys 64) (40 + codes_in keys)
text_need_by_parts (StrExpr-F.StrExpr::Choose test one other) = more 8 (greater test (greater one other))

abbrev pub value_need_by_parts : AnyExpr-F Valued Need Need → Valued
value_need_by_parts (AnyExpr-F.Num n) = valued 8 n
value_need_by_parts (AnyExpr-F.Str n) = valued 64 n

-- what an expression needs, one that is a whole number, and one that is a string
abbrev pub value_need : AnyExpr → Valued
value_need = fold-AnyExpr Valued Need Need value_need_by_parts number_need_by_parts text_need_by_parts

abbrev pub number_need : NumExpr → Need
number_need = fold-NumExpr Valued Need Need value_need_by_parts number_need_by_parts text_need_by_parts

abbrev pub text_need : StrExpr → Need
text_need = fold-StrExpr Valued Need Need value_need_by_parts number_need_by_parts text_need_by_parts

abbrev pub values_need : List AnyExpr → List Valued
values_need es = map value_need es

abbrev pub gather_need : List Valued → Option NumExpr → Need
gather_need keys None = need (list_frame keys) (24 + codes_in keys)
gather_need keys (Some e) = need (beside keys (number_need e).frame) (24 + codes_in keys + (number_need e).code)

abbrev pub jump_need : Jump → Need
jump_need Exit = need 0 12
jump_need Break = need 0 4
jump_need Continue = need 0 4
jump_need Return = need 0 4

-- one after another: the greatest frame, and all slots
abbrev pub all_need : List Need → Need
all_need [] = need 0 0
all_need (n ∷ ns) = greater n (all_need ns)

abbrev pub arm_need : NumExpr × Need → Need
arm_need arm = more 8 (greater (number_need arm.0) arm.1)

abbrev pub otherwise_need : Option Need → Need
otherwise_need None = need 0 0
otherwise_need (Some n) = n

abbrev pub set_map_need : List Valued → Need → Need
set_map_need keys value = need (beside keys value.frame) (24 + codes_in keys + value.code)

abbrev pub update_map_need : List Valued → Need → Need
update_map_need keys value = need (beside keys (max value.frame 16)) (40 + codes_in keys + value.code)

-- `printf` and `delete`
abbrev pub taking_need : List Valued → Need
taking_need values = need (list_frame values) (16 + codes_in values)

abbrev pub stmt_need_by_parts : TypedStmt-F Need Need → Need
stmt_need_by_parts (TypedStmt-F.SetVar var value) = more (by_shape (made_of value).shape 8 24) (value_need value).need
stmt_need_by_parts (TypedStmt-F.SetMap m keys value) = set_map_need (values_need keys) (value_need value).need
stmt_need_by_parts (TypedStmt-F.UpdateVar var op value) = more 16 (number_need value)
stmt_need_by_parts (TypedStmt-F.UpdateMap m keys op value) = update_map_need (values_need keys) (number_need value)
stmt_need_by_parts (TypedStmt-F.Gather m keys kind number) = gather_need (values_need keys) number
stmt_need_by_parts (TypedStmt-F.Step value) = number_need value
stmt_need_by_parts (TypedStmt-F.Printf format values) = taking_need (values_need values)
stmt_need_by_parts (TypedStmt-F.Print m top div) = need 0 16
stmt_need_by_parts (TypedStmt-F.Clear m) = need 0 12
stmt_need_by_parts (TypedStmt-F.Zero m) = need 0 12
stmt_need_by_parts (TypedStmt-F.Delete m keys) = taking_need (values_need keys)
stmt_need_by_parts (TypedStmt-F.Jump jump) = jump_need jump
stmt_need_by_parts (TypedStmt-F.If arms otherwise) = greater (all_need (map arm_need arms)) (otherwise_need otherwise)
stmt_need_by_parts (TypedStmt-F.While test block line) = more 24 (greater (number_need test) block)
stmt_need_by_parts (TypedStmt-F.Unroll turns block line) = need (8 + block.frame) (32 + block.code)

abbrev pub block_need_by_parts : TypedBlock-F Need Need → Need
block_need_by_parts b = all_need b.stmts

-- what a statement needs, and a block
abbrev pub stmt_need : TypedStmt → Need
stmt_need = fold-TypedStmt Need Need stmt_need_by_parts block_need_by_parts

abbrev pub block_need : TypedBlock → Need
block_need = fold-TypedBlock Need Need stmt_need_by_parts block_need_by_parts

-- the arms of an `if`, and the block of an `else`
abbrev pub tree_arms_need : List (NumExpr × TypedBlock) → Need
tree_arms_need arms = all_need (map (λ (arm : NumExpr × TypedBlock). arm_need (arm.0, block_need arm.1)) arms)

abbrev pub tree_else_need : Option TypedBlock → Need
tree_else_need otherwise = otherwise_need (option_map block_need otherwise)

abbrev pub predicate_need : Option NumExpr → Need
predicate_need None = need 0 0
predicate_need (Some e) = more 8 (number_need e)

-- a whole body: 24 bytes are its own, and each variable has its bytes
abbrev pub tree_need : TypedTree → Need
tree_need tree =
    need (24 + sizes_of tree.variables + (greater (predicate_need tree.predicate) (block_need tree.block)).frame)
    (32 + (greater (predicate_need tree.predicate) (block_need tree.block)).code)
