-- What statements do.
use Rattle.std.specs.Prelude.{ℕ, zero, suc, ℤ, pos, List, [], ◌∷◌, Option, Some, None, map}
use Rattle.bt_core.specs.declared.item.Item.TheVariants as items
use Rattle.bt_core.specs.declared.map.MapId.{MapId}
use Rattle.bt_core.specs.declared.operator.BinOp.{BinOp}
use Rattle.bt_core.specs.declared.step.ObjectId.TheVariants.{Clock, Out}
use Rattle.bt_core.specs.declared.step.Op.TheVariants as ops
use Rattle.bt_core.specs.declared.value.Value.{Value}
use Rattle.bt_core.specs.declared.value.Value.TheVariants.{Int}
use Rattle.bt_core.specs.Arithmetic.{binary_value}
use Rattle.typed_tree.specs.declared.expr.NumExpr.{NumExpr}
use Rattle.typed_tree.specs.declared.stmt.Jump.{Jump}
use Rattle.typed_tree.specs.declared.stmt.Jump.TheVariants as jumps
use Rattle.typed_tree.specs.declared.stmt.TypedBlock.{TypedBlock, fold-TypedBlock}
use Rattle.typed_tree.specs.declared.stmt.TypedStmt.{TypedStmt, fold-TypedStmt}
use Rattle.typed_tree.specs.declared.stmt.TypedStmt.TheOpen.{TypedStmt-F, TypedBlock-F}
use Rattle.bt_core.specs.declared.ending.Ending.TheVariants as endings
use Rattle.walk_meaning.specs.declared.flow.Flow.{Flow}
use Rattle.walk_meaning.specs.declared.flow.Flow.TheVariants.{Next, Break, Continue, Stop}
use Rattle.map_ops.specs.declared.sweep.Sweep.TheVariants.{Clear, Zero}
use Rattle.map_ops.specs.Asking.{tells, swept, printed}
use Rattle.map_ops.specs.Values.{number_of}
use Rattle.walk_meaning.specs.Does.{Does, given, looked_at, changed, lifted, bind, then, if_holds, in_order}
use Rattle.walk_meaning.specs.Maps.{number_variable, assigned, get, set, delete, add, kind_in_body}
use Rattle.walk_meaning.specs.Exprs.{value_does, values_do, number_does}

-- a statement after which the next one follows
abbrev pub plain : {A : Type 0} → Does A → Does Flow
plain d = then d (given Next)

-- `=`, to a variable and to a map: the key comes first
abbrev pub set_variable : ℕ → Does Value → Does Flow
set_variable var d = bind d (λ value. plain (assigned var value))

abbrev pub set_map : MapId → List (Does Value) → Does Value → Does Flow
set_map m keys d = bind (in_order keys) (λ key. bind d (λ value. plain (set m key value)))

-- `op=`: the old value is read once the right side is known
abbrev pub update_variable : ℕ → BinOp → Does ℤ → Does Flow
update_variable var op d = bind d (λ b. bind (number_variable var) (λ a. plain (assigned var (Int (binary_value op a b)))))

abbrev pub update_at : MapId → List Value → BinOp → ℤ → Does Flow
update_at m key op b = bind (get m key) (λ old. plain (set m key (Int (binary_value op (number_of old) b))))

abbrev pub update_map : MapId → List (Does Value) → BinOp → Does ℤ → Does Flow
update_map m keys op d = bind (in_order keys) (λ key. bind d (λ b. update_at m key op b))

-- the number that an aggregation takes in; `count()` takes in 1
abbrev pub number_or_one : Option NumExpr → Does ℤ
number_or_one None = given (pos 1)
number_or_one (Some e) = number_does e

abbrev pub gather : MapId → List (Does Value) → Does ℤ → Does Flow
gather m keys number = bind (in_order keys) (λ key. bind number (λ n. plain (add m key n)))

abbrev pub printf : ℕ → List (Does Value) → Does Flow
printf format ds = bind (in_order ds) (λ values. plain (lifted (λ scene. tells Out (ops.Emit (items.Printf format values)))))

-- a map is printed, or all objects that hold it are swept, by what it holds
abbrev pub print : MapId → ℕ → ℤ → Does Flow
print m top div = plain (lifted (λ scene. printed (kind_in_body m scene.maps) m top div scene.actors))

abbrev pub clear : MapId → Does Flow
clear m = plain (lifted (λ scene. swept Clear (kind_in_body m scene.maps) m scene.actors))

abbrev pub zero_all : MapId → Does Flow
zero_all m = plain (lifted (λ scene. swept Zero (kind_in_body m scene.maps) m scene.actors))

abbrev pub delete_at : MapId → List (Does Value) → Does Flow
delete_at m keys = bind (in_order keys) (λ key. plain (delete m key))

abbrev pub jump_to : Jump → Does Flow
jump_to jumps.Break = given Break
jump_to jumps.Continue = given Continue
jump_to jumps.Exit = then (lifted (λ scene. tells Clock ops.Stop)) (given (Stop endings.Exit))
jump_to jumps.Return = given (Stop endings.Return)

-- what follows a statement, where it leads there
abbrev pub if_next : Flow → Does Flow → Does Flow
if_next Next rest = rest
if_next Break rest = given Break
if_next Continue rest = given Continue
if_next (Stop ending) rest = given (Stop ending)

-- statements one after another
abbrev pub in_sequence : List (Does Flow) → Does Flow
in_sequence [] = given Next
in_sequence (d ∷ ds) = bind d (λ flow. if_next flow (in_sequence ds))

-- the first arm whose test holds
abbrev pub first_arm : List (Does ℤ × Does Flow) → Does Flow → Does Flow
first_arm [] otherwise = otherwise
first_arm (arm ∷ arms) otherwise = if_holds arm.0 arm.1 (first_arm arms otherwise)

abbrev pub block_or_next : Option (Does Flow) → Does Flow
block_or_next None = given Next
block_or_next (Some block) = block

-- no turn is made any more: the line of the loop is emitted, and the run ends
abbrev pub cut : ℕ → Does Flow
cut line = then (lifted (λ scene. tells Out (ops.Emit (items.Cut line)))) (given (Stop endings.Cut))

-- the block is entered where a turn is left
abbrev pub entered : ℕ → Does Flow → ℕ → Does Flow
entered line block zero = cut line
entered line block (suc left) = then (changed (λ frame. record frame { turns = left })) block

-- one turn of a loop
abbrev pub turn : ℕ → Does Flow → Does Flow
turn line block = bind (looked_at (λ scene frame. frame.turns)) (entered line block)

-- what follows a turn: the loop goes on, or it is left
abbrev pub again : Flow → Does Flow → Does Flow
again Next rest = rest
again Break rest = given Next
again Continue rest = rest
again (Stop ending) rest = given (Stop ending)

-- as many turns as the loop says
abbrev pub turns : ℕ → ℕ → Does Flow → Does Flow
turns zero line block = given Next
turns (suc n) line block = bind (turn line block) (λ flow. again flow (turns n line block))

-- at most so many tests, each with a turn behind it where it holds
abbrev pub tests : ℕ → ℕ → Does ℤ → Does Flow → Does Flow
tests zero line test block = given Next
tests (suc n) line test block = if_holds test (bind (turn line block) (λ flow. again flow (tests n line test block))) (given Next)

-- a test for each turn that is left, and one more, whose turn is not made
abbrev pub while_true : ℕ → Does ℤ → Does Flow → Does Flow
while_true line test block = bind (looked_at (λ scene frame. frame.turns)) (λ left. tests (suc left) line test block)

abbrev pub arm_does : NumExpr × Does Flow → Does ℤ × Does Flow
arm_does arm = (number_does arm.0, arm.1)

-- each kind of statement, by what its blocks do
abbrev pub stmt_by_parts : TypedStmt-F (Does Flow) (Does Flow) → Does Flow
stmt_by_parts (TypedStmt-F.SetVar var value) = set_variable var (value_does value)
stmt_by_parts (TypedStmt-F.SetMap m keys value) = set_map m (values_do keys) (value_does value)
stmt_by_parts (TypedStmt-F.UpdateVar var op value) = update_variable var op (number_does value)
stmt_by_parts (TypedStmt-F.UpdateMap m keys op value) = update_map m (values_do keys) op (number_does value)
stmt_by_parts (TypedStmt-F.Gather m keys kind number) = gather m (values_do keys) (number_or_one number)
stmt_by_parts (TypedStmt-F.Step value) = plain (number_does value)
stmt_by_parts (TypedStmt-F.Printf format values) = printf format (values_do values)
stmt_by_parts (TypedStmt-F.Print m top div) = print m top div
stmt_by_parts (TypedStmt-F.Clear m) = clear m
stmt_by_parts (TypedStmt-F.Zero m) = zero_all m
stmt_by_parts (TypedStmt-F.Delete m keys) = delete_at m (values_do keys)
stmt_by_parts (TypedStmt-F.Jump jump) = jump_to jump
stmt_by_parts (TypedStmt-F.If arms otherwise) = first_arm (map arm_does arms) (block_or_next otherwise)
stmt_by_parts (TypedStmt-F.While test block line) = while_true line (number_does test) block
stmt_by_parts (TypedStmt-F.Unroll n block line) = turns n line block

abbrev pub block_by_parts : TypedBlock-F (Does Flow) (Does Flow) → Does Flow
block_by_parts block = in_sequence block.stmts

-- what a statement does, and a block
abbrev pub stmt_does : TypedStmt → Does Flow
stmt_does = fold-TypedStmt (Does Flow) (Does Flow) stmt_by_parts block_by_parts

abbrev pub block_does : TypedBlock → Does Flow
block_does = fold-TypedBlock (Does Flow) (Does Flow) stmt_by_parts block_by_parts
