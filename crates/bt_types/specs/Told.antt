-- The mentions of statements in walk order, and their words.
use Rattle.std.specs.Prelude.{ℕ, ℤ, pos, unsigned_abs, Bool, true, List, [], ◌∷◌, ◌++◌, Option, Some, None, unwrap_or, map, length, if◌then◌else◌}
use Rattle.bt_ast.specs.declared.expr.Expr.{Expr, out-Expr}
use Rattle.bt_ast.specs.contracts.gathering.GatheringPartialEq.TheImpl as functions
use Rattle.bt_ast.specs.declared.gathering.Gathering.{Gathering}
use Rattle.bt_ast.specs.declared.gathering.TheConstants.{GATHERINGS}
use Rattle.bt_ast.specs.declared.stmt.AggCall.{AggCall}
use Rattle.bt_ast.specs.declared.stmt.AggCall.TheVariants.{Count, Gather, Lhist}
use Rattle.bt_ast.specs.declared.stmt.Block.{Block, fold-Block}
use Rattle.bt_ast.specs.declared.stmt.Stmt.{Stmt, fold-Stmt}
use Rattle.bt_ast.specs.declared.stmt.StmtKind.{StmtKind, fold-StmtKind}
use Rattle.bt_ast.specs.declared.stmt.StmtKind.TheOpen.{StmtKind-F, Block-F, Stmt-F}
use Rattle.bt_core.specs.declared.map.AggKind.{AggKind}
use Rattle.bt_core.specs.declared.map.AggKind.TheVariants as agg
use Rattle.bt_core.specs.declared.operator.BinOp.{BinOp}
use Rattle.bt_core.specs.declared.place.Place.{Place}
use Rattle.typed_tree.specs.declared.stmt.Jump.TheVariants.{Break, Continue, Exit, Return}
use Rattle.expr_types.specs.Mentions.{Sort, Mention, Uses, Steps, Sets, Gathers, NeedsShared, Deletes, ReadsVar, SetsVar, OfVar, NeedsWhole, NeedsBounds, NeedsTurns, NeedsRows, Prints, Jumps, Point}
use Rattle.expr_types.specs.Mentions.{Word, AssignWord, VarWord, GatherWord, DeleteWord, PrintfWord, ShowWord, ClearWord, ZeroWord, JumpWord, WhileWord, UnrollWord, ArmWord, ElseWord, NoElseWord, EndWord}
use Rattle.expr_types.specs.Walk.{Seen, MapSeen, TargetSeen, OnMap, OnVar, at, points_of, words_of, map_words, of_expr, of_map, of_step, of_target}

-- what a part of a script mentions, and its words
pub record Told : Type 0 where
  pub points : List Point
  pub words : List Word

abbrev pub told : List Point → List Word → Told
told points words = record { points = points; words = words }

-- one behind the other
abbrev pub next : Told → Told → Told
next s t = told (s.points ++ t.points) (s.words ++ t.words)

abbrev pub told_in_turn : List Told → Told
told_in_turn [] = told [] []
told_in_turn (t ∷ ts) = next t (told_in_turn ts)

-- a word alone; a mention alone
abbrev pub says : Word → Told
says word = told [] (word ∷ [])

abbrev pub asks : Place → Mention → Told
asks place mention = told (at place mention ∷ []) []

abbrev pub value_told : Seen → Told
value_told s = told s.points s.words

abbrev pub values_told : List Seen → Told
values_told ss = told (points_of ss) (words_of ss)

-- a whole number that is asked for at a place; a condition asks for it at its own
abbrev pub number_told : Expr → Place → Told
number_told e place = next (value_told (of_expr e)) (asks place (NeedsWhole (of_expr e).sort))

abbrev pub condition_told : Expr → Told
condition_told e = number_told e (out-Expr e).place

-- `target = value`: the key, the value, the target
abbrev pub set_told : TargetSeen → Seen → Told
set_told (OnMap m) s = told (m.points ++ (s.points ++ at m.place (Sets m.name m.keys s.sort) ∷ [])) (AssignWord None ∷ (map_words m ++ s.words))
set_told (OnVar name place) s = told (s.points ++ at place (SetsVar name s.sort) ∷ []) (AssignWord None ∷ VarWord name ∷ s.words)

-- `target op= value`: the key, the value, the target, which is a whole number, and then the value's type
abbrev pub update_told : BinOp → TargetSeen → Seen → Place → Told
update_told op (OnMap m) s place =
    told (m.points ++ (s.points ++ at m.place (Steps m.name m.keys) ∷ at place (NeedsWhole s.sort) ∷ [])) (AssignWord (Some op) ∷ (map_words m ++ s.words))
update_told op (OnVar name at_var) s place =
    told (s.points ++ at at_var (ReadsVar name) ∷ at place (NeedsWhole (OfVar name)) ∷ at place (NeedsWhole s.sort) ∷ []) (AssignWord (Some op) ∷ VarWord name ∷ s.words)

abbrev pub assign_told : Option BinOp → TargetSeen → Seen → Place → Told
assign_told None target value place = set_told target value
assign_told (Some op) target value place = update_told op target value place

-- the kind of the first row with the function
abbrev pub function_kind : List (Gathering × AggKind) → Gathering → AggKind
function_kind [] function = agg.Count
function_kind (row ∷ rows) function = if functions.ghosts.eq row.0 function then row.1 else function_kind rows function

-- the kind of an aggregation, and the number that it gathers
abbrev pub kind_of_call : AggCall → AggKind
kind_of_call Count = agg.Count
kind_of_call (Gather function e) = function_kind GATHERINGS function
kind_of_call (Lhist e min max step) = agg.Lhist min max step

abbrev pub number_of_call : AggCall → Option Expr
number_of_call Count = None
number_of_call (Gather function e) = Some e
number_of_call (Lhist e min max step) = Some e

-- an aggregation's number, which its word asks to be whole
abbrev pub gathered_told : Option Expr → Place → Told
gathered_told None word = told [] []
gathered_told (Some e) word = number_told e word

-- the key, the number, the aggregation's bounds, the map
abbrev pub gather_told : MapSeen → AggKind → Told → Place → Told
gather_told m kind number word =
    told (m.points ++ (number.points ++ at word (NeedsBounds kind) ∷ at m.place (Gathers m.name m.keys kind) ∷ []))
    (GatherWord m.name (length m.keys) kind ∷ (m.key_words ++ number.words))

-- `printf`: the arguments, and then the format
abbrev pub printf_told : List ℕ → Place → List Seen → Told
printf_told format place values =
    next (says (PrintfWord format place)) (next (values_told values) (next (says EndWord) (asks place (Prints format place (map (λ v. v.sort) values)))))

-- a map as a whole
abbrev pub used : MapSeen → List Point
used m = m.points ++ at m.place (Uses m.name) ∷ []

-- the numbers of `print`: what is left out is 0 and 1
abbrev pub print_told : MapSeen → ℤ → ℤ → Place → Told
print_told m top div place = told (used m ++ at place (NeedsRows top div) ∷ []) (ShowWord m.name (unsigned_abs top) div ∷ [])

abbrev pub clear_told : MapSeen → Told
clear_told m = told (used m) (ClearWord m.name ∷ [])

abbrev pub zero_told : MapSeen → Told
zero_told m = told (used m) (ZeroWord m.name ∷ [])

-- `delete`: the map and the key, and then the mention of the map; a key may stand apart from the map
abbrev pub delete_points : List ℕ → Place → Place → List Sort → List Point
delete_points name at_map place keys = at at_map (Uses name) ∷ at place (NeedsShared name) ∷ at at_map (Deletes name keys) ∷ []

abbrev pub delete_told : MapSeen → List Seen → Place → Told
delete_told m apart place =
    told (m.points ++ (points_of apart ++ delete_points m.name m.place place (m.keys ++ map (λ s. s.sort) apart)))
    (DeleteWord m.name (length (m.keys ++ map (λ s. s.sort) apart)) ∷ (m.key_words ++ words_of apart))

-- several statements, and their end
abbrev pub block_told : List Told → Told
block_told stmts = next (told_in_turn stmts) (says EndWord)

-- an arm; the block of `else`
abbrev pub arm_told : Expr × Told → Told
arm_told arm = next (says ArmWord) (next (condition_told arm.0) arm.1)

abbrev pub otherwise_told : Option Told → Told
otherwise_told None = says NoElseWord
otherwise_told (Some block) = next (says ElseWord) block

-- inside a loop or outside
abbrev pub option_told : Bool → Option (Bool → Told) → Option Told
option_told inside None = None
option_told inside (Some block) = Some (block inside)

abbrev pub if_told : List Told → Option Told → Told
if_told arms otherwise = next (told_in_turn arms) (otherwise_told otherwise)

-- loops whose word stands here
abbrev pub while_told : Place → Expr → Told → Told
while_told place test block = next (says (WhileWord place.line)) (next (condition_told test) block)

abbrev pub unroll_told : Place → ℤ → Told → Told
unroll_told place turns block = next (says (UnrollWord (unsigned_abs turns) place.line)) (next block (asks place (NeedsTurns turns)))

-- one layer: what is told of a statement inside or outside a loop, that begins at a place
abbrev pub stmt_kind_layer : StmtKind-F (Bool → Place → Told) (Bool → Told) (Bool → Told) → Bool → Place → Told
stmt_kind_layer (StmtKind-F.SetAgg m call word) inside place = gather_told (of_map m) (kind_of_call call) (gathered_told (number_of_call call) word) word
stmt_kind_layer (StmtKind-F.Assign target op e) inside place = assign_told op (of_target target) (of_expr e) place
stmt_kind_layer (StmtKind-F.Step step) inside place = value_told (of_step step)
stmt_kind_layer (StmtKind-F.Printf format at_format values) inside place = printf_told format at_format (map of_expr values)
stmt_kind_layer (StmtKind-F.Print m top div) inside place = print_told (of_map m) (unwrap_or top (pos 0)) (unwrap_or div (pos 1)) place
stmt_kind_layer (StmtKind-F.Clear m) inside place = clear_told (of_map m)
stmt_kind_layer (StmtKind-F.Zero m) inside place = zero_told (of_map m)
stmt_kind_layer (StmtKind-F.Delete m) inside place = delete_told (of_map m) [] place
stmt_kind_layer (StmtKind-F.DeleteKey m key) inside place = delete_told (of_map m) (of_expr key ∷ []) place
stmt_kind_layer StmtKind-F.Exit inside place = says (JumpWord Exit)
stmt_kind_layer StmtKind-F.Break inside place = next (says (JumpWord Break)) (asks place (Jumps inside))
stmt_kind_layer StmtKind-F.Continue inside place = next (says (JumpWord Continue)) (asks place (Jumps inside))
stmt_kind_layer StmtKind-F.Return inside place = says (JumpWord Return)
stmt_kind_layer (StmtKind-F.If arms otherwise) inside place = if_told (map (λ arm. arm_told (arm.0, arm.1 inside)) arms) (option_told inside otherwise)
stmt_kind_layer (StmtKind-F.While test block) inside place = while_told place test (block true)
stmt_kind_layer (StmtKind-F.Unroll turns block) inside place = unroll_told place turns (block true)

abbrev pub told_stmt_layer : Stmt-F (Bool → Place → Told) (Bool → Told) (Bool → Told) → Bool → Told
told_stmt_layer s inside = s.kind inside s.place

abbrev pub told_block_layer : Block-F (Bool → Place → Told) (Bool → Told) (Bool → Told) → Bool → Told
told_block_layer b inside = block_told (map (λ s. s inside) b.stmts)

abbrev pub of_stmt_kind : StmtKind → Bool → Place → Told
of_stmt_kind = fold-StmtKind (Bool → Place → Told) (Bool → Told) (Bool → Told) stmt_kind_layer told_block_layer told_stmt_layer

abbrev pub of_block : Block → Bool → Told
of_block = fold-Block (Bool → Place → Told) (Bool → Told) (Bool → Told) stmt_kind_layer told_block_layer told_stmt_layer

abbrev pub of_stmt : Stmt → Bool → Told
of_stmt = fold-Stmt (Bool → Place → Told) (Bool → Told) (Bool → Told) stmt_kind_layer told_block_layer told_stmt_layer
