-- The parts of bodies by their statements.
use Rattle.std.proofs.Common.{◌≡◌, pos, Bool, true, false, List, [], ◌∷◌, ◌++◌, map, sym, ap, ◌∙◌}
use Rattle.std.specs.Prelude.{None}
use Rattle.bt_core.specs.declared.map.AggKind.TheVariants.{Count}
use Rattle.bt_core.specs.declared.map.Shape.TheVariants.{Int}
use Rattle.typed_tree.specs.declared.body.TypedBody.{TypedBody}
use Rattle.typed_tree.specs.declared.expr.AnyExpr.{fold-roll-AnyExpr}
use Rattle.typed_tree.specs.declared.expr.AnyExpr.TheOpen.{NumExpr-F, AnyExpr-F}
use Rattle.typed_tree.specs.declared.expr.AnyExpr.TheVariants.{Num, rolls-Num}
use Rattle.typed_tree.specs.declared.expr.NumExpr.{fold-roll-NumExpr}
use Rattle.typed_tree.specs.declared.expr.NumExpr.TheVariants.{Agg, rolls-Agg}
use Rattle.typed_tree.specs.declared.stmt.TypedBlock.{TypedBlock, out-TypedBlock, roll-out-TypedBlock, fold-roll-TypedBlock}
use Rattle.typed_tree.specs.declared.stmt.TypedStmt.{TypedStmt, fold-roll-TypedStmt}
use Rattle.typed_tree.specs.declared.stmt.TypedStmt.TheVariants.{rolls-SetVar, rolls-Gather, rolls-Print, rolls-Clear}
use Rattle.typed_tree.specs.declared.stmt.TypedStmt.TheOpen.{TypedStmt-F}
use Rattle.typed_tree.specs.Bodies.{predicate_parts, tree_parts}
use Rattle.typed_tree.specs.Parts.{TreePart, AggOf, Assigned, Cleared, Ending, Gathered, NoOtherwise, Shown, VarOf, Made, made, made_of, num_parts, any_layer, num_layer, str_layer, block_layer, block_parts, joined, set_var_parts, stmt_layer, stmt_parts}
use Rattle.meaning_tests.specs.Bodies.{HasStatements, clear_statement, count_statement, print_statement, read_statement}
use Rattle.meaning_tests.specs.Written.{counts}

abbrev pub parts_with : List (Bool → List TreePart) → List TreePart
parts_with parts = NoOtherwise ∷ (joined (map (λ (k : Bool → List TreePart). k false) parts) ++ Ending ∷ [])

block_is : (b : TypedBlock) → block_parts b ≡ (λ inside. joined (map (λ (k : Bool → List TreePart). k inside) (map stmt_parts (out-TypedBlock b).stmts)) ++ Ending ∷ [])
block_is b = ap block_parts (sym (roll-out-TypedBlock b)) ∙ fold-roll-TypedBlock (Bool → List TreePart) (Bool → List TreePart) stmt_layer block_layer (out-TypedBlock b)

pub parts_are : (statements : List TypedStmt) (parts : List (Bool → List TreePart)) (body : TypedBody) → HasStatements statements body → map stmt_parts statements ≡ parts
    → tree_parts body.tree ≡ parts_with parts
parts_are statements parts body has are =
    (λ i. predicate_parts (has.always i) ++ block_is body.tree.block i false)
    ∙ ap (λ (l : List TypedStmt). parts_with (map stmt_parts l)) has.are ∙ ap parts_with are

abbrev pub count_parts : Bool → List TreePart
count_parts inside = Gathered 0 [] Count true ∷ []

abbrev pub read_parts : Bool → List TreePart
read_parts inside = Assigned None ∷ VarOf 0 Int ∷ AggOf 0 [] ∷ []

abbrev pub print_parts : Bool → List TreePart
print_parts inside = Shown 0 0 (pos 1) ∷ []

abbrev pub clear_parts : Bool → List TreePart
clear_parts inside = Cleared 0 ∷ []

pub count_made : stmt_parts count_statement ≡ count_parts
count_made = ap stmt_parts (sym (rolls-Gather counts [] Count None)) ∙ fold-roll-TypedStmt (Bool → List TreePart) (Bool → List TreePart) stmt_layer block_layer (TypedStmt-F.Gather counts [] Count None)

number_made : num_parts (Agg counts []) ≡ AggOf 0 [] ∷ []
number_made = ap num_parts (sym (rolls-Agg counts [])) ∙ fold-roll-NumExpr Made (List TreePart) (List TreePart) any_layer num_layer str_layer (NumExpr-F.Agg counts [])

value_made : made_of (Num (Agg counts [])) ≡ made Int (AggOf 0 [] ∷ [])
value_made =
    ap made_of (sym (rolls-Num (Agg counts []))) ∙ fold-roll-AnyExpr Made (List TreePart) (List TreePart) any_layer num_layer str_layer (AnyExpr-F.Num (Agg counts []))
    ∙ ap (made Int) number_made

pub read_made : stmt_parts read_statement ≡ read_parts
read_made =
    ap stmt_parts (sym (rolls-SetVar 0 (Num (Agg counts []))))
    ∙ fold-roll-TypedStmt (Bool → List TreePart) (Bool → List TreePart) stmt_layer block_layer (TypedStmt-F.SetVar 0 (Num (Agg counts [])))
    ∙ (λ i. λ (inside : Bool). set_var_parts 0 (value_made i))

pub print_made : stmt_parts print_statement ≡ print_parts
print_made = ap stmt_parts (sym (rolls-Print counts 0 (pos 1))) ∙ fold-roll-TypedStmt (Bool → List TreePart) (Bool → List TreePart) stmt_layer block_layer (TypedStmt-F.Print counts 0 (pos 1))

pub clear_made : stmt_parts clear_statement ≡ clear_parts
clear_made = ap stmt_parts (sym (rolls-Clear counts)) ∙ fold-roll-TypedStmt (Bool → List TreePart) (Bool → List TreePart) stmt_layer block_layer (TypedStmt-F.Clear counts)
