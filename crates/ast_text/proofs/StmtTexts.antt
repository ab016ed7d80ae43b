-- The texts of statements with blocks.
use Rattle.std.proofs.Common.{◌≡◌, ◌++◌, ℕ, ℤ, List, [], ◌∷◌, Option, Some, None, codes, map, option_map, refl, sym, ap, ◌∙◌}
use Rattle.bt_ast.specs.declared.expr.Expr.{Expr}
use Rattle.bt_ast.specs.declared.stmt.Block.{Block}
use Rattle.bt_ast.specs.declared.stmt.StmtKind.{fold-roll-StmtKind}
use Rattle.bt_ast.specs.declared.stmt.StmtKind.TheVariants.{While, Unroll, If, rolls-While, rolls-Unroll, rolls-If}
use Rattle.bt_ast.specs.declared.stmt.StmtKind.TheOpen.{StmtKind-F}
use Rattle.bt_ast.specs.declared.stmt.StmtKind.TheShapes.{former-StmtKind-If-0-at-2}
use Rattle.ast_text.specs.Words.{number_text}
use Rattle.ast_text.specs.Exprs.{expr_text}
use Rattle.ast_text.specs.Stmts.{call_text, arms_text, otherwise_text, arm_of, kind_layer, block_layer, stmt_layer, kind_text, block_text}

pub while_text : (e : Expr) (b : Block) → kind_text (While e b) ≡ call_text (codes "while") (expr_text e) ++ block_text b
while_text e b = ap kind_text (sym (rolls-While e b)) ∙ fold-roll-StmtKind (List ℕ) (List ℕ) (List ℕ) kind_layer block_layer stmt_layer (StmtKind-F.While e b)

pub unroll_text : (n : ℤ) (b : Block) → kind_text (Unroll n b) ≡ call_text (codes "unroll") (number_text n) ++ block_text b
unroll_text n b = ap kind_text (sym (rolls-Unroll n b)) ∙ fold-roll-StmtKind (List ℕ) (List ℕ) (List ℕ) kind_layer block_layer stmt_layer (StmtKind-F.Unroll n b)

-- what the fold makes of the arms
arms_mapped : (arms : List (Expr × Block)) → map (former-StmtKind-If-0-at-2.map Block (List ℕ) block_text) arms ≡ map arm_of arms
arms_mapped [] = refl
arms_mapped (arm ∷ arms) = ap (λ (l : List (Expr × List ℕ)). arm_of arm ∷ l) (arms_mapped arms)

pub if_text : (arms : List (Expr × Block)) (other : Option Block) → kind_text (If arms other) ≡ arms_text (map arm_of arms) ++ otherwise_text (option_map block_text other)
if_text arms None = ap kind_text (sym (rolls-If arms None)) ∙ (fold-roll-StmtKind (List ℕ) (List ℕ) (List ℕ) kind_layer block_layer stmt_layer (StmtKind-F.If arms None)
    ∙ ap (λ (l : List (Expr × List ℕ)). arms_text l ++ []) (arms_mapped arms))
if_text arms (Some block) = ap kind_text (sym (rolls-If arms (Some block))) ∙ (fold-roll-StmtKind (List ℕ) (List ℕ) (List ℕ) kind_layer block_layer stmt_layer (StmtKind-F.If arms (Some block))
    ∙ ap (λ (l : List (Expr × List ℕ)). arms_text l ++ otherwise_text (Some (block_text block))) (arms_mapped arms))
