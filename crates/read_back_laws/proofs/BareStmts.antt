-- The texts of statements and their trees without places, a lemma a variant.
use Rattle.std.proofs.Common.{◌≡◌, ◌++◌, ℕ, ℤ, List, [], ◌∷◌, Option, Some, None, codes, map, option_map, refl, sym, ap, ◌∙◌}
use Rattle.bt_core.specs.declared.operator.BinOp.{BinOp}
use Rattle.bt_core.specs.declared.place.Place.{Place}
use Rattle.bt_ast.specs.declared.expr.Expr.{Expr}
use Rattle.bt_ast.specs.declared.expr.MapRef.{MapRef}
use Rattle.bt_ast.specs.declared.expr.IncDec.{IncDec}
use Rattle.bt_ast.specs.declared.expr.Target.{Target}
use Rattle.bt_ast.specs.declared.stmt.AggCall.{AggCall}
use Rattle.bt_ast.specs.declared.stmt.Block.{Block, roll-Block, fold-roll-Block}
use Rattle.bt_ast.specs.declared.stmt.Stmt.{Stmt, fold-roll-Stmt}
use Rattle.bt_ast.specs.declared.stmt.StmtKind.{StmtKind, fold-roll-StmtKind}
use Rattle.bt_ast.specs.declared.stmt.StmtKind.TheVariants as stmts
use Rattle.bt_ast.specs.declared.stmt.StmtKind.TheOpen.{StmtKind-F}
use Rattle.bt_ast.specs.declared.stmt.StmtKind.TheShapes.{former-StmtKind-If-0-at-2}
use Rattle.ast_text.specs.Words.{token, ending, number_text, quoted_text, assign_mark}
use Rattle.ast_text.specs.Exprs.{expr_text, target_text, step_text, map_text, marked}
use Rattle.ast_text.specs.Stmts as texts
use Rattle.ast_text.specs.Stmts.{call_text, simple, agg_text, optional_text, arms_text, otherwise_text, arm_of, joined, kind_text, block_text, stmt_text}
use Rattle.bt_grammar.specs.Tokens.{origin}
use Rattle.bt_grammar.specs.Trees.{stmt}
use Rattle.read_back_laws.specs.Bare as bares
use Rattle.read_back_laws.specs.Bare.{bare_expr, bare_target, bare_step, bare_map, bare_agg, arm_layer, bare_statement, bare_block, bare_stmt, bare_arm}

pub SetAgg_text : (m : MapRef) (agg : AggCall) (place : Place) → kind_text (stmts.SetAgg m agg place) ≡ simple (map_text m ++ (token (codes "=") ++ agg_text agg))
SetAgg_text m agg place = ap kind_text (sym (stmts.rolls-SetAgg m agg place)) ∙ fold-roll-StmtKind (List ℕ) (List ℕ) (List ℕ) texts.kind_layer texts.block_layer texts.stmt_layer (StmtKind-F.SetAgg m agg place)

pub SetAgg_bare : (m : MapRef) (agg : AggCall) (place : Place) → bare_statement (stmts.SetAgg m agg place) ≡ stmts.SetAgg (bare_map m) (bare_agg agg) origin
SetAgg_bare m agg place = ap bare_statement (sym (stmts.rolls-SetAgg m agg place)) ∙ (fold-roll-StmtKind StmtKind Block Stmt bares.statement_layer bares.block_layer bares.stmt_layer (StmtKind-F.SetAgg m agg place) ∙ stmts.rolls-SetAgg (bare_map m) (bare_agg agg) origin)

pub Assign_text : (target : Target) (op : Option BinOp) (e : Expr) → kind_text (stmts.Assign target op e) ≡ simple (target_text target ++ (token (assign_mark op) ++ expr_text e))
Assign_text target op e = ap kind_text (sym (stmts.rolls-Assign target op e)) ∙ fold-roll-StmtKind (List ℕ) (List ℕ) (List ℕ) texts.kind_layer texts.block_layer texts.stmt_layer (StmtKind-F.Assign target op e)

pub Assign_bare : (target : Target) (op : Option BinOp) (e : Expr) → bare_statement (stmts.Assign target op e) ≡ stmts.Assign (bare_target target) op (bare_expr e)
Assign_bare target op e = ap bare_statement (sym (stmts.rolls-Assign target op e)) ∙ (fold-roll-StmtKind StmtKind Block Stmt bares.statement_layer bares.block_layer bares.stmt_layer (StmtKind-F.Assign target op e) ∙ stmts.rolls-Assign (bare_target target) op (bare_expr e))

pub Step_text : (s : IncDec) → kind_text (stmts.Step s) ≡ simple (step_text s)
Step_text s = ap kind_text (sym (stmts.rolls-Step s)) ∙ fold-roll-StmtKind (List ℕ) (List ℕ) (List ℕ) texts.kind_layer texts.block_layer texts.stmt_layer (StmtKind-F.Step s)

pub Step_bare : (s : IncDec) → bare_statement (stmts.Step s) ≡ stmts.Step (bare_step s)
Step_bare s = ap bare_statement (sym (stmts.rolls-Step s)) ∙ (fold-roll-StmtKind StmtKind Block Stmt bares.statement_layer bares.block_layer bares.stmt_layer (StmtKind-F.Step s) ∙ stmts.rolls-Step (bare_step s))

pub Printf_text : (format : List ℕ) (place : Place) (values : List Expr) → kind_text (stmts.Printf format place values) ≡ simple (call_text (codes "printf") (quoted_text format ++ marked (codes ",") (map expr_text values)))
Printf_text format place values = ap kind_text (sym (stmts.rolls-Printf format place values)) ∙ fold-roll-StmtKind (List ℕ) (List ℕ) (List ℕ) texts.kind_layer texts.block_layer texts.stmt_layer (StmtKind-F.Printf format place values)

pub Printf_bare : (format : List ℕ) (place : Place) (values : List Expr) → bare_statement (stmts.Printf format place values) ≡ stmts.Printf format origin (map bare_expr values)
Printf_bare format place values = ap bare_statement (sym (stmts.rolls-Printf format place values)) ∙ (fold-roll-StmtKind StmtKind Block Stmt bares.statement_layer bares.block_layer bares.stmt_layer (StmtKind-F.Printf format place values) ∙ stmts.rolls-Printf format origin (map bare_expr values))

pub Print_text : (m : MapRef) (top div : Option ℤ) → kind_text (stmts.Print m top div) ≡ simple (call_text (codes "print") (map_text m ++ (optional_text top ++ optional_text div)))
Print_text m top div = ap kind_text (sym (stmts.rolls-Print m top div)) ∙ fold-roll-StmtKind (List ℕ) (List ℕ) (List ℕ) texts.kind_layer texts.block_layer texts.stmt_layer (StmtKind-F.Print m top div)

pub Print_bare : (m : MapRef) (top div : Option ℤ) → bare_statement (stmts.Print m top div) ≡ stmts.Print (bare_map m) top div
Print_bare m top div = ap bare_statement (sym (stmts.rolls-Print m top div)) ∙ (fold-roll-StmtKind StmtKind Block Stmt bares.statement_layer bares.block_layer bares.stmt_layer (StmtKind-F.Print m top div) ∙ stmts.rolls-Print (bare_map m) top div)

pub Clear_text : (m : MapRef) → kind_text (stmts.Clear m) ≡ simple (call_text (codes "clear") (map_text m))
Clear_text m = ap kind_text (sym (stmts.rolls-Clear m)) ∙ fold-roll-StmtKind (List ℕ) (List ℕ) (List ℕ) texts.kind_layer texts.block_layer texts.stmt_layer (StmtKind-F.Clear m)

pub Clear_bare : (m : MapRef) → bare_statement (stmts.Clear m) ≡ stmts.Clear (bare_map m)
Clear_bare m = ap bare_statement (sym (stmts.rolls-Clear m)) ∙ (fold-roll-StmtKind StmtKind Block Stmt bares.statement_layer bares.block_layer bares.stmt_layer (StmtKind-F.Clear m) ∙ stmts.rolls-Clear (bare_map m))

pub Zero_text : (m : MapRef) → kind_text (stmts.Zero m) ≡ simple (call_text (codes "zero") (map_text m))
Zero_text m = ap kind_text (sym (stmts.rolls-Zero m)) ∙ fold-roll-StmtKind (List ℕ) (List ℕ) (List ℕ) texts.kind_layer texts.block_layer texts.stmt_layer (StmtKind-F.Zero m)

pub Zero_bare : (m : MapRef) → bare_statement (stmts.Zero m) ≡ stmts.Zero (bare_map m)
Zero_bare m = ap bare_statement (sym (stmts.rolls-Zero m)) ∙ (fold-roll-StmtKind StmtKind Block Stmt bares.statement_layer bares.block_layer bares.stmt_layer (StmtKind-F.Zero m) ∙ stmts.rolls-Zero (bare_map m))

pub Delete_text : (m : MapRef) → kind_text (stmts.Delete m) ≡ simple (call_text (codes "delete") (map_text m))
Delete_text m = ap kind_text (sym (stmts.rolls-Delete m)) ∙ fold-roll-StmtKind (List ℕ) (List ℕ) (List ℕ) texts.kind_layer texts.block_layer texts.stmt_layer (StmtKind-F.Delete m)

pub Delete_bare : (m : MapRef) → bare_statement (stmts.Delete m) ≡ stmts.Delete (bare_map m)
Delete_bare m = ap bare_statement (sym (stmts.rolls-Delete m)) ∙ (fold-roll-StmtKind StmtKind Block Stmt bares.statement_layer bares.block_layer bares.stmt_layer (StmtKind-F.Delete m) ∙ stmts.rolls-Delete (bare_map m))

pub DeleteKey_text : (m : MapRef) (key : Expr) → kind_text (stmts.DeleteKey m key) ≡ simple (call_text (codes "delete") (map_text m ++ (token (codes ",") ++ expr_text key)))
DeleteKey_text m key = ap kind_text (sym (stmts.rolls-DeleteKey m key)) ∙ fold-roll-StmtKind (List ℕ) (List ℕ) (List ℕ) texts.kind_layer texts.block_layer texts.stmt_layer (StmtKind-F.DeleteKey m key)

pub DeleteKey_bare : (m : MapRef) (key : Expr) → bare_statement (stmts.DeleteKey m key) ≡ stmts.DeleteKey (bare_map m) (bare_expr key)
DeleteKey_bare m key = ap bare_statement (sym (stmts.rolls-DeleteKey m key)) ∙ (fold-roll-StmtKind StmtKind Block Stmt bares.statement_layer bares.block_layer bares.stmt_layer (StmtKind-F.DeleteKey m key) ∙ stmts.rolls-DeleteKey (bare_map m) (bare_expr key))

pub Exit_text : kind_text stmts.Exit ≡ simple (call_text (codes "exit") [])
Exit_text = ap kind_text (sym stmts.rolls-Exit) ∙ fold-roll-StmtKind (List ℕ) (List ℕ) (List ℕ) texts.kind_layer texts.block_layer texts.stmt_layer StmtKind-F.Exit

pub Exit_bare : bare_statement stmts.Exit ≡ stmts.Exit
Exit_bare = ap bare_statement (sym stmts.rolls-Exit) ∙ (fold-roll-StmtKind StmtKind Block Stmt bares.statement_layer bares.block_layer bares.stmt_layer StmtKind-F.Exit ∙ stmts.rolls-Exit)

pub Break_text : kind_text stmts.Break ≡ simple (token (codes "break"))
Break_text = ap kind_text (sym stmts.rolls-Break) ∙ fold-roll-StmtKind (List ℕ) (List ℕ) (List ℕ) texts.kind_layer texts.block_layer texts.stmt_layer StmtKind-F.Break

pub Break_bare : bare_statement stmts.Break ≡ stmts.Break
Break_bare = ap bare_statement (sym stmts.rolls-Break) ∙ (fold-roll-StmtKind StmtKind Block Stmt bares.statement_layer bares.block_layer bares.stmt_layer StmtKind-F.Break ∙ stmts.rolls-Break)

pub Continue_text : kind_text stmts.Continue ≡ simple (token (codes "continue"))
Continue_text = ap kind_text (sym stmts.rolls-Continue) ∙ fold-roll-StmtKind (List ℕ) (List ℕ) (List ℕ) texts.kind_layer texts.block_layer texts.stmt_layer StmtKind-F.Continue

pub Continue_bare : bare_statement stmts.Continue ≡ stmts.Continue
Continue_bare = ap bare_statement (sym stmts.rolls-Continue) ∙ (fold-roll-StmtKind StmtKind Block Stmt bares.statement_layer bares.block_layer bares.stmt_layer StmtKind-F.Continue ∙ stmts.rolls-Continue)

pub Return_text : kind_text stmts.Return ≡ simple (token (codes "return"))
Return_text = ap kind_text (sym stmts.rolls-Return) ∙ fold-roll-StmtKind (List ℕ) (List ℕ) (List ℕ) texts.kind_layer texts.block_layer texts.stmt_layer StmtKind-F.Return

pub Return_bare : bare_statement stmts.Return ≡ stmts.Return
Return_bare = ap bare_statement (sym stmts.rolls-Return) ∙ (fold-roll-StmtKind StmtKind Block Stmt bares.statement_layer bares.block_layer bares.stmt_layer StmtKind-F.Return ∙ stmts.rolls-Return)

pub While_text : (test : Expr) (block : Block) → kind_text (stmts.While test block) ≡ call_text (codes "while") (expr_text test) ++ block_text block
While_text test block = ap kind_text (sym (stmts.rolls-While test block)) ∙ fold-roll-StmtKind (List ℕ) (List ℕ) (List ℕ) texts.kind_layer texts.block_layer texts.stmt_layer (StmtKind-F.While test block)

pub While_bare : (test : Expr) (block : Block) → bare_statement (stmts.While test block) ≡ stmts.While (bare_expr test) (bare_block block)
While_bare test block = ap bare_statement (sym (stmts.rolls-While test block)) ∙ (fold-roll-StmtKind StmtKind Block Stmt bares.statement_layer bares.block_layer bares.stmt_layer (StmtKind-F.While test block) ∙ stmts.rolls-While (bare_expr test) (bare_block block))

pub Unroll_text : (turns : ℤ) (block : Block) → kind_text (stmts.Unroll turns block) ≡ call_text (codes "unroll") (number_text turns) ++ block_text block
Unroll_text turns block = ap kind_text (sym (stmts.rolls-Unroll turns block)) ∙ fold-roll-StmtKind (List ℕ) (List ℕ) (List ℕ) texts.kind_layer texts.block_layer texts.stmt_layer (StmtKind-F.Unroll turns block)

pub Unroll_bare : (turns : ℤ) (block : Block) → bare_statement (stmts.Unroll turns block) ≡ stmts.Unroll turns (bare_block block)
Unroll_bare turns block = ap bare_statement (sym (stmts.rolls-Unroll turns block)) ∙ (fold-roll-StmtKind StmtKind Block Stmt bares.statement_layer bares.block_layer bares.stmt_layer (StmtKind-F.Unroll turns block) ∙ stmts.rolls-Unroll turns (bare_block block))

-- what the folds make of the arms
arms_mapped : (arms : List (Expr × Block)) → map (former-StmtKind-If-0-at-2.map Block (List ℕ) block_text) arms ≡ map arm_of arms
arms_mapped [] = refl
arms_mapped (arm ∷ arms) = ap (λ (l : List (Expr × List ℕ)). arm_of arm ∷ l) (arms_mapped arms)

arms_bared : (arms : List (Expr × Block)) → map arm_layer (map (former-StmtKind-If-0-at-2.map Block Block bare_block) arms) ≡ map bare_arm arms
arms_bared [] = refl
arms_bared (arm ∷ arms) = ap (λ (l : List (Expr × Block)). bare_arm arm ∷ l) (arms_bared arms)

pub If_text : (arms : List (Expr × Block)) (other : Option Block) → kind_text (stmts.If arms other) ≡ arms_text (map arm_of arms) ++ otherwise_text (option_map block_text other)
If_text arms None = ap kind_text (sym (stmts.rolls-If arms None)) ∙ (fold-roll-StmtKind (List ℕ) (List ℕ) (List ℕ) texts.kind_layer texts.block_layer texts.stmt_layer (StmtKind-F.If arms None)
    ∙ ap (λ (l : List (Expr × List ℕ)). arms_text l ++ []) (arms_mapped arms))
If_text arms (Some block) = ap kind_text (sym (stmts.rolls-If arms (Some block))) ∙ (fold-roll-StmtKind (List ℕ) (List ℕ) (List ℕ) texts.kind_layer texts.block_layer texts.stmt_layer (StmtKind-F.If arms (Some block))
    ∙ ap (λ (l : List (Expr × List ℕ)). arms_text l ++ otherwise_text (Some (block_text block))) (arms_mapped arms))

pub If_bare : (arms : List (Expr × Block)) (other : Option Block) → bare_statement (stmts.If arms other) ≡ stmts.If (map bare_arm arms) (option_map bare_block other)
If_bare arms None = ap bare_statement (sym (stmts.rolls-If arms None)) ∙ (fold-roll-StmtKind StmtKind Block Stmt bares.statement_layer bares.block_layer bares.stmt_layer (StmtKind-F.If arms None)
    ∙ (stmts.rolls-If _ None ∙ ap (λ (l : List (Expr × Block)). stmts.If l None) (arms_bared arms)))
If_bare arms (Some block) = ap bare_statement (sym (stmts.rolls-If arms (Some block))) ∙ (fold-roll-StmtKind StmtKind Block Stmt bares.statement_layer bares.block_layer bares.stmt_layer (StmtKind-F.If arms (Some block))
    ∙ (stmts.rolls-If _ (Some (bare_block block)) ∙ ap (λ (l : List (Expr × Block)). stmts.If l (Some (bare_block block))) (arms_bared arms)))

pub stmt_text_is : (p : Place) (kind : StmtKind) → stmt_text (stmt p kind) ≡ kind_text kind
stmt_text_is p kind = fold-roll-Stmt (List ℕ) (List ℕ) (List ℕ) texts.kind_layer texts.block_layer texts.stmt_layer (record { kind = kind; place = p })

pub stmt_bare_is : (p : Place) (kind : StmtKind) → bare_stmt (stmt p kind) ≡ stmt origin (bare_statement kind)
stmt_bare_is p kind = fold-roll-Stmt StmtKind Block Stmt bares.statement_layer bares.block_layer bares.stmt_layer (record { kind = kind; place = p })

pub block_text_is : (p : Place) (body : List Stmt) → block_text (roll-Block (record { stmts = body; place = p })) ≡ ending (codes "{") ++ (joined (map stmt_text body) ++ ending (codes "}"))
block_text_is p body = fold-roll-Block (List ℕ) (List ℕ) (List ℕ) texts.kind_layer texts.block_layer texts.stmt_layer (record { stmts = body; place = p })

pub block_bare_is : (p : Place) (body : List Stmt) → bare_block (roll-Block (record { stmts = body; place = p })) ≡ roll-Block (record { stmts = map bare_stmt body; place = origin })
block_bare_is p body = fold-roll-Block StmtKind Block Stmt bares.statement_layer bares.block_layer bares.stmt_layer (record { stmts = body; place = p })
