-- The maps and strings of trees, a lemma a variant.
use Rattle.std.proofs.Common.{◌≡◌, ◌++◌, ℕ, ℤ, Bool, List, [], ◌∷◌, Option, Some, None, map, refl, sym, ap, ◌∙◌}
use Rattle.std.specs.Prelude.{option_map}
use Rattle.bt_core.specs.declared.operator.BinOp.{BinOp}
use Rattle.bt_core.specs.declared.operator.UnOp.{UnOp}
use Rattle.bt_core.specs.declared.place.Place.{Place}
use Rattle.bt_ast.specs.declared.expr.Builtin.{Builtin}
use Rattle.bt_ast.specs.declared.expr.Expr.{Expr, fold-roll-Expr}
use Rattle.bt_ast.specs.declared.expr.ExprKind.{ExprKind, fold-roll-ExprKind}
use Rattle.bt_ast.specs.declared.expr.ExprKind.TheVariants as exprs
use Rattle.bt_ast.specs.declared.expr.ExprKind.TheOpen.{ExprKind-F, Target-F}
use Rattle.bt_ast.specs.declared.expr.IncDec.{IncDec, roll-IncDec, fold-roll-IncDec}
use Rattle.bt_ast.specs.declared.expr.MapRef.{MapRef, roll-MapRef, fold-roll-MapRef}
use Rattle.bt_ast.specs.declared.expr.Target.{Target, fold-roll-Target}
use Rattle.bt_ast.specs.declared.expr.Target.TheVariants as targets
use Rattle.bt_ast.specs.declared.expr.VarRef.{VarRef}
use Rattle.bt_ast.specs.declared.stmt.AggCall.{AggCall}
use Rattle.bt_ast.specs.declared.stmt.Block.{Block, roll-Block, fold-roll-Block}
use Rattle.bt_ast.specs.declared.stmt.Stmt.{Stmt, fold-roll-Stmt}
use Rattle.bt_ast.specs.declared.stmt.StmtKind.{StmtKind, fold-roll-StmtKind}
use Rattle.bt_ast.specs.declared.stmt.StmtKind.TheVariants as stmts
use Rattle.bt_ast.specs.declared.stmt.StmtKind.TheOpen.{StmtKind-F}
use Rattle.bt_ast.specs.declared.stmt.StmtKind.TheShapes.{former-StmtKind-If-0-at-2}
use Rattle.bt_grammar.specs.Mentions.{OfMap, OfFormat, OfText, Mentions, joined, kind_layer, target_layer, expr_layer, step_layer, map_layer, expr_mentions, expr_kind_mentions, target_mentions, step_mentions, map_mentions, agg_mentions, arms_mentions, optional_mentions, statement_layer, block_layer, stmt_layer, statement_mentions, block_mentions, stmt_mentions}
use Rattle.bt_grammar.specs.Trees.{expr, stmt}

-- ---- expressions

expr_is : (kind : ExprKind) (p : Place) → expr_mentions (expr kind p) ≡ expr_kind_mentions kind p
expr_is kind p = fold-roll-Expr (Place → Mentions) Mentions Mentions Mentions Mentions kind_layer target_layer expr_layer step_layer map_layer (record { kind = kind; place = p })

pub Number_mentions : (n : ℤ) (p : Place) → expr_mentions (expr (exprs.Number n) p) ≡ []
Number_mentions n p = expr_is (exprs.Number n) p ∙ ap (λ (k : Place → Mentions). k p) (ap expr_kind_mentions (sym (exprs.rolls-Number n))
    ∙ fold-roll-ExprKind (Place → Mentions) Mentions Mentions Mentions Mentions kind_layer target_layer expr_layer step_layer map_layer (ExprKind-F.Number n))

pub Text_mentions : (text : List ℕ) (p : Place) → expr_mentions (expr (exprs.Text text) p) ≡ OfText text p ∷ []
Text_mentions text p = expr_is (exprs.Text text) p ∙ ap (λ (k : Place → Mentions). k p) (ap expr_kind_mentions (sym (exprs.rolls-Text text))
    ∙ fold-roll-ExprKind (Place → Mentions) Mentions Mentions Mentions Mentions kind_layer target_layer expr_layer step_layer map_layer (ExprKind-F.Text text))

pub Builtin_mentions : (b : Builtin) (p : Place) → expr_mentions (expr (exprs.Builtin b) p) ≡ []
Builtin_mentions b p = expr_is (exprs.Builtin b) p ∙ ap (λ (k : Place → Mentions). k p) (ap expr_kind_mentions (sym (exprs.rolls-Builtin b))
    ∙ fold-roll-ExprKind (Place → Mentions) Mentions Mentions Mentions Mentions kind_layer target_layer expr_layer step_layer map_layer (ExprKind-F.Builtin b))

pub Field_mentions : (name : List ℕ) (place : Place) (p : Place) → expr_mentions (expr (exprs.Field name place) p) ≡ []
Field_mentions name place p = expr_is (exprs.Field name place) p ∙ ap (λ (k : Place → Mentions). k p) (ap expr_kind_mentions (sym (exprs.rolls-Field name place))
    ∙ fold-roll-ExprKind (Place → Mentions) Mentions Mentions Mentions Mentions kind_layer target_layer expr_layer step_layer map_layer (ExprKind-F.Field name place))

pub Var_mentions : (v : VarRef) (p : Place) → expr_mentions (expr (exprs.Var v) p) ≡ []
Var_mentions v p = expr_is (exprs.Var v) p ∙ ap (λ (k : Place → Mentions). k p) (ap expr_kind_mentions (sym (exprs.rolls-Var v))
    ∙ fold-roll-ExprKind (Place → Mentions) Mentions Mentions Mentions Mentions kind_layer target_layer expr_layer step_layer map_layer (ExprKind-F.ExprKind::Var v))

pub Map_mentions : (m : MapRef) (p : Place) → expr_mentions (expr (exprs.Map m) p) ≡ map_mentions m
Map_mentions m p = expr_is (exprs.Map m) p ∙ ap (λ (k : Place → Mentions). k p) (ap expr_kind_mentions (sym (exprs.rolls-Map m))
    ∙ fold-roll-ExprKind (Place → Mentions) Mentions Mentions Mentions Mentions kind_layer target_layer expr_layer step_layer map_layer (ExprKind-F.ExprKind::Map m))

pub Step_mentions : (s : IncDec) (p : Place) → expr_mentions (expr (exprs.Step s) p) ≡ step_mentions s
Step_mentions s p = expr_is (exprs.Step s) p ∙ ap (λ (k : Place → Mentions). k p) (ap expr_kind_mentions (sym (exprs.rolls-Step s))
    ∙ fold-roll-ExprKind (Place → Mentions) Mentions Mentions Mentions Mentions kind_layer target_layer expr_layer step_layer map_layer (ExprKind-F.Step s))

pub Paren_mentions : (e : Expr) (p : Place) → expr_mentions (expr (exprs.Paren e) p) ≡ expr_mentions e
Paren_mentions e p = expr_is (exprs.Paren e) p ∙ ap (λ (k : Place → Mentions). k p) (ap expr_kind_mentions (sym (exprs.rolls-Paren e))
    ∙ fold-roll-ExprKind (Place → Mentions) Mentions Mentions Mentions Mentions kind_layer target_layer expr_layer step_layer map_layer (ExprKind-F.Paren e))

pub Unary_mentions : (op : UnOp) (e : Expr) (p : Place) → expr_mentions (expr (exprs.Unary op e) p) ≡ expr_mentions e
Unary_mentions op e p = expr_is (exprs.Unary op e) p ∙ ap (λ (k : Place → Mentions). k p) (ap expr_kind_mentions (sym (exprs.rolls-Unary op e))
    ∙ fold-roll-ExprKind (Place → Mentions) Mentions Mentions Mentions Mentions kind_layer target_layer expr_layer step_layer map_layer (ExprKind-F.Unary op e))

pub Binary_mentions : (op : BinOp) (l r : Expr) (p : Place) → expr_mentions (expr (exprs.Binary op l r) p) ≡ expr_mentions l ++ expr_mentions r
Binary_mentions op l r p = expr_is (exprs.Binary op l r) p ∙ ap (λ (k : Place → Mentions). k p) (ap expr_kind_mentions (sym (exprs.rolls-Binary op l r))
    ∙ fold-roll-ExprKind (Place → Mentions) Mentions Mentions Mentions Mentions kind_layer target_layer expr_layer step_layer map_layer (ExprKind-F.Binary op l r))

pub AndThen_mentions : (l r : Expr) (p : Place) → expr_mentions (expr (exprs.AndThen l r) p) ≡ expr_mentions l ++ expr_mentions r
AndThen_mentions l r p = expr_is (exprs.AndThen l r) p ∙ ap (λ (k : Place → Mentions). k p) (ap expr_kind_mentions (sym (exprs.rolls-AndThen l r))
    ∙ fold-roll-ExprKind (Place → Mentions) Mentions Mentions Mentions Mentions kind_layer target_layer expr_layer step_layer map_layer (ExprKind-F.AndThen l r))

pub OrElse_mentions : (l r : Expr) (p : Place) → expr_mentions (expr (exprs.OrElse l r) p) ≡ expr_mentions l ++ expr_mentions r
OrElse_mentions l r p = expr_is (exprs.OrElse l r) p ∙ ap (λ (k : Place → Mentions). k p) (ap expr_kind_mentions (sym (exprs.rolls-OrElse l r))
    ∙ fold-roll-ExprKind (Place → Mentions) Mentions Mentions Mentions Mentions kind_layer target_layer expr_layer step_layer map_layer (ExprKind-F.OrElse l r))

pub Choose_mentions : (test first second : Expr) (p : Place) → expr_mentions (expr (exprs.Choose test first second) p) ≡ expr_mentions test ++ (expr_mentions first ++ expr_mentions second)
Choose_mentions test first second p = expr_is (exprs.Choose test first second) p ∙ ap (λ (k : Place → Mentions). k p) (ap expr_kind_mentions (sym (exprs.rolls-Choose test first second))
    ∙ fold-roll-ExprKind (Place → Mentions) Mentions Mentions Mentions Mentions kind_layer target_layer expr_layer step_layer map_layer (ExprKind-F.Choose test first second))

pub target_Map : (m : MapRef) → target_mentions (targets.Map m) ≡ map_mentions m
target_Map m = ap target_mentions (sym (targets.rolls-Map m)) ∙ fold-roll-Target (Place → Mentions) Mentions Mentions Mentions Mentions kind_layer target_layer expr_layer step_layer map_layer (Target-F.Target::Map m)

pub target_Var : (v : VarRef) → target_mentions (targets.Var v) ≡ []
target_Var v = ap target_mentions (sym (targets.rolls-Var v)) ∙ fold-roll-Target (Place → Mentions) Mentions Mentions Mentions Mentions kind_layer target_layer expr_layer step_layer map_layer (Target-F.Target::Var v)

pub step_is : (target : Target) (plus before : Bool) (p : Place) → step_mentions (roll-IncDec (record { target = target; plus = plus; «prefix» = before; place = p })) ≡ target_mentions target
step_is target plus before p = fold-roll-IncDec (Place → Mentions) Mentions Mentions Mentions Mentions kind_layer target_layer expr_layer step_layer map_layer (record { target = target; plus = plus; «prefix» = before; place = p })

pub map_is : (name : List ℕ) (keys : List Expr) (p : Place) → map_mentions (roll-MapRef (record { name = name; keys = keys; place = p })) ≡ OfMap name p ∷ joined (map expr_mentions keys)
map_is name keys p = fold-roll-MapRef (Place → Mentions) Mentions Mentions Mentions Mentions kind_layer target_layer expr_layer step_layer map_layer (record { name = name; keys = keys; place = p })

-- ---- statements

pub SetAgg_statement : (m : MapRef) (a : AggCall) (place : Place) → statement_mentions (stmts.SetAgg m a place) ≡ map_mentions m ++ agg_mentions a
SetAgg_statement m a place = ap statement_mentions (sym (stmts.rolls-SetAgg m a place)) ∙ fold-roll-StmtKind Mentions Mentions Mentions statement_layer block_layer stmt_layer (StmtKind-F.SetAgg m a place)

pub Assign_statement : (target : Target) (op : Option BinOp) (e : Expr) → statement_mentions (stmts.Assign target op e) ≡ target_mentions target ++ expr_mentions e
Assign_statement target op e = ap statement_mentions (sym (stmts.rolls-Assign target op e)) ∙ fold-roll-StmtKind Mentions Mentions Mentions statement_layer block_layer stmt_layer (StmtKind-F.Assign target op e)

pub Step_statement : (s : IncDec) → statement_mentions (stmts.Step s) ≡ step_mentions s
Step_statement s = ap statement_mentions (sym (stmts.rolls-Step s)) ∙ fold-roll-StmtKind Mentions Mentions Mentions statement_layer block_layer stmt_layer (StmtKind-F.Step s)

pub Printf_statement : (format : List ℕ) (place : Place) (values : List Expr) → statement_mentions (stmts.Printf format place values) ≡ OfFormat format place ∷ joined (map expr_mentions values)
Printf_statement format place values = ap statement_mentions (sym (stmts.rolls-Printf format place values)) ∙ fold-roll-StmtKind Mentions Mentions Mentions statement_layer block_layer stmt_layer (StmtKind-F.Printf format place values)

pub Print_statement : (m : MapRef) (top div : Option ℤ) → statement_mentions (stmts.Print m top div) ≡ map_mentions m
Print_statement m top div = ap statement_mentions (sym (stmts.rolls-Print m top div)) ∙ fold-roll-StmtKind Mentions Mentions Mentions statement_layer block_layer stmt_layer (StmtKind-F.Print m top div)

pub Clear_statement : (m : MapRef) → statement_mentions (stmts.Clear m) ≡ map_mentions m
Clear_statement m = ap statement_mentions (sym (stmts.rolls-Clear m)) ∙ fold-roll-StmtKind Mentions Mentions Mentions statement_layer block_layer stmt_layer (StmtKind-F.Clear m)

pub Zero_statement : (m : MapRef) → statement_mentions (stmts.Zero m) ≡ map_mentions m
Zero_statement m = ap statement_mentions (sym (stmts.rolls-Zero m)) ∙ fold-roll-StmtKind Mentions Mentions Mentions statement_layer block_layer stmt_layer (StmtKind-F.Zero m)

pub Delete_statement : (m : MapRef) → statement_mentions (stmts.Delete m) ≡ map_mentions m
Delete_statement m = ap statement_mentions (sym (stmts.rolls-Delete m)) ∙ fold-roll-StmtKind Mentions Mentions Mentions statement_layer block_layer stmt_layer (StmtKind-F.Delete m)

pub DeleteKey_statement : (m : MapRef) (key : Expr) → statement_mentions (stmts.DeleteKey m key) ≡ map_mentions m ++ expr_mentions key
DeleteKey_statement m key = ap statement_mentions (sym (stmts.rolls-DeleteKey m key)) ∙ fold-roll-StmtKind Mentions Mentions Mentions statement_layer block_layer stmt_layer (StmtKind-F.DeleteKey m key)

pub Exit_statement : statement_mentions stmts.Exit ≡ []
Exit_statement = ap statement_mentions (sym stmts.rolls-Exit) ∙ fold-roll-StmtKind Mentions Mentions Mentions statement_layer block_layer stmt_layer StmtKind-F.Exit

pub Break_statement : statement_mentions stmts.Break ≡ []
Break_statement = ap statement_mentions (sym stmts.rolls-Break) ∙ fold-roll-StmtKind Mentions Mentions Mentions statement_layer block_layer stmt_layer StmtKind-F.Break

pub Continue_statement : statement_mentions stmts.Continue ≡ []
Continue_statement = ap statement_mentions (sym stmts.rolls-Continue) ∙ fold-roll-StmtKind Mentions Mentions Mentions statement_layer block_layer stmt_layer StmtKind-F.Continue

pub Return_statement : statement_mentions stmts.Return ≡ []
Return_statement = ap statement_mentions (sym stmts.rolls-Return) ∙ fold-roll-StmtKind Mentions Mentions Mentions statement_layer block_layer stmt_layer StmtKind-F.Return

pub While_statement : (test : Expr) (block : Block) → statement_mentions (stmts.While test block) ≡ expr_mentions test ++ block_mentions block
While_statement test block = ap statement_mentions (sym (stmts.rolls-While test block)) ∙ fold-roll-StmtKind Mentions Mentions Mentions statement_layer block_layer stmt_layer (StmtKind-F.While test block)

pub Unroll_statement : (turns : ℤ) (block : Block) → statement_mentions (stmts.Unroll turns block) ≡ block_mentions block
Unroll_statement turns block = ap statement_mentions (sym (stmts.rolls-Unroll turns block)) ∙ fold-roll-StmtKind Mentions Mentions Mentions statement_layer block_layer stmt_layer (StmtKind-F.Unroll turns block)

abbrev pub arm_of : Expr × Block → Expr × Mentions
arm_of arm = (arm.0, block_mentions arm.1)

-- what the fold makes of the arms
arms_mapped : (arms : List (Expr × Block)) → map (former-StmtKind-If-0-at-2.map Block Mentions block_mentions) arms ≡ map arm_of arms
arms_mapped [] = refl
arms_mapped (arm ∷ arms) = ap (λ (l : List (Expr × Mentions)). arm_of arm ∷ l) (arms_mapped arms)

pub If_statement : (arms : List (Expr × Block)) (other : Option Block) → statement_mentions (stmts.If arms other) ≡ arms_mentions (map arm_of arms) ++ optional_mentions (option_map block_mentions other)
If_statement arms None = ap statement_mentions (sym (stmts.rolls-If arms None)) ∙ (fold-roll-StmtKind Mentions Mentions Mentions statement_layer block_layer stmt_layer (StmtKind-F.If arms None)
    ∙ ap (λ (l : List (Expr × Mentions)). arms_mentions l ++ []) (arms_mapped arms))
If_statement arms (Some block) = ap statement_mentions (sym (stmts.rolls-If arms (Some block))) ∙ (fold-roll-StmtKind Mentions Mentions Mentions statement_layer block_layer stmt_layer (StmtKind-F.If arms (Some block))
    ∙ ap (λ (l : List (Expr × Mentions)). arms_mentions l ++ block_mentions block) (arms_mapped arms))

pub stmt_is : (p : Place) (kind : StmtKind) → stmt_mentions (stmt p kind) ≡ statement_mentions kind
stmt_is p kind = fold-roll-Stmt Mentions Mentions Mentions statement_layer block_layer stmt_layer (record { kind = kind; place = p })

pub block_is : (p : Place) (body : List Stmt) → block_mentions (roll-Block (record { stmts = body; place = p })) ≡ joined (map stmt_mentions body)
block_is p body = fold-roll-Block Mentions Mentions Mentions statement_layer block_layer stmt_layer (record { stmts = body; place = p })
