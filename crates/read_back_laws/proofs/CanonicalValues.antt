-- What holds of each part's tree, its text, and the tree that is read again.
use Rattle.std.proofs.Common.{◌≡◌, ℕ, ℤ, List, ◌∷◌, ◌++◌, Option}
use Rattle.std.specs.Prelude.{codes, map, option_map}
use Rattle.bt_core.specs.declared.place.Place.{Place}
use Rattle.bt_ast.specs.declared.expr.Expr.{Expr}
use Rattle.bt_ast.specs.declared.expr.MapRef.{MapRef}
use Rattle.bt_ast.specs.declared.expr.VarRef.{VarRef}
use Rattle.bt_ast.specs.declared.expr.Target.{Target}
use Rattle.bt_ast.specs.declared.stmt.AggCall.{AggCall}
use Rattle.bt_ast.specs.declared.stmt.Block.{Block}
use Rattle.bt_ast.specs.declared.stmt.Stmt.{Stmt}
use Rattle.bt_ast.specs.declared.stmt.StmtKind.{StmtKind}
use Rattle.bt_ast.specs.declared.probe.Point.{Point}
use Rattle.bt_ast.specs.declared.probe.Probe.{Probe}
use Rattle.ast_text.specs.Words.{token, ending, number_text}
use Rattle.ast_text.specs.Exprs.{expr_text, target_text, map_text, marked, key_text}
use Rattle.ast_text.specs.Stmts.{simple, agg_text, arms_after, arm_of, otherwise_text, joined, kind_text, block_text, stmt_text}
use Rattle.ast_text.specs.Scripts.{point_text, points_after, probe_text}
use Rattle.bt_grammar.specs.Form.{Part, Primary, Unary, Level, Expression, Values, Keyed, Assignable, Int, Aggregation, Update, AfterMap, AfterVar, Printf, Print, Delete, CallOrJump, Simple, Arm, Tail, Control, Body, Braced, Points, OneProbe, WholeScript, Of}
use Rattle.read_back_laws.specs.Bare.{bare_var, bare_expr, bare_target, bare_map, bare_agg, bare_arm, bare_statement, bare_block, bare_stmt, bare_point, bare_probe}
use Rattle.read_back_laws.proofs.CanonicalForms.{Back, Same}

abbrev pub IsExpr : Back Expr
IsExpr = Same expr_text bare_expr

abbrev pub IsValues : Back (List Expr)
IsValues es x fs = (e : Expr) × (more : List Expr) × (es ≡ e ∷ more) × (x ≡ expr_text e ++ marked (codes ",") (map expr_text more)) × (map bare_expr fs ≡ map bare_expr es)

abbrev pub IsKeys : Back (List Expr)
IsKeys es x fs = (x ≡ key_text (map expr_text es)) × (map bare_expr fs ≡ map bare_expr es)

abbrev pub IsMapRef : Back MapRef
IsMapRef = Same map_text bare_map

abbrev pub IsTarget : Back Target
IsTarget = Same target_text bare_target

abbrev pub IsInt : Back ℤ
IsInt n x m = (x ≡ number_text n) × (m ≡ n)

abbrev pub IsAgg : Back (AggCall × Place)
IsAgg a x b = (x ≡ agg_text a.0) × (bare_agg b.0 ≡ bare_agg a.0)

-- statements that want a target, a map or a variable before what was read
abbrev pub IsUpdate : Back (Target → StmtKind)
IsUpdate f x g = (t u : Target) → bare_target u ≡ bare_target t → (simple (target_text t ++ x) ≡ kind_text (f t)) × (bare_statement (g u) ≡ bare_statement (f t))

abbrev pub IsAfterMap : Back (MapRef → StmtKind)
IsAfterMap f x g = (m n : MapRef) → bare_map n ≡ bare_map m → (simple (map_text m ++ x) ≡ kind_text (f m)) × (bare_statement (g n) ≡ bare_statement (f m))

abbrev pub IsAfterVar : Back (VarRef → StmtKind)
IsAfterVar f x g = (v w : VarRef) → bare_var w ≡ bare_var v → (simple (token v.name ++ x) ≡ kind_text (f v)) × (bare_statement (g w) ≡ bare_statement (f v))

-- statements behind their word
abbrev pub IsCall : List ℕ → Back StmtKind
IsCall word k x l = (simple (token word ++ x) ≡ kind_text k) × (bare_statement l ≡ bare_statement k)

-- statements before their semicolon
abbrev pub IsSimple : Back Stmt
IsSimple s x r = (x ++ ending (codes ";") ≡ stmt_text s) × (bare_stmt r ≡ bare_stmt s)

abbrev pub IsControl : Back Stmt
IsControl = Same stmt_text bare_stmt

abbrev pub IsArm : Back (Expr × Block)
IsArm a x b = (x ≡ (token (codes "(") ++ (expr_text a.0 ++ token (codes ")"))) ++ block_text a.1) × (bare_arm b ≡ bare_arm a)

abbrev pub IsTail : Back (List (Expr × Block) × Option Block)
IsTail t x u = (x ≡ arms_after (token (codes "else")) (map arm_of t.0) ++ otherwise_text (option_map block_text t.1)) × (map bare_arm u.0 ≡ map bare_arm t.0) × (option_map bare_block u.1 ≡ option_map bare_block t.1)

abbrev pub IsBody : Back (List Stmt)
IsBody ss x rs = (x ≡ joined (map stmt_text ss) ++ ending (codes "}")) × (map bare_stmt rs ≡ map bare_stmt ss)

abbrev pub IsBlock : Back Block
IsBlock = Same block_text bare_block

abbrev pub IsPoint : Back Point
IsPoint = Same point_text bare_point

abbrev pub IsPoints : Back (List Point)
IsPoints ps x qs = (p : Point) × (more : List Point) × (ps ≡ p ∷ more) × (x ≡ point_text p ++ points_after (token (codes ",")) more) × (map bare_point qs ≡ map bare_point ps)

abbrev pub IsProbe : Back Probe
IsProbe = Same probe_text bare_probe

abbrev pub IsProbes : Back (List Probe)
IsProbes ps x qs = (x ≡ joined (map probe_text ps)) × (map bare_probe qs ≡ map bare_probe ps)

abbrev pub Value : (n : Part) → Back (Of n)
Value Primary = IsExpr
Value Unary = IsExpr
Value (Level p t) = IsExpr
Value (Expression p) = IsExpr
Value Values = IsValues
Value Keyed = IsMapRef
Value Assignable = IsTarget
Value Int = IsInt
Value Aggregation = IsAgg
Value Update = IsUpdate
Value AfterMap = IsAfterMap
Value AfterVar = IsAfterVar
Value Printf = IsCall (codes "printf")
Value Print = IsCall (codes "print")
Value Delete = IsCall (codes "delete")
Value CallOrJump = IsSimple
Value Simple = IsSimple
Value Arm = IsArm
Value Tail = IsTail
Value Control = IsControl
Value Body = IsBody
Value Braced = IsBlock
Value Points = IsPoints
Value OneProbe = IsProbe
Value WholeScript = IsProbes
