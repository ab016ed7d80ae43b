-- Trees without their places: each place is the first of a text.
use Rattle.std.specs.Prelude.{map, option_map}
use Rattle.bt_ast.specs.declared.expr.Expr.{Expr, roll-Expr, fold-Expr}
use Rattle.bt_ast.specs.declared.expr.ExprKind.{ExprKind, roll-ExprKind, fold-ExprKind}
use Rattle.bt_ast.specs.declared.expr.ExprKind.TheOpen.{ExprKind-F, Target-F, Expr-F, IncDec-F, MapRef-F}
use Rattle.bt_ast.specs.declared.expr.MapRef.{MapRef, roll-MapRef, fold-MapRef}
use Rattle.bt_ast.specs.declared.expr.VarRef.{VarRef}
use Rattle.bt_ast.specs.declared.expr.IncDec.{IncDec, roll-IncDec, fold-IncDec}
use Rattle.bt_ast.specs.declared.expr.Target.{Target, roll-Target, fold-Target}
use Rattle.bt_ast.specs.declared.stmt.AggCall.{AggCall}
use Rattle.bt_ast.specs.declared.stmt.AggCall.TheVariants as aggs
use Rattle.bt_ast.specs.declared.stmt.Block.{Block, roll-Block, fold-Block}
use Rattle.bt_ast.specs.declared.stmt.Stmt.{Stmt, roll-Stmt, fold-Stmt}
use Rattle.bt_ast.specs.declared.stmt.StmtKind.{StmtKind, roll-StmtKind, fold-StmtKind}
use Rattle.bt_ast.specs.declared.stmt.StmtKind.TheOpen.{StmtKind-F, Block-F, Stmt-F}
use Rattle.bt_ast.specs.declared.probe.Point.{Point}
use Rattle.bt_ast.specs.declared.probe.Point.TheVariants as points
use Rattle.bt_ast.specs.declared.probe.Probe.{Probe}
use Rattle.bt_ast.specs.declared.probe.Script.{Script}
use Rattle.bt_grammar.specs.Tokens.{origin}

-- ---- expressions

abbrev pub bare_var : VarRef → VarRef
bare_var v = record { name = v.name; place = origin }

-- one layer, over parts without places
abbrev pub kind_layer : ExprKind-F ExprKind Target Expr IncDec MapRef → ExprKind
kind_layer (ExprKind-F.Field name place) = roll-ExprKind (ExprKind-F.Field name origin)
kind_layer (ExprKind-F.ExprKind::Var v) = roll-ExprKind (ExprKind-F.ExprKind::Var (bare_var v))
kind_layer kind = roll-ExprKind kind

abbrev pub target_layer : Target-F ExprKind Target Expr IncDec MapRef → Target
target_layer (Target-F.Target::Map m) = roll-Target (Target-F.Target::Map m)
target_layer (Target-F.Target::Var v) = roll-Target (Target-F.Target::Var (bare_var v))

abbrev pub expr_layer : Expr-F ExprKind Target Expr IncDec MapRef → Expr
expr_layer e = roll-Expr (record { kind = e.kind; place = origin })

abbrev pub step_layer : IncDec-F ExprKind Target Expr IncDec MapRef → IncDec
step_layer s = roll-IncDec (record { target = s.target; plus = s.plus; «prefix» = s.prefix; place = origin })

abbrev pub map_layer : MapRef-F ExprKind Target Expr IncDec MapRef → MapRef
map_layer m = roll-MapRef (record { name = m.name; keys = m.keys; place = origin })

abbrev pub bare_expr : Expr → Expr
bare_expr = fold-Expr ExprKind Target Expr IncDec MapRef kind_layer target_layer expr_layer step_layer map_layer

abbrev pub bare_kind : ExprKind → ExprKind
bare_kind = fold-ExprKind ExprKind Target Expr IncDec MapRef kind_layer target_layer expr_layer step_layer map_layer

abbrev pub bare_target : Target → Target
bare_target = fold-Target ExprKind Target Expr IncDec MapRef kind_layer target_layer expr_layer step_layer map_layer

abbrev pub bare_step : IncDec → IncDec
bare_step = fold-IncDec ExprKind Target Expr IncDec MapRef kind_layer target_layer expr_layer step_layer map_layer

abbrev pub bare_map : MapRef → MapRef
bare_map = fold-MapRef ExprKind Target Expr IncDec MapRef kind_layer target_layer expr_layer step_layer map_layer

-- ---- statements

abbrev pub bare_agg : AggCall → AggCall
bare_agg aggs.Count = aggs.Count
bare_agg (aggs.Gather function e) = aggs.Gather function (bare_expr e)
bare_agg (aggs.Lhist e least greatest step) = aggs.Lhist (bare_expr e) least greatest step

-- an arm, over a block without places
abbrev pub arm_layer : Expr × Block → Expr × Block
arm_layer arm = (bare_expr arm.0, arm.1)

abbrev pub statement_layer : StmtKind-F StmtKind Block Stmt → StmtKind
statement_layer (StmtKind-F.SetAgg m agg place) = roll-StmtKind (StmtKind-F.SetAgg (bare_map m) (bare_agg agg) origin)
statement_layer (StmtKind-F.Assign target op e) = roll-StmtKind (StmtKind-F.Assign (bare_target target) op (bare_expr e))
statement_layer (StmtKind-F.Step s) = roll-StmtKind (StmtKind-F.Step (bare_step s))
statement_layer (StmtKind-F.Printf format place values) = roll-StmtKind (StmtKind-F.Printf format origin (map bare_expr values))
statement_layer (StmtKind-F.Print m top div) = roll-StmtKind (StmtKind-F.Print (bare_map m) top div)
statement_layer (StmtKind-F.Clear m) = roll-StmtKind (StmtKind-F.Clear (bare_map m))
statement_layer (StmtKind-F.Zero m) = roll-StmtKind (StmtKind-F.Zero (bare_map m))
statement_layer (StmtKind-F.Delete m) = roll-StmtKind (StmtKind-F.Delete (bare_map m))
statement_layer (StmtKind-F.DeleteKey m key) = roll-StmtKind (StmtKind-F.DeleteKey (bare_map m) (bare_expr key))
statement_layer (StmtKind-F.If arms otherwise) = roll-StmtKind (StmtKind-F.If (map arm_layer arms) otherwise)
statement_layer (StmtKind-F.While test block) = roll-StmtKind (StmtKind-F.While (bare_expr test) block)
statement_layer kind = roll-StmtKind kind

abbrev pub block_layer : Block-F StmtKind Block Stmt → Block
block_layer b = roll-Block (record { stmts = b.stmts; place = origin })

abbrev pub stmt_layer : Stmt-F StmtKind Block Stmt → Stmt
stmt_layer s = roll-Stmt (record { kind = s.kind; place = origin })

abbrev pub bare_statement : StmtKind → StmtKind
bare_statement = fold-StmtKind StmtKind Block Stmt statement_layer block_layer stmt_layer

abbrev pub bare_block : Block → Block
bare_block = fold-Block StmtKind Block Stmt statement_layer block_layer stmt_layer

abbrev pub bare_stmt : Stmt → Stmt
bare_stmt = fold-Stmt StmtKind Block Stmt statement_layer block_layer stmt_layer

abbrev pub bare_arm : Expr × Block → Expr × Block
bare_arm arm = (bare_expr arm.0, bare_block arm.1)

-- ---- scripts

abbrev pub bare_point : Point → Point
bare_point (points.Begin place) = points.Begin origin
bare_point (points.End place) = points.End origin
bare_point (points.Tracepoint system name place) = points.Tracepoint system name origin
bare_point (points.Interval unit number place) = points.Interval unit number origin

abbrev pub bare_probe : Probe → Probe
bare_probe p = record { points = map bare_point p.points; predicate = option_map bare_expr p.predicate; block = bare_block p.block; place = origin }

-- the script, each place aside
abbrev pub bare : Script → Script
bare script = record { probes = map bare_probe script.probes }
