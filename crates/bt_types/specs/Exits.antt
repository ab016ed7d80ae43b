-- Whether `exit()` stands in a script.
use Rattle.std.specs.Prelude.{Bool, true, false, ◌||◌, unwrap_or}
use Rattle.std.specs.List.{list_any}
use Rattle.bt_ast.specs.declared.expr.Expr.{Expr}
use Rattle.bt_ast.specs.declared.probe.Probe.{Probe}
use Rattle.bt_ast.specs.declared.probe.Script.{Script}
use Rattle.bt_ast.specs.declared.stmt.Block.{Block, fold-Block}
use Rattle.bt_ast.specs.declared.stmt.Stmt.{Stmt, fold-Stmt}
use Rattle.bt_ast.specs.declared.stmt.StmtKind.{StmtKind, fold-StmtKind}
use Rattle.bt_ast.specs.declared.stmt.StmtKind.TheOpen.{StmtKind-F, Block-F, Stmt-F}

-- one layer: `exit()` itself, or a block in which it stands
abbrev pub kind_exits_layer : StmtKind-F Bool Bool Bool → Bool
kind_exits_layer StmtKind-F.Exit = true
kind_exits_layer (StmtKind-F.If arms otherwise) = list_any (λ (arm : Expr × Bool). arm.1) arms || unwrap_or otherwise false
kind_exits_layer (StmtKind-F.While test block) = block
kind_exits_layer (StmtKind-F.Unroll turns block) = block
kind_exits_layer other = false

abbrev pub stmt_exits_layer : Stmt-F Bool Bool Bool → Bool
stmt_exits_layer s = s.kind

abbrev pub block_exits_layer : Block-F Bool Bool Bool → Bool
block_exits_layer b = list_any (λ (exits : Bool). exits) b.stmts

abbrev pub kind_exits : StmtKind → Bool
kind_exits = fold-StmtKind Bool Bool Bool kind_exits_layer block_exits_layer stmt_exits_layer

abbrev pub stmt_exits : Stmt → Bool
stmt_exits = fold-Stmt Bool Bool Bool kind_exits_layer block_exits_layer stmt_exits_layer

abbrev pub block_exits : Block → Bool
block_exits = fold-Block Bool Bool Bool kind_exits_layer block_exits_layer stmt_exits_layer

abbrev pub script_exits : Script → Bool
script_exits script = list_any (λ (p : Probe). block_exits p.block) script.probes
