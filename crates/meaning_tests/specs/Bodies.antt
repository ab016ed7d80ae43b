-- Typed bodies by their statements.
use Rattle.std.specs.Prelude.{◌≡◌, pos, List, [], None}
use Rattle.bt_core.specs.declared.map.AggKind.TheVariants.{Count}
use Rattle.typed_tree.specs.declared.body.TypedBody.{TypedBody}
use Rattle.typed_tree.specs.declared.expr.AnyExpr.TheVariants.{Num}
use Rattle.typed_tree.specs.declared.expr.NumExpr.TheVariants.{Agg}
use Rattle.typed_tree.specs.declared.stmt.Jump.TheVariants as jumps
use Rattle.typed_tree.specs.declared.stmt.TypedBlock.{out-TypedBlock}
use Rattle.typed_tree.specs.declared.stmt.TypedStmt.{TypedStmt}
use Rattle.typed_tree.specs.declared.stmt.TypedStmt.TheVariants.{SetVar, Gather, Print, Clear, Jump}
use Rattle.meaning_tests.specs.Written.{counts}

-- a body with these statements and no predicate
pub record HasStatements (statements : List TypedStmt) (body : TypedBody) : Type 0 where
  pub always : body.tree.predicate ≡ None
  pub are : (out-TypedBlock body.tree.block).stmts ≡ statements

-- `@ = count()`, `$n = @`, `print(@)`, `clear(@)` and `exit()`
abbrev pub count_statement : TypedStmt
count_statement = Gather counts [] Count None

abbrev pub read_statement : TypedStmt
read_statement = SetVar 0 (Num (Agg counts []))

abbrev pub print_statement : TypedStmt
print_statement = Print counts 0 (pos 1)

abbrev pub clear_statement : TypedStmt
clear_statement = Clear counts

abbrev pub exit_statement : TypedStmt
exit_statement = Jump jumps.Exit
