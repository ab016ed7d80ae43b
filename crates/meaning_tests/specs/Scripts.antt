-- Typed scripts that count events of two CPUs:
--     tracepoint:t:e { @ = count(); } interval:s:1 { .. }
use Rattle.std.specs.Prelude.{◌≡◌, false, List, [], ◌∷◌}
use Rattle.typed_tree.specs.declared.body.TypedBody.{TypedBody}
use Rattle.typed_tree.specs.declared.script.Typed.{Typed}
use Rattle.typed_tree.specs.declared.stmt.TypedStmt.{TypedStmt}
use Rattle.meaning_tests.specs.Bodies.{HasStatements, count_statement}
use Rattle.meaning_tests.specs.Written.{counts, counts_decl}

-- the script has one map, no exit, and two bodies; that of the interval has these statements
pub record IsCounting (at_tick : List TypedStmt) (script : Typed) : Type 0 where
  pub maps : script.maps ≡ counts_decl ∷ []
  pub no_exit : script.uses_exit ≡ false
  pub event_body : TypedBody
  pub tick_body : TypedBody
  pub bodies : script.bodies ≡ event_body ∷ tick_body ∷ []
  pub at_events : HasStatements (count_statement ∷ []) event_body
  pub at_ticks : HasStatements at_tick tick_body
  pub declared : tick_body.maps ≡ (counts, counts_decl) ∷ []
