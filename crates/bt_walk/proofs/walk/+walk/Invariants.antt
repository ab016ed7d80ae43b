use Rattle.std.proofs.Common.{◌≡◌, ◌≤◌, ◌+◌, ◌-◌, ◌*◌, map, drop, option_map}
use Rattle.bt_core.specs.Interaction.{Left}
use Rattle.walk_meaning.specs.Exprs.{number_does}
use Rattle.walk_meaning.specs.Stmts.{stmt_does, block_does, in_sequence, first_arm, block_or_next, turns, while_true}
use Rattle.walk_meaning.specs.Served.{scene_in}
use Rattle.bt_walk.proofs.Loops.{Looping}
use Rattle.walk_meaning.proofs.StmtDoes.{arm_of}
use Rattle.typed_tree.specs.declared.stmt.TypedStmt.TheVariants.{If}
use Rattle.typed_tree.proofs.stmt.TypedStmt.TheLaws.{the_size}
use Rattle.bt_walk.proofs.walk.+walk.Given as goal

abbrev pub decreases-walk_stmt : goal.decreases-walk_stmt
decreases-walk_stmt g l = 3 * goal.size-walk_stmt g l + 1

abbrev pub decreases-walk_if : goal.decreases-walk_if
decreases-walk_if g l = 3 * the_size (If l.arms.now l.otherwise.now)

abbrev pub decreases-walk_block : goal.decreases-walk_block
decreases-walk_block g l = 3 * goal.size-walk_block g l

abbrev pub decreases-walk_turn : goal.decreases-walk_turn
decreases-walk_turn g l = 3 * goal.size-walk_turn g l + 1

abbrev pub decreases-walk_turns : goal.decreases-walk_turns
decreases-walk_turns g l = 3 * goal.size-walk_turns g l + 2

abbrev pub decreases-walk_while : goal.decreases-walk_while
decreases-walk_while g l = 3 * goal.size-walk_while g l + 2

abbrev pub decreases-walk_while-loop-value : goal.decreases-walk_while-loop-value
decreases-walk_while-loop-value g l = l.frame.turns

abbrev pub invariant-walk_if-loop-arm : goal.invariant-walk_if-loop-arm
invariant-walk_if-loop-arm g l = record {
  left : Left (stmt_does (If l.arms l.otherwise) (scene_in l.view) l.fn.frame) (g.P.Port.steps l.fn.port) (g.P.Port.steps l.port)
      (first_arm (map arm_of (drop l.arm-index l.arm-items)) (block_or_next (option_map block_does l.otherwise)) (scene_in l.view) l.frame);
  kept : g.P.Port.fixed l.port ≡ g.P.Port.fixed l.fn.port;
  turns : l.frame.turns ≤ l.fn.frame.turns;
}

abbrev pub invariant-walk_block-loop-stmt : goal.invariant-walk_block-loop-stmt
invariant-walk_block-loop-stmt g l = record {
  left : Left (block_does l.block (scene_in l.view) l.fn.frame) (g.P.Port.steps l.fn.port) (g.P.Port.steps l.port)
      (in_sequence (map stmt_does (drop l.stmt-index l.stmt-items)) (scene_in l.view) l.frame);
  kept : g.P.Port.fixed l.port ≡ g.P.Port.fixed l.fn.port;
  turns : l.frame.turns ≤ l.fn.frame.turns;
}

abbrev pub invariant-walk_turns-loop-made : goal.invariant-walk_turns-loop-made
invariant-walk_turns-loop-made g l = record {
  left : Left (turns l.count l.line (block_does l.block) (scene_in l.view) l.fn.frame) (g.P.Port.steps l.fn.port) (g.P.Port.steps l.port)
      (turns (l.count - l.made) l.line (block_does l.block) (scene_in l.view) l.frame);
  kept : g.P.Port.fixed l.port ≡ g.P.Port.fixed l.fn.port;
  turns : l.frame.turns ≤ l.fn.frame.turns;
}

abbrev pub invariant-walk_while-loop-value : goal.invariant-walk_while-loop-value
invariant-walk_while-loop-value g l = record {
  looping : Looping (while_true l.line (number_does l.test) (block_does l.block) (scene_in l.view) l.fn.frame) (g.P.Port.steps l.fn.port) (g.P.Port.steps l.port) l.line (number_does l.test) (block_does l.block) (scene_in l.view) l.frame;
  kept : g.P.Port.fixed l.port ≡ g.P.Port.fixed l.fn.port;
  turns : l.frame.turns ≤ l.fn.frame.turns;
}
