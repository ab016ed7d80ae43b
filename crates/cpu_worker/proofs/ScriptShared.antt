-- A typed script may be shared among threads, by its parts: expressions, blocks, bodies.
use denote.Param.Send.{IsSync, sendable}
use Rattle.std.proofs.Crossing.{crosses}
use Rattle.std.proofs.option.Option.TheSendSync as option
use Rattle.bt_core.proofs.boxed.Boxed.TheSendSync as boxed
use Rattle.bt_core.proofs.items.Items.TheSendSync as items
use Rattle.bt_core.proofs.map.AggKind.TheSendSync as agg_kind
use Rattle.bt_core.proofs.map.MapDecl.TheSendSync as decl
use Rattle.bt_core.proofs.map.MapId.TheSendSync as map_id
use Rattle.bt_core.proofs.map.Shape.TheSendSync as shape
use Rattle.bt_core.proofs.operator.BinOp.TheSendSync as binary
use Rattle.bt_core.proofs.operator.UnOp.TheSendSync as unary
use Rattle.bt_core.proofs.text.Str64.TheSendSync as text
use Rattle.fmt_text.proofs.piece.Piece.TheSendSync as piece
use Rattle.event_layout.proofs.field.Field.TheSendSync as field
use Rattle.event_layout.proofs.layout.Layout.TheSendSync as layout
use Rattle.typed_tree.proofs.expr.AnyExpr.TheLaws.TheKnot as exprs
use Rattle.typed_tree.proofs.expr.NumBuiltin.TheSendSync as builtin
use Rattle.typed_tree.proofs.stmt.Jump.TheSendSync as jump
use Rattle.typed_tree.proofs.stmt.TypedStmt.TheLaws.TheKnot as stmts
use mathlib.Core.List.{[], ◌∷◌}
use denote.Builtin.{u32}
use denote.Struct.Declared as Declared
use denote.Struct.Tuple.{Tuple}
use denote.Param.Send as Send
use Rattle.std.specs.contracts.option.Option as option_c
use Rattle.bt_core.specs.contracts.items.Items as items_c
use Rattle.bt_core.specs.contracts.map.MapDecl as decl_c
use Rattle.bt_core.specs.contracts.map.MapId as map_id_c
use Rattle.fmt_text.specs.contracts.piece.Piece as piece_c
use Rattle.event_layout.specs.contracts.layout.Layout as layout_c
use Rattle.typed_tree.specs.contracts.expr.AnyExpr as any_expr
use Rattle.typed_tree.specs.contracts.expr.NumExpr as num_expr
use Rattle.typed_tree.specs.contracts.expr.StrExpr as str_expr
use Rattle.typed_tree.specs.contracts.stmt.TypedBlock as block
use Rattle.typed_tree.specs.contracts.body.TypedTree as tree
use Rattle.typed_tree.specs.contracts.body.TypedBody as body
use Rattle.typed_tree.specs.contracts.script.Typed as script
use Rattle.bt_ast.proofs.attached.Attached.TheSendSync as attached
use Rattle.percpu_tables.proofs.tables.Tables.TheSendSync as tables
use Rattle.recordings.proofs.recording.Recording.TheSendSync as recording
use Rattle.shared_maps.proofs.maps.SharedMaps.TheSendSync as maps
use Rattle.side_locks.proofs.sides.SideLocks.TheSendSync as sides
use Rattle.cpu_worker.specs.contracts.world.SharedWorld as world

ruleset leaves = (
  builtin.the_field_sync,
  field.the_field_sync,
  map_id.the_field_sync,
  unary.the_field_sync,
  binary.the_field_sync,
  agg_kind.the_field_sync,
  jump.the_field_sync,
  text.the_sync,
  items.the_sync,
  boxed.the_sync,
  option.the_sync,
  crosses,
  sendable,
)

sync_num : IsSync num_expr.the_field.row
sync_num = search (exprs.sync-NumExpr, leaves) depth 60 fits 20000

sync_str : IsSync str_expr.the_field.row
sync_str = search (exprs.sync-StrExpr, leaves) depth 60 fits 20000

sync_any : IsSync any_expr.the_field.row
sync_any = search (exprs.sync-AnyExpr, leaves) depth 60 fits 20000

num_row : IsSync num_expr.the_row
num_row = search (sync_num, leaves) depth 60 fits 20000

any_row : IsSync any_expr.the_row
any_row = search (sync_any, leaves) depth 60 fits 20000

sync_block : IsSync block.the_field.row
sync_block = search (stmts.sync-TypedBlock, sync_num, sync_any, num_row, any_row, leaves) depth 60 fits 20000

block_row : IsSync block.the_row
block_row = search (sync_block, leaves) depth 60 fits 20000

sync_tree : IsSync tree.the_row
sync_tree = search (num_row, sync_num, sync_block, block_row, shape.the_sync, shape.the_field_sync, leaves) depth 60 fits 20000

ruleset few = (map_id.the_sync, map_id.the_field_sync, decl.the_sync, decl.the_field_sync, piece.the_sync, piece.the_field_sync, layout.the_sync, layout.the_field_sync, items.the_sync, option.the_sync, sendable)

maps_row : IsSync (items_c.the_row (Tuple (map_id_c.the_row ∷ decl_c.the_row ∷ [])))
maps_row = search few depth 60 fits 20000

formats_row : IsSync (items_c.the_row (Tuple (u32 ∷ items_c.the_row piece_c.the_row ∷ [])))
formats_row = search few depth 60 fits 20000

layout_row : IsSync (option_c.the_row layout_c.the_row)
layout_row = search few depth 60 fits 20000

tree_field : IsSync tree.the_field.row
tree_field = search (num_row, sync_num, sync_block, block_row, shape.the_sync, shape.the_field_sync, leaves) depth 60 fits 20000

layout_field : IsSync (option_c.the_field layout_c.the_row).row
layout_field = search (layout_row, few) depth 60 fits 20000

maps_field : IsSync (items_c.the_field (Tuple (map_id_c.the_row ∷ decl_c.the_row ∷ []))).row
maps_field = search (maps_row, few) depth 60 fits 20000

formats_field : IsSync (items_c.the_field (Tuple (u32 ∷ items_c.the_row piece_c.the_row ∷ []))).row
formats_field = search (formats_row, few) depth 60 fits 20000

body_parts : IsSync body.the_field.row
body_parts = Send.struct_sync (Declared.shape body.the_type) (tree_field, (layout_field, (maps_field, (formats_field, tt))))

sync_body : IsSync body.the_row
sync_body = Send.recorded_sync body.the_field.row _ _ body.the_type.to_one body_parts

pub sync_typed : IsSync script.the_row
sync_typed = search (sync_body, piece.the_sync, decl.the_sync, leaves) depth 60 fits 20000

-- ---- and so may what all actors of a run share

pub world_row : (ℓ : _) → IsSync (world.the_row ℓ)
world_row ℓ = search (sync_typed, recording.the_sync, attached.the_sync, maps.the_sync, tables.the_sync, sides.the_sync, sendable) depth 60 fits 20000

pub world_field : (ℓ : _) → IsSync (world.the_field ℓ).row
world_field ℓ = search (sync_typed, recording.the_sync, attached.the_sync, maps.the_sync, tables.the_sync, sides.the_sync, sendable) depth 60 fits 20000
