-- The walk by any way of reading replies.
use Rattle.std.specs.Prelude.{◌≡◌, ℕ, ℤ, pos, Bool, cond, List, [], Option, Some, None, map}
use Rattle.std.specs.List.{flat_map}
use Rattle.bt_core.specs.declared.agg.Agg.{Agg}
use Rattle.bt_core.specs.declared.context.Context.{Context}
use Rattle.bt_core.specs.declared.ending.Ending.{Ending}
use Rattle.bt_core.specs.declared.item.Cell.{Cell}
use Rattle.bt_core.specs.declared.item.Item.TheVariants as items
use Rattle.bt_core.specs.declared.map.AggKind.{AggKind}
use Rattle.bt_core.specs.declared.map.MapId.{MapId}
use Rattle.bt_core.specs.declared.map.MapKind.{MapKind}
use Rattle.bt_core.specs.declared.map.MapKind.TheVariants.{Aggs}
use Rattle.bt_core.specs.declared.operator.BinOp.{BinOp}
use Rattle.bt_core.specs.declared.step.ObjectId.TheVariants.{Cpu, Out}
use Rattle.bt_core.specs.declared.step.Op.TheVariants as ops
use Rattle.bt_core.specs.declared.step.Reply.{Reply}
use Rattle.bt_core.specs.declared.step.Reply.TheVariants as replies
use Rattle.bt_core.specs.declared.value.Value.{Value}
use Rattle.bt_core.specs.declared.value.Value.TheVariants.{Int, Str}
use Rattle.bt_core.specs.Arithmetic.{binary_value}
use Rattle.bt_core.specs.Interaction.{Interaction, Ended, ask, and_then}
use Rattle.bt_core.specs.Kinds.{IsShared}
use Rattle.map_rows.specs.Merged.{rows_in, value_row, agg_row, merged_rows}
use Rattle.map_rows.specs.UnderKey.{number_under as number_in}
use Rattle.typed_tree.specs.declared.body.TypedBody.{TypedBody}
use Rattle.typed_tree.specs.declared.body.TypedTree.{TypedTree}
use Rattle.typed_tree.specs.declared.expr.AnyExpr.{AnyExpr, fold-AnyExpr}
use Rattle.typed_tree.specs.declared.expr.AnyExpr.TheOpen.{NumExpr-F, StrExpr-F}
use Rattle.typed_tree.specs.declared.expr.NumExpr.{NumExpr, fold-NumExpr}
use Rattle.typed_tree.specs.declared.expr.StrExpr.{StrExpr, fold-StrExpr}
use Rattle.typed_tree.specs.declared.stmt.TypedBlock.{TypedBlock, fold-TypedBlock}
use Rattle.typed_tree.specs.declared.stmt.TypedStmt.TheOpen.{TypedStmt-F}
use Rattle.walk_meaning.specs.declared.flow.Flow.{Flow}
use Rattle.walk_meaning.specs.declared.flow.Flow.TheVariants.{Next}
use Rattle.map_ops.specs.declared.sweep.Sweep.TheVariants.{Read}
use Rattle.map_ops.specs.Asking.{tells, asked_from, swept}
use Rattle.map_ops.specs.Holders.{part}
use Rattle.map_ops.specs.Values.{number_of, text_of, value_of, next}
use Rattle.walk_meaning.specs.Does.{Does, given, lifted, bind, then, if_holds, in_order}
use Rattle.walk_meaning.specs.Maps.{set, kind_in_body}
use Rattle.walk_meaning.specs.Exprs.{value_by_parts, number_by_parts, text_by_parts}
use Rattle.walk_meaning.specs.Stmts.{plain, set_variable, set_map, update_variable, gather, printf}
use Rattle.walk_meaning.specs.Stmts.{delete_at, first_arm, block_or_next, while_true, stmt_by_parts, block_by_parts}
use Rattle.walk_meaning.specs.Walk.{first_frame, ending_of}

-- a way of reading replies: of one to a `Get` a number or a string, and of one to who reads a map of this kind its rows
pub record Reader : Type 0 where
  pub number : Reply → ℤ
  pub text : Reply → List ℕ
  pub rows : MapKind → Reply → List (List Value × Cell)

-- the walk's own way, by which a reply of another kind has the number 0, the empty string, and no rows
abbrev pub own_reader : Reader
own_reader = record { number = λ reply. number_of (value_of reply); text = λ reply. text_of (value_of reply); rows = rows_in }

-- of a reply that has what is read it takes just that; of any other reply it may take anything
pub record TakesWhatIsThere (reader : Reader) : Type 0 where
  pub number : (n : ℤ) → reader.number (replies.Value (Int n)) ≡ n
  pub text : (s : List ℕ) → reader.text (replies.Value (Str s)) ≡ s
  pub values : (kind : MapKind) (rows : List (List Value × Value)) → IsShared kind → reader.rows kind (replies.Pairs rows) ≡ map value_row rows
  pub aggregates : (kind : AggKind) (rows : List (List Value × Agg)) → reader.rows (Aggs kind) (replies.Aggs rows) ≡ map agg_row rows

module _ (reader : Reader) where
  -- the number under a key, and the string
  abbrev pub number_asked : MapId → List Value → Does ℤ
  number_asked m key = lifted (λ scene. and_then (ask (part m key) (ops.Get key)) (λ reply. Ended (reader.number reply)))

  abbrev pub text_under : MapId → List Value → Does (List ℕ)
  text_under m key = lifted (λ scene. and_then (ask (part m key) (ops.Get key)) (λ reply. Ended (reader.text reply)))

  abbrev pub stepped_under : MapId → Bool → Bool → List Value → Does ℤ
  stepped_under m plus prefix key = bind (number_asked m key) (λ old. then (set m key (Int (next plus old))) (given (cond prefix (next plus old) old)))

  -- the number of an aggregation under a key of the merged rows of all tables
  abbrev pub summed_by : MapKind → MapId → List Value → ℕ → Interaction ℤ
  summed_by kind m key actors =
      and_then (asked_from Cpu (ops.Read m) [] 0 actors)
      (λ replies. Ended (number_in key (merged_rows (flat_map (reader.rows kind) replies))))

  abbrev pub summed_under : MapId → List Value → Does ℤ
  summed_under m key = lifted (λ scene. summed_by (kind_in_body m scene.maps) m key scene.actors)

  -- the expressions that read a reply; each other one does what it does in the walk
  abbrev pub num_by : NumExpr-F (Does Value) (Does ℤ) (Does (List ℕ)) → Does ℤ
  num_by (NumExpr-F.NumExpr::Map m keys) = bind (in_order keys) (number_asked m)
  num_by (NumExpr-F.Agg m keys) = bind (in_order keys) (summed_under m)
  num_by (NumExpr-F.StepMap m keys plus prefix) = bind (in_order keys) (stepped_under m plus prefix)
  num_by e = number_by_parts e

  abbrev pub str_by : StrExpr-F (Does Value) (Does ℤ) (Does (List ℕ)) → Does (List ℕ)
  str_by (StrExpr-F.StrExpr::Map m keys) = bind (in_order keys) (text_under m)
  str_by e = text_by_parts e

  abbrev pub value_by : AnyExpr → Does Value
  value_by = fold-AnyExpr (Does Value) (Does ℤ) (Does (List ℕ)) value_by_parts num_by str_by

  abbrev pub number_by : NumExpr → Does ℤ
  number_by = fold-NumExpr (Does Value) (Does ℤ) (Does (List ℕ)) value_by_parts num_by str_by

  abbrev pub text_by : StrExpr → Does (List ℕ)
  text_by = fold-StrExpr (Does Value) (Does ℤ) (Does (List ℕ)) value_by_parts num_by str_by

  abbrev pub values_by : List AnyExpr → List (Does Value)
  values_by es = map value_by es

  abbrev pub number_or_one_by : Option NumExpr → Does ℤ
  number_or_one_by None = given (pos 1)
  number_or_one_by (Some e) = number_by e

  abbrev pub updated_under : MapId → BinOp → ℤ → List Value → Does Flow
  updated_under m op b key = bind (number_asked m key) (λ a. plain (set m key (Int (binary_value op a b))))

  -- the rows of all replies are merged and emitted
  abbrev pub printed_by : MapKind → MapId → ℕ → ℤ → ℕ → Interaction (Unit {0})
  printed_by kind m top div actors =
      and_then (swept Read kind m actors)
      (λ replies. tells Out (ops.Emit (items.Map m (merged_rows (flat_map (reader.rows kind) replies)) top div)))

  abbrev pub print_by : MapId → ℕ → ℤ → Does Flow
  print_by m top div = plain (lifted (λ scene. printed_by (kind_in_body m scene.maps) m top div scene.actors))

  abbrev pub arm_by : NumExpr × Does Flow → Does ℤ × Does Flow
  arm_by arm = (number_by arm.0, arm.1)

  -- the statements that have expressions or read a map; each other one does what it does in the walk
  abbrev pub stmt_by : TypedStmt-F (Does Flow) (Does Flow) → Does Flow
  stmt_by (TypedStmt-F.SetVar var value) = set_variable var (value_by value)
  stmt_by (TypedStmt-F.SetMap m keys value) = set_map m (values_by keys) (value_by value)
  stmt_by (TypedStmt-F.UpdateVar var op value) = update_variable var op (number_by value)
  stmt_by (TypedStmt-F.UpdateMap m keys op value) = bind (in_order (values_by keys)) (λ key. bind (number_by value) (λ b. updated_under m op b key))
  stmt_by (TypedStmt-F.Gather m keys kind number) = gather m (values_by keys) (number_or_one_by number)
  stmt_by (TypedStmt-F.Step value) = plain (number_by value)
  stmt_by (TypedStmt-F.Printf format values) = printf format (values_by values)
  stmt_by (TypedStmt-F.Print m top div) = print_by m top div
  stmt_by (TypedStmt-F.Delete m keys) = delete_at m (values_by keys)
  stmt_by (TypedStmt-F.If arms otherwise) = first_arm (map arm_by arms) (block_or_next otherwise)
  stmt_by (TypedStmt-F.While test block line) = while_true line (number_by test) block
  stmt_by s = stmt_by_parts s

  abbrev pub block_by : TypedBlock → Does Flow
  block_by = fold-TypedBlock (Does Flow) (Does Flow) stmt_by block_by_parts

  abbrev pub guarded_by : Option NumExpr → Does Flow → Does Flow
  guarded_by None block = block
  guarded_by (Some e) block = if_holds (number_by e) block (given Next)

  abbrev pub tree_by : TypedTree → Does Ending
  tree_by tree = bind (guarded_by tree.predicate (block_by tree.block)) (λ flow. given (ending_of flow))

  -- the walk of a body by this way of reading
  unfoldable pub walk_by : TypedBody → Context → List ℕ → ℕ → ℕ → Interaction Ending
  walk_by body context payload actor actors =
      and_then
      (tree_by body.tree (record { context = context; payload = payload; actor = actor; actors = actors; maps = body.maps }) (first_frame body.tree.variables))
      (λ p. Ended p.0)
