-- What the runs of a script that only adds and prints leave in its maps, print of them, and read of them on the way.
use Rattle.std.specs.Prelude.{◌≡◌, ℕ, ◌≤◌, ◌<◌, ⊤, List, ◌∷◌, ◌++◌, All, length, map, Some, slice_get}
use Rattle.std.specs.List.{flat_map}
use Rattle.bt_ast.specs.declared.attached.Attached.{Attached}
use Rattle.bt_ast.specs.declared.attached.Tick.{Tick}
use Rattle.bt_core.specs.declared.agg.Agg.{Agg}
use Rattle.bt_core.specs.declared.item.Cell.{Cell}
use Rattle.bt_core.specs.declared.limits.TheConstants.{KEYS}
use Rattle.bt_core.specs.declared.map.AggKind.{AggKind}
use Rattle.bt_core.specs.declared.map.MapId.{MapId}
use Rattle.bt_core.specs.declared.step.ObjectId.TheVariants.{Cpu}
use Rattle.bt_core.specs.declared.step.Op.TheVariants.{Read}
use Rattle.bt_core.specs.declared.step.Reply.TheVariants.{Aggs}
use Rattle.bt_core.specs.declared.step.Step.{Step}
use Rattle.bt_core.specs.declared.value.Value.{Value}
use Rattle.recordings.specs.declared.recording.Recording.{Recording}
use Rattle.typed_tree.specs.declared.body.TypedBody.{TypedBody}
use Rattle.typed_tree.specs.declared.expr.NumBuiltin.{NumBuiltin}
use Rattle.typed_tree.specs.declared.expr.NumBuiltin.TheVariants as builtins
use Rattle.typed_tree.specs.declared.script.Typed.{Typed}
use Rattle.typed_tree.specs.Bodies.{tree_parts}
use Rattle.typed_tree.specs.Parts.{TreePart, Numeric}
use Rattle.agg_core.specs.Aggregates.{aggregate}
use Rattle.agg_core.specs.Answers.{agg_kind_in}
use Rattle.map_printer.specs.Ends.{map_texts}
use Rattle.map_printer.specs.ItemTexts.{item_text}
use Rattle.bt_meaning.specs.Interleavings.{IsInterleaving}
use Rattle.bt_meaning.specs.Jobs.{IsJob}
use Rattle.bt_meaning.specs.Prints.{emitted, of_maps, rows_after, lost_after, printed_text}
use Rattle.bt_meaning.specs.Replays.{Replay, cpus_of}
use Rattle.bt_meaning.specs.Ticks.{IsLastCrossing, HasDoneBefore}
use Rattle.bt_meaning.specs.Totals.{IsAggregationOnly, Addition, addition_keys, numbers_at, added, totals, who}
use Rattle.bt_meaning.specs.Walks.{replay_of}
use Rattle.total_laws.specs.Reads.{BeginsWith, add_steps_of}

-- ---- runs that only add

-- the totals of each map, where each tick's body is run by the actor whose crossing was answered that it is the last, have no more
-- keys than an object can hold
abbrev pub HaveFewKeys : Replay → List Step → Type 0
HaveFewKeys p steps = (m : MapId) → m.0 < length p.maps → length (totals p m (who steps)) ≤ KEYS

-- an interleaving of a script over a recording, where the script only adds and prints and its totals have few keys
pub record IsAddingRun (script : Typed) (attached : Attached) (r : Recording) (steps : List Step) : Type 0 where
  pub job : IsJob script attached r
  pub only_adds : IsAggregationOnly script
  pub interleaving : IsInterleaving (replay_of script attached r) steps
  pub few_keys : HaveFewKeys (replay_of script attached r) steps

-- ---- the end

-- the rows of each map by its number: under each key the aggregate of all numbers that BEGIN, the events of each CPU, the ticks and
-- END add to it
abbrev pub all_totals : Replay → List Step → List (List (List Value × Cell))
all_totals p steps = of_maps (λ m decl. totals p m (who steps)) 0 p.maps

-- what the objects hold of each map after these steps
abbrev pub all_rows : Typed → ℕ → List Step → List (List (List Value × Cell))
all_rows script cpus steps = of_maps (rows_after script.maps cpus steps) 0 script.maps

-- The maps at the end are the totals, and no object lost an update. So the text is that of the emitted items and then each map of
-- the totals that is not empty, with its empty line; and no warning follows.
pub record EndsWithTotals (script : Typed) (attached : Attached) (r : Recording) (steps : List Step) : Type 0 where
  pub rows : all_rows script (length r.cpus) steps ≡ all_totals (replay_of script attached r) steps
  pub none_lost : of_maps (lost_after script.maps (length r.cpus) steps) 0 script.maps ≡ of_maps (λ m decl. 0) 0 script.maps
  pub text : printed_text script (length r.cpus) steps
      ≡ flat_map (item_text script.formats script.maps) (emitted steps) ++ map_texts script.maps (all_totals (replay_of script attached r) steps)

-- ---- interval bodies that are the same on every CPU

-- a builtin other than `cpu`
abbrev pub IsNotCpu : NumBuiltin → Type 0
IsNotCpu builtins.Cpu = ⊥
IsNotCpu builtin = ⊤

-- a part other than `cpu`
abbrev pub UsesNoCpu : TreePart → Type 0
UsesNoCpu (Numeric builtin) = IsNotCpu builtin
UsesNoCpu part = ⊤

-- `cpu` stands in no body that is attached to a tick
abbrev pub TicksUseNoCpu : Typed → Attached → Type 0
TicksUseNoCpu script attached =
    All (λ (t : Tick). (body : TypedBody) → slice_get script.bodies t.body ≡ Some body → All UsesNoCpu (tree_parts body.tree)) attached.ticks

-- another interleaving ends with totals too, and its maps are the same
pub record EndsWithSameMaps (script : Typed) (attached : Attached) (r : Recording) (steps others : List Step) : Type 0 where
  pub ends : EndsWithTotals script attached r others
  pub same : all_rows script (length r.cpus) others ≡ all_rows script (length r.cpus) steps

-- ---- reads on the way

-- the numbers that steps add to a map, with their keys
abbrev pub entries_in : MapId → List Step → List Addition
entries_in m steps = flat_map (λ s. added m s.op) steps

-- each key with the aggregate of the numbers that are added to it
abbrev pub aggregate_rows : AggKind → List Addition → List (List Value × Agg)
aggregate_rows kind entries = map (λ key. (key, aggregate kind (numbers_at key entries))) (addition_keys entries)

-- A read of a map at a CPU's tables, after the last crossing of a tick. The steps by which the CPU added there before are a beginning
-- of those by which it adds there in all. The CPU has done before all its events with a time below the tick's, and the steps by which
-- it added for these come first. The reply has each key with the aggregate of the numbers that this beginning adds to it.
pub record SeesAllBefore (p : Replay) (tick cpu : ℕ) (m : MapId) (steps before : List Step) (s : Step) : Type 0 where
  pub beginning : BeginsWith (add_steps_of cpu steps) (add_steps_of cpu before)
  pub events : HasDoneBefore p tick cpu before
  pub holds : BeginsWith (add_steps_of cpu before) (add_steps_of cpu events.done.made)
  pub reply : s.reply ≡ Aggs (aggregate_rows (agg_kind_in p.maps m) (entries_in m (add_steps_of cpu before)))

-- so it is of each read at a CPU's tables after the last crossing of a tick, and so of those in the tick's body, which is run next by
-- the actor that crossed last
abbrev pub ReadsSeeAllBefore : Replay → List Step → Type 0
ReadsSeeAllBefore p steps =
    (tick cpu : ℕ) (m : MapId) (earlier between after : List Step) (crossing s : Step) → cpu < cpus_of p
    → steps ≡ (earlier ++ crossing ∷ between) ++ s ∷ after → IsLastCrossing tick crossing → s.object ≡ Cpu cpu → s.op ≡ Read m
    → SeesAllBefore p tick cpu m steps (earlier ++ crossing ∷ between) s
