-- Exact totals: scripts that only add and print, and what their maps add up to.
use Rattle.std.specs.Prelude.{◌≡◌, ℕ, ℤ, ◌+◌, ◌==◌, ◌&&◌, ⊤, false, cond, if◌then◌else◌, List, [], ◌∷◌, ◌++◌, map, All, Option, Some, None, slice_get}
use Rattle.std.specs.List.{filter, flat_map}
use Rattle.bt_ast.specs.declared.attached.Tick.{Tick}
use Rattle.bt_core.specs.declared.item.Cell.{Cell}
use Rattle.bt_core.specs.declared.item.Cell.TheVariants as cells
use Rattle.bt_core.specs.declared.map.AggKind.{AggKind}
use Rattle.bt_core.specs.declared.map.MapDecl.{MapDecl}
use Rattle.bt_core.specs.declared.map.MapId.{MapId}
use Rattle.bt_core.specs.declared.step.Op.{Op}
use Rattle.bt_core.specs.declared.step.Op.TheVariants.{Add}
use Rattle.bt_core.specs.declared.step.Reply.TheVariants.{Done}
use Rattle.bt_core.specs.declared.step.Step.{Step}
use Rattle.bt_core.specs.declared.value.Value.{Value}
use Rattle.bt_core.specs.Interaction.{Interaction, Ended, Asks}
use Rattle.bt_core.specs.Kinds.{IsAggregation}
use Rattle.recordings.specs.declared.recording.CpuTrack.{CpuTrack}
use Rattle.typed_tree.specs.declared.body.TypedBody.{TypedBody}
use Rattle.typed_tree.specs.declared.script.Typed.{Typed}
use Rattle.typed_tree.specs.declared.stmt.Jump.{Jump}
use Rattle.typed_tree.specs.declared.stmt.Jump.TheVariants.{Exit}
use Rattle.typed_tree.specs.Bodies.{tree_parts}
use Rattle.typed_tree.specs.Parts.{TreePart, AggOf, Cleared, Zeroed, Jumped}
use Rattle.agg_core.specs.Aggregates.{aggregate}
use Rattle.agg_core.specs.Answers.{agg_kind_in}
use Rattle.agg_core.specs.Changes.{is_key, with_key}
use Rattle.actor_plan.specs.Contexts.{tick_context}
use Rattle.actor_plan.specs.Programs.{entry_work, tells_last}
use Rattle.bt_meaning.specs.Replays.{Replay, begin_of, end_of}
use Rattle.bt_meaning.specs.Ticks.{is_crossing}

-- ---- scripts that only add and print

abbrev pub StaysInBody : Jump → Type 0
StaysInBody Exit = ⊥
StaysInBody jump = ⊤

-- a part reads no aggregation, and is no `clear`, `zero` or `exit`
abbrev pub Keeps : TreePart → Type 0
Keeps (AggOf number keys) = ⊥
Keeps (Cleared number) = ⊥
Keeps (Zeroed number) = ⊥
Keeps (Jumped jump inside) = StaysInBody jump
Keeps part = ⊤

-- all maps are aggregations that no expression reads, and no `clear`, `zero` or `exit` stands in the script
pub record IsAggregationOnly (script : Typed) : Type 0 where
  pub maps : All (λ (decl : MapDecl). IsAggregation decl.kind) script.maps
  pub no_exit : script.uses_exit ≡ false
  pub bodies : All (λ (body : TypedBody). All Keeps (tree_parts body.tree)) script.bodies

-- ---- numbers that are added

-- a number with the key that it is added to
abbrev pub Addition : Type 0
Addition = List Value × ℤ

-- the keys of these additions, in key order, each once
abbrev pub addition_keys : List Addition → List (List Value)
addition_keys [] = []
addition_keys (e ∷ es) = with_key e.0 (addition_keys es)

-- the numbers that are added to a key, in their order
abbrev pub numbers_at : List Value → List Addition → List ℤ
numbers_at key additions = map (λ a. a.1) (filter (λ a. is_key key a.0) additions)

-- each key with the aggregate of the numbers that are added to it
abbrev pub total_rows : AggKind → List Addition → List (List Value × Cell)
total_rows kind additions =
    map (λ key. (key, cells.Agg (aggregate kind (numbers_at key additions)))) (addition_keys additions)

module _ (m : MapId) where
  -- what an operation adds to the map
  abbrev pub added : Op → List Addition
  added (Add n key number) = cond (m.0 == n.0) ((key, number) ∷ []) []
  added op = []

  -- what a computation adds to it, where every answer is that it is done
  abbrev pub adds_of : {A : Type 0} → Interaction A → List Addition
  adds_of (Ended a) = []
  adds_of (Asks c f) = added c.op ++ adds_of (f Done)

-- ---- totals

-- the actor whose crossing of a tick was answered that it is the last, or 0 where there is none
abbrev pub who : List Step → ℕ → ℕ
who [] tick = 0
who (s ∷ ss) tick = if is_crossing tick s && tells_last s.reply then s.actor else who ss tick

module _ (p : Replay) (m : MapId) where
  -- what the events of each CPU add, from this CPU on; a mark of lost ones adds nothing
  abbrev pub events_add : ℕ → List CpuTrack → List Addition
  events_add cpu [] = []
  events_add cpu (track ∷ tracks) =
      flat_map (λ e. adds_of m (entry_work (p.plan cpu) p.recording p.attached track e)) track.entries ++ events_add (cpu + 1) tracks

  -- what a tick adds where a CPU runs its body
  abbrev pub tick_adds : Tick → ℕ → Option CpuTrack → List Addition
  tick_adds t cpu None = []
  tick_adds t cpu (Some track) = adds_of m ((p.plan cpu).run t.body (tick_context p.recording track t) [])

  -- what the ticks add from this one on, each run by the CPU that is named for it
  abbrev pub ticks_add : (ℕ → ℕ) → ℕ → List Tick → List Addition
  ticks_add named place [] = []
  ticks_add named place (t ∷ ts) = tick_adds t (named place) (slice_get p.recording.cpus (named place)) ++ ticks_add named (place + 1) ts

  -- all numbers that BEGIN, the events of each CPU, the ticks and END add
  abbrev pub all_adds : (ℕ → ℕ) → List Addition
  all_adds named =
      adds_of m (begin_of p) ++ (events_add 0 p.recording.cpus ++ (ticks_add named 0 p.attached.ticks ++ adds_of m (end_of p)))

  -- the rows of the map: under each key the aggregate of all numbers that are added to it
  unfoldable pub totals : (ℕ → ℕ) → List (List Value × Cell)
  totals named = total_rows (agg_kind_in p.maps m) (all_adds named)
