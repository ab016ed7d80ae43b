-- What is asked of the objects that hold maps, reply by reply.
use Rattle.std.specs.Prelude.{ℕ, zero, suc, ◌+◌, ℤ, List, [], ◌∷◌, ◌++◌}
use Rattle.std.specs.List.{flat_map}
use Rattle.bt_core.specs.declared.item.Item.TheVariants as items
use Rattle.bt_core.specs.declared.map.MapId.{MapId}
use Rattle.bt_core.specs.declared.map.MapKind.{MapKind}
use Rattle.bt_core.specs.declared.step.ObjectId.{ObjectId}
use Rattle.bt_core.specs.declared.step.ObjectId.TheVariants.{Cpu, Out}
use Rattle.bt_core.specs.declared.step.Op.{Op}
use Rattle.bt_core.specs.declared.step.Op.TheVariants as ops
use Rattle.bt_core.specs.declared.step.Reply.{Reply}
use Rattle.bt_core.specs.declared.value.Value.{Value}
use Rattle.bt_core.specs.Interaction.{Interaction, Ended, ask, and_then}
use Rattle.map_rows.specs.Merged.{agg_rows, merged, merged_rows}
use Rattle.map_rows.specs.UnderKey.{number_under}
use Rattle.map_ops.specs.declared.sweep.Sweep.{Sweep}
use Rattle.map_ops.specs.declared.sweep.Sweep.TheVariants.{Read}
use Rattle.map_ops.specs.Holders.{part, holder, holders, sweep_op}
use Rattle.map_ops.specs.Values.{value_of}

-- one call, whose reply says nothing
abbrev pub tells : ObjectId → Op → Interaction (Unit {0})
tells object op = and_then (ask object op) (λ reply. Ended tt)

-- the value under a key
abbrev pub got : MapId → List Value → Interaction Value
got m key = and_then (ask (part m key) (ops.Get key)) (λ reply. Ended (value_of reply))

-- behind the replies that there are, those of so many objects from this one on
abbrev pub asked_from : (ℕ → ObjectId) → Op → List Reply → ℕ → ℕ → Interaction (List Reply)
asked_from object op replies first zero = Ended replies
asked_from object op replies first (suc n) = and_then (ask (object first) op) (λ reply. asked_from object op (replies ++ reply ∷ []) (first + 1) n)

-- each object that holds a map of this kind is asked once, in order
abbrev pub swept : Sweep → MapKind → MapId → ℕ → Interaction (List Reply)
swept sweep kind m actors = asked_from (holder kind m) (sweep_op sweep kind m) [] 0 (holders kind actors)

-- all objects that hold the map are read, and then its merged rows are emitted, also where there are none
abbrev pub printed : MapKind → MapId → ℕ → ℤ → ℕ → Interaction (Unit {0})
printed kind m top div actors = and_then (swept Read kind m actors) (λ replies. tells Out (ops.Emit (items.Map m (merged kind replies) top div)))

-- the tables of all actors are read, and the value is the number under the key of their merged rows
abbrev pub summed : MapId → List Value → ℕ → Interaction ℤ
summed m key actors =
    and_then (asked_from Cpu (ops.Read m) [] 0 actors) (λ replies. Ended (number_under key (merged_rows (flat_map agg_rows replies))))
