-- The tables of all actors are what holds an aggregation, whatever it gathers.
use Rattle.std.proofs.Common.{◌≡◌, ℕ, List, [], refl, ap}
use Rattle.std.specs.List.{flat_map}
use Rattle.bt_core.specs.declared.item.Cell.{Cell}
use Rattle.bt_core.specs.declared.map.AggKind.{AggKind}
use Rattle.bt_core.specs.declared.map.MapId.{MapId}
use Rattle.bt_core.specs.declared.map.MapKind.{MapKind}
use Rattle.bt_core.specs.declared.map.MapKind.TheVariants.{Ints, Strs, Aggs}
use Rattle.bt_core.specs.declared.step.ObjectId.{ObjectId}
use Rattle.bt_core.specs.declared.step.ObjectId.TheVariants.{Cpu}
use Rattle.bt_core.specs.declared.step.Op.TheVariants as ops
use Rattle.bt_core.specs.declared.step.Reply.{Reply}
use Rattle.bt_core.specs.declared.step.Reply.TheVariants as replies
use Rattle.bt_core.specs.declared.value.Value.{Value}
use Rattle.bt_core.specs.Interaction.{Ended, and_then}
use Rattle.bt_core.specs.Kinds.{IsAggregation}
use Rattle.map_rows.specs.Merged.{agg_rows, rows_in, merged, merged_rows}
use Rattle.map_rows.specs.UnderKey.{number_under}
use Rattle.map_ops.specs.declared.sweep.Sweep.TheVariants.{Read}
use Rattle.map_ops.specs.Asking.{asked_from, swept, summed}

pub rows_same : (a : AggKind) (r : Reply) → rows_in (Aggs a) r ≡ agg_rows r
rows_same a (replies.Aggs rows) = refl
rows_same a (replies.Pairs rows) = refl
rows_same a (replies.Value v) = refl
rows_same a replies.Done = refl
rows_same a (replies.Last b) = refl
rows_same a (replies.Stopped b) = refl

merged_same : (a : AggKind) (rs : List Reply) → merged (Aggs a) rs ≡ merged_rows (flat_map agg_rows rs)
unfolding merged
merged_same a rs = ap (λ (f : Reply → List (List Value × Cell)). merged_rows (flat_map f rs)) (λ i r. rows_same a r i)

swept_same : (a : AggKind) (m : MapId) (actors : ℕ) → swept Read (Aggs a) m actors ≡ asked_from Cpu (ops.Read m) [] 0 actors
swept_same a m actors = ap (λ (object : ℕ → ObjectId). asked_from object (ops.Read m) [] 0 actors) (λ i n. Cpu n)

pub summed_is : (kind : MapKind) (m : MapId) (key : List Value) (actors : ℕ) → IsAggregation kind → and_then (swept Read kind m actors) (λ rs. Ended (number_under key (merged kind rs))) ≡ summed m key actors
summed_is Ints m key actors h = absurd h
summed_is Strs m key actors h = absurd h
summed_is (Aggs a) m key actors h = λ i. and_then (swept_same a m actors i) (λ rs. Ended (number_under key (merged_same a rs i)))
