use denote.RattleType.{RattleType}
use denote.Param.Send as Send
use denote.Struct.Declared as Declared
use denote.Struct.Struct.{Struct}
use Rattle.std.proofs.Crossing.{crosses}
use Rattle.cpu_worker.proofs.ScriptShared.{world_row}
use Rattle.thread_actors.specs.contracts.side_by_side.Common as common
use mir.Syntax.{named}
use Rattle.thread_actors.proofs.side_by_side.run_each.Goals as goal

common_parts : (ℓ : _) (R : RattleType) → Send.IsSync R → Send.IsSync (Struct (Declared.shape (common.the_type ℓ R)))
common_parts ℓ R s = Send.struct_sync (Declared.shape (common.the_type ℓ R))
    (search (s, Send.sendable) depth 20, (search (crosses, Send.sendable) depth 20, (search (world_row, Send.sendable) depth 20, tt)))

common_row : (ℓ : _) (R : RattleType) → Send.IsSync R → Send.IsSync (common.the_row ℓ R)
common_row ℓ R s = Send.recorded_sync (Struct (Declared.shape (common.the_type ℓ R))) _ _ (common.the_type ℓ R).to_one (common_parts ℓ R s)

pub for_each_mut-requires-sync-F : goal.for_each_mut-requires-sync-F
for_each_mut-requires-sync-F g c κs within =
    let s : Send.IsSync g.row.R = record { shared = c.type_bounds.sync-R.shared } in
    let u = common_row (record { mir = named 1; lft = κs.1.1.1.1.1.1.1.1.0 }) g.row.R s in
    record { shared = λ x b o κ. ((((λ q. tt), u.shared x.0.now x.0.ref_ptr.0 x.0.ref_ptr.1 κ), tt), (λ q. tt)) }
