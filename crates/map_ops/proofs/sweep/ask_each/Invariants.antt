use Rattle.std.proofs.Common.{◌≡◌, ◌-◌, []}
use Rattle.std.specs.Prelude.{All}
use Rattle.bt_core.specs.Interaction.{Left}
use Rattle.map_rows.specs.Merged.{HasRowsOf}
use Rattle.map_ops.specs.declared.sweep.Sweep.TheVariants.{Read}
use Rattle.map_ops.specs.Holders.{holder, holders, sweep_op}
use Rattle.map_ops.specs.Asking.{asked_from}
use Rattle.map_ops.proofs.sweep.ask_each.Given as goal

abbrev pub invariant-loop-place : goal.invariant-loop-place
invariant-loop-place g l = record {
  left : Left (asked_from (holder l.kind l.map) (sweep_op l.sweep l.kind l.map) [] 0 (holders l.kind l.actors)) (g.P.Port.steps l.fn.port) (g.P.Port.steps l.port)
      (asked_from (holder l.kind l.map) (sweep_op l.sweep l.kind l.map) l.replies l.place (holders l.kind l.actors - l.place));
  rows : l.sweep ≡ Read → All (HasRowsOf l.kind) l.replies;
  kept : g.P.Port.fixed l.port ≡ g.P.Port.fixed l.fn.port;
}
