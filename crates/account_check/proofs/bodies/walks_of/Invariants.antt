use Rattle.std.proofs.Common.{◌≡◌, ℕ, ◌<◌, length, slice_index_or}
use Rattle.bt_meaning.specs.Walks.{walking}
use Rattle.account_check.specs.declared.walks.Walks.{Walks}
use Rattle.account_check.specs.Plans.{plan_of}
use Rattle.account_check.proofs.bodies.walks_of.Given as goal

-- those of the actors before this one
abbrev pub invariant-loop-actor : goal.invariant-loop-actor
invariant-loop-actor l = record {
  count : length l.walks.items ≡ l.actor;
  each : (actor : ℕ) (d : Walks) → actor < l.actor → plan_of (slice_index_or l.walks.items actor d) ≡ walking l.script l.actors actor;
}
