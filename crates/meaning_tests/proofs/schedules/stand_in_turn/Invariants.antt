use Rattle.std.proofs.Common.{◌≡◌, ℕ, suc, ◌<◌, ◌≤◌, get_or}
use Rattle.bt_ast.specs.declared.attached.Tick.{Tick}
use Rattle.meaning_tests.proofs.schedules.stand_in_turn.Given as goal

abbrev pub invariant-loop-place : goal.invariant-loop-place
invariant-loop-place l = (k : ℕ) (d : Tick) → suc k < l.place → (get_or l.ticks k d).time ≤ (get_or l.ticks (suc k) d).time × ((get_or l.ticks k d).time ≡ (get_or l.ticks (suc k) d).time → (get_or l.ticks k d).body ≤ (get_or l.ticks (suc k) d).body)
