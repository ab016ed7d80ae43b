use Rattle.std.proofs.Common.{◌≢◌, refl, subst}
use Rattle.bt_core.specs.declared.step.ObjectId.{ObjectId}
use Rattle.cpu_worker.specs.Worlds.{sets_in}
use Rattle.cpu_worker.proofs.WorldLemmas.{keeps_at_part, keeps_at_tables, keeps_at_clock, keeps_at_out}
use Rattle.cpu_worker.proofs.world_port.make_step.Goals as goal

pub returns-in-Shared-clause-own : goal.returns-in-Shared-clause-own
returns-in-Shared-clause-own g c = let t = c.args.turns.now in let s = c.step in
    keeps_at_part (sets_in c.args.world.now) c.args.trace.now s.new.trace c.args.object s.ensures.elsewhere t (record { maps = s.new.turns; tables = t.tables; sides = t.sides })
    c.in-Shared.map c.in-Shared.part c.in-Shared.is s.ensures.own refl refl

pub returns-in-Cpu-clause-own : goal.returns-in-Cpu-clause-own
returns-in-Cpu-clause-own g c = let t = c.args.turns.now in let s = c.step-in-Cpu in
    keeps_at_tables (sets_in c.args.world.now) c.args.trace.now s.new.trace c.args.object s.ensures.elsewhere t (record { maps = t.maps; tables = s.new.turns; sides = t.sides })
    c.in-Cpu.field-0 c.in-Cpu.is s.ensures.own refl refl

pub returns-in-Clock-clause-own : goal.returns-in-Clock-clause-own
returns-in-Clock-clause-own g c = let t = c.args.turns.now in let s = c.step-in-Clock in
    keeps_at_clock (sets_in c.args.world.now) c.args.trace.now s.new.trace c.args.object
    (λ o other. s.ensures.elsewhere o (subst (λ (p : ObjectId). o ≢ p) c.in-Clock.is other)) t (record { maps = t.maps; tables = t.tables; sides = s.new.turns })
    c.in-Clock.is s.ensures.own refl refl

pub returns-in-Out-clause-own : goal.returns-in-Out-clause-own
returns-in-Out-clause-own g c = let t = c.args.turns.now in let s = c.step-in-Out in
    keeps_at_out (sets_in c.args.world.now) c.args.trace.now s.new.trace c.args.object
    (λ o other. s.ensures.elsewhere o (subst (λ (p : ObjectId). o ≢ p) c.in-Out.is other)) t (record { maps = t.maps; tables = t.tables; sides = s.new.turns })
    c.in-Out.is s.ensures.own refl refl
