use Rattle.std.proofs.Common.{rules, length, ◌≡◌, ◌<◌, true, ℕ, sym, subst}
use Rattle.step_list.specs.Lists.{steps_in}
use Rattle.bt_run.specs.Runs.{Seen, IsRunOf, world_of, first_turn}
use Rattle.bt_run.proofs.TurnLemmas.{run_first}
use Rattle.bt_run.proofs.port.SerialPort.go_to_cpus.Goals as goal

pub invariant_of-self : goal.invariant_of-self
invariant_of-self c = let r = c.self.inside.run in
    let first : r.turn ≡ first_turn r.cpus = subst (λ (x : Seen). x.turn ≡ first_turn x.world.cpus) (sym c.self.view_is) c.requires.first in
    let some : 0 < r.cpus = subst (λ (x : Seen). 0 < x.world.cpus) (sym c.self.view_is) c.requires.some in
    let a : c.len.result ≡ length (steps_in r.steps) = search rules in let b : c.len-2.result ≡ length (steps_in r.steps) = search rules in
    subst (λ (z : ℕ × ℕ). IsRunOf (world_of r) r.objects r.lasts.items r.top (steps_in r.steps) (record { among = true; begun = z.0; floor = r.top; actor = 0; start = z.1 })) (λ k. (sym a k, sym b k))
    (run_first (world_of r) r.objects r.lasts.items r.top (steps_in r.steps) (subst (λ t. IsRunOf (world_of r) r.objects r.lasts.items r.top (steps_in r.steps) t) first c.self.invariant) some)
