use Rattle.std.proofs.Common.{rules, length, ◌≡◌, true, false, ℕ, sym, subst}
use Rattle.step_list.specs.Lists.{steps_in}
use Rattle.bt_run.specs.Runs.{Seen, IsRunOf, world_of}
use Rattle.bt_run.proofs.TurnLemmas.{run_end}
use Rattle.bt_run.proofs.port.SerialPort.go_to_end.Goals as goal

pub invariant_of-self : goal.invariant_of-self
invariant_of-self c = let r = c.self.inside.run in
    let among : r.turn.among ≡ true = subst (λ (x : Seen). x.turn.among ≡ true) (sym c.self.view_is) c.requires.among in
    let a : c.len.result ≡ length (steps_in r.steps) = search rules in
    subst (λ (n : ℕ). IsRunOf (world_of r) r.objects r.lasts.items r.top (steps_in r.steps) (record { among = false; begun = r.turn.begun; floor = r.top; actor = r.cpus; start = n })) (sym a)
    (run_end (world_of r) r.objects r.lasts.items r.top (steps_in r.steps) r.turn c.self.invariant among)
