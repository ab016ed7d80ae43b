use Rattle.std.proofs.Common.{◌≡◌, sym, ap, ◌∙◌}
use Rattle.actor_plan.specs.Programs.{end_program}
use Rattle.code_runs.specs.Running.{plan_of}
use Rattle.run_output.specs.Jobs.{cpus_in, plans_by}
use Rattle.bt_run.proofs.TakeLemmas.{main_by, ready}
use Rattle.bt_run.proofs.serial.end.Goals as goal

pub run_end-requires : goal.run_end-requires
run_end-requires c =
    let main : c.len-main.result ≡ cpus_in c.args.job.now = c.len-main.ensures in
    let actor : c.go_to_end.new.self.turn.actor ≡ cpus_in c.args.job.now = c.go_to_end.ensures.actor ∙ ap (λ w. w.cpus) c.requires.world in
    record {
      ready = ready c.args.job.now (plans_by c.args.job.now c.args.codes.now) c.requires.can c.go_to_end.new.self.turn.actor c.go_to_end.new.self.world (plan_of c.bodies_at-bodies.result) (c.go_to_end.ensures.world ∙ c.requires.world)
          (c.bodies_at-bodies.ensures ∙ ap (plans_by c.args.job.now c.args.codes.now) (main ∙ sym actor));
    }

pub returns-clause-serial : goal.returns-clause-serial
returns-clause-serial c =
    let job = c.args.job.now in let e = c.in_ok-count.ensures in let old = c.args.port.now in let t = c.go_to_end.ensures in
    let main : c.len-main.result ≡ cpus_in c.args.job.now = c.len-main.ensures in
    let planned = c.bodies_at-bodies.ensures ∙ ap (plans_by c.args.job.now c.args.codes.now) main in
    (main_by job (plans_by c.args.job.now c.args.codes.now) (λ plan. end_program plan c.args.job.now.recording c.args.job.now.attached) old c.go_to_end.new.self c.run_end.new.port (plan_of c.bodies_at-bodies.result) c.in_ok-count.count planned
    t.steps (t.actor ∙ ap (λ w. w.cpus) c.requires.world) t.start (t.world ∙ c.requires.world)
    c.stands.ensures (ap (λ f. f.setting) e.port_kept) (ap (λ f. f.home) e.port_kept) e.performed).0

pub returns-clause-counted : goal.returns-clause-counted
returns-clause-counted c =
    let job = c.args.job.now in let e = c.in_ok-count.ensures in let old = c.args.port.now in let t = c.go_to_end.ensures in
    let main : c.len-main.result ≡ cpus_in c.args.job.now = c.len-main.ensures in
    let planned = c.bodies_at-bodies.ensures ∙ ap (plans_by c.args.job.now c.args.codes.now) main in
    sym (main_by job (plans_by c.args.job.now c.args.codes.now) (λ plan. end_program plan c.args.job.now.recording c.args.job.now.attached) old c.go_to_end.new.self c.run_end.new.port (plan_of c.bodies_at-bodies.result) c.in_ok-count.count planned
    t.steps (t.actor ∙ ap (λ w. w.cpus) c.requires.world) t.start (t.world ∙ c.requires.world)
    c.stands.ensures (ap (λ f. f.setting) e.port_kept) (ap (λ f. f.home) e.port_kept) e.performed).1
