use Rattle.std.proofs.Common.{◌≡◌, map, length, sym, ap, ◌∙◌, refl}
use Rattle.actor_plan.specs.Programs.{begin_program}
use Rattle.bt_meaning.specs.Replays.{begin_of}
use Rattle.bt_meaning.specs.Serial.{unstamped, then_steps, then_value}
use Rattle.code_runs.specs.Running.{plan_of}
use Rattle.run_output.specs.Jobs.{cpus_in, plans_by, replay_with}
use Rattle.bt_run.proofs.TakeLemmas.{main_by, ready}
use Rattle.bt_run.proofs.serial.begin.Goals as goal

pub run_begin-requires : goal.run_begin-requires
run_begin-requires c =
    let main : c.len-main.result ≡ cpus_in c.args.job.now = c.len-main.ensures in
    let actor : c.args.port.now.turn.actor ≡ cpus_in c.args.job.now = ap (λ t. t.actor) c.requires.first in
    record {
      ready = ready c.args.job.now (plans_by c.args.job.now c.args.codes.now) c.requires.can c.args.port.now.turn.actor c.args.port.now.world (plan_of c.bodies_at-bodies.result) c.requires.world
          (c.bodies_at-bodies.ensures ∙ ap (plans_by c.args.job.now c.args.codes.now) (main ∙ sym actor));
    }

pub returns-clause-serial : goal.returns-clause-serial
returns-clause-serial c =
    let job = c.args.job.now in let e = c.in_ok-count.ensures in let old = c.args.port.now in
    let main : c.len-main.result ≡ cpus_in c.args.job.now = c.len-main.ensures in
    let planned = c.bodies_at-bodies.ensures ∙ ap (plans_by c.args.job.now c.args.codes.now) main in
    let r = main_by job (plans_by c.args.job.now c.args.codes.now) (λ plan. begin_program plan c.args.job.now.recording c.args.job.now.attached) old old c.run_begin.new.port (plan_of c.bodies_at-bodies.result) c.in_ok-count.count planned
    refl (ap (λ t. t.actor) c.requires.first) (ap (λ t. t.start) c.requires.first ∙ sym (ap length c.requires.none)) c.requires.world
    c.stands.ensures (ap (λ f. f.setting) e.port_kept) (ap (λ f. f.home) e.port_kept) e.performed in
    ap (λ l. then_steps (replay_with c.args.job.now (plans_by c.args.job.now c.args.codes.now)) (cpus_in c.args.job.now) (begin_of (replay_with c.args.job.now (plans_by c.args.job.now c.args.codes.now))) (map unstamped l)) (sym c.requires.none) ∙ r.0
    ∙ ap (map unstamped) (sym c.go_to_cpus.ensures.steps)

pub returns-clause-counted : goal.returns-clause-counted
returns-clause-counted c =
    let job = c.args.job.now in let e = c.in_ok-count.ensures in let old = c.args.port.now in
    let main : c.len-main.result ≡ cpus_in c.args.job.now = c.len-main.ensures in
    let planned = c.bodies_at-bodies.ensures ∙ ap (plans_by c.args.job.now c.args.codes.now) main in
    let r = main_by job (plans_by c.args.job.now c.args.codes.now) (λ plan. begin_program plan c.args.job.now.recording c.args.job.now.attached) old old c.run_begin.new.port (plan_of c.bodies_at-bodies.result) c.in_ok-count.count planned
    refl (ap (λ t. t.actor) c.requires.first) (ap (λ t. t.start) c.requires.first ∙ sym (ap length c.requires.none)) c.requires.world
    c.stands.ensures (ap (λ f. f.setting) e.port_kept) (ap (λ f. f.home) e.port_kept) e.performed in
    sym r.1 ∙ ap (λ l. then_value (replay_with c.args.job.now (plans_by c.args.job.now c.args.codes.now)) (cpus_in c.args.job.now) (begin_of (replay_with c.args.job.now (plans_by c.args.job.now c.args.codes.now))) (map unstamped l)) c.requires.none
