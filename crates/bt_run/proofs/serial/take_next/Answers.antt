use Rattle.std.proofs.Common.{rules, ◌≡◌, ◌<◌, ◌≤◌, length, get_or, slice_index_or, true, false, sym, ap, ◌∙◌, subst, arith}
use Rattle.std.specs.Prelude.{slice_get, Some}
use Rattle.std.proofs.lemmas.Option.{slice_get-get_or}
use Rattle.actor_plan.specs.Plans.{Plan}
use Rattle.actor_plan.specs.Ready.{IsReady}
use Rattle.run_objects.specs.Worlds.{setting_in}
use Rattle.code_runs.specs.Running.{plan_of}
use Rattle.run_output.specs.Jobs.{cpus_in, plans_by}
use Rattle.bt_run.proofs.TakeLemmas.{ready, next_by, goes_within}
use Rattle.bt_run.proofs.serial.take_next.Goals as goal

pub bodies_at-bodies-requires-clause-below : goal.bodies_at-bodies-requires-clause-below
bodies_at-bodies-requires-clause-below c =
    let on : slice_index_or c.args.going.now.items c.cpu_of_due-cpu.result false ≡ true = search rules in
    let w = goes_within c.args.going.now.items c.cpu_of_due-cpu.result on in let l = c.requires.long in omega arith

pub take_item-requires-clause-ready : goal.take_item-requires-clause-ready
take_item-requires-clause-ready c =
    let on : slice_index_or c.args.going.now.items c.cpu_of_due-cpu.result false ≡ true = search rules in
    let lt : c.cpu_of_due-cpu.result ≤ cpus_in c.args.job.now = (let w = goes_within c.args.going.now.items c.cpu_of_due-cpu.result on in let l = c.requires.long in omega arith) in
    let t = c.turn_to.ensures in
    subst (λ n. IsReady (plan_of c.bodies_at-bodies.result) c.args.job.now.recording c.args.job.now.attached (setting_in c.turn_to.new.self.world n)) (sym t.actor)
    (ready c.args.job.now (plans_by c.args.job.now c.args.codes.now) c.requires.can c.cpu_of_due-cpu.result c.turn_to.new.self.world (plan_of c.bodies_at-bodies.result) (t.world ∙ c.requires.world)
    c.bodies_at-bodies.ensures)

pub take_item-requires-clause-on_cpu : goal.take_item-requires-clause-on_cpu
take_item-requires-clause-on_cpu c =
    let job = c.args.job.now in
    let on : slice_index_or c.args.going.now.items c.cpu_of_due-cpu.result false ≡ true = search rules in
    let lt : c.cpu_of_due-cpu.result < length c.args.job.now.recording.cpus = (let w = goes_within c.args.going.now.items c.cpu_of_due-cpu.result on in let l = c.requires.long in omega arith) in
    let track = c.index-as_slice-cpu.result in
    let planned = c.bodies_at-bodies.ensures in
    let actor : (plan_of c.bodies_at-bodies.result).actor ≡ c.cpu_of_due-cpu.result = ap (λ (p : Plan). p.actor) planned ∙ (c.requires.can.plans_are c.cpu_of_due-cpu.result).actor_is in
    let there : slice_get c.args.job.now.recording.cpus c.cpu_of_due-cpu.result ≡ Some c.index-as_slice-cpu.result =
    slice_get-get_or c.args.job.now.recording.cpus c.cpu_of_due-cpu.result c.index-as_slice-cpu.result lt
    ∙ ap Some (sym (c.index-as_slice-cpu.is ∙ ap (λ l. get_or l c.cpu_of_due-cpu.result c.index-as_slice-cpu.result) c.as_slice-2.ensures)) in
    ap (slice_get c.args.job.now.recording.cpus) actor ∙ there

pub returns-clause-next : goal.returns-clause-next
returns-clause-next c =
    let on : slice_index_or c.args.going.now.items c.cpu_of_due-cpu.result false ≡ true = search rules in
    let lt : c.cpu_of_due-cpu.result < length c.args.job.now.recording.cpus = (let w = goes_within c.args.going.now.items c.cpu_of_due-cpu.result on in let l = c.requires.long in omega arith) in
    let there : slice_get c.args.job.now.recording.cpus c.cpu_of_due-cpu.result ≡ Some c.index-as_slice-cpu.result =
    slice_get-get_or c.args.job.now.recording.cpus c.cpu_of_due-cpu.result c.index-as_slice-cpu.result lt
    ∙ ap Some (sym (c.index-as_slice-cpu.is ∙ ap (λ l. get_or l c.cpu_of_due-cpu.result c.index-as_slice-cpu.result) c.as_slice-2.ensures)) in
    let planned = c.bodies_at-bodies.ensures in
    let t = c.turn_to.ensures in let e = c.in_ok-taken.ensures in
    next_by c.args.job.now (plans_by c.args.job.now c.args.codes.now) c.args.item.now c.args.port.now c.turn_to.new.self c.take_item.new.port c.cpu_of_due-cpu.result (plan_of c.bodies_at-bodies.result) c.index-as_slice-cpu.result c.item_of_due.result c.args.going.now.items c.in_ok-taken.taken
    c.cpu_of_due-cpu.ensures c.item_of_due.ensures on there planned t.steps t.actor t.start (t.world ∙ c.requires.world)
    c.stands.ensures (ap (λ f. f.setting) e.port_kept) (ap (λ f. f.home) e.port_kept) e.performed
