use Rattle.std.proofs.Common.{◌≡◌, ℕ, ◌<◌, ◌≤◌, length, get_or, refl, ◌∙◌, arith}
use Rattle.std.proofs.lemmas.Result.{err_from_is_err_and}
use Rattle.bt_core.specs.Interaction.{Interaction}
use Rattle.actor_plan.proofs.InTurnLaws.{takes_few, none_yet, one_body, body_stops, all_done}
use Rattle.actor_plan.proofs.in_turn.run_in_turn.Goals as goal

pub loop-body-init : goal.loop-body-init
loop-body-init g c = let run : ℕ → Interaction ℕ = (λ body. (g.B.Bodies.plan c.args.bodies.now).run body c.args.context.now c.args.payload.now) in
    record { left = none_yet run c.args.which.now (g.P.Port.steps c.args.port.now); few = omega arith; port = refl; plan = refl }

pub returns-in_err-total-clause-performed : goal.returns-in_err-total-clause-performed
returns-in_err-total-clause-performed g c =
    let context = c.args.context.now in
    let payload = c.args.payload.now in
    let run : ℕ → Interaction ℕ = (λ body. (g.B.Bodies.plan c.args.bodies.now).run body context payload) in
    let now : ℕ → Interaction ℕ = (λ body. (g.B.Bodies.plan c.loop-body.bodies).run body context payload) in
    let lt : c.loop-body.body-index < length c.args.which.now = omega arith in
    let same : now ≡ run = (λ k body. (c.loop-body.invariant.plan k).run body context payload) in
    let p = err_from_is_err_and c.from_residual.result c.from_residual.ensures.1 in
    rw p.1 (body_stops run c.args.which.now c.loop-body.body-index c.loop-body.total 0 (g.P.Port.steps c.args.port.now) (g.P.Port.steps c.loop-body.port) c.loop-body.invariant.left
    now (g.P.Port.steps c.run.new.port) lt same c.in_err-total.ensures.performed)

pub overflow_add-total : goal.overflow_add-total
overflow_add-total g c =
    let lt : c.loop-body.body-index < length c.args.which.now = omega arith in
    let one = takes_few (g.B.Bodies.plan c.args.bodies.now) (g.B.Bodies.plan c.loop-body.bodies) (get_or c.args.which.now c.loop-body.body-index 0) c.args.context.now c.args.payload.now
    (g.P.Port.steps c.loop-body.port) (g.P.Port.steps c.run.new.port) c.in_ok-total.field-0 c.loop-body.invariant.plan c.requires.few c.in_ok-total.ensures.performed in
    let before = c.loop-body.invariant.few in
    let most = c.requires.few_bodies in
    omega (arith, one, before, most)

pub loop-body-preserved : goal.loop-body-preserved
loop-body-preserved g c =
    let context = c.args.context.now in
    let payload = c.args.payload.now in
    let i = c.loop-body.invariant in
    let e = c.in_ok-total.ensures in
    let run : ℕ → Interaction ℕ = (λ body. (g.B.Bodies.plan c.args.bodies.now).run body context payload) in
    let now : ℕ → Interaction ℕ = (λ body. (g.B.Bodies.plan c.loop-body.bodies).run body context payload) in
    let lt : c.loop-body.body-index < length c.args.which.now = omega arith in
    let same : now ≡ run = (λ k body. (i.plan k).run body context payload) in
    let one = takes_few (g.B.Bodies.plan c.args.bodies.now) (g.B.Bodies.plan c.loop-body.bodies) (get_or c.args.which.now c.loop-body.body-index 0) context payload
    (g.P.Port.steps c.loop-body.port) (g.P.Port.steps c.run.new.port) c.in_ok-total.field-0 i.plan c.requires.few e.performed in
    let before = i.few in
    record {
      left = one_body run c.args.which.now c.loop-body.body-index c.loop-body.total 0 (g.P.Port.steps c.args.port.now) (g.P.Port.steps c.loop-body.port) i.left
          now c.in_ok-total.field-0 (g.P.Port.steps c.run.new.port) lt same e.performed;
      few = omega (arith, one, before);
      port = e.port_kept ∙ i.port;
      plan = e.plan_kept ∙ i.plan;
    }

pub returns-clause-performed : goal.returns-clause-performed
returns-clause-performed g c =
    let run : ℕ → Interaction ℕ = (λ body. (g.B.Bodies.plan c.args.bodies.now).run body c.args.context.now c.args.payload.now) in
    let le : length c.args.which.now ≤ c.loop-body.body-index = omega arith in
    all_done run c.args.which.now c.loop-body.body-index c.loop-body.total 0 (g.P.Port.steps c.args.port.now) (g.P.Port.steps c.loop-body.port) c.loop-body.invariant.left le
