use Rattle.std.proofs.Common.{rules, ◌≡◌, IsTrue, false, ℕ, List, sym, refl, ◌∙◌, subst}
use Rattle.bt_core.specs.declared.step.Step.{Step}
use Rattle.bt_core.specs.Interaction.{Whole}
use Rattle.actor_plan.specs.Plans.{Plan}
use Rattle.actor_plan.specs.Programs.{actor_program, begin_program, end_program}
use Rattle.account_follow.specs.Followed.{IsFollowed}
use Rattle.account_follow.specs.Following.{steps_in}
use Rattle.account_follow.proofs.Others.{replies_kept}
use Rattle.account_follow.specs.Settings.{setting_for}
use Rattle.account_follow.proofs.MainLaws.{begin_stays, main_followed, main_strayed}
use Rattle.account_follow.proofs.main_actor.follow_main.Goals as goal

pub returns-then-not-begin-clause-whole : goal.returns-then-not-begin-clause-whole
returns-then-not-begin-clause-whole g c =
    let t = c.in_ok-list.field-0 in
    let off : t.reached.on_list ≡ false = search rules in
    main_strayed (g.B.Bodies.plan c.args.bodies.now) c.args.exits c.args.recording.now c.args.attached.now (c.requires.actor ∙ c.requires.main)
    c.args.main t.list t.reached.at t.reached.on_list off c.in_ok-list.ensures.followed

pub follower_of-requires-clause-replies : goal.follower_of-requires-clause-replies
follower_of-requires-clause-replies g c =
    replies_kept c.args.main c.args.maps.now (λ by. by ≡ c.args.main) c.args.list c.in_ok-list.field-0.list c.in_ok-list.ensures.list c.requires.replies

pub returns-clause-begin : goal.returns-clause-begin
returns-clause-begin g c =
    let t = c.in_ok-list.field-0 in
    let w = c.run_end.new.port in
    let onto : IsTrue t.reached.on_list = search rules in
    subst (λ l. IsFollowed (begin_program (g.B.Bodies.plan c.args.bodies.now) c.args.recording.now c.args.attached.now) c.args.main l t.reached.at t.reached.on_list) (sym c.into_trail-list.ensures.list)
    (begin_stays (g.B.Bodies.plan c.args.bodies.now) c.args.exits c.args.recording.now c.args.attached.now (c.requires.actor ∙ c.requires.main)
    c.args.main t.list t.reached.at t.reached.on_list c.in_ok-list.ensures.followed onto
    (setting_for c.args.recording.now c.args.attached.now c.args.maps.now c.args.main) refl c.in_ok-port.port w c.in_ok-port.ensures c.in_ok-run_end.ensures.port_kept)

pub returns-clause-whole : goal.returns-clause-whole
returns-clause-whole g c =
    let t = c.in_ok-list.field-0 in
    let w = c.run_end.new.port in
    let onto : IsTrue t.reached.on_list = search rules in
    let made = subst (λ (plan : Plan). Whole (end_program plan c.args.recording.now c.args.attached.now) (steps_in c.in_ok-port.port) (steps_in w) c.in_ok-run_end.field-0)
    c.in_ok-list.ensures.plan_kept c.in_ok-run_end.ensures.performed in
    let whole = main_followed (g.B.Bodies.plan c.args.bodies.now) c.args.exits c.args.recording.now c.args.attached.now (c.requires.actor ∙ c.requires.main)
    c.args.main t.list t.reached.at t.reached.on_list c.in_ok-list.ensures.followed onto
    (setting_for c.args.recording.now c.args.attached.now c.args.maps.now c.args.main) refl c.in_ok-port.port w c.in_ok-port.ensures c.in_ok-run_end.ensures.port_kept
    c.in_ok-run_end.field-0 made c.stands.ensures c.into_trail-list.result.reached.on_list c.into_trail-list.ensures.on in
    subst (λ (z : List Step × ℕ). IsFollowed (actor_program (g.B.Bodies.plan c.args.bodies.now) c.args.exits c.args.recording.now c.args.attached.now) c.args.main z.0 z.1 c.into_trail-list.result.reached.on_list)
    (λ i. (sym c.into_trail-list.ensures.list i, sym c.into_trail-list.ensures.at i)) whole
