use Rattle.std.proofs.Common.{rules, ◌≡◌, ◌↔◌, ◌+◌, ◌<◌, ◌∷◌, ◌++◌, [], ℕ, List, length, get_or, sym, ap, ◌∙◌, subst, arith}
use Rattle.actor_plan.specs.Plans.{Plan}
use Rattle.actor_plan.specs.Programs.{actor_program, begin_program}
use Rattle.account_follow.specs.declared.follow.Reached.{Reached}
use Rattle.account_follow.specs.Followed.{IsFollowed}
use Rattle.account_steps.specs.Stops.{AreReached, ArePassed, IsPassed}
use Rattle.account_steps.specs.Plans.{replay_by}
use Rattle.account_steps.proofs.FollowAll.{AreFollowed, all_reached, followed_more, same_but_items}
use Rattle.account_steps.proofs.follow_all.follow_all.Goals as goal

pub returns-clause-reached : goal.returns-clause-reached
returns-clause-reached g c =
    let f = c.in_ok-list.field-0 in
    let t = c.in_ok-list-2.field-0 in
    let r = c.args.recording.now in
    let at = c.args.attached.now in
    let m = c.len-main.result in
    let main : m ≡ length r.cpus = search rules in
    let kept = c.in_ok-list.ensures.plans_kept in
    let low : m < length c.follow_cpus.new.bodies = (let n = kept.count in omega arith) in
    let own : g.B.Bodies.plan (get_or c.follow_cpus.new.bodies m c.index-bodies-main.result) ≡ g.plans m = kept.each m c.index-bodies-main.result low in
    let pushed : c.push.new.self.items ≡ f.each.items ++ t.whole ∷ [] = search rules in
    let followed : AreFollowed g.plans c.args.exits r at t.list (f.each.items ++ t.whole ∷ []) (m + 1) =
    followed_more g.plans c.args.exits r at f.list t.list f.each.items m t.whole (c.in_ok-list.ensures.count ∙ sym main) c.in_ok-list-2.ensures.list
    (λ a d lt. c.in_ok-list.ensures.followed a d (omega arith))
    (subst (λ (plan : Plan). IsFollowed (actor_program plan c.args.exits r at) m t.list t.whole.at t.whole.on_list) own c.in_ok-list-2.ensures.whole) in
    let begun : IsFollowed (begin_program (g.plans (length r.cpus)) r at) (length r.cpus) t.list t.begin.at t.begin.on_list =
    subst (λ (z : Plan × ℕ). IsFollowed (begin_program z.0 r at) z.1 t.list t.begin.at t.begin.on_list) (λ i. ((own ∙ ap g.plans main) i, main i)) c.in_ok-list-2.ensures.begin in
    subst (λ (l : List Reached). AreReached (replay_by r at c.args.exits c.args.maps.now g.plans) t.list l t.begin c.reached_by_all-cpus.result) (sym pushed)
    (all_reached (replay_by r at c.args.exits c.args.maps.now g.plans) t.list f.each.items t.whole t.begin c.reached_by_all-cpus.result c.in_ok-list.ensures.count
    (subst (λ (n : ℕ). AreFollowed g.plans c.args.exits r at t.list (f.each.items ++ t.whole ∷ []) (n + 1)) main followed) begun
    (λ place. subst (λ (l : List Reached). IsPassed c.reached_by_all-cpus.result place ↔ ArePassed (length l) l place) c.as_slice.ensures.value (c.reached_by_all-cpus.ensures place)))

pub returns-clause-alike : goal.returns-clause-alike
returns-clause-alike g c =
    same_but_items c.len-main.result c.in_ok-list-2.field-0.list c.in_ok-list.field-0.list c.in_ok-list-2.ensures.list ∙ c.in_ok-list.ensures.alike
