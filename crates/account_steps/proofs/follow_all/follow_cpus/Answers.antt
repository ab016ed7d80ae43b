use Rattle.std.proofs.Common.{rules, ◌≡◌, ◌+◌, ◌<◌, ◌∷◌, ◌++◌, [], List, length, get_or, sym, ap, ◌∙◌, subst, arith}
use Rattle.std.proofs.lemmas.List.{length-append}
use Rattle.actor_plan.specs.Programs.{actor_program}
use Rattle.actor_plan.specs.Plans.{Plan}
use Rattle.account_follow.specs.declared.follow.Reached.{Reached}
use Rattle.account_follow.specs.Followed.{IsFollowed}
use Rattle.account_steps.proofs.FollowAll.{AreFollowed, followed_more, plans_stay, replies_stay, same_but_items}
use Rattle.account_steps.proofs.follow_all.follow_cpus.Goals as goal

pub loop-cpu-preserved : goal.loop-cpu-preserved
loop-cpu-preserved g c =
    let l = c.loop-cpu in
    let inv = c.loop-cpu.invariant in
    let t = c.in_ok-trail.trail in
    let r = c.args.recording.now in
    let low : l.cpu < length l.bodies = (let n = inv.plans.count in let m = c.loop-cpu-test.true in let k : c.len-cpu-end.result ≡ length r.cpus = search rules in omega arith) in
    let own : g.B.Bodies.plan (get_or l.bodies l.cpu c.index-bodies-cpu.result) ≡ g.plans l.cpu = inv.plans.each l.cpu c.index-bodies-cpu.result low in
    let pushed : c.push.new.self.items ≡ l.each.items ++ t.reached ∷ [] = search rules in
    record {
      plans = plans_stay g.B.Bodies.plan g.plans (length r.cpus) l.bodies l.cpu c.follow_cpu.new.bodies inv.plans low (c.in_ok-trail.ensures.plan_kept ∙ own);
      count = ap length pushed ∙ length-append l.each.items (t.reached ∷ []) ∙ (let n = inv.count in omega arith);
      followed = subst (λ (z : List Reached). AreFollowed g.plans c.args.exits r c.args.attached.now t.list z (l.cpu + 1)) (sym pushed)
          (followed_more g.plans c.args.exits r c.args.attached.now l.list t.list l.each.items l.cpu t.reached inv.count c.in_ok-trail.ensures.list inv.followed
          (subst (λ (plan : Plan). IsFollowed (actor_program plan c.args.exits r c.args.attached.now) l.cpu t.list t.reached.at t.reached.on_list) own c.in_ok-trail.ensures.followed));
      alike = same_but_items l.cpu t.list l.list c.in_ok-trail.ensures.list ∙ inv.alike;
      replies = replies_stay c.args.maps.now l.cpu l.list t.list c.in_ok-trail.ensures.list inv.replies;
    }
