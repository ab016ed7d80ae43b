use Rattle.std.proofs.Common.{◌≡◌, ℕ, ◌<◌, length, map, slice_index_or}
use Rattle.actor_plan.specs.Programs.{actor_program}
use Rattle.step_entries.specs.Blank.{without_item}
use Rattle.account_follow.specs.declared.follow.Reached.{Reached}
use Rattle.account_follow.specs.Followed.{IsFollowed}
use Rattle.account_steps.specs.Plans.{HaveOwnReplies, HavePlans}
use Rattle.account_steps.proofs.follow_all.follow_cpus.Given as goal

-- those of the CPUs before this one were followed
abbrev pub invariant-loop-cpu : goal.invariant-loop-cpu
invariant-loop-cpu g l = record {
  plans : HavePlans g.B.Bodies.plan g.plans (length l.recording.cpus) l.bodies;
  count : length l.each.items ≡ l.cpu;
  followed : (a : ℕ) (d : Reached) → a < l.cpu → IsFollowed (actor_program (g.plans a) l.exits l.recording l.attached) a l.list
      (slice_index_or l.each.items a d).at (slice_index_or l.each.items a d).on_list;
  alike : map without_item l.list ≡ map without_item l.fn.list;
  replies : HaveOwnReplies l.maps l.list;
}
