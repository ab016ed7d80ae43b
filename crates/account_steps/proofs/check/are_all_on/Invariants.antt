use Rattle.std.proofs.Common.{ℕ, ◌<◌, IsTrue, slice_index_or}
use Rattle.account_follow.specs.declared.follow.Reached.{Reached}
use Rattle.account_steps.proofs.check.are_all_on.Given as goal

-- those before this one made all their steps on the list
abbrev pub invariant-loop-reached : goal.invariant-loop-reached
invariant-loop-reached l = (actor : ℕ) (d : Reached) → actor < l.reached-index → IsTrue (slice_index_or l.each actor d).on_list
