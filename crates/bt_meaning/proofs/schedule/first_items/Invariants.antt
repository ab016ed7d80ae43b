use Rattle.std.proofs.Common.{◌≡◌, ◌++◌, drop, map}
use Rattle.bt_meaning.specs.Upcoming.{first_items, head_item}
use Rattle.bt_meaning.proofs.schedule.first_items.Given as goal

-- what there is, with what is to come, is the whole
abbrev pub invariant-loop-cpu : goal.invariant-loop-cpu
invariant-loop-cpu l = map head_item l.items.items ++ first_items l.ticks l.cpu (drop l.cpu l.tracks) ≡ first_items l.ticks 0 l.tracks
