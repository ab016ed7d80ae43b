-- The sums that tallies have.
use Rattle.std.specs.Prelude.{ℤ}
use Rattle.turn_lock.specs.declared.tally.Tally.{Tally}
use Rattle.turn_lock.specs.declared.tally.Balky.{Balky}

abbrev pub sum_of : Tally → ℤ
sum_of tally = tally.sum

abbrev pub balky_sum_of : Balky → ℤ
balky_sum_of balky = balky.tally.sum
