use Rattle.turn_lock.specs.Locks.{table_of}
use Rattle.turn_lock.proofs.HistoryLemmas.{turns_of}
use Rattle.lock_tests.proofs.locks.everyone_adds.Goals as goal

pub all_add_ones-requires-clause-of : goal.all_add_ones-requires-clause-of
all_add_ones-requires-clause-of g c κs within = turns_of (table_of c.args.lock.now) 0 c.args.turns.now c.requires.turns
