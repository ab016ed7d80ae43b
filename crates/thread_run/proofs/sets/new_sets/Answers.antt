use Rattle.std.proofs.Common.{sym, ap, subst}
use Rattle.stamped.specs.SetTurns.{AreNew}
use Rattle.side_locks.specs.Turns.{clocks, outs}
use Rattle.thread_actors.proofs.Turning.{all_unused}
use Rattle.thread_run.proofs.sets.new_sets.Goals as goal

pub returns-clause-unused : goal.returns-clause-unused
returns-clause-unused c = all_unused c.in_ok-turns.turns.items (subst AreNew (sym c.in_ok-turns.ensures.maps) c.in_ok-maps.ensures.fresh) (subst AreNew (sym c.in_ok-turns.ensures.tables) c.in_ok-tables.ensures.fresh)
    (subst AreNew (ap clocks (sym c.in_ok-turns.ensures.sides)) c.in_ok-sides.ensures.fresh.0) (subst AreNew (ap outs (sym c.in_ok-turns.ensures.sides)) c.in_ok-sides.ensures.fresh.1)
