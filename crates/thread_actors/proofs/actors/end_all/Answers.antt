use Rattle.std.proofs.Common.{max, refl, sym, ap, ◌∙◌, subst}
use Rattle.stamped.specs.Traces.{clock_of}
use Rattle.weave.specs.Ends.{latest}
use Rattle.cpu_worker.specs.Worlds.{sets_in, AreTurnsOf, IsPlanIn}
use Rattle.thread_actors.proofs.actors.end_all.Goals as goal

-- the raised trace is of the same actor
pub end-requires-clause-turns : goal.end-requires-clause-turns
end-requires-clause-turns g c = subst (λ a. AreTurnsOf (sets_in c.args.world.now) a c.args.main.turns) (sym c.raise.ensures.actor) c.requires.turns

pub end-requires-clause-plan : goal.end-requires-clause-plan
end-requires-clause-plan g c = subst (λ a. IsPlanIn c.args.world.now a (g.B.Bodies.plan c.args.main.bodies)) (sym c.raise.ensures.actor) c.requires.plan

pub returns : goal.returns
returns g c = record {
  raised = record { bodies = c.args.main.bodies; turns = c.args.main.turns; trace = c.raise.new.self };
  finished = c.in_ok-main.main;
  end_count = c.in_ok-main.finished;
  is_raised = record {
    actor = c.raise.ensures.actor;
    clock = c.raise.ensures.clock ∙ ap (max (clock_of c.args.main.trace)) (c.latest_clock.ensures ∙ ap latest c.as_slice.ensures.value);
    steps = c.raise.ensures.steps;
    turns = refl;
    bodies = refl;
  };
  ended = c.in_ok-main.ensures;
  with_main = c.in_ok-add_main.ensures;
}
