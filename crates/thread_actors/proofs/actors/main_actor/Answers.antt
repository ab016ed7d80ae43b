use Rattle.std.proofs.Common.{get_or, ap, ◌∙◌, arith}
use Rattle.std.specs.List.{remove}
use Rattle.thread_actors.proofs.actors.main_actor.Goals as goal

pub remove-own-requires : goal.remove-own-requires
remove-own-requires g c = let e = c.requires.actors in let l = c.len-cpus.ensures in omega (arith, e, l)

pub remove-own_turns-requires : goal.remove-own_turns-requires
remove-own_turns-requires g c = let e = c.requires.many in let l = c.len-cpus.ensures in omega (arith, e, l)

pub returns-clause-bodies : goal.returns-clause-bodies
returns-clause-bodies g c = c.remove-own.ensures.items ∙ ap (remove c.args.bodies.now.items) c.len-cpus.ensures

pub returns-clause-turns : goal.returns-clause-turns
returns-clause-turns g c = c.remove-own_turns.ensures.items ∙ ap (remove c.args.turns.now.items) c.len-cpus.ensures

pub returns-clause-last_bodies : goal.returns-clause-last_bodies
returns-clause-last_bodies g c = c.remove-own.ensures.value ∙ ap (λ n. get_or c.args.bodies.now.items n c.remove-own.result) c.len-cpus.ensures

pub returns-clause-last_turns : goal.returns-clause-last_turns
returns-clause-last_turns g c = c.remove-own_turns.ensures.value ∙ ap (λ n. get_or c.args.turns.now.items n c.remove-own_turns.result) c.len-cpus.ensures

pub returns-clause-trace : goal.returns-clause-trace
returns-clause-trace g c = record { actor_is = c.new-trace.ensures.actor ∙ c.len-cpus.ensures; empty = c.new-trace.ensures.empty; clock_is = c.new-trace.ensures.clock }
