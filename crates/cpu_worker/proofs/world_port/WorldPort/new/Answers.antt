use Rattle.std.proofs.Common.{refl, sym, subst}
use Rattle.stamped.specs.Traces.{actor_of}
use Rattle.cpu_worker.specs.AtWork.{IsAtWork}
use Rattle.cpu_worker.specs.Worlds.{sets_in, setting_in}
use Rattle.cpu_worker.proofs.ChainLemmas.{since_start}
use Rattle.cpu_worker.proofs.WorldLemmas.{keeps_same}
use Rattle.cpu_worker.proofs.world_port.WorldPort.new.Goals as goal

pub invariant_of-result : goal.invariant_of-result
invariant_of-result g c = let t = c.args.trace in let w = c.args.world.now in let turns = c.args.turns in
    subst (λ (z : _ × _). IsAtWork (record { sets = sets_in w; setting = setting_in w (actor_of z.1); first_turns = z.0; first_trace = z.1; turns = turns; trace = t }))
    (λ i. (sym c.of-first_turns.ensures i, sym c.of-first_trace.ensures i))
    (record { actor = refl; turns_are = c.requires.turns; own = keeps_same (sets_in w) turns t; since = since_start (setting_in w (actor_of t)) t })
