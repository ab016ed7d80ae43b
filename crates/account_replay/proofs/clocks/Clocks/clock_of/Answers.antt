use Rattle.std.proofs.Common.{rules, ◌≢◌, ◌∙◌, max}
use Rattle.account_replay.proofs.ClockLemmas.{cpu_clock}
use Rattle.account_replay.proofs.clocks.Clocks.clock_of.Goals as goal

pub returns-else-actor-main : goal.returns-else-actor-main
returns-else-actor-main c = λ before tell.
    let ne : c.args.actor ≢ c.args.main = search rules in
    c.max.ensures ∙ (λ i. max (c.index.ensures i) (c.index-else-actor-main.ensures i))
    ∙ cpu_clock c.args.main before c.args.self.now tell c.args.actor _ _ ne c.requires.known
