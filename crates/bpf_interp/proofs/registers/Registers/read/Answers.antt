use Rattle.std.proofs.Common.{rules}
use Rattle.bpf_interp.proofs.Values.{value_set, value_unset}
use Rattle.bpf_interp.proofs.registers.Registers.read.Goals as goal

pub returns-then-self-place : goal.returns-then-self-place
returns-then-self-place c =
    rw (← c.self.view_is) (value_set c.self.inside.set c.self.inside.words c.args.register _ (search rules) (search rules) c.if-self-place.true)

pub returns-else-self-place : goal.returns-else-self-place
returns-else-self-place c =
    rw (← c.self.view_is) (value_unset c.self.inside.set c.self.inside.words c.args.register _ (search rules) (search rules) c.if-self-place.false)
