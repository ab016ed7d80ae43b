use Rattle.std.proofs.Common.{refl, true}
use Rattle.bpf_interp.proofs.Values.{written, still}
use Rattle.bpf_interp.proofs.registers.Registers.write.Goals as goal

pub invariant_of-self : goal.invariant_of-self
invariant_of-self c = still c.self.inside.set c.self.inside.words c.args.register true c.args.value refl c.self.invariant

pub returns : goal.returns
returns c = written c.self.inside.set c.self.inside.words c.args.self.now c.args.register true c.args.value c.self.view_is
