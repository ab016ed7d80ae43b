use Rattle.std.proofs.Common.{refl, true, false}
use Rattle.bpf_interp.proofs.Values.{written, still}
use Rattle.bpf_interp.proofs.registers.Registers.answer.Goals as goal

pub invariant_of-self : goal.invariant_of-self
invariant_of-self c =
    still _ _ 5 false 0 refl (still _ _ 4 false 0 refl (still _ _ 3 false 0 refl (still _ _ 2 false 0 refl (still _ _ 1 false 0 refl
    (still c.self.inside.set c.self.inside.words 0 true c.args.number refl c.self.invariant)))))

pub returns : goal.returns
returns c =
    written _ _ _ 5 false 0 (written _ _ _ 4 false 0 (written _ _ _ 3 false 0 (written _ _ _ 2 false 0 (written _ _ _ 1 false 0
    (written c.self.inside.set c.self.inside.words c.args.self.now 0 true c.args.number c.self.view_is)))))
