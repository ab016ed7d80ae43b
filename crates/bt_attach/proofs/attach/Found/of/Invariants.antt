use Rattle.bt_attach.specs.Steps.{NoneFailed}
use Rattle.bt_attach.proofs.attach.Found.of.Given as goal

abbrev pub invariant-loop-i : goal.invariant-loop-i
invariant-loop-i l = NoneFailed l.formats l.start l.span l.probes l.i l.found
