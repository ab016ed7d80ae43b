use Rattle.helper_abi.proofs.helper_port.act.Goals as goal

pub returns-in-ReadStr-clause-called : goal.returns-in-ReadStr-clause-called
returns-in-ReadStr-clause-called g c = rw c.in-ReadStr.is (c.read_str.ensures.called _)
