-- Probes read one after the other.
use Rattle.std.specs.Prelude.{ℕ, zero, suc, List, [], ◌∷◌}
use Rattle.bt_ast.specs.declared.probe.Probe.{Probe}
use Rattle.bt_grammar.specs.Form.{Item, OneProbe}
use Rattle.bt_grammar.specs.Reading.{Out, Done, and_then, reads}

-- so many probes from the front
abbrev pub probes_read : ℕ → List Item → Out (List Probe)
probes_read zero ts = Done [] ts
probes_read (suc k) ts = and_then (reads OneProbe ts) (λ p r. and_then (probes_read k r) (λ ps r'. Done (p ∷ ps) r'))
