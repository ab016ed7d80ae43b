-- What each map function of one number gathers, by the section on map functions of the bpftrace language reference.
use Rattle.std.specs.Prelude.{List, [], ◌∷◌}
use Rattle.bt_ast.specs.declared.gathering.Gathering.{Gathering}
use Rattle.bt_ast.specs.declared.gathering.Gathering.TheVariants as function
use Rattle.bt_core.specs.declared.map.AggKind.{AggKind}
use Rattle.bt_core.specs.declared.map.AggKind.TheVariants as kind

-- `sum`, `min`, `max`, `avg` and `hist`
abbrev pub gatherings : List (Gathering × AggKind)
gatherings = (function.Sum, kind.Sum) ∷ (function.Min, kind.Min) ∷ (function.Max, kind.Max) ∷ (function.Avg, kind.Avg) ∷ (function.Hist, kind.Hist) ∷ []
