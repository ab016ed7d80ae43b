-- Lists that are no interleavings of the runs in which two CPUs count and ticks print, or in which one CPU counts to two.
use Rattle.std.specs.Prelude.{pos, true, false, List, [], ◌∷◌, ◌++◌}
use Rattle.bt_core.specs.declared.item.Item.TheVariants.{Printf}
use Rattle.bt_core.specs.declared.step.ObjectId.TheVariants.{Clock, Out}
use Rattle.bt_core.specs.declared.step.Op.TheVariants.{Emit, Stop}
use Rattle.bt_core.specs.declared.step.Reply.TheVariants.{Done}
use Rattle.bt_core.specs.declared.step.Step.{Step}
use Rattle.meaning_tests.specs.Intervals.{prints_of}
use Rattle.meaning_tests.specs.Serial.{checks, get, set}
use Rattle.meaning_tests.specs.Written.{adds, crosses, step}

-- the first read is answered by two counts, of which the second comes later
abbrev pub from_the_future : List Step
from_the_future =
    adds 0 ∷ adds 1 ∷ crosses 0 0 false ∷ crosses 1 0 true ∷ (prints_of 1 2 1 3
    ++ adds 0 ∷ adds 1 ∷ crosses 0 1 false ∷ crosses 1 1 true ∷ prints_of 1 2 2 4)

-- a CPU crosses the first tick before its first event is counted
abbrev pub too_early : List Step
too_early =
    adds 1 ∷ crosses 0 0 false ∷ crosses 1 0 true ∷ (prints_of 1 0 1 1
    ++ adds 0 ∷ adds 0 ∷ adds 1 ∷ crosses 0 1 false ∷ crosses 1 1 true ∷ prints_of 1 2 2 4)

-- the second event of a CPU is not counted
abbrev pub one_left_out : List Step
one_left_out =
    adds 0 ∷ adds 1 ∷ crosses 0 0 false ∷ crosses 1 0 true ∷ (prints_of 1 1 1 2
    ++ adds 1 ∷ crosses 0 1 false ∷ crosses 1 1 true ∷ prints_of 1 1 2 3)

-- the second print is missing
abbrev pub cut_short : List Step
cut_short =
    adds 0 ∷ adds 1 ∷ crosses 0 0 false ∷ crosses 1 0 true ∷ (prints_of 1 1 1 2
    ++ adds 0 ∷ adds 1 ∷ crosses 0 1 false ∷ crosses 1 1 true ∷ [])

-- END's step comes before the last check of the CPU
abbrev pub early_end : List Step
early_end =
    checks 0 false ∷ adds 0 ∷ get (pos 0) ∷ set (pos 1) ∷ get (pos 1)
    ∷ checks 0 false ∷ adds 0 ∷ get (pos 1) ∷ set (pos 2) ∷ get (pos 2) ∷ step 0 Clock Stop Done
    ∷ step 1 Out (Emit (Printf 0 [])) Done ∷ checks 0 true ∷ []
