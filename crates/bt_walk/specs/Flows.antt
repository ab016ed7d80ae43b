-- Where statements lead, for the walk through a port.
use Rattle.std.specs.Prelude.{Bool, true, false, Option, Some, None}
use Rattle.walk_meaning.specs.declared.flow.Flow.{Flow}
use Rattle.walk_meaning.specs.declared.flow.Flow.TheVariants.{Next, Break, Continue, Stop}

-- whether the next statement follows
abbrev pub is_next : Flow → Bool
is_next Next = true
is_next Break = false
is_next Continue = false
is_next (Stop ending) = false

-- how a loop is left whose turn led there, or none where it goes on
abbrev pub leaves : Flow → Option Flow
leaves Next = None
leaves Break = Some Next
leaves Continue = None
leaves (Stop ending) = Some (Stop ending)
