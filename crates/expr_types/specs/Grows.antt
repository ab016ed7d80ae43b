-- What is known later holds all that was known before, in its place.
use Rattle.std.specs.Prelude.{◌≡◌, List, ◌++◌}
use Rattle.expr_types.specs.declared.known.Known.{Known}

-- the first items of a list
abbrev pub IsFrontOf : {A : Type 0} → List A → List A → Type 0
IsFrontOf {A} xs ys = (more : List A) × (ys ≡ xs ++ more)

-- later in one body; from one body to another the names, the declarations and the formats alone grow
pub record Grows (before later : Known) : Type 0 where
  pub event : later.event ≡ before.event
  pub vars : IsFrontOf before.vars later.vars
  pub named : IsFrontOf before.named later.named
  pub calls : IsFrontOf before.calls later.calls
  pub names : IsFrontOf before.names later.names
  pub decided : IsFrontOf before.decided later.decided
  pub printed : IsFrontOf before.printed later.printed
