-- Turns at the clock and at the output.
use Rattle.std.specs.Prelude.{List, map}
use Rattle.stamped.specs.Rows.{Row}

-- an actor's turns at the clock and at the output
pub record Both : Type 0 where
  pub clock : Row
  pub out : Row

abbrev pub clocks : List Both → List Row
clocks all = map (λ (both : Both). both.clock) all

abbrev pub outs : List Both → List Row
outs all = map (λ (both : Both). both.out) all
