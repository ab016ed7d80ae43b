-- Where texts differ.
use Rattle.std.specs.Prelude.{◌≡◌, ◌≢◌, ℕ, List, take, slice_get}

-- The texts are the same before this place. Here they are not: they have different bytes, or one of them alone has ended.
pub record DifferAt (one other : List ℕ) (at : ℕ) : Type 0 where
  pub before : take at one ≡ take at other
  pub here : slice_get one at ≢ slice_get other at
