-- What the adapters of real files and of standard output and error tell.
use Rattle.std.specs.Prelude.{ℕ, List}

-- what a shelf of real files tells: how many faults there were, the names that it was asked for, and those whose reads failed
pub record ReadLog : Type 0 where
  pub faults : ℕ
  pub asked : List (List ℕ)
  pub failed : List (List ℕ)

-- what a sink of a real stream tells: how many faults there were
pub record WriteLog : Type 0 where
  pub faults : ℕ
