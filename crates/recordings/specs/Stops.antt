-- How a part that is due is wrong: it is not there as a whole, or it is and has a fault.
use Rattle.std.specs.Prelude.{◌≡◌, ℕ, List, ◌++◌}
use Rattle.recordings.specs.declared.error.RecordingError.{RecordingError}
use Rattle.recordings.specs.declared.error.RecordingError.TheVariants as fault

-- no whole part stands there; it is told with the length of all the bytes
pub record IsCutShort {P : Type 0} (IsWhole : P → Type 0) (spelling : P → List ℕ) (whole : ℕ) (bytes : List ℕ)
    (e : RecordingError) : Type 0 where
  pub none : (part : P) (rest : List ℕ) → IsWhole part → bytes ≡ spelling part ++ rest → ⊥
  pub told : e ≡ fault.Truncated whole

-- a whole part stands there, and it has this fault
pub record IsRefused {P : Type 0} (IsWhole : P → Type 0) (spelling : P → List ℕ) (HasFault : P → RecordingError → Type 0)
    (bytes : List ℕ) (e : RecordingError) : Type 0 where
  pub part : P
  pub rest : List ℕ
  pub is_whole : IsWhole part
  pub spelled : bytes ≡ spelling part ++ rest
  pub has_fault : HasFault part e
