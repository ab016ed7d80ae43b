-- That code can be run is a fact: it has one proof at most.
use Rattle.std.specs.Prelude.{◌≡◌, ◌≢◌, ◌≤◌, Bool, IsTrue, List, [], ◌∷◌, length}
use Rattle.std.proofs.Props.{props}
use Rattle.std.specs.List.{AllByRecursion}
use Rattle.bt_core.specs.declared.limits.TheConstants.{CODE_SLOTS}
use Rattle.bpf_insn.specs.declared.insn.Insn.{Insn}
use Rattle.bpf_insn.specs.Code.{HalvesFollow, IsWellFormed, is_half, is_valid, is_wide}
use Rattle.code_runs.specs.Coding.{CanRunCode}

bool_prop : (a b : Bool) → IsProp (a ≡ b)
bool_prop a b = hlevel props

halves_prop : (owed : Bool) (code : List Insn) → IsProp (HalvesFollow owed code)
halves_prop owed [] = bool_prop owed _
halves_prop owed (x ∷ xs) = λ one other i. (bool_prop (is_half x) owed one.0 other.0 i, halves_prop (is_wide x) xs one.1 other.1 i)

formed_prop : (code : List Insn) → IsProp (IsWellFormed code)
formed_prop code = λ one other i. record { valid = valid_prop one.valid other.valid i; halves = halves_prop _ code one.halves other.halves i }
  where
    valid_prop : IsProp (AllByRecursion (λ x. IsTrue (is_valid x)) code)
    valid_prop = hlevel props

run_prop : (code : List Insn) → IsProp (CanRunCode code)
run_prop code = λ one other i. record {
  well_formed = formed_prop code one.well_formed other.well_formed i;
  begins = begins_prop one.begins other.begins i;
  few = few_prop one.few other.few i;
}
  where
    begins_prop : IsProp (code ≢ [])
    begins_prop = hlevel props

    few_prop : IsProp (length code ≤ CODE_SLOTS)
    few_prop = hlevel props

pub codes_prop : (codes : List (List Insn)) → IsProp (AllByRecursion CanRunCode codes)
codes_prop [] = λ one other i. tt
codes_prop (c ∷ cs) = λ one other i. (run_prop c one.0 other.0 i, codes_prop cs one.1 other.1 i)
