-- A sum with one more number.
use Rattle.std.proofs.Common.{◌≡◌, ℤ, pos, ◌+ℤ◌, ◌+◌, ◌%◌, ◌^◌, List, [], ◌∷◌, ◌++◌, map, fold, w64, FitsSigned, to_z, of_z, sym, ap, ◌∙◌}
use Rattle.std.specs.Int.{int_wrap}
use Rattle.std.proofs.lemmas.Int.{wrapping_add_is, int_wrap-add_left, SFits-int_wrap, to_z-of_z}
use Rattle.std.proofs.lemmas.List.Sums.{fold-append}
use mathlib.Core.List.{map-append}
use Rattle.bt_core.specs.declared.step.Op.{Op}
use Rattle.turn_lock.specs.Sums.{number_of, total}

pub total-snoc : (before : List Op) (op : Op) → FitsSigned w64 (number_of op)
    → to_z w64 ((of_z w64 (total before) + of_z w64 (number_of op)) % 2 ^ 64) ≡ total (before ++ op ∷ [])
total-snoc before op fits = let sum : ℤ = fold ◌+ℤ◌ (pos 0) (map number_of before) in
    wrapping_add_is w64 (int_wrap w64 sum) (number_of op) (SFits-int_wrap w64 sum) fits
    ∙ int_wrap-add_left w64 sum (number_of op)
    ∙ ap (int_wrap w64) (sym (ap (fold ◌+ℤ◌ (pos 0)) (map-append number_of before (op ∷ []))
    ∙ fold-append ◌+ℤ◌ (pos 0) (map number_of before) (number_of op ∷ [])))

-- a total is kept by a machine word
pub total-kept : (ops : List Op) → to_z w64 (of_z w64 (total ops)) ≡ total ops
total-kept ops = let sum : ℤ = fold ◌+ℤ◌ (pos 0) (map number_of ops) in to_z-of_z w64 (int_wrap w64 sum) (SFits-int_wrap w64 sum)
