-- Sets of names.
use Rattle.std.proofs.Common.{◌≡◌, ℕ, Bool, true, false, cond, ◌||◌, List, refl, ap, ◌∙◌}
use Rattle.std.specs.Str.{bytes_eq}
use Rattle.std.specs.Ordering.{nat_cmp, is_eq}
use Rattle.std.specs.Cmp.Lexicographic.{slice_cmp}
use Rattle.std.proofs.lemmas.Map.Text.{is_eq-slice_cmp}

-- what a set has after a name was inserted
pub inserted : (name copied other : List ℕ) (old new : Bool) → copied ≡ name → new ≡ cond (is_eq (slice_cmp nat_cmp copied other)) true old → new ≡ (bytes_eq name other || old)
inserted name copied other old new same h = h ∙ ap (λ v. cond v true old) (is_eq-slice_cmp copied other ∙ ap (λ l. bytes_eq l other) same)
    ∙ elim (bytes_eq name other) as (λ v. cond v true old ≡ (v || old)) [ true ↦ refl | false ↦ refl ]
