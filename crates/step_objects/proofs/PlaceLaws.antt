-- What is found at the place of a key's row, and what a write there makes of look-ups.
use Rattle.std.proofs.Common.{◌≡◌, ◌≤◌, ◌<◌, ℕ, zero, suc, Bool, true, false, cond, List, [], ◌∷◌, length, refl, sym, ap, ◌∙◌, subst, Option, Some, None, IfSome, is_some, slice_get, get_or, arith, true≢false}
use Rattle.std.specs.List.{position}
use Rattle.std.specs.Map.{keys_of, values_of, lookup}
use Rattle.std.proofs.lemmas.List.Quantifiers.{position-Some}
use Rattle.indexmap.specs.IndexMap.{set_value_at}
use Rattle.bt_core.specs.declared.value.Value.{Value}
use Rattle.agg_core.specs.Changes.{is_key}
use Rattle.agg_core.proofs.KeyLaws.{is_key-true, is_key-same}
use Rattle.step_objects.specs.Rows.{IsFirstWith}
use Rattle.step_objects.proofs.RowLaws.{key-sym, twice, swap-tests}

pub none-known : {X : Type 0} (o : Option X) → false ≡ is_some o → o ≡ None
none-known None e = refl
none-known (Some x) e = absurd (true≢false (sym e))

module _ {C : Type 0} where
  pub first-within : (k : List Value) (place : ℕ) (es : List (List Value × C)) → IsFirstWith k place es → place < length es
  first-within k place [] f = absurd f
  first-within k zero (e ∷ es) f = omega arith
  first-within k (suc place) (e ∷ es) f = let below = first-within k place es f.1 in omega arith

  -- a look-up finds what is at the place
  pub first-found : (k : List Value) (place : ℕ) (v : C) (es : List (List Value × C)) → IsFirstWith k place es → slice_get (values_of es) place ≡ Some v → lookup (is_key k) es ≡ Some v
  first-found k place v [] f at = absurd f
  first-found k zero v (e ∷ es) f at = (λ i. cond (is_key-same k e.0 (sym f) i) (Some e.1) (lookup (is_key k) es)) ∙ at
  first-found k (suc place) v (e ∷ es) f at = (λ i. cond (f.0 i) (Some e.1) (lookup (is_key k) es)) ∙ first-found k place v es f.1 at

  -- and finds what is written there, and under each other key what it found before
  pub first-written : (j k : List Value) (place : ℕ) (w : C) (es : List (List Value × C)) → IsFirstWith k place es → lookup (is_key j) (set_value_at es place w) ≡ cond (is_key k j) (Some w) (lookup (is_key j) es)
  first-written j k place w [] f = absurd f
  first-written j k zero w (e ∷ es) f =
      let same : is_key j e.0 ≡ is_key k j = ap (is_key j) f ∙ key-sym j k in
      (λ i. cond (same i) (Some w) (lookup (is_key j) es)) ∙ twice (is_key k j) (Some w) (Some e.1) (lookup (is_key j) es) ∙ (λ i. cond (is_key k j) (Some w) (cond (sym same i) (Some e.1) (lookup (is_key j) es)))
  first-written j k (suc place) w (e ∷ es) f =
      ap (cond (is_key j e.0) (Some e.1)) (first-written j k place w es f.1)
      ∙ swap-tests (is_key j e.0) (is_key k j) (Some e.1) (Some w) (lookup (is_key j) es)
      (λ a b. true≢false (sym (is_key-same k e.0 (is_key-true k j b ∙ is_key-true j e.0 a)) ∙ f.0))

  -- the first place at which the test of a key passes
  pub first-passes : (k d : List Value) (place : ℕ) (es : List (List Value × C)) → place < length (keys_of es) → is_key k (get_or (keys_of es) place d) ≡ true → ((n : ℕ) → n < place → is_key k (get_or (keys_of es) n d) ≡ false) → IsFirstWith k place es
  first-passes k d place [] low p before = absurd (omega arith)
  first-passes k d zero (e ∷ es) low p before = sym (is_key-true k e.0 p)
  first-passes k d (suc place) (e ∷ es) low p before = (before 0 (omega arith), first-passes k d place es (omega arith) p (λ n below. before (suc n) (omega arith)))

  -- a list with a first row and no second has it alone
  pub only-row : (r : List Value × C) (es : List (List Value × C)) → slice_get es 0 ≡ Some r → length es ≤ 1 → es ≡ r ∷ []
  only-row r [] at few = let t : ⊥ = cc in absurd t
  only-row r (e ∷ []) at few = let same : e ≡ r = cc in ap (λ x. x ∷ []) same
  only-row r (e ∷ f ∷ es) at few = absurd (omega arith)

  pub no-row : (es : List (List Value × C)) → slice_get es 0 ≡ None → es ≡ []
  no-row [] at = refl
  no-row (e ∷ es) at = let t : ⊥ = cc in absurd t

  -- the place that a look-up of the index finds
  pub place-of-index : (k : List Value) (found : Option ℕ) (es : List (List Value × C)) → found ≡ position (is_key k) (keys_of es) → IfSome found (λ place. IsFirstWith k place es)
  place-of-index k None es e = tt
  place-of-index k (Some place) es e = let p = position-Some (is_key k) (keys_of es) place k (sym e) in first-passes k k place es p.0 p.1 p.2

  -- a row that is alone is found by its key
  found-or-not : (t : Bool) (v : C) → is_some (cond t (Some v) None) ≡ t
  found-or-not true v = refl
  found-or-not false v = refl

  pub only-known : (k : List Value) (r : List Value × C) (es : List (List Value × C)) (t : Bool) → slice_get es 0 ≡ Some r → length es ≤ 1 → is_key r.0 k ≡ t → t ≡ is_some (lookup (is_key k) es)
  only-known k r es t at few e =
      sym ((λ i. is_some (lookup (is_key k) (only-row r es at few i))) ∙ (λ i. is_some (cond ((key-sym k r.0 ∙ e) i) (Some r.1) None)) ∙ found-or-not t r.1)

  pub only-first : (k : List Value) (r : List Value × C) (es : List (List Value × C)) → slice_get es 0 ≡ Some r → length es ≤ 1 → is_key r.0 k ≡ true → IsFirstWith k 0 es
  only-first k r es at few e = subst (λ (rows : List (List Value × C)). IsFirstWith k 0 rows) (sym (only-row r es at few)) (is_key-true r.0 k e)
