-- Entries: their keys, and what stands at a key.
use Rattle.std.proofs.Common.{◌≡◌, Bool, true, false, ◌||◌, cond, List, [], ◌∷◌, ◌++◌, map, refl, ap, ◌∙◌}
use Rattle.std.proofs.lemmas.List.{map-append}
use Rattle.std.specs.List.{filter, list_any}
use Rattle.std.proofs.lemmas.List.Elements.{filter-append}
use Rattle.std.proofs.lemmas.List.Folds.{list_any-append}
use Rattle.bt_core.specs.declared.value.Value.{Value}
use Rattle.agg_core.specs.Changes.{is_key}
use Rattle.agg_core.proofs.SortedRows.{Ascends, ascends-with_key}
use Rattle.map_rows.proofs.KeySets.{has, has-with_key}
use Rattle.bt_meaning.specs.Totals.{Addition, addition_keys, numbers_at}

-- an entry names the key
abbrev pub named : List Value → List Addition → Bool
named k es = list_any (λ e. is_key k e.0) es

pub ascends-entry_keys : (es : List Addition) → Ascends (addition_keys es)
ascends-entry_keys [] = tt
ascends-entry_keys (e ∷ es) = ascends-with_key e.0 (addition_keys es) (ascends-entry_keys es)

pub has-entry_keys : (k : List Value) (es : List Addition) → has k (addition_keys es) ≡ named k es
has-entry_keys k [] = refl
has-entry_keys k (e ∷ es) = has-with_key k e.0 (addition_keys es) ∙ ap (λ (t : Bool). is_key k e.0 || t) (has-entry_keys k es)

pub named-append : (k : List Value) (xs ys : List Addition) → named k (xs ++ ys) ≡ (named k xs || named k ys)
named-append k xs ys = list_any-append (λ e. is_key k e.0) xs ys

pub numbers_at-append : (k : List Value) (xs ys : List Addition) → numbers_at k (xs ++ ys) ≡ numbers_at k xs ++ numbers_at k ys
numbers_at-append k xs ys =
    ap (map (λ e. e.1)) (filter-append (λ e. is_key k e.0) xs ys)
    ∙ map-append (λ (e : Addition). e.1) (filter (λ e. is_key k e.0) xs) (filter (λ e. is_key k e.0) ys)

at_first : (t : Bool) (e : Addition) (es : List Addition) → map (λ (e : Addition). e.1) (cond t (e ∷ es) es) ≡ cond t (e.1 ∷ map (λ e. e.1) es) (map (λ e. e.1) es)
at_first true e es = refl
at_first false e es = refl

pub numbers_at-cons : (k : List Value) (e : Addition) (es : List Addition) → numbers_at k (e ∷ es) ≡ cond (is_key k e.0) (e.1 ∷ numbers_at k es) (numbers_at k es)
numbers_at-cons k e es = at_first (is_key k e.0) e (filter (λ e. is_key k e.0) es)

pub numbers_at-none : (k : List Value) (es : List Addition) → named k es ≡ false → numbers_at k es ≡ []
numbers_at-none k [] gone = refl
numbers_at-none k (e ∷ es) gone =
    numbers_at-cons k e es ∙ elim (is_key k e.0) as (λ t. (t || named k es) ≡ false → cond t (e.1 ∷ numbers_at k es) (numbers_at k es) ≡ [])
    [ true ↦ (λ q. cc) | false ↦ (λ q. numbers_at-none k es q) ] gone

pub map_same : {A B : Type 0} (f g : A → B) (xs : List A) → ((x : A) → f x ≡ g x) → map f xs ≡ map g xs
map_same f g [] same = refl
map_same f g (x ∷ xs) same = λ i. same x i ∷ map_same f g xs same i
