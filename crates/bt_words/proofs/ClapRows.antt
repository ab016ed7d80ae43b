-- The rows of clap's matches, as they are found by their ids.
use Rattle.std.proofs.Common.{◌≡◌, ◌∙◌, ◌||◌, ◌++◌, Bool, cond, true, false, List, [], ◌∷◌, Option, Some, None, ap, append-nil, is_some, refl, sym, true≢false}
use Rattle.std.specs.List.{find, list_any}
use Rattle.std.specs.Str.{bytes_eq}
use Rattle.std.specs.Option.{option_map_or}
use Rattle.clap.specs.Walk.{Row, Rule, Text, at_row, default_rows, has_row, more_values, reading_by, with_default, with_values, without}
use Rattle.clap.specs.declared.builder.value_parser.Reading.{Reading}
use Rattle.clap.specs.declared.parser.matches.ValueSource.{ValueSource}
use Rattle.clap.specs.declared.parser.matches.ValueSource.TheVariants.{DefaultValue}

abbrev pub found : Text → List Row → Option Row
found id rows = find (λ r. bytes_eq r.id id) rows

abbrev pub row : Text → Reading → ValueSource → List Text → Row
row id how source values = record { id = id; values = values; count = None; source = Some source; reading = how }

some_is_some : {X : Type 0} (x : X) → Some x ≡ None → ⊥
some_is_some x e = true≢false (ap (λ o. Rattle.std.specs.Option.is_some o) e)

pub no_row : (id : Text) (rows : List Row) → found id rows ≡ None → has_row id rows ≡ false
no_row id [] none = refl
no_row id (r ∷ rs) none = go (bytes_eq r.id id) none (no_row id rs)
  where
    go : (b : Bool) → cond b (Some r) (found id rs) ≡ None → (found id rs ≡ None → has_row id rs ≡ false) → (b || has_row id rs) ≡ false
    go true e more = absurd (some_is_some r e)
    go false e more = more e

pub some_row : (id : Text) (rows : List Row) (x : Row) → found id rows ≡ Some x → has_row id rows ≡ true
some_row id [] x some = absurd (some_is_some x (sym some))
some_row id (r ∷ rs) x some = go (bytes_eq r.id id) some (some_row id rs x)
  where
    go : (b : Bool) → cond b (Some r) (found id rs) ≡ Some x → (found id rs ≡ Some x → has_row id rs ≡ true) → (b || has_row id rs) ≡ true
    go true e more = refl
    go false e more = more e

at_new_row : (id : Text) (change : Row → List Row) (missing rows : List Row) → found id rows ≡ None → at_row id change missing rows ≡ rows ++ missing
at_new_row id change missing [] none = refl
at_new_row id change missing (r ∷ rs) none = go (bytes_eq r.id id) none (at_new_row id change missing rs)
  where
    go : (b : Bool) → cond b (Some r) (found id rs) ≡ None → (found id rs ≡ None → at_row id change missing rs ≡ rs ++ missing)
        → cond b (change r ++ rs) (r ∷ at_row id change missing rs) ≡ r ∷ (rs ++ missing)
    go true e more = absurd (some_is_some r e)
    go false e more = ap (λ xs. r ∷ xs) (more e)

new_row : (id : Text) (how : Reading) (source : ValueSource) (values : List Text) (rows : List Row) → found id rows ≡ None
    → with_values id how source values rows ≡ rows ++ row id how source values ∷ []
new_row id how source values rows none = at_new_row id (more_values source values) (row id how source values ∷ []) rows none

none_left : (id : Text) (rows : List Row) → found id rows ≡ None → without id rows ≡ rows
none_left id rows none = at_new_row id (λ _. []) [] rows none ∙ append-nil rows

found_last : (r : Row) (rows : List Row) → bytes_eq r.id r.id ≡ true → found r.id rows ≡ None → found r.id (rows ++ r ∷ []) ≡ Some r
found_last r [] same none = rw same refl
found_last r (x ∷ xs) same none = go (bytes_eq x.id r.id) none (found_last r xs same)
  where
    go : (b : Bool) → cond b (Some x) (found r.id xs) ≡ None → (found r.id xs ≡ None → found r.id (xs ++ r ∷ []) ≡ Some r)
        → cond b (Some x) (found r.id (xs ++ r ∷ [])) ≡ Some r
    go true e more = absurd (some_is_some x e)
    go false e more = more e

found_before : (id : Text) (r : Row) (rows : List Row) → bytes_eq r.id id ≡ false → found id (rows ++ r ∷ []) ≡ found id rows
found_before id r [] other = rw other refl
found_before id r (x ∷ xs) other = ap (λ o. cond (bytes_eq x.id id) (Some x) o) (found_before id r xs other)

-- ---- a first use of an argument

module _ (id : Text) (how : Reading) (source : ValueSource) (values : List Text) (rows : List Row) (none : found id rows ≡ None) where
  added : with_values id how source values (without id rows) ≡ rows ++ row id how source values ∷ []
  added = ap (with_values id how source values) (none_left id rows none) ∙ new_row id how source values rows none

  pub used_found : bytes_eq id id ≡ true → found id (with_values id how source values (without id rows)) ≡ Some (row id how source values)
  used_found same = ap (found id) added ∙ found_last (row id how source values) rows same none

  pub used_others : (other : Text) → bytes_eq id other ≡ false → found other (with_values id how source values (without id rows)) ≡ found other rows
  used_others other differs = ap (found other) added ∙ found_before other (row id how source values) rows differs

-- ---- a default

module _ (a : Rule) (rows : List Row) where
  -- an argument that was used keeps its row
  pub default_kept : (x : Row) → found a.id rows ≡ Some x → with_default rows a ≡ rows
  default_kept x some = ap (λ (b : Bool). cond b rows (default_rows a.id (reading_by a) a.defaults rows)) (some_row a.id rows x some)

  pub default_added : found a.id rows ≡ None → with_default rows a ≡ default_rows a.id (reading_by a) a.defaults rows
  default_added none = ap (λ (b : Bool). cond b rows (default_rows a.id (reading_by a) a.defaults rows)) (no_row a.id rows none)

pub defaulted_found : (id : Text) (how : Reading) (v : Text) (rows : List Row) → bytes_eq id id ≡ true → found id rows ≡ None
    → found id (default_rows id how (v ∷ []) rows) ≡ Some (row id how DefaultValue (v ∷ []))
defaulted_found id how v rows same none =
    ap (found id) (new_row id how DefaultValue (v ∷ []) rows none) ∙ found_last (row id how DefaultValue (v ∷ [])) rows same none

pub defaulted_others : (id other : Text) (how : Reading) (v : Text) (rows : List Row) → bytes_eq id other ≡ false → found id rows ≡ None
    → found other (default_rows id how (v ∷ []) rows) ≡ found other rows
defaulted_others id other how v rows differs none =
    ap (found other) (new_row id how DefaultValue (v ∷ []) rows none) ∙ found_before other (row id how DefaultValue (v ∷ [])) rows differs
