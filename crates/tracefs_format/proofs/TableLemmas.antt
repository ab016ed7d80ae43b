-- What a table of fields keeps.
use Rattle.std.proofs.Common.{◌≡◌, ◌≢◌, ℕ, ◌+◌, ◌≤◌, Bool, true, false, ◌||◌, ◌&&◌, not, max, Some, None, List, [], ◌∷◌, ◌++◌, length, map, refl, ap, sym, subst, ◌∙◌, arith}
use Rattle.std.proofs.lemmas.Bool.{le-ltb}
use Rattle.std.specs.Prelude.{nat_lt}
use Rattle.std.specs.List.{list_any}
use Rattle.std.specs.Str.{bytes_eq}
use Rattle.std.specs.BTreeSet.{BTreeSet}
use Rattle.std.proofs.lemmas.List.{map_push}
use Rattle.std.proofs.lemmas.List.Folds.{list_any-append}
use Rattle.bt_core.specs.declared.limits.TheConstants.{LAYOUT_END}
use Rattle.event_layout.specs.declared.field.Field.{Field}
use Rattle.event_layout.specs.FieldLines.{Description, description}
use Rattle.event_layout.specs.Layouts.{is_taken, field_fault}
use Rattle.event_layout.specs.Sizes.{end_of, greatest_end}
use Rattle.tracefs_format.specs.Tables.{has_name, is_known, IsTable}

pub greatest_end-push : (fs : List Field) (f : Field) → greatest_end (fs ++ f ∷ []) ≡ max (greatest_end fs) (end_of f)
greatest_end-push [] f = omega arith
greatest_end-push (g ∷ fs) f = omega (arith, greatest_end-push fs f)

pub known-taken : (fields : List Field) (names : BTreeSet (List ℕ)) (size : ℕ) (name : List ℕ) → IsTable fields names size → is_known names name ≡ is_taken name (map description fields)
known-taken fields names size [] t = refl
known-taken fields names size (b ∷ bs) t = ap (λ v. nat_lt 0 (length (b ∷ bs)) && v) (t.known (b ∷ bs) (λ e. cc))

or_comm : (a b : Bool) → (a || b) ≡ (b || a)
or_comm a b = elim a as (λ v. (v || b) ≡ (b || v)) [ true ↦ elim b as (λ v. true ≡ (v || true)) [ true ↦ refl | false ↦ refl ] | false ↦ elim b as (λ v. v ≡ (v || false)) [ true ↦ refl | false ↦ refl ] ]

or_false : (a : Bool) → (a || false) ≡ a
or_false a = elim a as (λ v. (v || false) ≡ v) [ true ↦ refl | false ↦ refl ]

pub table-push : (fields : List Field) (names later : BTreeSet (List ℕ)) (size : ℕ) (f : Field) → IsTable fields names size
    → ((other : List ℕ) → other ≢ [] → has_name later other ≡ (bytes_eq f.name other || has_name names other)) → IsTable (fields ++ f ∷ []) later (max size (end_of f))
table-push fields names later size f t others = record {
  known = λ name some.
      let test : Description → Bool = λ d. bytes_eq d.name name in
      others name some ∙ ap (λ v. bytes_eq f.name name || v) (t.known name some) ∙ or_comm (bytes_eq f.name name) (list_any test (map description fields))
      ∙ ap (λ v. list_any test (map description fields) || v) (sym (or_false (bytes_eq f.name name)))
      ∙ sym (ap (list_any test) (map_push description fields f) ∙ list_any-append test (map description fields) (description f ∷ []));
  covers = ap (λ n. max n (end_of f)) t.covers ∙ sym (greatest_end-push fields f);
}

pub added-fault : (fields : List Field) (names : BTreeSet (List ℕ)) (size number : ℕ) (ds : List Description) (d : Description) (new : Bool) → IsTable fields names size → map description fields ≡ ds
    → d.offset + d.size ≤ LAYOUT_END → new ≡ not (is_known names d.name) → new ≡ true → field_fault number ds (Some d) ≡ None
added-fault fields names size number ds d new t seen within told fresh =
    let unknown : is_known names d.name ≡ false = elim (is_known names d.name) as (λ v. not v ≡ true → v ≡ false) [ true ↦ λ h. absurd cc | false ↦ λ h. refl ] (sym told ∙ fresh) in
    let untaken : is_taken d.name ds ≡ false = ap (is_taken d.name) (sym seen) ∙ sym (known-taken fields names size d.name t) ∙ unknown in
    rw (le-ltb LAYOUT_END (d.offset + d.size) within, untaken) refl

pub added-fields : (fields later : List Field) (f : Field) (ds : List Description) (d : Description) → map description fields ≡ ds → later ≡ fields ++ f ∷ [] → description f ≡ d → map description later ≡ ds ++ d ∷ []
added-fields fields later f ds d seen added same = ap (map description) added ∙ map_push description fields f ∙ ap (λ xs. xs ++ description f ∷ []) seen ∙ ap (λ x. ds ++ x ∷ []) same

pub table-added : (fields later : List Field) (names names_later : BTreeSet (List ℕ)) (size size_later : ℕ) (f : Field) (name : List ℕ) → IsTable fields names size → later ≡ fields ++ f ∷ [] → f.name ≡ name
    → ((other : List ℕ) → other ≢ [] → has_name names_later other ≡ (bytes_eq name other || has_name names other)) → size_later ≡ max size (end_of f) → IsTable later names_later size_later
table-added fields later names names_later size size_later f name t added named others covered =
    let pushed : IsTable (fields ++ f ∷ []) names_later (max size (end_of f)) = table-push fields names names_later size f t (λ other some. others other some ∙ ap (λ l. bytes_eq l other || has_name names other) (sym named)) in
    subst (λ n. IsTable later names_later n) (sym covered) (subst (λ fs. IsTable fs names_later (max size (end_of f))) (sym added) pushed)
