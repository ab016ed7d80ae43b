-- What the tables of formats find.
use Rattle.std.proofs.Common.{◌≡◌, ℕ, suc, Bool, true, false, cond, ◌||◌, Option, Some, None, List, [], ◌∷◌, ◌++◌, length, refl, ap, sym, subst, ◌∙◌, arith}
use Rattle.std.specs.Prelude.{is_some, ◌==◌, ◌&&◌, not, nat_lt, nat_le, IsTrue}
use Rattle.std.specs.List.{list_all, list_any, slice_get, AllByRecursion}
use Rattle.std.specs.Option.{option_map, option_or}
use Rattle.std.specs.Str.{bytes_eq}
use Rattle.std.specs.Ordering.{nat_cmp, is_eq}
use Rattle.std.specs.Cmp.Lexicographic.{slice_cmp}
use Rattle.std.specs.BTreeMap.{BTreeMap, get}
use Rattle.std.specs.BTreeSet.{BTreeSet, contains}
use Rattle.std.proofs.lemmas.Bool.{eqb-true, ltb-true, and_parts}
use Rattle.std.specs.declared.cmp.Ordering.TheVariants.{Less, Equal, Greater}
use Rattle.std.proofs.lemmas.List.Folds.{list_any-append}
use Rattle.std.proofs.lemmas.Option.{same_Some}
use Rattle.tracefs_format.proofs.ForOthers.{bytes_eq-full_name, set_inserted}
use Rattle.event_layout.specs.declared.format.Format.{Format}
use Rattle.event_layout.specs.ByName.{full_name, is_same_tracepoint}
use Rattle.event_layout.specs.Names.{has_no_colon}
use Rattle.recordings.specs.Checks.{is_system_byte, is_system, is_same_event}
use Rattle.recordings.specs.Events.{format_with}
use Rattle.recordings.specs.declared.limits.TheConstants.{SYSTEM_BYTES}
use Rattle.rec_format.specs.Answers.{IsTable}
use Rattle.rec_format.proofs.Lists.{each_more}

-- ---- by ID

abbrev pub later : ℕ × Format → ℕ × Format
later found = (suc found.0, found.1)

abbrev place_in : ℕ × Format → ℕ
place_in found = found.0

-- the format that is found stands at its place and has the ID
pub found_there : (id : ℕ) (fs : List Format) (p : ℕ × Format) → format_with id fs ≡ Some p → (slice_get fs p.0 ≡ Some p.1) × (p.1.layout.id ≡ id)
found_there id [] p h = absurd cc
found_there id (f ∷ fs) p h =
    let P : ℕ × Format → Type 0 = λ q. (slice_get (f ∷ fs) q.0 ≡ Some q.1) × (q.1.layout.id ≡ id) in
    (elim (f.layout.id == id) as (λ b. (f.layout.id == id) ≡ b → cond b (Some (0, f)) (option_map later (format_with id fs)) ≡ Some p → P p) [
      | true ↦ λ same e. subst P (same_Some (0, f) p e) (refl, eqb-true f.layout.id id same)
      | false ↦ λ other e. (elim (format_with id fs) as (λ o. format_with id fs ≡ o → option_map later o ≡ Some p → P p) [
        | None ↦ λ n g. absurd cc
        | Some q ↦ λ s g. let there = found_there id fs q s in subst P (same_Some (suc q.0, q.1) p g) (there.0, there.1)
      ]) refl e
    ]) refl h

pub place_found : (id place : ℕ) (fs : List Format) (got : Option Format) → Some place ≡ option_map place_in (format_with id fs) → got ≡ slice_get fs place → option_map (λ f. (place, f)) got ≡ format_with id fs
place_found id place fs got h g =
    (elim (format_with id fs) as (λ o. format_with id fs ≡ o → Some place ≡ option_map place_in o → option_map (λ f. (place, f)) got ≡ o) [
      | None ↦ λ n e. absurd cc
      | Some q ↦ λ s e.
          let same : place ≡ q.0 = same_Some place q.0 e in
          let there : got ≡ Some q.1 = g ∙ ap (slice_get fs) same ∙ (found_there id fs q s).0 in
          ap (option_map (λ f. (place, f))) there ∙ ap (λ n. Some (n, q.1)) same
    ]) refl h

with_more : (id : ℕ) (fs : List Format) (g : Format) → format_with id (fs ++ g ∷ []) ≡ option_or (format_with id fs) (cond (g.layout.id == id) (Some (length fs, g)) None)
with_more id [] g = elim (g.layout.id == id) as (λ b. cond b (Some (0, g)) (option_map later None) ≡ option_or None (cond b (Some (0, g)) None)) [ true ↦ refl | false ↦ refl ]
with_more id (f ∷ fs) g =
    let tail : Bool → Option (ℕ × Format) = λ b. cond b (Some (length fs, g)) None in
    let tail_later : Bool → Option (ℕ × Format) = λ b. cond b (Some (length (f ∷ fs), g)) None in
    let moved : (o : Option (ℕ × Format)) (b : Bool) → option_map later (option_or o (tail b)) ≡ option_or (option_map later o) (tail_later b) =
    λ o b. elim o as (λ o. option_map later (option_or o (tail b)) ≡ option_or (option_map later o) (tail_later b)) [
      | None ↦ elim b as (λ b. option_map later (tail b) ≡ tail_later b) [ true ↦ refl | false ↦ refl ]
      | Some q ↦ refl
    ] in
    elim (f.layout.id == id) as (λ c. cond c (Some (0, f)) (option_map later (format_with id (fs ++ g ∷ []))) ≡ option_or (cond c (Some (0, f)) (option_map later (format_with id fs))) (tail_later (g.layout.id == id))) [
      | true ↦ refl
      | false ↦ ap (option_map later) (with_more id fs g) ∙ moved (format_with id fs) (g.layout.id == id)
    ]

-- ---- an earlier format that is the same

or_regrouped : (a b c d : Bool) → ((a || b) || (c || d)) ≡ ((a || c) || (b || d))
or_regrouped true b true d = refl
or_regrouped true b false d = elim b as (λ v. true ≡ true) [ true ↦ refl | false ↦ refl ]
or_regrouped false true true d = refl
or_regrouped false true false d = refl
or_regrouped false false c d = refl

any_id : (f : Format) (fs : List Format) → list_any (λ g. g.layout.id == f.layout.id) fs ≡ is_some (format_with f.layout.id fs)
any_id f [] = refl
any_id f (g ∷ fs) =
    elim (g.layout.id == f.layout.id) as (λ b. (b || list_any (λ g. g.layout.id == f.layout.id) fs) ≡ is_some (cond b (Some (0, g)) (option_map later (format_with f.layout.id fs)))) [
      | true ↦ refl
      | false ↦ any_id f fs ∙ elim (format_with f.layout.id fs) as (λ o. is_some o ≡ is_some (option_map later o)) [ None ↦ refl | Some q ↦ refl ]
    ]

abbrev NoColon : Format → Type 0
NoColon f = IsTrue (has_no_colon f.system)

any_same : (f : Format) (fs : List Format) → NoColon f → AllByRecursion NoColon fs
    → list_any (is_same_event f) fs ≡ (list_any (λ g. g.layout.id == f.layout.id) fs || list_any (λ g. bytes_eq (full_name g) (full_name f)) fs)
any_same f [] h all = refl
any_same f (g ∷ fs) h all =
    ap (λ v. (g.layout.id == f.layout.id || is_same_tracepoint g f) || v) (any_same f fs h all.1)
    ∙ ap (λ v. (g.layout.id == f.layout.id || v) || (list_any (λ g. g.layout.id == f.layout.id) fs || list_any (λ g. bytes_eq (full_name g) (full_name f)) fs)) (sym (bytes_eq-full_name g f all.0 h))
    ∙ or_regrouped (g.layout.id == f.layout.id) (bytes_eq (full_name g) (full_name f)) (list_any (λ g. g.layout.id == f.layout.id) fs) (list_any (λ g. bytes_eq (full_name g) (full_name f)) fs)

some_place : (o : Option (ℕ × Format)) → is_some o ≡ is_some (option_map place_in o)
some_place None = refl
some_place (Some q) = refl

pub same_known : (fs : List Format) (places : BTreeMap ℕ ℕ) (names : BTreeSet (List ℕ)) (f : Format) → NoColon f → IsTable fs places names
    → list_any (is_same_event f) fs ≡ (is_some (get nat_cmp places f.layout.id) || contains (slice_cmp nat_cmp) names (full_name f))
same_known fs places names f h t =
    any_same f fs h t.systems
    ∙ ap (λ v. v || list_any (λ g. bytes_eq (full_name g) (full_name f)) fs) (any_id f fs ∙ some_place (format_with f.layout.id fs) ∙ ap is_some (sym (t.by_id f.layout.id)))
    ∙ ap (λ v. is_some (get nat_cmp places f.layout.id) || v) (sym (t.by_name (full_name f)))

-- a system has no colon
all_no_colon : (bytes : List ℕ) → list_all is_system_byte bytes ≡ true → IsTrue (has_no_colon bytes)
all_no_colon [] h = refl
all_no_colon (b ∷ bs) h =
    let parts = and_parts (is_system_byte b) (list_all is_system_byte bs) h in
    rw (no_colon b parts.0) (all_no_colon bs parts.1)
  where
    no_colon : (b : ℕ) → is_system_byte b ≡ true → not (b == 58) ≡ true
    no_colon b h = grind arith

pub system-no_colon : (system : List ℕ) → is_system system ≡ true → IsTrue (has_no_colon system)
system-no_colon system h = all_no_colon system (and_parts (nat_lt 0 (length system) && nat_le (length system) SYSTEM_BYTES) (list_all is_system_byte system) h).1

-- ---- a format is added

or_last : (a b : Bool) → (b || a) ≡ (a || (b || false))
or_last true true = refl
or_last true false = refl
or_last false true = refl
or_last false false = refl

none_is : (o : Option ℕ) → is_some o ≡ false → o ≡ None
none_is None h = refl
none_is (Some n) h = absurd cc

added_id : (same : Bool) (place : ℕ) (f : Format) (o : Option (ℕ × Format)) (got now : Option ℕ) (len : ℕ) → got ≡ option_map place_in o → now ≡ cond same (Some place) got → place ≡ len → (same ≡ true → got ≡ None)
    → now ≡ option_map place_in (option_or o (cond same (Some (len, f)) None))
added_id true place f None got now len g n p fresh = n ∙ ap Some p
added_id true place f (Some q) got now len g n p fresh = let clash : None ≡ Some q.0 = sym (fresh refl) ∙ g in absurd cc
added_id false place f None got now len g n p fresh = n ∙ g
added_id false place f (Some q) got now len g n p fresh = n ∙ g

equal_cmp : (x y : ℕ) → is_eq (nat_cmp x y) ≡ (x == y)
equal_cmp x y =
    (elim (nat_lt x y) as (λ b. nat_lt x y ≡ b → is_eq (cond b Less (cond (x == y) Equal Greater)) ≡ (x == y)) [
      | true ↦ λ less. (elim (x == y) as (λ b. (x == y) ≡ b → false ≡ b) [
        | true ↦ λ same. let one = eqb-true x y same in let two = ltb-true x y less in absurd (omega arith)
        | false ↦ λ other. refl
      ]) refl
      | false ↦ λ more. elim (x == y) as (λ b. is_eq (cond b Equal Greater) ≡ b) [ true ↦ refl | false ↦ refl ]
    ]) refl

pub table_added : (fs later : List Format) (places places_later : BTreeMap ℕ ℕ) (names names_later : BTreeSet (List ℕ)) (f : Format) (place : ℕ) (name : List ℕ) → NoColon f → IsTable fs places names
    → later ≡ fs ++ f ∷ [] → place ≡ length fs → name ≡ full_name f → is_some (get nat_cmp places f.layout.id) ≡ false
    → ((id : ℕ) → get nat_cmp places_later id ≡ cond (is_eq (nat_cmp f.layout.id id)) (Some place) (get nat_cmp places id))
    → ((other : List ℕ) → contains (slice_cmp nat_cmp) names_later other ≡ cond (is_eq (slice_cmp nat_cmp name other)) true (contains (slice_cmp nat_cmp) names other))
    → IsTable later places_later names_later
table_added fs later places places_later names names_later f place name no_colon t added placed named fresh by_id by_name =
    let here : IsTable (fs ++ f ∷ []) places_later names_later = record {
      by_id = λ id.
          let now : get nat_cmp places_later id ≡ cond (f.layout.id == id) (Some place) (get nat_cmp places id) = by_id id ∙ ap (λ b. cond b (Some place) (get nat_cmp places id)) (equal_cmp f.layout.id id) in
          let none : (f.layout.id == id) ≡ true → get nat_cmp places id ≡ None =
          λ same. ap (get nat_cmp places) (sym (eqb-true f.layout.id id same)) ∙ none_is (get nat_cmp places f.layout.id) fresh in
          added_id (f.layout.id == id) place f (format_with id fs) (get nat_cmp places id) (get nat_cmp places_later id) (length fs) (t.by_id id) now placed none
          ∙ ap (option_map place_in) (sym (with_more id fs f));
      by_name = λ other.
          let test : Format → Bool = λ g. bytes_eq (full_name g) other in
          set_inserted (full_name f) name other (contains (slice_cmp nat_cmp) names other) (contains (slice_cmp nat_cmp) names_later other) named (by_name other)
          ∙ ap (λ v. bytes_eq (full_name f) other || v) (t.by_name other)
          ∙ or_last (list_any test fs) (bytes_eq (full_name f) other)
          ∙ sym (list_any-append test fs (f ∷ []));
      systems = each_more NoColon fs f t.systems no_colon;
    } in
    subst (λ gs. IsTable gs places_later names_later) (sym added) here
