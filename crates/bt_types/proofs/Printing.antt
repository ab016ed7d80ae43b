-- Calls of `printf`.
use Rattle.std.proofs.Common.{◌≡◌, ◌++◌, ◌&&◌, ◌||◌, ◌==◌, ◌+◌, ℕ, Bool, true, false, cond, not, List, [], ◌∷◌, map, Option, Some, None, slice_get, refl, sym, ap, subst, ◌∙◌, add-one}
use Rattle.std.specs.List.{list_any}
use Rattle.std.specs.Str.{bytes_eq}
use Rattle.std.proofs.lemmas.Bool.{eqb-true}
use Rattle.bt_core.specs.declared.place.Place.{Place}
use Rattle.bt_core.specs.declared.map.Shape.{Shape}
use Rattle.fmt_text.specs.Deciding.{format_pieces}
use Rattle.typed_tree.specs.Scope.{takes}
use Rattle.typed_tree.proofs.Same.{both_hold}
use Rattle.expr_types.specs.declared.fault.Rule.{Rule}
use Rattle.expr_types.specs.declared.fault.Rule.TheVariants.{BadFormat}
use Rattle.expr_types.specs.declared.fault.TypeError.{TypeError}
use Rattle.expr_types.specs.declared.known.Known.{Known}
use Rattle.expr_types.specs.declared.known.Printed.{Printed as Call}
use Rattle.expr_types.specs.Mentions.{Prints, PrintfWord, EndWord}
use Rattle.expr_types.specs.Known.{shapes_in, is_call, has_call, call_at, printed, add_call, with_call}
use Rattle.expr_types.specs.Judge.{judged, SaysFault, IsBreach}
use Rattle.expr_types.specs.Rules.{breaks}
use Rattle.expr_types.specs.Walk.{Seen, at, points_of, words_of}
use Rattle.typed_tree.specs.Parts.{Printed, Ending, Made, key_shapes, parts_in, printf_parts}
use Rattle.expr_types.specs.Typing.{AreTyping, IsCallOf, format_of_call, format_title, titles_of}
use Rattle.expr_types.specs.Checked.{AllChecked}
use Rattle.bt_types.specs.Told.{printf_told}
use Rattle.bt_types.specs.Done.{Done}
use Rattle.expr_types.proofs.Calling.{same_place, itself}
use Rattle.expr_types.proofs.Finding.{same_is}
use Rattle.expr_types.proofs.Keys.{all_sorts, all_fit, all_words}
use Rattle.expr_types.proofs.Later.{format_is}
use Rattle.expr_types.proofs.Reading.{shapes_known}
use Rattle.bt_types.proofs.MapCalls.{holds_not}
use Rattle.bt_types.proofs.Turns.{Went, went_both, went_at, fault_behind, fault_here, held_none, held_more, held_both, held_later, done_of}

-- a call that is one of several, by its number among them
pub record CallThere (calls : List Call) (number : ℕ) (format : List ℕ) (place : Place) : Type 0 where
  pub call : Call
  pub numbered : slice_get calls number ≡ Some call
  pub is : format_of_call call ≡ (format, place)

pub place_is : (p q : Place) → (p.line == q.line && p.column == q.column) ≡ true → p ≡ q
place_is p q h =
    let both = both_hold (p.line == q.line) (p.column == q.column) h in
    let line = eqb-true p.line q.line both.0 in
    let column = eqb-true p.column q.column both.1 in
    λ i. record { line = line i; column = column i }

-- a call that is found by its format and the format's place has them
pub found_is : (format : List ℕ) (place : Place) (p : Call) → is_call format place p ≡ true → format_of_call p ≡ (format, place)
found_is format place p h =
    let both = both_hold (p.place.line == place.line && p.place.column == place.column) (bytes_eq p.text format) h in
    let text = same_is p.text format both.1 in
    let at = place_is p.place place both.0 in
    λ i. (text i, at i)

there_after : (format : List ℕ) (place : Place) (p : Call) (ps : List Call) → CallThere ps (call_at format place ps) format place → CallThere (p ∷ ps) (call_at format place ps + 1) format place
there_after format place p ps t = record { call = t.call; numbered = rw (add-one (call_at format place ps)) t.numbered; is = t.is }

pub call_there : (format : List ℕ) (place : Place) (ps : List Call) → has_call format place ps ≡ true → CallThere ps (call_at format place ps) format place
call_there format place [] h = cc
call_there format place (p ∷ ps) h =
    let P : Bool → Type 0 = λ b. is_call format place p ≡ b → (b || has_call format place ps) ≡ true → CallThere (p ∷ ps) (cond b 0 (call_at format place ps + 1)) format place in
    let yes_case : P true = λ e g. record { call = p; numbered = refl; is = found_is format place p e } in
    let no_case : P false = λ e g. there_after format place p ps (call_there format place ps g) in
    elim (is_call format place p) as P [ true ↦ yes_case | false ↦ no_case ] refl h

any_last : {A : Type 0} (f : A → Bool) (xs : List A) (x : A) → f x ≡ true → list_any f (xs ++ x ∷ []) ≡ true
any_last f [] x h = ap (λ (b : Bool). b || false) h
any_last f (y ∷ ys) x h = elim (f y) as (λ b. (b || list_any f (ys ++ x ∷ [])) ≡ true) [ true ↦ refl | false ↦ any_last f ys x h ]

-- a call that was added where it was new is there
pub added_there : (k : Known) (format : List ℕ) (place : Place) → has_call format place (add_call k format place).printed ≡ true
added_there k format place =
    let P : Bool → Type 0 = λ b. has_call format place k.printed ≡ b → has_call format place (cond b k (record k { printed = k.printed ++ printed format place ∷ [] })).printed ≡ true in
    let yes_case : P true = λ e. e in
    let no_case : P false = λ e. any_last (is_call format place) k.printed (printed format place) (itself format place) in
    elim (has_call format place k.printed) as P [ true ↦ yes_case | false ↦ no_case ] refl

pub call_fits : (k1 k2 : Known) (format : List ℕ) (place : Place) (number : ℕ) (shapes : List Shape) → k2 ≡ with_call k1 format place → number ≡ call_at format place k2.printed → takes (format_pieces format) shapes ≡ true
    → IsCallOf k2 number shapes × (format_title (titles_of k2).formats number ≡ (format, place))
call_fits k1 k2 format place number shapes is n h =
    let k : Known = with_call k1 format place in
    let i : ℕ = call_at format place (add_call k1 format place).printed in
    let there = call_there format place (add_call k1 format place).printed (added_there k1 format place) in
    let here = any_last (λ (m : ℕ). m == i) (add_call k1 format place).calls i (same_place i) in
    let fits : IsCallOf k i shapes = record { call = there.call; numbered = there.numbered; here = here; wanted = ap (λ (f : List ℕ × Place). takes (format_pieces f.0) shapes) there.is ∙ h } in
    let named : format_title (titles_of k).formats i ≡ (format, place) = format_is k.printed i there.call there.numbered ∙ there.is in
    let same : number ≡ i = n ∙ ap (λ (x : Known). call_at format place x.printed) is in
    rw (same, is) (fits, named)

-- what the format wants, where the types of the arguments are known
printf_is : (format : List ℕ) (place : Place) (ss : List Seen) (k : Known) (ms : List Made) → AreTyping k ss ms
    → breaks (not (takes (format_pieces format) (shapes_in k (map (λ s. s.sort) ss)))) BadFormat ≡ breaks (not (takes (format_pieces format) (key_shapes ms))) BadFormat
printf_is format place ss k ms t =
    ap (λ (l : List Shape). breaks (not (takes (format_pieces format) l)) BadFormat) (shapes_known k (map (λ s. s.sort) ss) ms (all_sorts k ss ms t))

pub printf_done : (format : List ℕ) (place : Place) (ss : List Seen) (k0 k1 k2 : Known) (ms : List Made) (number : ℕ) → AllChecked ss k0 k1 ms → breaks (not (takes (format_pieces format) (key_shapes ms))) BadFormat ≡ None
    → k2 ≡ with_call k1 format place → number ≡ call_at format place k2.printed → Done (printf_told format place ss) k0 k2 (printf_parts number ms)
printf_done format place ss k0 k1 k2 ms number c h is n =
    let values : Went (points_of ss) k0 k1 = record { whole = c.whole; grows = c.grows } in
    let last = went_at place (Prints format place (map (λ s. s.sort) ss)) k1 k2 tt (printf_is format place ss k1 ms c.typing ∙ h) (sym is) in
    let f = call_fits k1 k2 format place number (key_shapes ms) is n (holds_not (takes (format_pieces format) (key_shapes ms)) BadFormat h) in
    done_of (printf_told format place ss) k0 k2 (printf_parts number ms)
    (went_both (points_of ss) (at place (Prints format place (map (λ s. s.sort) ss)) ∷ []) k0 k1 k2 values last)
    (held_more k2 (Printed number (key_shapes ms)) (PrintfWord format place) (parts_in ms ++ Ending ∷ []) (words_of ss ++ EndWord ∷ []) f.0 (ap (λ (t : List ℕ × Place). PrintfWord t.0 t.1) f.1)
    (held_both k2 (parts_in ms) (Ending ∷ []) (words_of ss) (EndWord ∷ []) (held_later k1 k2 (parts_in ms) (words_of ss) last.grows (record { fits = all_fit k1 ss ms c.typing; written = all_words k1 ss ms c.typing }))
    (held_more k2 Ending EndWord [] [] tt refl (held_none k2))))

pub printf_refused : (format : List ℕ) (place : Place) (ss : List Seen) (k0 k1 : Known) (ms : List Made) (e : TypeError) → AllChecked ss k0 k1 ms → IsBreach (breaks (not (takes (format_pieces format) (key_shapes ms))) BadFormat) place e
    → SaysFault (judged (printf_told format place ss).points k0) e
printf_refused format place ss k0 k1 ms e c h =
    let values : Went (points_of ss) k0 k1 = record { whole = c.whole; grows = c.grows } in
    fault_behind (points_of ss) (at place (Prints format place (map (λ s. s.sort) ss)) ∷ []) k0 k1 e values
    (fault_here place (Prints format place (map (λ s. s.sort) ss)) [] k1 e (subst (λ (r : Option Rule). IsBreach r place e) (sym (printf_is format place ss k1 ms c.typing)) h))
