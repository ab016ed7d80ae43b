-- The layout that is read is the one that the text has, and the text has no other.
use Rattle.std.proofs.Common.{◌≡◌, ◌≢◌, ℕ, ◌+◌, ◌≤◌, Bool, true, false, cond, not, ◌&&◌, ◌||◌, List, [], ◌∷◌, ◌++◌, length, drop, map, Option, Some, None, Result, Ok, Err, ◌⊎◌, inl, inr, refl, ap, sym, subst, ◌∙◌, arith}
use Rattle.std.specs.Prelude.{◌==◌, nat_lt, nat_eq, codes, is_some, IfOk, IfErr, IsTrue}
use Rattle.std.specs.List.{list_any, starts_with, AllByRecursion, cons_option}
use Rattle.std.specs.Option.{option_or}
use Rattle.std.specs.Str.{bytes_eq}
use Rattle.std.proofs.lemmas.Bool.{lt-ltb, le-ltb, ltb-false, and_parts, or_parts, and_from}
use Rattle.std.proofs.lemmas.List.{append-nil}
use Rattle.std.proofs.lemmas.List.Folds.{list_any-append}
use Rattle.std.proofs.lemmas.Slice.Eq.{bytes_eq-Decides}
use Rattle.bt_core.specs.declared.limits.TheConstants.{LAYOUT_END}
use Rattle.bt_core.specs.Want.{out_of_memory}
use Rattle.event_layout.specs.declared.error.FormatError.{FormatError}
use Rattle.event_layout.specs.declared.error.FormatError.TheVariants.{NoName, BadId, BadField, Overlong, SameName, Memory}
use Rattle.event_layout.specs.declared.field.Field.{Field}
use Rattle.event_layout.specs.declared.layout.Layout.{Layout}
use Rattle.event_layout.specs.FieldLines.{Description, description, IsFieldLine}
use Rattle.event_layout.specs.Lines.{text_lines}
use Rattle.event_layout.specs.Reading.{name_on, id_on, field_on}
use Rattle.event_layout.specs.Layouts.{filled, read_lines, AreFieldLines, HaveNamesApart, IsLayoutOf, line_at, described, is_taken, field_fault, line_fault, lines_fault, fault_unless, layout_fault}
use Rattle.event_layout.specs.Sizes.{end_of, greatest_end}
use Rattle.event_layout.specs.declared.field.FieldKind.{FieldKind}
use Rattle.event_layout.specs.declared.field.FieldKind.TheVariants.{Number, Chars, DataLoc, Other}
use Rattle.event_layout.specs.Bytes.{words}
use Rattle.event_layout.specs.Declarations.{kind_of, is_char_words, declared_type, ungrouped}
use Rattle.event_layout.specs.Kinds.{fits_kind, is_number_size}
use Rattle.tracefs_format.specs.Tables.{Answers, Fails, IsReadOf}
use Rattle.tracefs_format.proofs.SameLaws.{same_layout}
use Rattle.tracefs_format.proofs.StripLaws.{some_is}
use Rattle.tracefs_format.proofs.SpellingLaws.{field_on-IsFieldLine, IsFieldLine-field_on, name_on-IsNameLine, IsNameLine-name_on, id_on-IsIdLine, IsIdLine-id_on}

-- ---- tests

spread : (n a b : Bool) → (n && (a || (b || false))) ≡ ((n && a) || (n && b))
spread true a true = refl
spread true a false = refl
spread false a b = refl

none_or : (a b : Option FormatError) → option_or a b ≡ None → (a ≡ None) × (b ≡ None)
none_or None b h = (refl, h)
none_or (Some e) b h = absurd cc

true_false : true ≡ false → ⊥
true_false h = cc

and_false : (a : Bool) → (a && false) ≡ false
and_false true = refl
and_false false = refl

some_none : (b : ℕ) (bs : List ℕ) → b ∷ bs ≡ [] → ⊥
some_none b bs h = cc

untaken : (number : ℕ) (b : Bool) → cond b (Some (SameName number)) None ≡ None → b ≡ false
untaken number true h = absurd cc
untaken number false h = refl

abbrev first_or : List Description → Description → Description
first_or [] d = d
first_or (e ∷ es) d = e

abbrev rest_of : List Description → List Description
rest_of [] = []
rest_of (e ∷ es) = es

none_some : {A : Type 0} {x : A} → None ≡ Some x → ⊥
none_some h = cc

-- ---- names

taken-push : (name : List ℕ) (earlier : List Description) (d : Description) → is_taken name (earlier ++ d ∷ []) ≡ (is_taken name earlier || (nat_lt 0 (length name) && bytes_eq d.name name))
taken-push name earlier d =
    ap (λ v. nat_lt 0 (length name) && v) (list_any-append (λ e. bytes_eq e.name name) earlier (d ∷ [])) ∙ spread (nat_lt 0 (length name)) (list_any (λ e. bytes_eq e.name name) earlier) (bytes_eq d.name name)

apart-from : (name other : List ℕ) → (nat_lt 0 (length other) && bytes_eq name other) ≡ false → name ≡ other → other ≡ []
apart-from name [] h e = refl
apart-from name (b ∷ bs) h e =
    let some : nat_lt 0 (length (b ∷ bs)) ≡ true = lt-ltb 0 (length (b ∷ bs)) (omega arith) in
    let same : bytes_eq name (b ∷ bs) ≡ true = (bytes_eq-Decides name (b ∷ bs)).1 e in
    absurd (true_false (sym (and_from (nat_lt 0 (length (b ∷ bs))) (bytes_eq name (b ∷ bs)) some same) ∙ h))

untaken-from : (name other : List ℕ) → (name ≡ other → other ≡ []) → (nat_lt 0 (length other) && bytes_eq name other) ≡ false
untaken-from name [] h = refl
untaken-from name (b ∷ bs) h =
    (elim (bytes_eq name (b ∷ bs)) as (λ v. bytes_eq name (b ∷ bs) ≡ v → (nat_lt 0 (length (b ∷ bs)) && v) ≡ false) [
      | true ↦ λ e. absurd (some_none b bs (h ((bytes_eq-Decides name (b ∷ bs)).0 e)))
      | false ↦ λ e. and_false (nat_lt 0 (length (b ∷ bs)))
    ]) refl

-- none of the fields has the name of an earlier one
abbrev AreNew : List Description → List Field → Type 0
AreNew earlier fs = AllByRecursion (λ g. is_taken g.name earlier ≡ false) fs

abbrev AreApartFrom : List ℕ → List Field → Type 0
AreApartFrom name fs = AllByRecursion (λ g. name ≡ g.name → g.name ≡ []) fs

new-parts : (earlier : List Description) (d : Description) (fs : List Field) → AreNew (earlier ++ d ∷ []) fs → AreNew earlier fs × AreApartFrom d.name fs
new-parts earlier d [] h = (tt, tt)
new-parts earlier d (g ∷ fs) h =
    let here = or_parts (is_taken g.name earlier) (nat_lt 0 (length g.name) && bytes_eq d.name g.name) (sym (taken-push g.name earlier d) ∙ h.0) in
    let rest = new-parts earlier d fs h.1 in
    ((here.0, rest.0), (apart-from d.name g.name here.1, rest.1))

parts-new : (earlier : List Description) (d : Description) (fs : List Field) → AreNew earlier fs → AreApartFrom d.name fs → AreNew (earlier ++ d ∷ []) fs
parts-new earlier d [] h k = tt
parts-new earlier d (g ∷ fs) h k =
    (taken-push g.name earlier d ∙ rw (h.0, untaken-from d.name g.name k.0) refl, parts-new earlier d fs h.1 k.1)

none_new : (fs : List Field) → AreNew [] fs
none_new [] = tt
none_new (g ∷ fs) = (and_false (nat_lt 0 (length g.name)), none_new fs)

-- ---- the lines of fields

-- the fields of lines that no rule refuses
record AreRead (earlier : List Description) (lines : List (List ℕ)) (fs : List Field) : Type 0 where
  lines_are : AreFieldLines (filled lines) fs
  ends_fit : AllByRecursion (λ f. end_of f ≤ LAYOUT_END) fs
  names_apart : HaveNamesApart fs
  names_new : AreNew earlier fs

empty-described : described ([] ∷ []) ≡ []
unfolding field_on
empty-described = refl

empty-passed : (lines : List (List ℕ)) → described ([] ∷ lines) ≡ described lines
unfolding field_on
empty-passed lines = refl

filled-cons : (b : ℕ) (bs : List ℕ) (lines : List (List ℕ)) → filled ((b ∷ bs) ∷ lines) ≡ (b ∷ bs) ∷ filled lines
filled-cons b bs lines = rw (lt-ltb 0 (length (b ∷ bs)) (omega arith)) refl

line_fault-some : (number : ℕ) (earlier : List Description) (b : ℕ) (bs : List ℕ) → line_fault number earlier (b ∷ bs) ≡ field_fault number earlier (field_on (b ∷ bs))
line_fault-some number earlier b bs = rw (lt-ltb 0 (length (b ∷ bs)) (omega arith)) refl

field_fault-none : (number : ℕ) (earlier : List Description) (d : Description) → field_fault number earlier (Some d) ≡ None → (d.offset + d.size ≤ LAYOUT_END) × (is_taken d.name earlier ≡ false)
field_fault-none number earlier d h =
    (elim (nat_lt LAYOUT_END (d.offset + d.size)) as (λ v. nat_lt LAYOUT_END (d.offset + d.size) ≡ v → cond v (Some (Overlong number)) (cond (is_taken d.name earlier) (Some (SameName number)) None) ≡ None → (d.offset + d.size ≤ LAYOUT_END) × (is_taken d.name earlier ≡ false)) [
      | true ↦ λ e g. absurd cc
      | false ↦ λ e g. (ltb-false LAYOUT_END (d.offset + d.size) e, untaken number (is_taken d.name earlier) g)
    ]) refl h

none-field_fault : (number : ℕ) (earlier : List Description) (d : Description) → d.offset + d.size ≤ LAYOUT_END → is_taken d.name earlier ≡ false → field_fault number earlier (Some d) ≡ None
none-field_fault number earlier d h k = rw (le-ltb LAYOUT_END (d.offset + d.size) h, k) refl

field_read : (number : ℕ) (earlier : List Description) (line : List ℕ) (lines : List (List ℕ)) (fs : List Field) (o : Option Description) → field_on line ≡ o
    → ((gs : List Field) (d : Description) → lines_fault (number + 1) (earlier ++ d ∷ []) lines ≡ None → map description gs ≡ described lines → AreRead (earlier ++ d ∷ []) lines gs)
    → field_fault number earlier o ≡ None → lines_fault (number + 1) (earlier ++ cons_option o []) lines ≡ None → map description fs ≡ cons_option o (described lines)
    → (g : Field) × (gs : List Field) × (fs ≡ g ∷ gs) × IsFieldLine line (description g) × (end_of g ≤ LAYOUT_END) × (is_taken g.name earlier ≡ false) × AreApartFrom g.name gs × AreRead earlier lines gs
field_read number earlier line lines fs None e next fault later same = absurd cc
field_read number earlier line lines [] (Some d) e next fault later same = absurd cc
field_read number earlier line lines (g ∷ gs) (Some d) e next fault later same =
    let head : description g ≡ d = ap (λ es. first_or es d) same in
    let rest : map description gs ≡ described lines = ap rest_of same in
    let free = field_fault-none number earlier d fault in
    let read = next gs d later rest in
    let new = new-parts earlier d gs read.names_new in (
      g,
      gs,
      refl,
      subst (IsFieldLine line) (sym head) (field_on-IsFieldLine line d e),
      subst (λ (c : Description). c.offset + c.size ≤ LAYOUT_END) (sym head) free.0,
      subst (λ (c : Description). is_taken c.name earlier ≡ false) (sym head) free.1,
      subst (λ (c : Description). AreApartFrom c.name gs) (sym head) new.1,
      record { lines_are = read.lines_are; ends_fit = read.ends_fit; names_apart = read.names_apart; names_new = new.0 },
    )

fields_read : (number : ℕ) (earlier : List Description) (lines : List (List ℕ)) (fs : List Field) → lines_fault number earlier lines ≡ None → map description fs ≡ described lines → AreRead earlier lines fs
fields_read number earlier [] [] h same = record { lines_are = tt; ends_fit = tt; names_apart = tt; names_new = tt }
fields_read number earlier [] (f ∷ fs) h same = absurd cc
fields_read number earlier ([] ∷ lines) fs h same =
    let later : lines_fault (number + 1) earlier lines ≡ None = ap (λ es. lines_fault (number + 1) es lines) (sym (append-nil earlier) ∙ ap (λ es. earlier ++ es) (sym empty-described)) ∙ h in
    let read = fields_read (number + 1) earlier lines fs later (same ∙ empty-passed lines) in
    record { lines_are = read.lines_are; ends_fit = read.ends_fit; names_apart = read.names_apart; names_new = read.names_new }
fields_read number earlier ((b ∷ bs) ∷ lines) fs h same =
    let faults = none_or (line_fault number earlier (b ∷ bs)) (lines_fault (number + 1) (earlier ++ described ((b ∷ bs) ∷ [])) lines) h in
    let one = field_read number earlier (b ∷ bs) lines fs (field_on (b ∷ bs)) refl (λ gs d later rest. fields_read (number + 1) (earlier ++ d ∷ []) lines gs later rest) (sym (line_fault-some number earlier b bs) ∙ faults.0) faults.1 same in
    subst (AreRead earlier ((b ∷ bs) ∷ lines)) (sym one.2) (record {
      lines_are = subst (λ ls. AreFieldLines ls (one.0 ∷ one.1)) (sym (filled-cons b bs lines)) (one.3, one.7.lines_are);
      ends_fit = (one.4, one.7.ends_fit);
      names_apart = (one.6, one.7.names_apart);
      names_new = (one.5, one.7.names_new);
    })

-- lines that spell fields which no rule refuses have no fault, and say these fields
fields_again : (number : ℕ) (earlier : List Description) (lines : List (List ℕ)) (fs : List Field) → AreRead earlier lines fs → (lines_fault number earlier lines ≡ None) × (map description fs ≡ described lines)
fields_again number earlier [] [] r = (refl, refl)
fields_again number earlier [] (f ∷ fs) r = absurd r.lines_are
fields_again number earlier ([] ∷ lines) fs r =
    let rest = fields_again (number + 1) earlier lines fs (record { lines_are = r.lines_are; ends_fit = r.ends_fit; names_apart = r.names_apart; names_new = r.names_new }) in
    (ap (λ es. lines_fault (number + 1) es lines) (ap (λ es. earlier ++ es) empty-described ∙ append-nil earlier) ∙ rest.0, rest.1 ∙ sym (empty-passed lines))
fields_again number earlier ((b ∷ bs) ∷ lines) [] r = absurd (subst (λ ls. AreFieldLines ls []) (filled-cons b bs lines) r.lines_are)
fields_again number earlier ((b ∷ bs) ∷ lines) (f ∷ fs) r =
    let spelled = subst (λ ls. AreFieldLines ls (f ∷ fs)) (filled-cons b bs lines) r.lines_are in
    let said : field_on (b ∷ bs) ≡ Some (description f) = IsFieldLine-field_on (b ∷ bs) (description f) spelled.0 in
    let one : described ((b ∷ bs) ∷ []) ≡ description f ∷ [] = ap (λ o. cons_option o []) said in
    let rest = fields_again (number + 1) (earlier ++ description f ∷ []) lines fs (record { lines_are = spelled.1; ends_fit = r.ends_fit.1; names_apart = r.names_apart.1; names_new = parts-new earlier (description f) fs r.names_new.1 r.names_apart.0 }) in
    let here : line_fault number earlier (b ∷ bs) ≡ None = line_fault-some number earlier b bs ∙ ap (field_fault number earlier) said ∙ none-field_fault number earlier (description f) r.ends_fit.0 r.names_new.0 in (
      ap (λ o. option_or o (lines_fault (number + 1) (earlier ++ described ((b ∷ bs) ∷ [])) lines)) here ∙ ap (λ es. lines_fault (number + 1) (earlier ++ es) lines) one ∙ rest.0,
      ap (λ ds. description f ∷ ds) rest.1 ∙ sym (ap (λ o. cons_option o (described lines)) said),
    )

-- ---- the whole text

three_lines : (lines : List (List ℕ)) → line_at 2 lines ≡ codes "format:" → lines ≡ line_at 0 lines ∷ (line_at 1 lines ∷ (codes "format:" ∷ drop 3 lines))
three_lines [] h = absurd cc
three_lines (x ∷ []) h = absurd cc
three_lines (x ∷ y ∷ []) h = absurd cc
three_lines (x ∷ y ∷ z ∷ lines) h = ap (λ l. x ∷ (y ∷ (l ∷ lines))) h

there : (b : Bool) (fault : FormatError) → fault_unless b fault ≡ None → b ≡ true
there true fault h = refl
there false fault h = absurd cc

-- what is read without a fault is a layout of the text
pub read-IsLayoutOf : (text : List ℕ) (layout : Layout) → layout_fault text ≡ None → IsReadOf text layout → IsLayoutOf text layout
unfolding layout_fault
read-IsLayoutOf text layout h r =
    let lines = text_lines text in
    let after_name = none_or (fault_unless (is_some (name_on (line_at 0 lines))) NoName) (option_or (fault_unless (is_some (id_on (line_at 1 lines))) BadId) (option_or (fault_unless (bytes_eq (line_at 2 lines) (codes "format:")) (BadField 3)) (lines_fault 4 [] (read_lines (drop 3 lines))))) h in
    let after_id = none_or (fault_unless (is_some (id_on (line_at 1 lines))) BadId) (option_or (fault_unless (bytes_eq (line_at 2 lines) (codes "format:")) (BadField 3)) (lines_fault 4 [] (read_lines (drop 3 lines)))) after_name.1 in
    let after_format = none_or (fault_unless (bytes_eq (line_at 2 lines) (codes "format:")) (BadField 3)) (lines_fault 4 [] (read_lines (drop 3 lines))) after_id.1 in
    let third : line_at 2 lines ≡ codes "format:" = (bytes_eq-Decides (line_at 2 lines) (codes "format:")).0 (there (bytes_eq (line_at 2 lines) (codes "format:")) (BadField 3) after_format.0) in
    let read = fields_read 4 [] (read_lines (drop 3 lines)) layout.fields after_format.1 r.2 in
    record {
      first = line_at 0 lines;
      second = line_at 1 lines;
      others = drop 3 lines;
      lines = three_lines lines third;
      name = name_on-IsNameLine (line_at 0 lines) layout.name r.0;
      id = id_on-IsIdLine (line_at 1 lines) layout.id r.1;
      fields = read.lines_are;
      ends = read.ends_fit;
      names = read.names_apart;
      size = layout.covers;
    }

-- a layout of the text is read without a fault
pub IsLayoutOf-read : (text : List ℕ) (layout : Layout) → IsLayoutOf text layout → (layout_fault text ≡ None) × IsReadOf text layout
unfolding layout_fault
IsLayoutOf-read text layout s =
    let lines = text_lines text in
    let first : line_at 0 lines ≡ s.first = ap (line_at 0) s.lines in
    let second : line_at 1 lines ≡ s.second = ap (line_at 1) s.lines in
    let third : line_at 2 lines ≡ codes "format:" = ap (line_at 2) s.lines in
    let others : drop 3 lines ≡ s.others = ap (drop 3) s.lines in
    let named : name_on (line_at 0 lines) ≡ Some layout.name = ap name_on first ∙ IsNameLine-name_on s.first layout.name s.name in
    let numbered : id_on (line_at 1 lines) ≡ Some layout.id = ap id_on second ∙ IsIdLine-id_on s.second layout.id s.id in
    let marked : bytes_eq (line_at 2 lines) (codes "format:") ≡ true = (bytes_eq-Decides (line_at 2 lines) (codes "format:")).1 third in
    let again = fields_again 4 [] (read_lines s.others) layout.fields (record { lines_are = s.fields; ends_fit = s.ends; names_apart = s.names; names_new = none_new layout.fields }) in
    let fields : lines_fault 4 [] (read_lines (drop 3 lines)) ≡ None = ap (λ ls. lines_fault 4 [] (read_lines ls)) others ∙ again.0 in (
      ap (λ o. option_or (fault_unless (is_some o) NoName) (option_or (fault_unless (is_some (id_on (line_at 1 lines))) BadId) (option_or (fault_unless (bytes_eq (line_at 2 lines) (codes "format:")) (BadField 3)) (lines_fault 4 [] (read_lines (drop 3 lines)))))) named
          ∙ ap (λ o. option_or (fault_unless (is_some o) BadId) (option_or (fault_unless (bytes_eq (line_at 2 lines) (codes "format:")) (BadField 3)) (lines_fault 4 [] (read_lines (drop 3 lines))))) numbered
          ∙ ap (λ b. option_or (fault_unless b (BadField 3)) (lines_fault 4 [] (read_lines (drop 3 lines)))) marked ∙ fields,
      (named, numbered, again.1 ∙ ap (λ ls. described (read_lines ls)) (sym others)),
    )

pub one_read : (text : List ℕ) (a b : Layout) → IsReadOf text a → IsReadOf text b → a ≡ b
one_read text a b r s = same_layout a b (some_is (sym r.0 ∙ s.0)) (some_is (sym r.1 ∙ s.1)) (r.2 ∙ sym s.2)

-- a text has at most one layout
pub one_layout : (text : List ℕ) (a b : Layout) → IsLayoutOf text a → IsLayoutOf text b → a ≡ b
one_layout text a b s t = one_read text a b (IsLayoutOf-read text a s).1 (IsLayoutOf-read text b t).1

-- ---- what a reader answers

fails-is : (e : FormatError) (fault : Option FormatError) → e ≢ Memory out_of_memory → Fails e fault → fault ≡ Some e
fails-is NoName fault n h = h
fails-is BadId fault n h = h
fails-is (BadField line) fault n h = h
fails-is (Overlong line) fault n h = h
fails-is (SameName line) fault n h = h
fails-is (Memory _) fault n h = absurd (n refl)

fails-or : (e : FormatError) (fault : Option FormatError) → Fails e fault → (fault ≡ Some e) ⊎ (e ≡ Memory out_of_memory)
fails-or NoName fault h = inl h
fails-or BadId fault h = inl h
fails-or (BadField line) fault h = inl h
fails-or (Overlong line) fault h = inl h
fails-or (SameName line) fault h = inl h
fails-or (Memory _) fault h = inr refl

pub answer-found : (text : List ℕ) (r : Result Layout FormatError) → Answers r (layout_fault text) (IsReadOf text) → IfOk r (λ l. IsLayoutOf text l)
answer-found text (Ok l) a = read-IsLayoutOf text l a.0 a.1
answer-found text (Err e) a = tt

pub answer-only : (text : List ℕ) (r : Result Layout FormatError) → Answers r (layout_fault text) (IsReadOf text) → (l : Layout) → IsLayoutOf text l → (r ≡ Ok l) ⊎ (r ≡ Err (Memory out_of_memory))
answer-only text (Ok m) a l s = inl (ap Ok (one_read text m l a.1 (IsLayoutOf-read text l s).1))
answer-only text (Err e) a l s =
    elim (fails-or e (layout_fault text) a) [
      | inl fault ↦ absurd (none_some (sym (IsLayoutOf-read text l s).0 ∙ fault))
      | inr memory ↦ inr (ap Err memory)
    ]

pub answer-fault : (text : List ℕ) (r : Result Layout FormatError) → Answers r (layout_fault text) (IsReadOf text) → IfErr r (λ e. e ≢ Memory out_of_memory → layout_fault text ≡ Some e)
answer-fault text (Ok l) a = tt
answer-fault text (Err e) a = λ n. fails-is e (layout_fault text) n a

pub answer-refused : (text : List ℕ) (r : Result Layout FormatError) → Answers r (layout_fault text) (IsReadOf text) → (e : FormatError) → layout_fault text ≡ Some e → (r ≡ Err e) ⊎ (r ≡ Err (Memory out_of_memory))
answer-refused text (Ok l) a e h = absurd (none_some (sym a.0 ∙ h))
answer-refused text (Err d) a e h =
    elim (fails-or d (layout_fault text) a) [
      | inl fault ↦ inl (ap Err (some_is (sym fault ∙ h)))
      | inr memory ↦ inr (ap Err memory)
    ]

-- ---- there is a layout where there is no fault

sized-if : (b : Bool) (k l : FieldKind) (size : ℕ) → (b ≡ true → IsTrue (fits_kind k size)) → IsTrue (fits_kind l size) → IsTrue (fits_kind (cond b k l) size)
sized-if true k l size h g = h refl
sized-if false k l size h g = g

-- a kind goes with the size that it was found by
kind_of-sized : (type : List ℕ) (is_array : Bool) (size : ℕ) → IsTrue (fits_kind (kind_of type is_array size) size)
unfolding kind_of
kind_of-sized type is_array size =
    let is_text = list_any (bytes_eq (codes "char")) (words type) in
    let chars = is_char_words (words type) && not (list_any (λ b. b == 42) type) in
    let number = cond (is_number_size size) Number Other in
    let array = cond is_array (cond chars Chars Other) number in
    let relative = cond (starts_with nat_eq type (codes "__rel_loc")) Other array in
    sized-if (starts_with nat_eq type (codes "__data_loc")) (cond (is_text && size == 4) DataLoc Other) relative size
    (λ h. sized-if (is_text && size == 4) DataLoc Other size (λ k. (and_parts is_text (size == 4) k).1) refl)
    (sized-if (starts_with nat_eq type (codes "__rel_loc")) Other array size (λ h. refl)
    (sized-if is_array (cond chars Chars Other) number size (λ h. sized-if chars Chars Other size (λ k. refl) refl)
    (sized-if (is_number_size size) Number Other size (λ h. h) refl)))

field_line-sized : (line : List ℕ) (d : Description) → IsFieldLine line d → IsTrue (fits_kind d.kind d.size)
field_line-sized line d s = ap (λ k. fits_kind k d.size) s.kind ∙ kind_of-sized (declared_type s.declaration) (is_some (ungrouped s.declaration)) d.size

-- fields as the lines describe them
record Fields (ds : List Description) : Type 0 where
  fields : List Field
  same : map description fields ≡ ds

abbrev EndInside : List Description → Type 0
EndInside ds = AllByRecursion (λ d. d.offset + d.size ≤ LAYOUT_END) ds

end_inside-first : (number : ℕ) (earlier : List Description) (o : Option Description) (ds : List Description) → field_fault number earlier o ≡ None → EndInside ds → EndInside (cons_option o ds)
end_inside-first number earlier None ds h rest = absurd cc
end_inside-first number earlier (Some d) ds h rest = ((field_fault-none number earlier d h).0, rest)

-- where no rule is broken the fields that lines describe end inside
end_inside : (number : ℕ) (earlier : List Description) (lines : List (List ℕ)) → lines_fault number earlier lines ≡ None → EndInside (described lines)
end_inside number earlier [] h = tt
end_inside number earlier ([] ∷ lines) h =
    let later : lines_fault (number + 1) (earlier ++ described ([] ∷ [])) lines ≡ None = h in
    subst EndInside (sym (empty-passed lines)) (end_inside (number + 1) (earlier ++ described ([] ∷ [])) lines later)
end_inside number earlier ((b ∷ bs) ∷ lines) h =
    let faults = none_or (line_fault number earlier (b ∷ bs)) (lines_fault (number + 1) (earlier ++ described ((b ∷ bs) ∷ [])) lines) h in
    end_inside-first number earlier (field_on (b ∷ bs)) (described lines) (sym (line_fault-some number earlier b bs) ∙ faults.0)
    (end_inside (number + 1) (earlier ++ described ((b ∷ bs) ∷ [])) lines faults.1)

with_field : (line : List ℕ) (o : Option Description) (ds : List Description) → field_on line ≡ o → EndInside (cons_option o ds) → (EndInside ds → Fields ds) → Fields (cons_option o ds)
with_field line None ds e ends fs = fs ends
with_field line (Some d) ds e ends fs =
    let rest = fs ends.1 in
    let f : Field = record { name = d.name; offset = d.offset; size = d.size; signed = d.signed; kind = d.kind; sized = field_line-sized line d (field_on-IsFieldLine line d e); inside = ends.0 } in
    record { fields = f ∷ rest.fields; same = ap (λ es. d ∷ es) rest.same }

fields_of : (lines : List (List ℕ)) → EndInside (described lines) → Fields (described lines)
fields_of [] ends = record { fields = []; same = refl }
fields_of (line ∷ lines) ends = with_field line (field_on line) (described lines) refl ends (fields_of lines)

-- something that is there
that : {A : Type 0} (o : Option A) → is_some o ≡ true → (x : A) × (o ≡ Some x)
that None h = absurd cc
that (Some x) h = (x, refl)

-- a text without a fault has a layout
no_fault-layout : (text : List ℕ) → layout_fault text ≡ None → (l : Layout) × IsReadOf text l
unfolding layout_fault
no_fault-layout text h =
    let lines = text_lines text in
    let after_name = none_or (fault_unless (is_some (name_on (line_at 0 lines))) NoName) (option_or (fault_unless (is_some (id_on (line_at 1 lines))) BadId) (option_or (fault_unless (bytes_eq (line_at 2 lines) (codes "format:")) (BadField 3)) (lines_fault 4 [] (read_lines (drop 3 lines))))) h in
    let after_id = none_or (fault_unless (is_some (id_on (line_at 1 lines))) BadId) (option_or (fault_unless (bytes_eq (line_at 2 lines) (codes "format:")) (BadField 3)) (lines_fault 4 [] (read_lines (drop 3 lines)))) after_name.1 in
    let name = that (name_on (line_at 0 lines)) (there (is_some (name_on (line_at 0 lines))) NoName after_name.0) in
    let id = that (id_on (line_at 1 lines)) (there (is_some (id_on (line_at 1 lines))) BadId after_id.0) in
    let after_format = none_or (fault_unless (bytes_eq (line_at 2 lines) (codes "format:")) (BadField 3)) (lines_fault 4 [] (read_lines (drop 3 lines))) after_id.1 in
    let read = fields_of (read_lines (drop 3 lines)) (end_inside 4 [] (read_lines (drop 3 lines)) after_format.1) in
    let layout : Layout = record { name = name.0; id = id.0; fields = read.fields; size = greatest_end read.fields; covers = refl } in
    (layout, (name.1, id.1, read.same))

layout_or : (text : List ℕ) (o : Option FormatError) → layout_fault text ≡ o → ((l : Layout) × IsLayoutOf text l) ⊎ ((e : FormatError) × (layout_fault text ≡ Some e))
layout_or text None h = let read = no_fault-layout text h in inl (read.0, read-IsLayoutOf text read.0 h read.1)
layout_or text (Some e) h = inr (e, h)

-- a text has a layout or a first fault
pub layout_or_fault : (text : List ℕ) → ((l : Layout) × IsLayoutOf text l) ⊎ ((e : FormatError) × (layout_fault text ≡ Some e))
layout_or_fault text = layout_or text (layout_fault text) refl

-- the fields of a layout end inside its size
ends_below : (fs : List Field) (m : ℕ) → greatest_end fs ≤ m → AllByRecursion (λ f. end_of f ≤ m) fs
ends_below [] m h = tt
ends_below (f ∷ fs) m h = (omega arith, ends_below fs m (omega arith))

pub fields_inside : (l : Layout) → AllByRecursion (λ f. end_of f ≤ l.size) l.fields
fields_inside l = ends_below l.fields l.size (omega (arith, l.covers))

greatest_end-inside : (fs : List Field) → greatest_end fs ≤ LAYOUT_END
greatest_end-inside [] = omega arith
greatest_end-inside (f ∷ fs) = omega (arith, f.inside, greatest_end-inside fs)

pub size_inside : (l : Layout) → l.size ≤ LAYOUT_END
size_inside l = omega (arith, l.covers, greatest_end-inside l.fields)
