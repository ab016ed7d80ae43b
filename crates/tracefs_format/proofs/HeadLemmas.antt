-- The first three lines of a text, and the faults that they have.
use Rattle.std.proofs.Common.{◌≡◌, ℕ, Bool, true, false, Option, Some, None, List, [], ◌∷◌, drop, not, refl, ap, sym, ◌∙◌}
use Rattle.std.specs.Prelude.{codes, is_some}
use Rattle.std.specs.Option.{option_or}
use Rattle.std.specs.Str.{bytes_eq}
use Rattle.event_layout.specs.declared.error.FormatError.{FormatError}
use Rattle.event_layout.specs.declared.error.FormatError.TheVariants.{NoName, BadId, BadField}
use Rattle.event_layout.specs.FieldLines.{Description}
use Rattle.event_layout.specs.Lines.{text_lines}
use Rattle.event_layout.specs.Reading.{name_on, id_on}
use Rattle.event_layout.specs.Layouts.{described, fault_unless, layout_fault, line_at, lines_fault, read_lines}
use Rattle.event_layout.specs.declared.layout.Layout.{Layout}
use Rattle.tracefs_format.specs.Tables.{IsMadeOf, IsReadOf}

second_line : (lines : List (List ℕ)) → line_at 0 (drop 1 lines) ≡ line_at 1 lines
second_line [] = refl
second_line (a ∷ lines) = refl

third_line : (lines : List (List ℕ)) → line_at 0 (drop 1 (drop 1 lines)) ≡ line_at 2 lines
third_line [] = refl
third_line (a ∷ []) = refl
third_line (a ∷ b ∷ lines) = refl

other_lines : (lines : List (List ℕ)) → drop 1 (drop 1 (drop 1 lines)) ≡ drop 3 lines
other_lines [] = refl
other_lines (a ∷ []) = refl
other_lines (a ∷ b ∷ []) = refl
other_lines (a ∷ b ∷ c ∷ lines) = refl

-- the lines that are read before the fields, and those of the fields
pub record AreHeads (text first second third : List ℕ) (others : List (List ℕ)) : Type 0 where
  pub first_is : first ≡ line_at 0 (text_lines text)
  pub second_is : second ≡ line_at 1 (text_lines text)
  pub third_is : third ≡ line_at 2 (text_lines text)
  pub others_are : others ≡ drop 3 (text_lines text)

-- as they are taken one after the other
pub heads_taken : (text first second third : List ℕ) (all one two three : List (List ℕ)) → all ≡ text_lines text → first ≡ line_at 0 all → one ≡ drop 1 all
    → second ≡ line_at 0 one → two ≡ drop 1 one → third ≡ line_at 0 two → three ≡ drop 1 two → AreHeads text first second third three
heads_taken text first second third all one two three whole f r1 s r2 t r3 =
    let after_one : one ≡ drop 1 (text_lines text) = r1 ∙ ap (drop 1) whole in
    let after_two : two ≡ drop 1 (drop 1 (text_lines text)) = r2 ∙ ap (drop 1) after_one in record {
      first_is = f ∙ ap (line_at 0) whole;
      second_is = s ∙ ap (line_at 0) after_one ∙ second_line (text_lines text);
      third_is = t ∙ ap (line_at 0) after_two ∙ third_line (text_lines text);
      others_are = r3 ∙ ap (drop 1) after_two ∙ other_lines (text_lines text);
    }

pub second_taken : (text second : List ℕ) (all one : List (List ℕ)) → all ≡ text_lines text → one ≡ drop 1 all → second ≡ line_at 0 one → second ≡ line_at 1 (text_lines text)
second_taken text second all one whole r1 s = s ∙ ap (line_at 0) (r1 ∙ ap (drop 1) whole) ∙ second_line (text_lines text)

-- the faults behind the third line, from the third line on, and from the second on
abbrev of_fields : List ℕ → Option FormatError
of_fields text = lines_fault 4 [] (read_lines (drop 3 (text_lines text)))

abbrev of_third : List ℕ → Option FormatError
of_third text = option_or (fault_unless (bytes_eq (line_at 2 (text_lines text)) (codes "format:")) (BadField 3)) (of_fields text)

abbrev of_second : List ℕ → Option FormatError
of_second text = option_or (fault_unless (is_some (id_on (line_at 1 (text_lines text)))) BadId) (of_third text)

by_name : (text line : List ℕ) (name : Option (List ℕ)) → line ≡ line_at 0 (text_lines text) → name_on line ≡ name → layout_fault text ≡ option_or (fault_unless (is_some name) NoName) (of_second text)
unfolding layout_fault
by_name text line name is e = ap (λ o. option_or (fault_unless (is_some o) NoName) (of_second text)) (ap name_on (sym is) ∙ e)

by_id : (text line : List ℕ) (id : Option ℕ) → line ≡ line_at 1 (text_lines text) → id_on line ≡ id → of_second text ≡ option_or (fault_unless (is_some id) BadId) (of_third text)
by_id text line id is e = ap (λ o. option_or (fault_unless (is_some o) BadId) (of_third text)) (ap id_on (sym is) ∙ e)

by_third : (text line : List ℕ) (there : Bool) → line ≡ line_at 2 (text_lines text) → bytes_eq line (codes "format:") ≡ there → of_third text ≡ option_or (fault_unless there (BadField 3)) (of_fields text)
by_third text line there is e = ap (λ b. option_or (fault_unless b (BadField 3)) (of_fields text)) (ap (λ l. bytes_eq l (codes "format:")) (sym is) ∙ e)

pub no_name : (text line : List ℕ) → line ≡ line_at 0 (text_lines text) → name_on line ≡ None → layout_fault text ≡ Some NoName
no_name text line is e = by_name text line None is e

pub no_id : (text first line name : List ℕ) → first ≡ line_at 0 (text_lines text) → name_on first ≡ Some name → line ≡ line_at 1 (text_lines text) → id_on line ≡ None → layout_fault text ≡ Some BadId
no_id text first line name one named is e = by_name text first (Some name) one named ∙ by_id text line None is e

pub no_format : (text first second third : List ℕ) (others : List (List ℕ)) (name : List ℕ) (id : ℕ) → AreHeads text first second third others → name_on first ≡ Some name → id_on second ≡ Some id
    → bytes_eq third (codes "format:") ≡ false → layout_fault text ≡ Some (BadField 3)
no_format text first second third others name id h named numbered e =
    by_name text first (Some name) h.first_is named ∙ by_id text second (Some id) h.second_is numbered ∙ by_third text third false h.third_is e

-- the fault of a text whose first three lines are right is that of its fields
pub fault_of_fields : (text first second third : List ℕ) (others : List (List ℕ)) (name : List ℕ) (id : ℕ) → AreHeads text first second third others → name_on first ≡ Some name → id_on second ≡ Some id
    → bytes_eq third (codes "format:") ≡ true → lines_fault 4 [] (read_lines others) ≡ layout_fault text
fault_of_fields text first second third others name id h named numbered e =
    ap (λ l. lines_fault 4 [] (read_lines l)) h.others_are
    ∙ sym (by_name text first (Some name) h.first_is named ∙ by_id text second (Some id) h.second_is numbered ∙ by_third text third true h.third_is e)

-- no fault is there, and the layout says what the lines say
pub is_read : (text first second third : List ℕ) (others : List (List ℕ)) (name stored : List ℕ) (id : ℕ) (fields : List Description) (layout : Layout) → AreHeads text first second third others
    → name_on first ≡ Some name → id_on second ≡ Some id → bytes_eq third (codes "format:") ≡ true → lines_fault 4 [] (read_lines others) ≡ None → fields ≡ described (read_lines others)
    → stored ≡ name → IsMadeOf stored id fields layout → (layout_fault text ≡ None) × IsReadOf text layout
is_read text first second third others name stored id fields layout h named numbered e none read same made =
    let fields_as_read = made.fields_are ∙ read ∙ ap (λ l. described (read_lines l)) h.others_are in
    let id_as_read = ap id_on (sym h.second_is) ∙ numbered ∙ ap Some (sym made.id_is) in
    let name_as_read = ap name_on (sym h.first_is) ∙ named ∙ ap Some (sym (made.name_is ∙ same)) in
    (sym (fault_of_fields text first second third others name id h named numbered e) ∙ none, (name_as_read, id_as_read, fields_as_read))

unlike : (b : Bool) → not b ≡ true → b ≡ false
unlike true h = sym h
unlike false h = refl

alike : (b : Bool) → not b ≡ false → b ≡ true
alike true h = refl
alike false h = sym h

-- what the comparison of the third line says
pub is_other : (differs : Bool) (third text : List ℕ) → differs ≡ not (bytes_eq third text) → text ≡ codes "format:" → differs ≡ true → bytes_eq third (codes "format:") ≡ false
is_other differs third text e is so = unlike (bytes_eq third (codes "format:")) (ap (λ t. not (bytes_eq third t)) (sym is) ∙ sym e ∙ so)

pub is_format : (differs : Bool) (third text : List ℕ) → differs ≡ not (bytes_eq third text) → text ≡ codes "format:" → differs ≡ false → bytes_eq third (codes "format:") ≡ true
is_format differs third text e is so = alike (bytes_eq third (codes "format:")) (ap (λ t. not (bytes_eq third t)) (sym is) ∙ sym e ∙ so)
