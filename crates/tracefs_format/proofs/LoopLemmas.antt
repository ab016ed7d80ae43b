-- One line after the other, as the reader goes.
use Rattle.std.proofs.Common.{◌≡◌, ℕ, ◌+◌, ◌^◌, ◌≤◌, ◌<◌, Bool, true, false, cond, not, Option, Some, None, List, [], ◌∷◌, ◌++◌, length, drop, map, get_or, refl, ap, sym, subst, ◌∙◌, append_assoc, arith}
use Rattle.std.specs.Prelude.{codes, nat_lt, ◌==◌, if◌then◌else◌}
use Rattle.std.specs.List.{slice_split, onto_first, cons_option}
use Rattle.std.specs.Option.{option_or}
use Rattle.std.proofs.lemmas.List.{append-nil, length-map, length-drop, length-append}
use Rattle.std.proofs.lemmas.List.Sums.{take_while-cons}
use Rattle.event_layout.specs.declared.error.FormatError.{FormatError}
use Rattle.event_layout.specs.declared.error.FormatError.TheVariants.{NoName, BadId, BadField, Overlong, SameName, Memory}
use Rattle.event_layout.specs.Bytes.{is_blank, is_line_end, without_end, without_front, after}
use Rattle.event_layout.specs.FieldLines.{Description}
use Rattle.event_layout.specs.Lines.{text_lines}
use Rattle.event_layout.specs.Reading.{◌>>=◌, name_on, field_on, word_in}
use Rattle.event_layout.specs.Layouts.{is_print_line, read_lines, described, field_fault, line_at, line_fault, lines_fault}
use Rattle.tracefs_format.specs.Tables.{Fails}
use Rattle.tracefs_format.proofs.BytesLemmas.{after-parts, length-without_end}

pub Fails-or : (e : FormatError) (a b : Option FormatError) → Fails e a → Fails e (option_or a b)
Fails-or NoName a b h = ap (λ v. option_or v b) h
Fails-or BadId a b h = ap (λ v. option_or v b) h
Fails-or (BadField n) a b h = ap (λ v. option_or v b) h
Fails-or (Overlong n) a b h = ap (λ v. option_or v b) h
Fails-or (SameName n) a b h = ap (λ v. option_or v b) h
Fails-or (Memory _) a b h = h

pub read_lines-more : (line : List ℕ) (lines : List (List ℕ)) → is_print_line line ≡ false → read_lines (line ∷ lines) ≡ line ∷ read_lines lines
read_lines-more line lines h = take_while-cons (λ l. not (is_print_line l)) line lines ∙ rw h refl

pub described-cons : (line : List ℕ) (lines : List (List ℕ)) → described (line ∷ lines) ≡ described (line ∷ []) ++ described lines
described-cons line lines = elim (field_on line) as (λ o. cons_option o (described lines) ≡ cons_option o [] ++ described lines) [ None ↦ refl | Some d ↦ refl ]

-- an empty line passes, and describes nothing
pub line_empty : (number : ℕ) (table : List Description) (line : List ℕ) → length line ≡ 0 → (line_fault number table line ≡ None) × (table ≡ table ++ described (line ∷ []))
unfolding field_on
line_empty number table [] h = (refl, sym (append-nil table))
line_empty number table (b ∷ bs) h = absurd cc

-- what a line that is not empty has wrong, and what it describes
pub line_read : (number : ℕ) (table : List Description) (line : List ℕ) (found : Option Description) → nat_lt 0 (length line) ≡ true → field_on line ≡ found → line_fault number table line ≡ field_fault number table found
line_read number table line found some is = λ i. if some i then field_fault number table (is i) else None

pub described_one : (line : List ℕ) (d : Description) → field_on line ≡ Some d → described (line ∷ []) ≡ d ∷ []
described_one line d is = ap (λ o. cons_option o []) is

-- the fault of a line that is read is the first of those that are left
pub line_fails : (e : FormatError) (number : ℕ) (table : List Description) (line : List ℕ) (lines rest : List (List ℕ)) (whole : Option FormatError) → lines ≡ line ∷ rest → is_print_line line ≡ false
    → Fails e (line_fault number table line) → lines_fault number table (read_lines lines) ≡ whole → Fails e whole
line_fails e number table line lines rest whole next plain h so_far =
    let here : read_lines lines ≡ line ∷ read_lines rest = ap read_lines next ∙ read_lines-more line rest plain in
    subst (Fails e) (sym (ap (lines_fault number table) here) ∙ so_far) (Fails-or e (line_fault number table line) (lines_fault (number + 1) (table ++ described (line ∷ [])) (read_lines rest)) h)

pub line_passes : (number : ℕ) (table later : List Description) (line : List ℕ) (lines rest : List (List ℕ)) (whole : Option FormatError) → lines ≡ line ∷ rest → is_print_line line ≡ false
    → line_fault number table line ≡ None → later ≡ table ++ described (line ∷ []) → lines_fault number table (read_lines lines) ≡ whole → lines_fault (number + 1) later (read_lines rest) ≡ whole
line_passes number table later line lines rest whole next plain none added so_far =
    let here : read_lines lines ≡ line ∷ read_lines rest = ap read_lines next ∙ read_lines-more line rest plain in
    let past : lines_fault number table (line ∷ read_lines rest) ≡ lines_fault (number + 1) (table ++ described (line ∷ [])) (read_lines rest) = ap (λ v. option_or v (lines_fault (number + 1) (table ++ described (line ∷ [])) (read_lines rest))) none in
    ap (λ t. lines_fault (number + 1) t (read_lines rest)) added ∙ sym past ∙ sym (ap (lines_fault number table) here) ∙ so_far

pub line_described : (table later : List Description) (line : List ℕ) (lines rest : List (List ℕ)) (whole : List Description) → lines ≡ line ∷ rest → is_print_line line ≡ false
    → later ≡ table ++ described (line ∷ []) → table ++ described (read_lines lines) ≡ whole → later ++ described (read_lines rest) ≡ whole
line_described table later line lines rest whole next plain added so_far =
    let here : read_lines lines ≡ line ∷ read_lines rest = ap read_lines next ∙ read_lines-more line rest plain in
    ap (λ t. t ++ described (read_lines rest)) added ∙ append_assoc table (described (line ∷ [])) (described (read_lines rest))
    ∙ ap (λ t. table ++ t) (sym (ap described here ∙ described-cons line (read_lines rest))) ∙ so_far

-- ---- how many lines there are

onto_first-room : (x n : ℕ) (parts : List (List ℕ)) → length parts + length (get_or parts 0 []) ≤ n + 1 → length (onto_first x parts) + length (get_or (onto_first x parts) 0 []) ≤ n + 1 + 1
onto_first-room x n [] h = omega arith
onto_first-room x n (part ∷ parts) h = omega arith

slice_split-room : (p : ℕ → Bool) (xs : List ℕ) → length (slice_split p xs) + length (get_or (slice_split p xs) 0 []) ≤ length xs + 1
slice_split-room p [] = omega arith
slice_split-room p (x ∷ xs) =
    let rest = slice_split-room p xs in
    elim (p x) as (λ v. length (cond v ([] ∷ slice_split p xs) (onto_first x (slice_split p xs))) + length (get_or (cond v ([] ∷ slice_split p xs) (onto_first x (slice_split p xs))) 0 []) ≤ length (x ∷ xs) + 1)
    [ true ↦ omega arith | false ↦ omega (arith, onto_first-room x (length xs) (slice_split p xs) rest) ]

map-room : (parts : List (List ℕ)) → length (get_or (map (without_end is_line_end) parts) 0 []) ≤ length (get_or parts 0 [])
map-room [] = omega arith
map-room (part ∷ parts) = length-without_end is_line_end part

lines-room : (text : List ℕ) → length (text_lines text) + length (line_at 0 (text_lines text)) ≤ length text + 1
lines-room text =
    let parts = slice_split (λ b. b == 10) text in
    omega (arith, slice_split-room (λ b. b == 10) text, map-room parts, length-map parts (without_end is_line_end))

name_line-long : (line name : List ℕ) → name_on line ≡ Some name → 5 ≤ length line
unfolding name_on
name_line-long line name h = (elim (after (codes "name:") line) as (λ o. after (codes "name:") line ≡ o → (o >>= λ rest. word_in (without_front is_blank rest)) ≡ Some name → 5 ≤ length line) [
  | Some rest ↦ λ e g. omega (arith, ap length (after-parts (codes "name:") line rest e), length-append (codes "name:") rest)
  | None ↦ λ e g. absurd cc
]) refl h

-- a text of fewer than 2 ^ 32 bytes whose first line is a name line has fewer lines than that
pub few_lines : (text name : List ℕ) (first second third : List (List ℕ)) → length text < 2 ^ 32 → name_on (line_at 0 (text_lines text)) ≡ Some name
    → first ≡ drop 1 (text_lines text) → second ≡ drop 1 first → third ≡ drop 1 second → length third + 4 < 2 ^ 32
few_lines text name first second third short named one two three =
    let long = name_line-long (line_at 0 (text_lines text)) name named in
    omega (arith, lines-room text, long, short, ap length one, ap length two, ap length three, length-drop 1 (text_lines text), length-drop 1 first, length-drop 1 second)
