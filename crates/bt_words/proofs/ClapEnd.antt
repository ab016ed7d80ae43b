-- What clap reads behind `run`: what stands after all words.
use Rattle.std.proofs.Common.{◌≡◌, ◌∙◌, ◌&&◌, ◌≤◌, ℕ, Bool, cond, true, false, List, [], ◌∷◌, Option, Some, None, IsSome, ap, ap₂, codes, count_by, drop, filter, length, nat_le, option_and_then, refl, sym, true≢false, arith}
use Rattle.std.specs.Option.{option_map_or}
use Rattle.std.specs.List.{list_all, slice_get}
use Rattle.std.specs.Str.{bytes_eq}
use Rattle.std.proofs.lemmas.Bool.Decides.{nat_tests}
use Rattle.clap.specs.Facts.{explicit_source}
use Rattle.clap.specs.Simple.{filled, with_index}
use Rattle.clap.specs.Takes.{is_valid, walk_passes}
use Rattle.clap.specs.Walk.{Held, Walk, finished, has_row, nothing_held, row_text, settled, walk, walk_from, with_default}
use Rattle.clap.specs.Words.{Row, Rule, Text, first_of, matches_of, one_of, takes}
use Rattle.clap.specs.declared.builder.value_parser.Reading.TheVariants.{AsWritten}
use Rattle.clap.specs.declared.parser.matches.ValueSource.TheVariants.{CommandLine, DefaultValue}
use Rattle.clap.proofs.WalkLemmas.{both}
use Rattle.bt_words.specs.Words.{are_run_words, is_json, is_operand, is_serial, is_stats, of_two, run_order}
use Rattle.bt_words.specs.Commands.{flag_rule, run_app}
use Rattle.bt_words.specs.declared.order.Order.TheVariants.{Run}
use Rattle.bt_words.proofs.ClapSteps.{takes_by}
use Rattle.bt_words.proofs.ClapRows.{default_added, default_kept, defaulted_found, defaulted_others, found, row}
use Rattle.bt_words.proofs.ClapRun.{HasRows, Stands, flag_row, reads, shape}

-- ---- the defaults of the flags

abbrev pub flag_text : Bool → Text
flag_text flag = cond flag (codes "true") (codes "false")

abbrev pub flag_end : Text → Bool → Row
flag_end id flag = row id AsWritten (cond flag CommandLine DefaultValue) (flag_text flag ∷ [])

abbrev pub flag_of : Text → Rule
flag_of id = with_index 1 (filled (flag_rule id))

abbrev pub Defaulted : Text → Bool → List Row → Type 0
Defaulted id flag rows = (found id (with_default rows (flag_of id)) ≡ Some (flag_end id flag))
    × ((other : Text) → bytes_eq id other ≡ false → found other (with_default rows (flag_of id)) ≡ found other rows)

pub defaulted : (id : Text) (flag : Bool) (rows : List Row) → bytes_eq id id ≡ true → found id rows ≡ flag_row id flag → Defaulted id flag rows
defaulted id true rows same there =
    let kept = default_kept (flag_of id) rows (flag_end id true) there in
    (ap (found id) kept ∙ there, λ other differs. ap (found other) kept)
defaulted id false rows same none =
    let added = default_added (flag_of id) rows none in (
      ap (found id) added ∙ defaulted_found id AsWritten (codes "false") rows same none,
      λ other differs. ap (found other) added ∙ defaulted_others id other AsWritten (codes "false") rows differs none,
    )

-- an argument without a default gets no row
pub no_default : (id : Text) (rows : List Row) → cond (has_row id rows) rows rows ≡ rows
no_default id rows = go (has_row id rows)
  where
    go : (b : Bool) → cond b rows rows ≡ rows
    go true = refl
    go false = refl

-- ---- the rows at the end

record Ends (serial stats json : Bool) (script recording : Text) (rows : List Row) : Type 0 where
  pub serial_row : found (codes "serial") rows ≡ Some (flag_end (codes "serial") serial)
  pub stats_row : found (codes "stats") rows ≡ Some (flag_end (codes "stats") stats)
  pub json_row : found (codes "json") rows ≡ Some (flag_end (codes "json") json)
  pub script_row : found (codes "script") rows ≡ Some (row (codes "script") AsWritten CommandLine (script ∷ []))
  pub recording_row : found (codes "recording") rows ≡ Some (row (codes "recording") AsWritten CommandLine (recording ∷ []))

abbrev filled_rows : List Row → List Row
filled_rows rows = with_default (with_default (with_default rows (flag_of (codes "serial"))) (flag_of (codes "stats"))) (flag_of (codes "json"))

finished_is : (h : Held) → finished shape.rules h ≡ filled_rows (settled shape.rules h).rows
finished_is h =
    let rows = filled_rows (settled shape.rules h).rows in
    ap (λ (r : List Row). cond (has_row (codes "recording") r) r r) (no_default (codes "script") rows) ∙ no_default (codes "recording") rows

ends : (serial stats json : Bool) (script recording : Text) (rows : List Row) → HasRows serial stats json (script ∷ recording ∷ []) rows
    → Ends serial stats json script recording (filled_rows rows)
ends serial stats json script recording rows has =
    let one = defaulted (codes "serial") serial rows refl has.serial_row in
    let after_one = with_default rows (flag_of (codes "serial")) in
    let two = defaulted (codes "stats") stats after_one refl (one.1 (codes "stats") refl ∙ has.stats_row) in
    let after_two = with_default after_one (flag_of (codes "stats")) in
    let three = defaulted (codes "json") json after_two refl (two.1 (codes "json") refl ∙ one.1 (codes "json") refl ∙ has.json_row) in
    record {
      serial_row = three.1 (codes "serial") refl ∙ two.1 (codes "serial") refl ∙ one.0;
      stats_row = three.1 (codes "stats") refl ∙ two.0;
      json_row = three.0;
      script_row = three.1 (codes "script") refl ∙ two.1 (codes "script") refl ∙ one.1 (codes "script") refl ∙ has.script_row;
      recording_row = three.1 (codes "recording") refl ∙ two.1 (codes "recording") refl ∙ one.1 (codes "recording") refl ∙ has.recording_row;
    }

abbrev pub given_row : Option Row → Bool
given_row o = option_map_or (λ r. explicit_source r.source) o false

valid : (serial stats json : Bool) (script recording : Text) (rows : List Row) → Ends serial stats json script recording rows
    → is_valid shape rows false ≡ true
valid serial stats json script recording rows e =
    ap₂ (λ x y. given_row x && (given_row y && true)) e.script_row e.recording_row

-- ---- the whole

pub record ReadsRun (words : List Text) (serial stats json : Bool) (script recording : Text) : Type 0 where
  pub takes_them : takes run_app words ≡ true
  pub serial_text : one_of (codes "serial") (matches_of run_app words) ≡ Some (flag_text serial)
  pub stats_text : one_of (codes "stats") (matches_of run_app words) ≡ Some (flag_text stats)
  pub json_text : one_of (codes "json") (matches_of run_app words) ≡ Some (flag_text json)
  pub script_text : first_of (codes "script") (matches_of run_app words) ≡ Some script
  pub recording_text : first_of (codes "recording") (matches_of run_app words) ≡ Some recording

module _ (command : Text) (words : List Text) (serial stats json : Bool) (script recording : Text)
    (passes : walk_passes shape [] (walk_from nothing_held) words ≡ true)
    (st : Stands serial stats json (script ∷ recording ∷ []) (walk shape.rules [] nothing_held words)) where
  last : Ends serial stats json script recording (finished shape.rules st.held)
  last = rw (finished_is st.held) (ends serial stats json script recording (settled shape.rules st.held).rows st.rows)

  rows_are : matches_of run_app (command ∷ words) ≡ finished shape.rules st.held
  rows_are = ap (λ (w : Walk). finished shape.rules w.held) st.is

  whole : ReadsRun (command ∷ words) serial stats json script recording
  whole = record {
    takes_them = takes_by shape words st.held 3 st.is passes st.settles refl (valid serial stats json script recording (finished shape.rules st.held) last);
    serial_text = ap (one_of (codes "serial")) rows_are ∙ ap (option_and_then row_text) last.serial_row ∙ text serial;
    stats_text = ap (one_of (codes "stats")) rows_are ∙ ap (option_and_then row_text) last.stats_row ∙ text stats;
    json_text = ap (one_of (codes "json")) rows_are ∙ ap (option_and_then row_text) last.json_row ∙ text json;
    script_text = ap (first_of (codes "script")) rows_are ∙ ap (option_and_then (λ (r : Row). slice_get r.values 0)) last.script_row;
    recording_text = ap (first_of (codes "recording")) rows_are ∙ ap (option_and_then (λ (r : Row). slice_get r.values 0)) last.recording_row;
  }
    where
      text : (flag : Bool) → option_and_then row_text (Some (flag_end (codes "serial") flag)) ≡ Some (flag_text flag)
      text flag = refl

-- words that give an order of `run`: their options, and their two operands
pub record IsRun (words : List Text) : Type 0 where
  pub script : Text
  pub recording : Text
  pub are : are_run_words words ≡ true
  pub operands : filter is_operand words ≡ script ∷ recording ∷ []

pub is_run : (words : List Text) → IsSome (run_order words) → IsRun words
is_run words there = go (are_run_words words) refl (filter is_operand words) refl there
  where
    go : (b : Bool) → are_run_words words ≡ b → (xs : List Text) → filter is_operand words ≡ xs
        → IsSome (cond b (of_two (λ script recording. Some (Run (nat_le 1 (count_by is_serial words)) (nat_le 1 (count_by is_stats words))
        (nat_le 1 (count_by is_json words)) script recording)) xs) None) → IsRun words
    go false e xs f h = absurd (true≢false (sym h))
    go true e [] f h = absurd (true≢false (sym h))
    go true e (a ∷ []) f h = absurd (true≢false (sym h))
    go true e (a ∷ b ∷ []) f h = record { script = a; recording = b; are = e; operands = f }
    go true e (a ∷ b ∷ c ∷ more) f h = absurd (true≢false (sym h))

pub at_most_one : (n : ℕ) → nat_le n 1 ≡ true → n ≤ 1
at_most_one n h = grind (arith, nat_tests)

-- clap takes the words of such an order, and gives back what the rule says of them
pub reads_run : (words : List Text) (is : IsRun (drop 1 words))
    → ReadsRun words (nat_le 1 (count_by is_serial (drop 1 words))) (nat_le 1 (count_by is_stats (drop 1 words)))
    (nat_le 1 (count_by is_json (drop 1 words))) is.script is.recording
reads_run [] is = absurd (true≢false (sym (ap (λ xs. Rattle.std.specs.Option.is_some (slice_get xs 0)) is.operands)))
reads_run (command ∷ words) is =
    let parts = both _ _ is.are in
    let counts = both _ _ parts.1 in
    let later_counts = both _ _ counts.1 in
    let from : Stands false false false [] (walk_from nothing_held) = record {
      held = nothing_held;
      is = refl;
      settles = refl;
      rows = record { serial_row = refl; stats_row = refl; json_row = refl; script_row = refl; recording_row = refl };
    } in
    let one_serial = at_most_one (count_by is_serial words) counts.0 in
    let one_stats = at_most_one (count_by is_stats words) later_counts.0 in
    let one_json = at_most_one (count_by is_json words) later_counts.1 in
    let two = ap length is.operands in
    let read = reads words parts.0 false false false [] (walk_from nothing_held) from parts.0 (omega (arith, one_serial)) (omega (arith, one_stats))
    (omega (arith, one_json)) (omega (arith, two)) in
    whole command words _ _ _ is.script is.recording read.0 (rw (← is.operands) read.1)

-- the order of words of `run`, by what was read
pub run_is : (words : List Text) (is : IsRun words) (serial stats json : Bool) (script recording : Text)
    → serial ≡ nat_le 1 (count_by is_serial words) → stats ≡ nat_le 1 (count_by is_stats words) → json ≡ nat_le 1 (count_by is_json words)
    → script ≡ is.script → recording ≡ is.recording → run_order words ≡ Some (Run serial stats json script recording)
run_is words is serial stats json script recording a b c d e = rw (is.are, is.operands, a, b, c, d, e) refl
