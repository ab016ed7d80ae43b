-- What clap reads behind `account`.
use Rattle.std.proofs.Common.{◌≡◌, ◌⊎◌, ◌∙◌, ◌+◌, ◌≤◌, ◌&&◌, ◌||◌, ◌++◌, ℕ, Bool, cond, true, false, List, [], ◌∷◌, Some, None, IsSome, ap, ap₂, append-nil, codes, count_by, drop, filter, fold, length, nat_le, option_and_then, refl, subst, suc, sym, inl, inr, true≢false, arith}
use Rattle.std.specs.List.{list_all, slice_get}
use Rattle.std.specs.Str.{bytes_eq}
use Rattle.std.proofs.lemmas.Slice.Eq.{bytes_eq-Decides}
use Rattle.clap.specs.Simple.{Shape}
use Rattle.clap.specs.Takes.{is_valid, settle_passes, turn_passes, walk_passes}
use Rattle.clap.specs.Words.{Row, Text, built, first_of, matches_of, one_of, takes}
use Rattle.clap.specs.Walk.{Held, Walk, finished, has_row, nothing_held, reacted, row_text, settled, walk, walk_from, walked, with_default}
use Rattle.clap.specs.declared.builder.value_parser.Reading.TheVariants.{AsWritten}
use Rattle.clap.specs.declared.parser.matches.ValueSource.TheVariants.{CommandLine}
use Rattle.clap.proofs.OnLiterals.{clap_on_literals}
use Rattle.clap.proofs.WalkLemmas.{both}
use Rattle.bt_words.specs.declared.order.Order.TheVariants.{Account}
use Rattle.bt_words.specs.Words.{account_order, are_account_words, has_place_in_account, is_operand, is_serial, of_two}
use Rattle.bt_words.specs.Commands.{account_app}
use Rattle.bt_words.proofs.ClapSteps.{at, operand_held, operand_passes, takes_by, walked_operand}
use Rattle.bt_words.proofs.ClapRows.{found, no_row, row, used_found, used_others}
use Rattle.bt_words.proofs.ClapRun.{and_true, count_cons, count_less, first_use, flag_row, is_there, no_option, operand_row, or_false, recording_one, recording_rule, script_one, script_rule, serial_rule, used}
use Rattle.bt_words.proofs.ClapEnd.{at_most_one, defaulted, flag_end, flag_of, flag_text, given_row, no_default}

abbrev shape : Shape
shape = (built account_app).top

-- ---- what stands after some words: whether the option was there, and the operands

record HasRows (serial : Bool) (operands : List Text) (rows : List Row) : Type 0 where
  pub serial_row : found (codes "serial") rows ≡ flag_row (codes "serial") serial
  pub script_row : found (codes "script") rows ≡ operand_row (codes "script") (slice_get operands 0)
  pub recording_row : found (codes "recording") rows ≡ operand_row (codes "recording") (slice_get operands 1)

record Stands (serial : Bool) (operands : List Text) (w : Walk) : Type 0 where
  pub held : Held
  pub is : w ≡ at held (suc (length operands))
  pub settles : settle_passes shape.rules false held ≡ true
  pub rows : HasRows serial operands (settled shape.rules held).rows

-- what one word does: it passes, and more stands after it
abbrev Steps : Walk → Text → Bool → List Text → Type 0
Steps w word serial operands = (turn_passes shape [] w word ≡ true) × Stands serial operands (walked shape.rules [] w word)

serial_walked : (h : Held) (position : ℕ) → walked shape.rules [] (at h position) (codes "--serial") ≡ at (reacted shape.rules serial_rule [] h) position
unfolding clap_on_literals
serial_walked h position = refl

serial_passes : (h : Held) (position : ℕ) → settle_passes shape.rules false h ≡ true → found (codes "serial") (settled shape.rules h).rows ≡ None
    → turn_passes shape [] (at h position) (codes "--serial") ≡ true
unfolding clap_on_literals
serial_passes h position settles none =
    and_true _ (ap₂ (λ x y. x && y) settles (first_use _ (no_row (codes "serial") (settled shape.rules h).rows none)))

-- the first use of the option
serial_step : (operands : List Text) (w : Walk) → Stands false operands w → Steps w (codes "--serial") true operands
serial_step operands w st =
    let position = suc (length operands) in
    let rows = (settled shape.rules st.held).rows in
    let none : found (codes "serial") rows ≡ None = st.rows.serial_row in
    let others = used_others (codes "serial") AsWritten CommandLine (codes "true" ∷ []) rows none in
    subst (λ (v : Walk). Steps v (codes "--serial") true operands) (sym st.is) (
      serial_passes st.held position st.settles none,
      record {
        held = reacted shape.rules serial_rule [] st.held;
        is = serial_walked st.held position;
        settles = refl;
        rows = record {
          serial_row = used_found (codes "serial") AsWritten CommandLine (codes "true" ∷ []) rows none refl;
          script_row = others (codes "script") refl ∙ st.rows.script_row;
          recording_row = others (codes "recording") refl ∙ st.rows.recording_row;
        };
      },
    )

-- the two operands
script_step : (word : Text) → is_operand word ≡ true → (serial : Bool) (w : Walk) → Stands serial [] w → Steps w word serial (word ∷ [])
script_step word operand serial w st =
    let rows = (settled shape.rules st.held).rows in
    let none : found (codes "script") rows ≡ None = st.rows.script_row in
    let others = used_others (codes "script") AsWritten CommandLine (word ∷ []) rows none in
    subst (λ (v : Walk). Steps v word serial (word ∷ [])) (sym st.is) (
      operand_passes shape st.held 1 word operand script_rule refl st.settles,
      record {
        held = operand_held shape.rules script_rule word st.held;
        is = walked_operand shape st.held 1 word operand script_rule refl script_one;
        settles = first_use _ (no_row (codes "script") rows none);
        rows = record {
          serial_row = others (codes "serial") refl ∙ st.rows.serial_row;
          script_row = used_found (codes "script") AsWritten CommandLine (word ∷ []) rows none refl;
          recording_row = others (codes "recording") refl ∙ st.rows.recording_row;
        };
      },
    )

recording_step : (word : Text) → is_operand word ≡ true → (serial : Bool) (script : Text) (w : Walk) → Stands serial (script ∷ []) w
    → Steps w word serial (script ∷ word ∷ [])
recording_step word operand serial script w st =
    let rows = (settled shape.rules st.held).rows in
    let none : found (codes "recording") rows ≡ None = st.rows.recording_row in
    let others = used_others (codes "recording") AsWritten CommandLine (word ∷ []) rows none in
    subst (λ (v : Walk). Steps v word serial (script ∷ word ∷ [])) (sym st.is) (
      operand_passes shape st.held 2 word operand recording_rule refl st.settles,
      record {
        held = operand_held shape.rules recording_rule word st.held;
        is = walked_operand shape st.held 2 word operand recording_rule refl recording_one;
        settles = first_use _ (no_row (codes "recording") rows none);
        rows = record {
          serial_row = others (codes "serial") refl ∙ st.rows.serial_row;
          script_row = others (codes "script") refl ∙ st.rows.script_row;
          recording_row = used_found (codes "recording") AsWritten CommandLine (word ∷ []) rows none refl;
        };
      },
    )

-- ---- all words

-- from where words stand, those that may come are taken, and are there after them
abbrev Reads : List Text → Type 0
Reads words = (serial : Bool) (operands : List Text) (w : Walk) → Stands serial operands w → used serial + count_by is_serial words ≤ 1
    → length operands + length (filter is_operand words) ≡ 2
    → (walk_passes shape [] w words ≡ true)
    × Stands (serial || nat_le 1 (count_by is_serial words)) (operands ++ filter is_operand words) (fold (walked shape.rules []) w words)

-- one word, and those behind it
then_more : (w : Walk) (word : Text) (rest : List Text) → turn_passes shape [] w word ≡ true → walk_passes shape [] (walked shape.rules [] w word) rest ≡ true
    → walk_passes shape [] w (word ∷ rest) ≡ true
unfolding walk_passes
then_more w word rest now later = ap₂ (λ a b. a && b) now later

reads_none : Reads []
unfolding walk_passes
reads_none serial operands w st few two = (
  refl,
  subst (λ (a : Bool). Stands a (operands ++ []) w) (sym (or_false serial))
      (subst (λ (xs : List Text). Stands serial xs w) (sym (append-nil operands)) st),
)

reads_serial : (rest : List Text) → Reads rest → Reads (codes "--serial" ∷ rest)
reads_serial rest more true operands w st few two = absurd (omega (arith, few, count_cons is_serial (codes "--serial") rest))
reads_serial rest more false operands w st few two =
    let one = count_cons is_serial (codes "--serial") rest in
    let step = serial_step operands w st in
    let later = more true operands (walked shape.rules [] w (codes "--serial")) step.1 (omega (arith, few, one)) two in
    let there = is_there (count_by is_serial (codes "--serial" ∷ rest)) (omega (arith, one)) in
    (then_more w (codes "--serial") rest step.0 later.0, rw there later.1)

-- what the rule says of an operand and the words behind it
abbrev Behind : Text → List Text → Type 0
Behind word rest = (count_by is_serial (word ∷ rest) ≡ count_by is_serial rest) × (filter is_operand (word ∷ rest) ≡ word ∷ filter is_operand rest)

behind : (word : Text) (rest : List Text) → is_operand word ≡ true → Behind word rest
behind word rest operand = (count_less is_serial word rest (no_option _ word refl operand), rw operand refl)

reads_operand : (word : Text) (rest : List Text) → is_operand word ≡ true → Reads rest → Reads (word ∷ rest)
reads_operand word rest operand more serial [] w st few two =
    let b = behind word rest operand in
    let step = script_step word operand serial w st in
    let later = more serial (word ∷ []) (walked shape.rules [] w word) step.1 (omega (arith, few, b.0)) (omega (arith, two, ap length b.1)) in
    (then_more w word rest step.0 later.0, rw (b.0, b.1) later.1)
reads_operand word rest operand more serial (script ∷ []) w st few two =
    let b = behind word rest operand in
    let step = recording_step word operand serial script w st in
    let later = more serial (script ∷ word ∷ []) (walked shape.rules [] w word) step.1 (omega (arith, few, b.0)) (omega (arith, two, ap length b.1)) in
    (then_more w word rest step.0 later.0, rw (b.0, b.1) later.1)
reads_operand word rest operand more serial (x ∷ y ∷ more_operands) w st few two =
    let b = behind word rest operand in
    absurd (omega (arith, two, ap length b.1))

-- what may stand behind `account`
kinds : (word : Text) → has_place_in_account word ≡ true → (is_operand word ≡ true) ⊎ (word ≡ codes "--serial")
kinds word h = go (is_operand word) refl h
  where
    go : (a : Bool) → is_operand word ≡ a → (a || is_serial word) ≡ true → (is_operand word ≡ true) ⊎ (word ≡ codes "--serial")
    go true e h = inl e
    go false e h = inr ((bytes_eq-Decides word (codes "--serial")).0 h)

reads : (words : List Text) → list_all has_place_in_account words ≡ true → Reads words
reads [] all = reads_none
reads (word ∷ rest) all = elim (kinds word (both _ _ all).0) [
  | inl operand ↦ reads_operand word rest operand (reads rest (both _ _ all).1)
  | inr e ↦ subst (λ (x : Text). Reads (x ∷ rest)) (sym e) (reads_serial rest (reads rest (both _ _ all).1))
]

-- ---- the rows at the end

record Ends (serial : Bool) (script recording : Text) (rows : List Row) : Type 0 where
  pub serial_row : found (codes "serial") rows ≡ Some (flag_end (codes "serial") serial)
  pub script_row : found (codes "script") rows ≡ Some (row (codes "script") AsWritten CommandLine (script ∷ []))
  pub recording_row : found (codes "recording") rows ≡ Some (row (codes "recording") AsWritten CommandLine (recording ∷ []))

abbrev filled_rows : List Row → List Row
filled_rows rows = with_default rows (flag_of (codes "serial"))

finished_is : (h : Held) → finished shape.rules h ≡ filled_rows (settled shape.rules h).rows
finished_is h =
    let rows = filled_rows (settled shape.rules h).rows in
    ap (λ (r : List Row). cond (has_row (codes "recording") r) r r) (no_default (codes "script") rows) ∙ no_default (codes "recording") rows

ends : (serial : Bool) (script recording : Text) (rows : List Row) → HasRows serial (script ∷ recording ∷ []) rows → Ends serial script recording (filled_rows rows)
ends serial script recording rows has =
    let one = defaulted (codes "serial") serial rows refl has.serial_row in
    record {
      serial_row = one.0;
      script_row = one.1 (codes "script") refl ∙ has.script_row;
      recording_row = one.1 (codes "recording") refl ∙ has.recording_row;
    }

valid : (serial : Bool) (script recording : Text) (rows : List Row) → Ends serial script recording rows → is_valid shape rows false ≡ true
valid serial script recording rows e = ap₂ (λ x y. given_row x && (given_row y && true)) e.script_row e.recording_row

-- ---- the whole

pub record ReadsAccount (words : List Text) (serial : Bool) (script recording : Text) : Type 0 where
  pub takes_them : takes account_app words ≡ true
  pub serial_text : one_of (codes "serial") (matches_of account_app words) ≡ Some (flag_text serial)
  pub script_text : first_of (codes "script") (matches_of account_app words) ≡ Some script
  pub recording_text : first_of (codes "recording") (matches_of account_app words) ≡ Some recording

module _ (command : Text) (words : List Text) (serial : Bool) (script recording : Text)
    (passes : walk_passes shape [] (walk_from nothing_held) words ≡ true)
    (st : Stands serial (script ∷ recording ∷ []) (walk shape.rules [] nothing_held words)) where
  last : Ends serial script recording (finished shape.rules st.held)
  last = rw (finished_is st.held) (ends serial script recording (settled shape.rules st.held).rows st.rows)

  rows_are : matches_of account_app (command ∷ words) ≡ finished shape.rules st.held
  rows_are = ap (λ (w : Walk). finished shape.rules w.held) st.is

  whole : ReadsAccount (command ∷ words) serial script recording
  whole = record {
    takes_them = takes_by shape words st.held 3 st.is passes st.settles refl (valid serial script recording (finished shape.rules st.held) last);
    serial_text = ap (one_of (codes "serial")) rows_are ∙ ap (option_and_then row_text) last.serial_row ∙ text serial;
    script_text = ap (first_of (codes "script")) rows_are ∙ ap (option_and_then (λ (r : Row). slice_get r.values 0)) last.script_row;
    recording_text = ap (first_of (codes "recording")) rows_are ∙ ap (option_and_then (λ (r : Row). slice_get r.values 0)) last.recording_row;
  }
    where
      text : (flag : Bool) → option_and_then row_text (Some (flag_end (codes "serial") flag)) ≡ Some (flag_text flag)
      text flag = refl

-- words that give an order of `account`: its option, and its two operands
pub record IsAccount (words : List Text) : Type 0 where
  pub script : Text
  pub recording : Text
  pub are : are_account_words words ≡ true
  pub operands : filter is_operand words ≡ script ∷ recording ∷ []

pub is_account : (words : List Text) → IsSome (account_order words) → IsAccount words
is_account words there = go (are_account_words words) refl (filter is_operand words) refl there
  where
    go : (b : Bool) → are_account_words words ≡ b → (xs : List Text) → filter is_operand words ≡ xs
        → IsSome (cond b (of_two (λ script recording. Some (Account (nat_le 1 (count_by is_serial words)) script recording)) xs) None) → IsAccount words
    go false e xs f h = absurd (true≢false (sym h))
    go true e [] f h = absurd (true≢false (sym h))
    go true e (a ∷ []) f h = absurd (true≢false (sym h))
    go true e (a ∷ b ∷ []) f h = record { script = a; recording = b; are = e; operands = f }
    go true e (a ∷ b ∷ c ∷ more) f h = absurd (true≢false (sym h))

-- clap takes the words of such an order, and gives back what the rule says of them
pub reads_account : (words : List Text) (is : IsAccount (drop 1 words))
    → ReadsAccount words (nat_le 1 (count_by is_serial (drop 1 words))) is.script is.recording
reads_account [] is = absurd (true≢false (sym (ap (λ xs. Rattle.std.specs.Option.is_some (slice_get xs 0)) is.operands)))
reads_account (command ∷ words) is =
    let parts = both _ _ is.are in
    let from : Stands false [] (walk_from nothing_held) = record {
      held = nothing_held;
      is = refl;
      settles = refl;
      rows = record { serial_row = refl; script_row = refl; recording_row = refl };
    } in
    let one = at_most_one (count_by is_serial words) parts.1 in
    let two = ap length is.operands in
    let read = reads words parts.0 false [] (walk_from nothing_held) from (omega (arith, one)) (omega (arith, two)) in
    whole command words _ is.script is.recording read.0 (rw (← is.operands) read.1)

-- the order of words of `account`, by what was read
pub account_is : (words : List Text) (is : IsAccount words) (serial : Bool) (script recording : Text)
    → serial ≡ nat_le 1 (count_by is_serial words) → script ≡ is.script → recording ≡ is.recording → account_order words ≡ Some (Account serial script recording)
account_is words is serial script recording a b c = rw (is.are, is.operands, a, b, c) refl
