-- What clap reads behind `run`: the walk over the words, with what stands after each of them.
use Rattle.std.proofs.Common.{◌≡◌, ◌⊎◌, ◌∙◌, ◌==◌, ◌+◌, ◌≤◌, ◌&&◌, ◌||◌, ◌++◌, ℕ, Bool, cond, true, false, not, List, [], ◌∷◌, Option, Some, None, ap, ap₂, append-nil, codes, count_by, filter, fold, length, nat_le, option_map, refl, subst, suc, sym, inl, inr, arith}
use Rattle.std.specs.List.{list_all, slice_get}
use Rattle.std.specs.Str.{bytes_eq}
use Rattle.std.proofs.lemmas.Bool.Decides.{nat_tests}
use Rattle.std.proofs.lemmas.List.Sums.{sum_by-cons}
use Rattle.std.proofs.lemmas.Slice.Eq.{bytes_eq-Decides}
use Rattle.clap.specs.Simple.{Shape, filled, with_index}
use Rattle.clap.specs.Takes.{settle_passes, turn_passes, walk_passes}
use Rattle.clap.specs.Words.{Row, Rule, Text, built}
use Rattle.clap.specs.Walk.{Held, Walk, reacted, settled, walked}
use Rattle.clap.specs.declared.builder.value_parser.Reading.TheVariants.{AsWritten}
use Rattle.clap.specs.declared.parser.matches.ValueSource.TheVariants.{CommandLine}
use Rattle.clap.proofs.OnLiterals.{clap_on_literals}
use Rattle.clap.proofs.WalkLemmas.{both}
use Rattle.bt_words.specs.Words.{has_place_in_run, is_json, is_operand, is_serial, is_stats}
use Rattle.bt_words.specs.Commands.{flag_rule, operand_rule, run_app}
use Rattle.bt_words.proofs.ClapSteps.{IsOne, at, not_true, operand_held, operand_passes, walked_operand}
use Rattle.bt_words.proofs.ClapRows.{found, no_row, row, used_found, used_others}

abbrev pub shape : Shape
shape = (built run_app).top

abbrev pub serial_rule : Rule
serial_rule = with_index 1 (filled (flag_rule (codes "serial")))

abbrev pub stats_rule : Rule
stats_rule = with_index 1 (filled (flag_rule (codes "stats")))

abbrev pub json_rule : Rule
json_rule = with_index 1 (filled (flag_rule (codes "json")))

abbrev pub script_rule : Rule
script_rule = with_index 1 (filled (operand_rule (codes "script")))

abbrev pub recording_rule : Rule
recording_rule = with_index 2 (filled (operand_rule (codes "recording")))

-- ---- what stands after some words: which options were there, and the operands

abbrev pub flag_row : Text → Bool → Option Row
flag_row id true = Some (row id AsWritten CommandLine (codes "true" ∷ []))
flag_row id false = None

abbrev pub operand_row : Text → Option Text → Option Row
operand_row id = option_map (λ word. row id AsWritten CommandLine (word ∷ []))

pub record HasRows (serial stats json : Bool) (operands : List Text) (rows : List Row) : Type 0 where
  pub serial_row : found (codes "serial") rows ≡ flag_row (codes "serial") serial
  pub stats_row : found (codes "stats") rows ≡ flag_row (codes "stats") stats
  pub json_row : found (codes "json") rows ≡ flag_row (codes "json") json
  pub script_row : found (codes "script") rows ≡ operand_row (codes "script") (slice_get operands 0)
  pub recording_row : found (codes "recording") rows ≡ operand_row (codes "recording") (slice_get operands 1)

pub record Stands (serial stats json : Bool) (operands : List Text) (w : Walk) : Type 0 where
  pub held : Held
  pub is : w ≡ at held (suc (length operands))
  pub settles : settle_passes shape.rules false held ≡ true
  pub rows : HasRows serial stats json operands (settled shape.rules held).rows

-- what one word does: it passes, and more stands after it
abbrev pub Steps : Walk → Text → Bool → Bool → Bool → List Text → Type 0
Steps w word serial stats json operands = (turn_passes shape [] w word ≡ true) × Stands serial stats json operands (walked shape.rules [] w word)

pub and_true : (a : Bool) → a ≡ true → (a && true) ≡ true
and_true true h = refl
and_true false h = h

-- a flag that was not used passes
pub first_use : (a : Bool) → a ≡ false → ((not a || false) && true) ≡ true
first_use true h = absurd (Rattle.std.proofs.Common.true≢false h)
first_use false h = refl

serial_walked : (h : Held) (position : ℕ) → walked shape.rules [] (at h position) (codes "--serial") ≡ at (reacted shape.rules serial_rule [] h) position
unfolding clap_on_literals
serial_walked h position = refl

stats_walked : (h : Held) (position : ℕ) → walked shape.rules [] (at h position) (codes "--stats") ≡ at (reacted shape.rules stats_rule [] h) position
unfolding clap_on_literals
stats_walked h position = refl

json_walked : (h : Held) (position : ℕ) → walked shape.rules [] (at h position) (codes "--json") ≡ at (reacted shape.rules json_rule [] h) position
unfolding clap_on_literals
json_walked h position = refl

serial_passes : (h : Held) (position : ℕ) → settle_passes shape.rules false h ≡ true → found (codes "serial") (settled shape.rules h).rows ≡ None
    → turn_passes shape [] (at h position) (codes "--serial") ≡ true
unfolding clap_on_literals
serial_passes h position settles none =
    and_true _ (ap₂ (λ x y. x && y) settles (first_use _ (no_row (codes "serial") (settled shape.rules h).rows none)))

stats_passes : (h : Held) (position : ℕ) → settle_passes shape.rules false h ≡ true → found (codes "stats") (settled shape.rules h).rows ≡ None
    → turn_passes shape [] (at h position) (codes "--stats") ≡ true
unfolding clap_on_literals
stats_passes h position settles none =
    and_true _ (ap₂ (λ x y. x && y) settles (first_use _ (no_row (codes "stats") (settled shape.rules h).rows none)))

json_passes : (h : Held) (position : ℕ) → settle_passes shape.rules false h ≡ true → found (codes "json") (settled shape.rules h).rows ≡ None
    → turn_passes shape [] (at h position) (codes "--json") ≡ true
unfolding clap_on_literals
json_passes h position settles none =
    and_true _ (ap₂ (λ x y. x && y) settles (first_use _ (no_row (codes "json") (settled shape.rules h).rows none)))

-- the first use of a flag
serial_step : (stats json : Bool) (operands : List Text) (w : Walk) → Stands false stats json operands w → Steps w (codes "--serial") true stats json operands
serial_step stats json operands w st =
    let position = suc (length operands) in
    let rows = (settled shape.rules st.held).rows in
    let none : found (codes "serial") rows ≡ None = st.rows.serial_row in
    let others = used_others (codes "serial") AsWritten CommandLine (codes "true" ∷ []) rows none in
    subst (λ (v : Walk). Steps v (codes "--serial") true stats json operands) (sym st.is) (
      serial_passes st.held position st.settles none,
      record {
        held = reacted shape.rules serial_rule [] st.held;
        is = serial_walked st.held position;
        settles = refl;
        rows = record {
          serial_row = used_found (codes "serial") AsWritten CommandLine (codes "true" ∷ []) rows none refl;
          stats_row = others (codes "stats") refl ∙ st.rows.stats_row;
          json_row = others (codes "json") refl ∙ st.rows.json_row;
          script_row = others (codes "script") refl ∙ st.rows.script_row;
          recording_row = others (codes "recording") refl ∙ st.rows.recording_row;
        };
      },
    )

stats_step : (serial json : Bool) (operands : List Text) (w : Walk) → Stands serial false json operands w → Steps w (codes "--stats") serial true json operands
stats_step serial json operands w st =
    let position = suc (length operands) in
    let rows = (settled shape.rules st.held).rows in
    let none : found (codes "stats") rows ≡ None = st.rows.stats_row in
    let others = used_others (codes "stats") AsWritten CommandLine (codes "true" ∷ []) rows none in
    subst (λ (v : Walk). Steps v (codes "--stats") serial true json operands) (sym st.is) (
      stats_passes st.held position st.settles none,
      record {
        held = reacted shape.rules stats_rule [] st.held;
        is = stats_walked st.held position;
        settles = refl;
        rows = record {
          serial_row = others (codes "serial") refl ∙ st.rows.serial_row;
          stats_row = used_found (codes "stats") AsWritten CommandLine (codes "true" ∷ []) rows none refl;
          json_row = others (codes "json") refl ∙ st.rows.json_row;
          script_row = others (codes "script") refl ∙ st.rows.script_row;
          recording_row = others (codes "recording") refl ∙ st.rows.recording_row;
        };
      },
    )

json_step : (serial stats : Bool) (operands : List Text) (w : Walk) → Stands serial stats false operands w → Steps w (codes "--json") serial stats true operands
json_step serial stats operands w st =
    let position = suc (length operands) in
    let rows = (settled shape.rules st.held).rows in
    let none : found (codes "json") rows ≡ None = st.rows.json_row in
    let others = used_others (codes "json") AsWritten CommandLine (codes "true" ∷ []) rows none in
    subst (λ (v : Walk). Steps v (codes "--json") serial stats true operands) (sym st.is) (
      json_passes st.held position st.settles none,
      record {
        held = reacted shape.rules json_rule [] st.held;
        is = json_walked st.held position;
        settles = refl;
        rows = record {
          serial_row = others (codes "serial") refl ∙ st.rows.serial_row;
          stats_row = others (codes "stats") refl ∙ st.rows.stats_row;
          json_row = used_found (codes "json") AsWritten CommandLine (codes "true" ∷ []) rows none refl;
          script_row = others (codes "script") refl ∙ st.rows.script_row;
          recording_row = others (codes "recording") refl ∙ st.rows.recording_row;
        };
      },
    )

pub script_one : IsOne script_rule
script_one = record { multiple = refl; several = refl; trailing = refl }

pub recording_one : IsOne recording_rule
recording_one = record { multiple = refl; several = refl; trailing = refl }

-- the two operands
script_step : (word : Text) → is_operand word ≡ true → (serial stats json : Bool) (w : Walk) → Stands serial stats json [] w
    → Steps w word serial stats json (word ∷ [])
script_step word operand serial stats json w st =
    let rows = (settled shape.rules st.held).rows in
    let none : found (codes "script") rows ≡ None = st.rows.script_row in
    let others = used_others (codes "script") AsWritten CommandLine (word ∷ []) rows none in
    subst (λ (v : Walk). Steps v word serial stats json (word ∷ [])) (sym st.is) (
      operand_passes shape st.held 1 word operand script_rule refl st.settles,
      record {
        held = operand_held shape.rules script_rule word st.held;
        is = walked_operand shape st.held 1 word operand script_rule refl script_one;
        settles = first_use _ (no_row (codes "script") rows none);
        rows = record {
          serial_row = others (codes "serial") refl ∙ st.rows.serial_row;
          stats_row = others (codes "stats") refl ∙ st.rows.stats_row;
          json_row = others (codes "json") refl ∙ st.rows.json_row;
          script_row = used_found (codes "script") AsWritten CommandLine (word ∷ []) rows none refl;
          recording_row = others (codes "recording") refl ∙ st.rows.recording_row;
        };
      },
    )

recording_step : (word : Text) → is_operand word ≡ true → (serial stats json : Bool) (script : Text) (w : Walk) → Stands serial stats json (script ∷ []) w
    → Steps w word serial stats json (script ∷ word ∷ [])
recording_step word operand serial stats json script w st =
    let rows = (settled shape.rules st.held).rows in
    let none : found (codes "recording") rows ≡ None = st.rows.recording_row in
    let others = used_others (codes "recording") AsWritten CommandLine (word ∷ []) rows none in
    subst (λ (v : Walk). Steps v word serial stats json (script ∷ word ∷ [])) (sym st.is) (
      operand_passes shape st.held 2 word operand recording_rule refl st.settles,
      record {
        held = operand_held shape.rules recording_rule word st.held;
        is = walked_operand shape st.held 2 word operand recording_rule refl recording_one;
        settles = first_use _ (no_row (codes "recording") rows none);
        rows = record {
          serial_row = others (codes "serial") refl ∙ st.rows.serial_row;
          stats_row = others (codes "stats") refl ∙ st.rows.stats_row;
          json_row = others (codes "json") refl ∙ st.rows.json_row;
          script_row = others (codes "script") refl ∙ st.rows.script_row;
          recording_row = used_found (codes "recording") AsWritten CommandLine (word ∷ []) rows none refl;
        };
      },
    )

-- ---- all words

abbrev pub used : Bool → ℕ
used flag = cond flag 1 0

-- from where words stand, those that may come are taken, and are there after them
abbrev pub Reads : List Text → Type 0
Reads words = (serial stats json : Bool) (operands : List Text) (w : Walk) → Stands serial stats json operands w → list_all has_place_in_run words ≡ true
    → used serial + count_by is_serial words ≤ 1 → used stats + count_by is_stats words ≤ 1 → used json + count_by is_json words ≤ 1
    → length operands + length (filter is_operand words) ≡ 2
    → (walk_passes shape [] w words ≡ true)
    × Stands (serial || nat_le 1 (count_by is_serial words)) (stats || nat_le 1 (count_by is_stats words)) (json || nat_le 1 (count_by is_json words))
    (operands ++ filter is_operand words) (fold (walked shape.rules []) w words)

pub or_false : (a : Bool) → (a || false) ≡ a
or_false true = refl
or_false false = refl

-- one word, and those behind it
then_more : (w : Walk) (word : Text) (rest : List Text) → turn_passes shape [] w word ≡ true → walk_passes shape [] (walked shape.rules [] w word) rest ≡ true
    → walk_passes shape [] w (word ∷ rest) ≡ true
unfolding walk_passes
then_more w word rest now later = ap₂ (λ a b. a && b) now later

reads_none : Reads []
unfolding walk_passes
reads_none serial stats json operands w st all few_serial few_stats few_json two = (
  refl,
  subst (λ (a : Bool). Stands a (stats || false) (json || false) (operands ++ []) w) (sym (or_false serial))
      (subst (λ (b : Bool). Stands serial b (json || false) (operands ++ []) w) (sym (or_false stats))
      (subst (λ (c : Bool). Stands serial stats c (operands ++ []) w) (sym (or_false json))
      (subst (λ (xs : List Text). Stands serial stats json xs w) (sym (append-nil operands)) st))),
)

pub count_cons : (p : Text → Bool) (word : Text) (rest : List Text) → count_by p (word ∷ rest) ≡ cond (p word) 1 0 + count_by p rest
count_cons p word rest = sum_by-cons (λ w. cond (p w) 1 0) word rest

pub is_there : (n : ℕ) → 1 ≤ n → nat_le 1 n ≡ true
is_there n h = grind (arith, nat_tests)

reads_serial : (rest : List Text) → Reads rest → Reads (codes "--serial" ∷ rest)
reads_serial rest more true stats json operands w st all few_serial few_stats few_json two =
    absurd (omega (arith, few_serial, count_cons is_serial (codes "--serial") rest))
reads_serial rest more false stats json operands w st all few_serial few_stats few_json two =
    let one = count_cons is_serial (codes "--serial") rest in
    let step = serial_step stats json operands w st in
    let later = more true stats json operands (walked shape.rules [] w (codes "--serial")) step.1 all (omega (arith, few_serial, one)) few_stats few_json two in
    let there = is_there (count_by is_serial (codes "--serial" ∷ rest)) (omega (arith, one)) in
    (then_more w (codes "--serial") rest step.0 later.0, rw there later.1)

reads_stats : (rest : List Text) → Reads rest → Reads (codes "--stats" ∷ rest)
reads_stats rest more serial true json operands w st all few_serial few_stats few_json two =
    absurd (omega (arith, few_stats, count_cons is_stats (codes "--stats") rest))
reads_stats rest more serial false json operands w st all few_serial few_stats few_json two =
    let one = count_cons is_stats (codes "--stats") rest in
    let step = stats_step serial json operands w st in
    let later = more serial true json operands (walked shape.rules [] w (codes "--stats")) step.1 all few_serial (omega (arith, few_stats, one)) few_json two in
    let there = is_there (count_by is_stats (codes "--stats" ∷ rest)) (omega (arith, one)) in
    (then_more w (codes "--stats") rest step.0 later.0, rw there later.1)

reads_json : (rest : List Text) → Reads rest → Reads (codes "--json" ∷ rest)
reads_json rest more serial stats true operands w st all few_serial few_stats few_json two =
    absurd (omega (arith, few_json, count_cons is_json (codes "--json") rest))
reads_json rest more serial stats false operands w st all few_serial few_stats few_json two =
    let one = count_cons is_json (codes "--json") rest in
    let step = json_step serial stats operands w st in
    let later = more serial stats true operands (walked shape.rules [] w (codes "--json")) step.1 all few_serial few_stats (omega (arith, few_json, one)) two in
    let there = is_there (count_by is_json (codes "--json" ∷ rest)) (omega (arith, one)) in
    (then_more w (codes "--json") rest step.0 later.0, rw there later.1)

-- an operand is no option, so it changes no count
pub no_option : (option word : Text) → is_operand (45 ∷ option) ≡ false → is_operand word ≡ true → bytes_eq word (45 ∷ option) ≡ false
no_option option [] is operand = refl
no_option option (x ∷ xs) is operand = rw (not_true (x == 45) operand) refl

pub count_less : (p : Text → Bool) (word : Text) (rest : List Text) → p word ≡ false → count_by p (word ∷ rest) ≡ count_by p rest
count_less p word rest not_it = rw not_it refl

-- what the rule says of an operand and the words behind it
abbrev Behind : Text → List Text → Type 0
Behind word rest = (count_by is_serial (word ∷ rest) ≡ count_by is_serial rest) × (count_by is_stats (word ∷ rest) ≡ count_by is_stats rest)
    × (count_by is_json (word ∷ rest) ≡ count_by is_json rest) × (filter is_operand (word ∷ rest) ≡ word ∷ filter is_operand rest)

behind : (word : Text) (rest : List Text) → is_operand word ≡ true → Behind word rest
behind word rest operand = (
  count_less is_serial word rest (no_option _ word refl operand),
  count_less is_stats word rest (no_option _ word refl operand),
  count_less is_json word rest (no_option _ word refl operand),
  rw operand refl,
)

reads_operand : (word : Text) (rest : List Text) → is_operand word ≡ true → Reads rest → Reads (word ∷ rest)
reads_operand word rest operand more serial stats json [] w st all few_serial few_stats few_json two =
    let b = behind word rest operand in
    let step = script_step word operand serial stats json w st in
    let later = more serial stats json (word ∷ []) (walked shape.rules [] w word) step.1 (both _ _ all).1 (omega (arith, few_serial, b.0))
    (omega (arith, few_stats, b.1)) (omega (arith, few_json, b.2)) (omega (arith, two, ap length b.3)) in
    (then_more w word rest step.0 later.0, rw (b.0, b.1, b.2, b.3) later.1)
reads_operand word rest operand more serial stats json (script ∷ []) w st all few_serial few_stats few_json two =
    let b = behind word rest operand in
    let step = recording_step word operand serial stats json script w st in
    let later = more serial stats json (script ∷ word ∷ []) (walked shape.rules [] w word) step.1 (both _ _ all).1 (omega (arith, few_serial, b.0))
    (omega (arith, few_stats, b.1)) (omega (arith, few_json, b.2)) (omega (arith, two, ap length b.3)) in
    (then_more w word rest step.0 later.0, rw (b.0, b.1, b.2, b.3) later.1)
reads_operand word rest operand more serial stats json (x ∷ y ∷ more_operands) w st all few_serial few_stats few_json two =
    let b = behind word rest operand in
    absurd (omega (arith, two, ap length b.3))

-- what may stand behind `run`
abbrev IsRunWord : Text → Type 0
IsRunWord word = (is_operand word ≡ true) ⊎ ((word ≡ codes "--serial") ⊎ ((word ≡ codes "--stats") ⊎ (word ≡ codes "--json")))

kinds : (word : Text) → has_place_in_run word ≡ true → IsRunWord word
kinds word h = go (is_operand word) refl (is_serial word) refl (is_stats word) refl h
  where
    go : (a : Bool) → is_operand word ≡ a → (b : Bool) → is_serial word ≡ b → (c : Bool) → is_stats word ≡ c → (a || (b || (c || is_json word))) ≡ true
        → IsRunWord word
    go true e b f c g h = inl e
    go false e true f c g h = inr (inl ((bytes_eq-Decides word (codes "--serial")).0 f))
    go false e false f true g h = inr (inr (inl ((bytes_eq-Decides word (codes "--stats")).0 g)))
    go false e false f false g h = inr (inr (inr ((bytes_eq-Decides word (codes "--json")).0 h)))

pub reads : (words : List Text) → list_all has_place_in_run words ≡ true → Reads words
reads [] all = reads_none
reads (word ∷ rest) all = elim (kinds word (both _ _ all).0) [
  | inl operand ↦ reads_operand word rest operand (reads rest (both _ _ all).1)
  | inr (inl e) ↦ subst (λ (x : Text). Reads (x ∷ rest)) (sym e) (reads_serial rest (reads rest (both _ _ all).1))
  | inr (inr (inl e)) ↦ subst (λ (x : Text). Reads (x ∷ rest)) (sym e) (reads_stats rest (reads rest (both _ _ all).1))
  | inr (inr (inr e)) ↦ subst (λ (x : Text). Reads (x ∷ rest)) (sym e) (reads_json rest (reads rest (both _ _ all).1))
]
