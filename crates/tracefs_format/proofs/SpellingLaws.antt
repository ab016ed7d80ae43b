-- Lines: what is read on a line is spelled there, and what is spelled there is read.
use Rattle.std.proofs.Common.{◌≡◌, ℕ, ◌≤◌, Bool, true, false, cond, not, eqb, ◌&&◌, List, [], ◌∷◌, ◌++◌, length, Option, Some, None, refl, ap, sym, subst, ◌∙◌, arith, eq-eqb}
use Rattle.std.specs.Prelude.{◌==◌, nat_lt, nat_le, codes}
use Rattle.bt_core.specs.Bytes.{is_digit, is_word_byte}
use Rattle.std.specs.List.{list_all}
use Rattle.std.specs.Option.{option_map}
use Rattle.std.specs.Str.{bytes_eq}
use Rattle.std.proofs.lemmas.Bool.{eqb-true, leb-true, le-leb, lt-ltb, and_parts, and_from}
use Rattle.std.proofs.lemmas.List.{nil_from_length}
use Rattle.event_layout.specs.declared.field.FieldKind.{FieldKind}
use Rattle.std.proofs.lemmas.Slice.Eq.{bytes_eq-Decides}
use Rattle.event_layout.specs.Bytes.{is_blank, without_front, longest_beginning, cut_at, after, labelled, decimal_value, number_in, flag_in}
use Rattle.event_layout.specs.Declarations.{declared_name, declared_kind}
use Rattle.event_layout.specs.FieldLines.{Description, IsLabelled, IsNumber, IsFieldLine, flag_bytes}
use Rattle.event_layout.specs.Lines.{AreBlanks, IsWord, IsDecimal, IsNameLine, IsIdLine}
use Rattle.event_layout.specs.Reading.{◌>>=◌, word_in, name_on, id_on, number_after, flag_after, field_on}
use Rattle.tracefs_format.proofs.BytesLemmas.{with_first, front_parts, after-append, after-parts}
use Rattle.tracefs_format.proofs.StripLaws.{IsLabel, labelled-IsLabelled, IsLabelled-labelled, list_all-both, list_all-parts, list_all-weaker, all-longest_beginning, without_front-append, some_is}

-- the value of a step that found something
pub bind_some : {A B : Type 0} (o : Option A) (f : A → Option B) (y : B) → (o >>= f) ≡ Some y → (x : A) × (o ≡ Some x) × (f x ≡ Some y)
bind_some None f y h = absurd cc
bind_some (Some x) f y h = (x, refl, h)

-- a choice that found something
chosen : {A : Type 0} (b : Bool) (x y : A) → cond b (Some x) None ≡ Some y → (b ≡ true) × (x ≡ y)
chosen true x y h = (refl, cc)
chosen false x y h = absurd cc

-- ---- numbers and flags

pub number_in-IsDecimal : (greatest : ℕ) (bytes : List ℕ) (n : ℕ) → number_in greatest bytes ≡ Some n → IsDecimal bytes n × (n ≤ greatest)
number_in-IsDecimal greatest [] n h = absurd cc
number_in-IsDecimal greatest (b ∷ bs) n h =
    let found = chosen (list_all is_digit (b ∷ bs) && nat_le (decimal_value (b ∷ bs)) greatest) (decimal_value (b ∷ bs)) n h in
    let parts = and_parts (list_all is_digit (b ∷ bs)) (nat_le (decimal_value (b ∷ bs)) greatest) found.0 in
    (record { some = λ e. cc; digits_only = parts.0; value = sym found.1 }, subst (λ m. m ≤ greatest) found.1 (leb-true (decimal_value (b ∷ bs)) greatest parts.1))

pub IsDecimal-number_in : (greatest : ℕ) (bytes : List ℕ) (n : ℕ) → IsDecimal bytes n → n ≤ greatest → number_in greatest bytes ≡ Some n
IsDecimal-number_in greatest [] n d h = absurd (d.some refl)
IsDecimal-number_in greatest (b ∷ bs) n d h =
    let fits : nat_le (decimal_value (b ∷ bs)) greatest ≡ true = le-leb (decimal_value (b ∷ bs)) greatest (subst (λ m. m ≤ greatest) d.value h) in
    let both : (list_all is_digit (b ∷ bs) && nat_le (decimal_value (b ∷ bs)) greatest) ≡ true = and_from (list_all is_digit (b ∷ bs)) (nat_le (decimal_value (b ∷ bs)) greatest) d.digits_only fits in
    ap (λ v. cond v (Some (decimal_value (b ∷ bs))) None) both ∙ ap Some (sym d.value)

pub flag_in-flag_bytes : (bytes : List ℕ) (flag : Bool) → flag_in bytes ≡ Some flag → bytes ≡ flag_bytes flag
flag_in-flag_bytes bytes flag h =
    (elim (bytes_eq bytes (codes "0")) as (λ v. bytes_eq bytes (codes "0") ≡ v → cond v (Some false) (cond (bytes_eq bytes (codes "1")) (Some true) None) ≡ Some flag → bytes ≡ flag_bytes flag) [
      | true ↦ λ e g. (bytes_eq-Decides bytes (codes "0")).0 e ∙ ap flag_bytes (some_is g)
      | false ↦ λ e g. let found = chosen (bytes_eq bytes (codes "1")) true flag g in (bytes_eq-Decides bytes (codes "1")).0 found.0 ∙ ap flag_bytes found.1
    ]) refl h

pub flag_bytes-flag_in : (flag : Bool) → flag_in (flag_bytes flag) ≡ Some flag
flag_bytes-flag_in true = refl
flag_bytes-flag_in false = refl

-- ---- cuts at a semicolon

abbrev pub is_other : ℕ → ℕ → Bool
is_other byte b = not (b == byte)

abbrev pub IsCut : ℕ → List ℕ → List ℕ × List ℕ → Type 0
IsCut byte xs parts = (xs ≡ parts.0 ++ byte ∷ parts.1) × (list_all (is_other byte) parts.0 ≡ true)

cut_with : (byte x : ℕ) (xs : List ℕ) (wanted : List ℕ × List ℕ) (o : Option (List ℕ × List ℕ)) → is_other byte x ≡ true → ((parts : List ℕ × List ℕ) → o ≡ Some parts → IsCut byte xs parts)
    → option_map (with_first x) o ≡ Some wanted → IsCut byte (x ∷ xs) wanted
cut_with byte x xs wanted None other h e = absurd cc
cut_with byte x xs wanted (Some parts) other h e =
    let found = h parts refl in
    subst (IsCut byte (x ∷ xs)) (some_is e) (ap (λ l. x ∷ l) found.0, and_from (is_other byte x) (list_all (is_other byte) parts.0) other found.1)

pub cut_at-parts : (byte : ℕ) (xs : List ℕ) (wanted : List ℕ × List ℕ) → cut_at byte xs ≡ Some wanted → IsCut byte xs wanted
cut_at-parts byte [] wanted h = absurd cc
cut_at-parts byte (x ∷ xs) wanted h =
    let here : List ℕ × List ℕ = ([], xs) in
    (elim (eqb x byte) as (λ v. eqb x byte ≡ v → cond v (Some here) (option_map (with_first x) (cut_at byte xs)) ≡ Some wanted → IsCut byte (x ∷ xs) wanted) [
      | true ↦ λ e g. subst (IsCut byte (x ∷ xs)) (some_is g) (ap (λ b. b ∷ xs) (eqb-true x byte e), refl)
      | false ↦ λ e g. cut_with byte x xs wanted (cut_at byte xs) (ap not e) (cut_at-parts byte xs) g
    ]) refl h

pub parts-cut_at : (byte : ℕ) (front rest : List ℕ) → list_all (is_other byte) front ≡ true → cut_at byte (front ++ byte ∷ rest) ≡ Some (front, rest)
parts-cut_at byte [] rest h = rw (eq-eqb byte byte refl) refl
parts-cut_at byte (x ∷ front) rest h =
    let parts = and_parts (is_other byte x) (list_all (is_other byte) front) h in
    let differs : eqb x byte ≡ false = elim (eqb x byte) as (λ v. not v ≡ true → v ≡ false) [ true ↦ λ k. absurd cc | false ↦ λ k. refl ] parts.0 in
    rw differs (ap (option_map (with_first x)) (parts-cut_at byte front rest parts.1))

-- ---- what isn't a semicolon

blank_other : (b : ℕ) → is_blank b ≡ true → is_other 59 b ≡ true
blank_other b h = grind arith

digit_other : (b : ℕ) → is_digit b ≡ true → is_other 59 b ≡ true
digit_other b h = grind arith

blanks_other : (bs : List ℕ) → AreBlanks bs → list_all (is_other 59) bs ≡ true
blanks_other = list_all-weaker is_blank (is_other 59) blank_other

-- a labelled part without a semicolon in its label or value has none
labelled_other : (label value part : List ℕ) → IsLabelled label value part → list_all (is_other 59) label ≡ true → list_all (is_other 59) value ≡ true → list_all (is_other 59) part ≡ true
labelled_other label value part s h k =
    ap (list_all (is_other 59)) s.spelling
    ∙ list_all-both (is_other 59) s.before (label ++ (s.between ++ (value ++ s.behind))) (blanks_other s.before s.blank_before)
    (list_all-both (is_other 59) label (s.between ++ (value ++ s.behind)) h
    (list_all-both (is_other 59) s.between (value ++ s.behind) (blanks_other s.between s.blank_between)
    (list_all-both (is_other 59) value s.behind k (blanks_other s.behind s.blank_behind))))

-- and one whose part has none has none in its value
value_other : (label value part : List ℕ) → IsLabelled label value part → list_all (is_other 59) part ≡ true → list_all (is_other 59) value ≡ true
value_other label value part s h =
    let whole = sym (ap (list_all (is_other 59)) s.spelling) ∙ h in
    let one = list_all-parts (is_other 59) s.before (label ++ (s.between ++ (value ++ s.behind))) whole in
    let two = list_all-parts (is_other 59) label (s.between ++ (value ++ s.behind)) one.1 in
    let three = list_all-parts (is_other 59) s.between (value ++ s.behind) two.1 in
    (list_all-parts (is_other 59) value s.behind three.1).0

-- ---- the parts of a field line

pub number_after-IsNumber : (label part : List ℕ) (n : ℕ) → number_after label part ≡ Some n → IsNumber label n part
unfolding number_after
number_after-IsNumber label part n h =
    let found = bind_some (labelled label part) (number_in 4294967295) n h in
    let number = number_in-IsDecimal 4294967295 found.0 n found.2 in
    record { digits = found.0; labelled = labelled-IsLabelled label part found.0 found.1; decimal = number.0; within = number.1 }

pub IsNumber-number_after : (label part : List ℕ) (n : ℕ) → IsLabel label → IsNumber label n part → number_after label part ≡ Some n
unfolding number_after
IsNumber-number_after label part n keeps s =
    ap (λ o. o >>= number_in 4294967295) (IsLabelled-labelled label part s.digits keeps s.labelled) ∙ IsDecimal-number_in 4294967295 s.digits n s.decimal s.within

pub flag_after-IsLabelled : (label part : List ℕ) (flag : Bool) → flag_after label part ≡ Some flag → IsLabelled label (flag_bytes flag) part
unfolding flag_after
flag_after-IsLabelled label part flag h =
    let found = bind_some (labelled label part) flag_in flag h in
    subst (λ value. IsLabelled label value part) (flag_in-flag_bytes found.0 flag found.2) (labelled-IsLabelled label part found.0 found.1)

pub IsLabelled-flag_after : (label part : List ℕ) (flag : Bool) → IsLabel label → IsLabelled label (flag_bytes flag) part → flag_after label part ≡ Some flag
unfolding flag_after
IsLabelled-flag_after label part flag keeps s = ap (λ o. o >>= flag_in) (IsLabelled-labelled label part (flag_bytes flag) keeps s) ∙ flag_bytes-flag_in flag

-- ---- a field line

is_label_field : IsLabel (codes "field:")
is_label_field = record { at_front = λ rest. refl; at_end = λ rest. refl }

is_label_offset : IsLabel (codes "offset:")
is_label_offset = record { at_front = λ rest. refl; at_end = λ rest. refl }

is_label_size : IsLabel (codes "size:")
is_label_size = record { at_front = λ rest. refl; at_end = λ rest. refl }

is_label_signed : IsLabel (codes "signed:")
is_label_signed = record { at_front = λ rest. refl; at_end = λ rest. refl }

-- what the parts of a field line say
abbrev pub said : List ℕ → ℕ → ℕ → Bool → Description
said declaration offset size signed = record { name = declared_name declaration; offset = offset; size = size; signed = signed; kind = declared_kind declaration size }

abbrev last_part : List ℕ → ℕ → ℕ → List ℕ × List ℕ → Bool → Option Description
last_part declaration offset size fourth signed = cond (length fourth.1 == 0) (Some (said declaration offset size signed)) None

abbrev from_fourth : List ℕ → ℕ → ℕ → List ℕ → Option Description
from_fourth declaration offset size text = cut_at 59 text >>= λ fourth. flag_after (codes "signed:") fourth.0 >>= last_part declaration offset size fourth

abbrev from_third : List ℕ → ℕ → List ℕ → Option Description
from_third declaration offset text = cut_at 59 text >>= λ third. number_after (codes "size:") third.0 >>= λ size. from_fourth declaration offset size third.1

abbrev from_second : List ℕ → List ℕ → Option Description
from_second declaration text = cut_at 59 text >>= λ second. number_after (codes "offset:") second.0 >>= λ offset. from_third declaration offset second.1

abbrev from_first : List ℕ → Option Description
from_first text = cut_at 59 text >>= λ first. labelled (codes "field:") first.0 >>= λ declaration. from_second declaration first.1

field_on-steps : (line : List ℕ) → field_on line ≡ from_first line
unfolding field_on
field_on-steps line = refl

-- the parts of a line, each cut off what the one before left
four_parts : (line first after1 second after2 third after3 fourth after4 : List ℕ) → line ≡ first ++ 59 ∷ after1 → after1 ≡ second ++ 59 ∷ after2 → after2 ≡ third ++ 59 ∷ after3
    → after3 ≡ fourth ++ 59 ∷ after4 → after4 ≡ [] → line ≡ first ++ (59 ∷ (second ++ (59 ∷ (third ++ (59 ∷ (fourth ++ 59 ∷ []))))))
four_parts line first after1 second after2 third after3 fourth after4 is1 is2 is3 is4 none =
    is1 ∙ ap (λ l. first ++ (59 ∷ l)) (is2 ∙ ap (λ l. second ++ (59 ∷ l)) (is3 ∙ ap (λ l. third ++ (59 ∷ l)) (is4 ∙ ap (λ l. fourth ++ 59 ∷ l) none)))

pub field_on-IsFieldLine : (line : List ℕ) (d : Description) → field_on line ≡ Some d → IsFieldLine line d
field_on-IsFieldLine line d h =
    let cut1 = bind_some (cut_at 59 line) (λ first. labelled (codes "field:") first.0 >>= λ declaration. from_second declaration first.1) d (sym (field_on-steps line) ∙ h) in
    let first = cut1.0 in
    let read1 = bind_some (labelled (codes "field:") first.0) (λ declaration. from_second declaration first.1) d cut1.2 in
    let declaration = read1.0 in
    let cut2 = bind_some (cut_at 59 first.1) (λ second. number_after (codes "offset:") second.0 >>= λ offset. from_third declaration offset second.1) d read1.2 in
    let second = cut2.0 in
    let read2 = bind_some (number_after (codes "offset:") second.0) (λ offset. from_third declaration offset second.1) d cut2.2 in
    let offset = read2.0 in
    let cut3 = bind_some (cut_at 59 second.1) (λ third. number_after (codes "size:") third.0 >>= λ size. from_fourth declaration offset size third.1) d read2.2 in
    let third = cut3.0 in
    let read3 = bind_some (number_after (codes "size:") third.0) (λ size. from_fourth declaration offset size third.1) d cut3.2 in
    let size = read3.0 in
    let cut4 = bind_some (cut_at 59 third.1) (λ fourth. flag_after (codes "signed:") fourth.0 >>= last_part declaration offset size fourth) d read3.2 in
    let fourth = cut4.0 in
    let read4 = bind_some (flag_after (codes "signed:") fourth.0) (last_part declaration offset size fourth) d cut4.2 in
    let signed = read4.0 in
    let ended = chosen (length fourth.1 == 0) (said declaration offset size signed) d read4.2 in
    let none : fourth.1 ≡ [] = nil_from_length fourth.1 (eqb-true (length fourth.1) 0 ended.0) in
    let is1 = cut_at-parts 59 line first cut1.1 in
    let is2 = cut_at-parts 59 first.1 second cut2.1 in
    let is3 = cut_at-parts 59 second.1 third cut3.1 in
    let is4 = cut_at-parts 59 third.1 fourth cut4.1 in
    let spelled1 = labelled-IsLabelled (codes "field:") first.0 declaration read1.1 in
    subst (IsFieldLine line) {x = said declaration offset size signed} ended.1 (record {
      first = first.0;
      second = second.0;
      third = third.0;
      fourth = fourth.0;
      parts = four_parts line first.0 first.1 second.0 second.1 third.0 third.1 fourth.0 fourth.1 is1.0 is2.0 is3.0 is4.0 none;
      declaration = declaration;
      declared = spelled1;
      no_semicolon = value_other (codes "field:") declaration first.0 spelled1 is1.1;
      name = refl {a = declared_name declaration};
      offset = number_after-IsNumber (codes "offset:") second.0 offset read2.1;
      size = number_after-IsNumber (codes "size:") third.0 size read3.1;
      signed = flag_after-IsLabelled (codes "signed:") fourth.0 signed read4.1;
      kind = refl {a = declared_kind declaration size};
    })

number_other : (label part : List ℕ) (n : ℕ) → IsNumber label n part → list_all (is_other 59) label ≡ true → list_all (is_other 59) part ≡ true
number_other label part n s h = labelled_other label s.digits part s.labelled h (list_all-weaker is_digit (is_other 59) digit_other s.digits s.decimal.digits_only)

flag_other : (flag : Bool) → list_all (is_other 59) (flag_bytes flag) ≡ true
flag_other true = refl
flag_other false = refl

pub IsFieldLine-field_on : (line : List ℕ) (d : Description) → IsFieldLine line d → field_on line ≡ Some d
IsFieldLine-field_on line d s =
    let after3 = s.fourth ++ 59 ∷ [] in
    let after2 = s.third ++ 59 ∷ after3 in
    let after1 = s.second ++ 59 ∷ after2 in
    let cut1 : cut_at 59 line ≡ Some (s.first, after1) = ap (cut_at 59) s.parts ∙ parts-cut_at 59 s.first after1 (labelled_other (codes "field:") s.declaration s.first s.declared refl s.no_semicolon) in
    let cut2 : cut_at 59 after1 ≡ Some (s.second, after2) = parts-cut_at 59 s.second after2 (number_other (codes "offset:") s.second d.offset s.offset refl) in
    let cut3 : cut_at 59 after2 ≡ Some (s.third, after3) = parts-cut_at 59 s.third after3 (number_other (codes "size:") s.third d.size s.size refl) in
    let cut4 : cut_at 59 after3 ≡ Some (s.fourth, []) = parts-cut_at 59 s.fourth [] (labelled_other (codes "signed:") (flag_bytes d.signed) s.fourth s.signed refl (flag_other d.signed)) in
    let read1 = IsLabelled-labelled (codes "field:") s.first s.declaration is_label_field s.declared in
    let read2 = IsNumber-number_after (codes "offset:") s.second d.offset is_label_offset s.offset in
    let read3 = IsNumber-number_after (codes "size:") s.third d.size is_label_size s.size in
    let read4 = IsLabelled-flag_after (codes "signed:") s.fourth d.signed is_label_signed s.signed in
    let one : field_on line ≡ from_second s.declaration after1 = field_on-steps line ∙ ap (λ o. o >>= λ first. labelled (codes "field:") first.0 >>= λ declaration. from_second declaration first.1) cut1 ∙ ap (λ o. o >>= λ declaration. from_second declaration after1) read1 in
    let two : from_second s.declaration after1 ≡ from_third s.declaration d.offset after2 = ap (λ o. o >>= λ second. number_after (codes "offset:") second.0 >>= λ offset. from_third s.declaration offset second.1) cut2 ∙ ap (λ o. o >>= λ offset. from_third s.declaration offset after2) read2 in
    let three : from_third s.declaration d.offset after2 ≡ from_fourth s.declaration d.offset d.size after3 = ap (λ o. o >>= λ third. number_after (codes "size:") third.0 >>= λ size. from_fourth s.declaration d.offset size third.1) cut3 ∙ ap (λ o. o >>= λ size. from_fourth s.declaration d.offset size after3) read3 in
    let four : from_fourth s.declaration d.offset d.size after3 ≡ Some (said s.declaration d.offset d.size d.signed) = ap (λ o. o >>= λ fourth. flag_after (codes "signed:") fourth.0 >>= last_part s.declaration d.offset d.size fourth) cut4 ∙ ap (λ o. o >>= last_part s.declaration d.offset d.size (s.fourth, [])) read4 in
    let named : List ℕ → Description = λ n. record { name = n; offset = d.offset; size = d.size; signed = d.signed; kind = declared_kind s.declaration d.size } in
    let kinded : FieldKind → Description = λ k. record { name = d.name; offset = d.offset; size = d.size; signed = d.signed; kind = k } in
    let whole : said s.declaration d.offset d.size d.signed ≡ d = ap named (sym s.name) ∙ ap kinded (sym s.kind) in
    one ∙ two ∙ three ∙ four ∙ ap Some whole

-- ---- the first two lines

word_not_blank : (b : ℕ) → is_word_byte b ≡ true → is_blank b ≡ false
word_not_blank b h = grind arith

word_kept : (bytes : List ℕ) → IsWord bytes → without_front is_blank bytes ≡ bytes
word_kept [] w = absurd (w.some refl)
word_kept (b ∷ bs) w = rw (word_not_blank b (and_parts (is_word_byte b) (list_all is_word_byte bs) w.word).0) refl

digit_not_blank : (b : ℕ) → is_digit b ≡ true → is_blank b ≡ false
digit_not_blank b h = grind arith

digits_kept : (bytes : List ℕ) (n : ℕ) → IsDecimal bytes n → without_front is_blank bytes ≡ bytes
digits_kept [] n d = absurd (d.some refl)
digits_kept (b ∷ bs) n d = rw (digit_not_blank b (and_parts (is_digit b) (list_all is_digit bs) d.digits_only).0) refl

word_in-IsWord : (bytes name : List ℕ) → word_in bytes ≡ Some name → (bytes ≡ name) × IsWord name
word_in-IsWord [] name h = absurd cc
word_in-IsWord (b ∷ bs) name h =
    let found = chosen (nat_lt 0 (length (b ∷ bs)) && list_all is_word_byte (b ∷ bs)) (b ∷ bs) name h in
    let parts = and_parts (nat_lt 0 (length (b ∷ bs))) (list_all is_word_byte (b ∷ bs)) found.0 in
    (found.1, subst IsWord found.1 (record { some = λ e. cc; word = parts.1 }))

IsWord-word_in : (name : List ℕ) → IsWord name → word_in name ≡ Some name
IsWord-word_in [] w = absurd (w.some refl)
IsWord-word_in (b ∷ bs) w = ap (λ v. cond v (Some (b ∷ bs)) None) (and_from (nat_lt 0 (length (b ∷ bs))) (list_all is_word_byte (b ∷ bs)) (lt-ltb 0 (length (b ∷ bs)) (omega arith)) w.word)

pub name_on-IsNameLine : (line name : List ℕ) → name_on line ≡ Some name → IsNameLine line name
unfolding name_on
name_on-IsNameLine line name h =
    let label = bind_some (after (codes "name:") line) (λ rest. word_in (without_front is_blank rest)) name h in
    let word = word_in-IsWord (without_front is_blank label.0) name label.2 in
    record {
      blanks = longest_beginning is_blank label.0;
      are_blanks = all-longest_beginning is_blank label.0;
      spelling = after-parts (codes "name:") line label.0 label.1 ∙ ap (λ l. codes "name:" ++ l) (sym (front_parts is_blank label.0) ∙ ap (λ l. longest_beginning is_blank label.0 ++ l) word.0);
      is_word = word.1;
    }

pub IsNameLine-name_on : (line name : List ℕ) → IsNameLine line name → name_on line ≡ Some name
unfolding name_on
IsNameLine-name_on line name s =
    ap (λ l. after (codes "name:") l >>= λ rest. word_in (without_front is_blank rest)) s.spelling
    ∙ ap (λ o. o >>= λ rest. word_in (without_front is_blank rest)) (after-append (codes "name:") (s.blanks ++ name))
    ∙ ap word_in (without_front-append is_blank s.blanks name s.are_blanks ∙ word_kept name s.is_word) ∙ IsWord-word_in name s.is_word

pub id_on-IsIdLine : (line : List ℕ) (id : ℕ) → id_on line ≡ Some id → IsIdLine line id
unfolding id_on
id_on-IsIdLine line id h =
    let label = bind_some (after (codes "ID:") line) (λ rest. number_in 65535 (without_front is_blank rest)) id h in
    let number = number_in-IsDecimal 65535 (without_front is_blank label.0) id label.2 in
    record {
      blanks = longest_beginning is_blank label.0;
      digits = without_front is_blank label.0;
      are_blanks = all-longest_beginning is_blank label.0;
      spelling = after-parts (codes "ID:") line label.0 label.1 ∙ ap (λ l. codes "ID:" ++ l) (sym (front_parts is_blank label.0));
      decimal = number.0;
      within = number.1;
    }

pub IsIdLine-id_on : (line : List ℕ) (id : ℕ) → IsIdLine line id → id_on line ≡ Some id
unfolding id_on
IsIdLine-id_on line id s =
    ap (λ l. after (codes "ID:") l >>= λ rest. number_in 65535 (without_front is_blank rest)) s.spelling
    ∙ ap (λ o. o >>= λ rest. number_in 65535 (without_front is_blank rest)) (after-append (codes "ID:") (s.blanks ++ s.digits))
    ∙ ap (number_in 65535) (without_front-append is_blank s.blanks s.digits s.are_blanks ∙ digits_kept s.digits id s.decimal) ∙ IsDecimal-number_in 65535 s.digits id s.decimal s.within
