-- What stands at the front of a format: what is read is a part, and each part is read.
use Rattle.std.proofs.Common.{◌≡◌, ◌++◌, ◌&&◌, ℕ, nat_eq, Bool, true, false, not, List, [], ◌∷◌, Option, Some, None, cond, refl, sym, ap, ◌∙◌, arith, append_assoc}
use Rattle.std.specs.Option.{option_map}
use Rattle.std.specs.Str.Parse.{digits_value}
use Rattle.std.proofs.lemmas.Bool.{eq-eqb, eqb-true}
use Rattle.std.proofs.lemmas.Bool.Decides.{nat_tests}
use Rattle.std.specs.List.{list_all}
use Rattle.bt_core.specs.Bytes.{is_digit}
use Rattle.fmt_text.specs.declared.conversion.Converted.{Converted}
use Rattle.fmt_text.specs.declared.conversion.Front.{Front}
use Rattle.fmt_text.specs.declared.conversion.Front.TheVariants.{Byte as Plain, Conversion as Shown}
use Rattle.fmt_text.specs.Formats.{Flags, NoFlag, Left, Zero, LeftZero, ZeroLeft, Size, NoSize, Char, Short, Long, LongLong, Spelling, spelling_text, IsConversion, Part, Byte, Percent, Converted as Conv, part_text, IsPart, part_piece, flags_text, size_text, has_left, has_zero, is_letter, is_text_letter, is_plain_number}
use Rattle.fmt_text.specs.Reading.{after_flag, Flagged, flags_at, width_after, after_size, letter_at, behind_width, behind_flags, conversion_at, behind_percent, front_of, front_piece, shown_front}
use Rattle.fmt_text.proofs.Stages.{Above, pair, flags_front, flags_read, FlagsRead, width_front, width_read, WidthRead, size_front, size_read, SizeRead, IsLetterByte, letter_byte, and_left, and_right, both_true, not_equal, none_some, some_first, some_second}

not_true : (a : Bool) → not a ≡ true → a ≡ false
not_true true h = cc
not_true false h = refl

not_false : (a : Bool) → a ≡ false → not a ≡ true
not_false true h = cc
not_false false h = refl

abbrev converted : Bool → Bool → ℕ → ℕ → Converted
converted left zero width letter = record { left = left; zero = zero; width = width; letter = letter }

-- letters

record LetterRead (left zero : Bool) (width : ℕ) (bytes : List ℕ) (c : Converted) (rest : List ℕ) : Type 0 where
  letter : ℕ
  spelled : bytes ≡ letter ∷ rest
  known : is_letter letter ≡ true
  filled : (zero && is_text_letter letter) ≡ false
  made : c ≡ converted left zero width letter

letter_front : (left zero : Bool) (width : ℕ) (bytes : List ℕ) (c : Converted) (rest : List ℕ) → letter_at left zero width bytes ≡ Some (pair c rest) → LetterRead left zero width bytes c rest
letter_front left zero width [] c rest h = absurd (none_some h)
letter_front left zero width (b ∷ bs) c rest h =
    let test = is_letter b && not (zero && is_text_letter b) in
    let found = converted left zero width b in
    let by : (v : Bool) → test ≡ v → cond v (Some (pair found bs)) None ≡ Some (pair c rest) → LetterRead left zero width (b ∷ bs) c rest =
    λ v. elim v as (λ v. test ≡ v → cond v (Some (pair found bs)) None ≡ Some (pair c rest) → LetterRead left zero width (b ∷ bs) c rest) [
      | true ↦ λ e f. record {
        letter = b;
        spelled = ap (λ (l : List ℕ). b ∷ l) (some_second found c bs rest f);
        known = and_left (is_letter b) (not (zero && is_text_letter b)) e;
        filled = not_true (zero && is_text_letter b) (and_right (is_letter b) (not (zero && is_text_letter b)) e);
        made = sym (some_first found c bs rest f);
      }
      | false ↦ λ e f. absurd (none_some f)
    ] in
    by test refl h

letter_read : (left zero : Bool) (width letter : ℕ) (rest : List ℕ) → is_letter letter ≡ true → (zero && is_text_letter letter) ≡ false
    → letter_at left zero width (letter ∷ rest) ≡ Some (pair (converted left zero width letter) rest)
letter_read left zero width letter rest known filled =
    ap (λ (v : Bool). cond v (Some (pair (converted left zero width letter) rest)) None)
    (both_true (is_letter letter) (not (zero && is_text_letter letter)) known (not_false (zero && is_text_letter letter) filled))

-- conversions

pub record ConversionRead (bytes : List ℕ) (c : Converted) (rest : List ℕ) : Type 0 where
  pub spelling : Spelling
  pub allowed : IsConversion spelling
  pub spelled : bytes ≡ flags_text spelling.flags ++ (spelling.width ++ (size_text spelling.size ++ spelling.letter ∷ rest))
  pub made : c ≡ converted (has_left spelling.flags) (has_zero spelling.flags) (digits_value 10 spelling.width) spelling.letter

-- a width that begins with no `0`
plain : (digits rest : List ℕ) → list_all is_digit digits ≡ true → (after_flag 48 (digits ++ rest)).0 ≡ false → is_plain_number digits ≡ true
plain [] rest all h = refl
plain (d ∷ ds) rest all h =
    elim (nat_eq d 48) as (λ v. (cond {A = Bool × List ℕ} v (true, ds ++ rest) (false, d ∷ (ds ++ rest))).0 ≡ false → (list_all is_digit (d ∷ ds) && not v) ≡ true)
    [ true ↦ λ e. cc | false ↦ λ e. both_true (list_all is_digit (d ∷ ds)) true all refl ] h

from_stages : (bytes : List ℕ) (f : Flagged) (width : ℕ) (behind : List ℕ) (c : Converted) (rest : List ℕ)
    → FlagsRead bytes f → WidthRead 0 f.rest width behind → (after_flag 48 f.rest).0 ≡ false → SizeRead behind (after_size behind)
    → LetterRead f.left f.zero width (after_size behind) c rest → ConversionRead bytes c rest
from_stages bytes f width behind c rest fr wr nz sr lr = record {
  spelling = record { flags = fr.flags; width = wr.digits; size = sr.size; letter = lr.letter };
  allowed = record {
    number = plain wr.digits behind wr.all (ap (λ (l : List ℕ). (after_flag 48 l).0) (sym wr.spelled) ∙ nz);
    narrow = let e = wr.value in omega (arith, e, wr.narrow);
    known = lr.known;
    filled = ap (λ (z : Bool). z && is_text_letter lr.letter) (sym fr.zero) ∙ lr.filled;
  };
  spelled = fr.spelled ∙ ap (λ (l : List ℕ). flags_text fr.flags ++ l)
      (wr.spelled ∙ ap (λ (l : List ℕ). wr.digits ++ l) (sr.spelled ∙ ap (λ (l : List ℕ). size_text sr.size ++ l) lr.spelled));
  made = lr.made ∙ (ap (λ (x : Bool). converted x f.zero width lr.letter) fr.left
      ∙ (ap (λ (x : Bool). converted (has_left fr.flags) x width lr.letter) fr.zero
      ∙ ap (λ (x : ℕ). converted (has_left fr.flags) (has_zero fr.flags) x lr.letter) wr.value));
}

conversion_front : (bytes : List ℕ) (c : Converted) (rest : List ℕ) → conversion_at bytes ≡ Some (pair c rest) → ConversionRead bytes c rest
unfolding conversion_at
conversion_front bytes c rest h =
    let f = flags_at bytes in
    let widths : (w : Option (ℕ × List ℕ)) → width_after 0 f.rest ≡ w → (after_flag 48 f.rest).0 ≡ false → behind_width f.left f.zero w ≡ Some (pair c rest) → ConversionRead bytes c rest =
    λ w. elim w as (λ w. width_after 0 f.rest ≡ w → (after_flag 48 f.rest).0 ≡ false → behind_width f.left f.zero w ≡ Some (pair c rest) → ConversionRead bytes c rest) [
      | None ↦ λ e z g. absurd (none_some g)
      | Some p ↦ λ e z g. from_stages bytes f p.0 p.1 c rest (flags_front bytes) (width_front 0 f.rest p.0 p.1 (omega arith) e) z (size_front p.1)
          (letter_front f.left f.zero p.0 (after_size p.1) c rest g)
    ] in
    let zeros : (v : Bool) → (after_flag 48 f.rest).0 ≡ v → behind_width f.left f.zero (cond v None (width_after 0 f.rest)) ≡ Some (pair c rest) → ConversionRead bytes c rest =
    λ v. elim v as (λ v. (after_flag 48 f.rest).0 ≡ v → behind_width f.left f.zero (cond v None (width_after 0 f.rest)) ≡ Some (pair c rest) → ConversionRead bytes c rest) [
      | true ↦ λ e g. absurd (none_some g)
      | false ↦ λ e g. widths (width_after 0 f.rest) refl e g
    ] in
    zeros (after_flag 48 f.rest).0 refl h

-- what stands behind flags begins with none of them
above_width : (width : List ℕ) (rest : List ℕ) → is_plain_number width ≡ true → Above 57 rest → Above 48 (width ++ rest)
above_width [] [] plain above = tt
above_width [] (b ∷ bs) plain above = omega arith
above_width (d ∷ ds) rest plain above =
    let digit : is_digit d ≡ true = and_left (is_digit d) (list_all is_digit ds) (and_left (list_all is_digit (d ∷ ds)) (not (nat_eq d 48)) plain) in
    let other : not (nat_eq d 48) ≡ true = and_right (list_all is_digit (d ∷ ds)) (not (nat_eq d 48)) plain in
    grind (arith, nat_tests)

above_size : (size : Size) (letter : ℕ) (rest : List ℕ) → IsLetterByte letter → Above 57 (size_text size ++ letter ∷ rest)
above_size NoSize letter rest is = is.above
above_size Char letter rest is = omega arith
above_size Short letter rest is = omega arith
above_size Long letter rest is = omega arith
above_size LongLong letter rest is = omega arith

plain_digits : (digits : List ℕ) → is_plain_number digits ≡ true → list_all is_digit digits ≡ true
plain_digits [] h = refl
plain_digits (d ∷ ds) h = and_left (list_all is_digit (d ∷ ds)) (not (nat_eq d 48)) h

no_zero : (bytes : List ℕ) → Above 48 bytes → (after_flag 48 bytes).0 ≡ false
no_zero [] h = refl
no_zero (b ∷ bs) h = rw (not_equal b 48 (λ e. omega arith)) refl

abbrev made_of : Spelling → Converted
made_of s = converted (has_left s.flags) (has_zero s.flags) (digits_value 10 s.width) s.letter

conversion_read : (s : Spelling) (rest : List ℕ) → IsConversion s
    → conversion_at (flags_text s.flags ++ (s.width ++ (size_text s.size ++ s.letter ∷ rest))) ≡ Some (pair (made_of s) rest)
unfolding conversion_at
conversion_read s rest is =
    let letter = letter_byte s.letter is.known in
    let sized = size_text s.size ++ s.letter ∷ rest in
    let above = above_size s.size s.letter rest letter in
    let wide = above_width s.width sized is.number above in
    ap behind_flags (flags_read s.flags (s.width ++ sized) wide)
    ∙ (ap (λ (v : Bool). behind_width (has_left s.flags) (has_zero s.flags) (cond v None (width_after 0 (s.width ++ sized)))) (no_zero (s.width ++ sized) wide)
    ∙ (ap (behind_width (has_left s.flags) (has_zero s.flags)) (width_read 0 s.width sized (plain_digits s.width is.number) is.narrow above)
    ∙ (ap (letter_at (has_left s.flags) (has_zero s.flags) (digits_value 10 s.width)) (size_read s.size s.letter rest letter)
    ∙ letter_read (has_left s.flags) (has_zero s.flags) (digits_value 10 s.width) s.letter rest is.known is.filled)))

-- fronts

pub record FrontRead (bytes : List ℕ) (front : Front) (rest : List ℕ) : Type 0 where
  pub part : Part
  pub allowed : IsPart part
  pub spelled : bytes ≡ part_text part ++ rest
  pub meant : front_piece front ≡ part_piece part

spelling_is : (s : Spelling) (rest : List ℕ) → 37 ∷ (flags_text s.flags ++ (s.width ++ (size_text s.size ++ s.letter ∷ rest))) ≡ spelling_text s ++ rest
spelling_is s rest = ap (λ (l : List ℕ). 37 ∷ l)
    (ap (λ (l : List ℕ). flags_text s.flags ++ l) (ap (λ (l : List ℕ). s.width ++ l) (sym (append_assoc (size_text s.size) (s.letter ∷ []) rest))
    ∙ sym (append_assoc s.width (size_text s.size ++ s.letter ∷ []) rest))
    ∙ sym (append_assoc (flags_text s.flags) (s.width ++ (size_text s.size ++ s.letter ∷ [])) rest))

shown : (bytes : List ℕ) (front : Front) (rest : List ℕ) (o : Option (Converted × List ℕ)) → conversion_at bytes ≡ o → option_map shown_front o ≡ Some (pair front rest)
    → FrontRead (37 ∷ bytes) front rest
shown bytes front rest None e h = absurd (none_some h)
shown bytes front rest (Some p) e h =
    let is = some_first (Shown p.0) front p.1 rest h in
    let read = conversion_front bytes p.0 rest (e ∙ ap (λ (l : List ℕ). Some (p.0, l)) (some_second (Shown p.0) front p.1 rest h)) in
    record {
      part = Conv read.spelling;
      allowed = read.allowed;
      spelled = ap (λ (l : List ℕ). 37 ∷ l) read.spelled ∙ spelling_is read.spelling rest;
      meant = ap front_piece (sym is) ∙ ap (λ (c : Converted). front_piece (Shown c)) read.made;
    }

percent_front : (bytes : List ℕ) (front : Front) (rest : List ℕ) → behind_percent bytes ≡ Some (pair front rest) → FrontRead (37 ∷ bytes) front rest
percent_front [] front rest h = absurd (none_some h)
percent_front (b ∷ bs) front rest h =
    let by : (v : Bool) → nat_eq b 37 ≡ v → cond v (Some (pair (Plain 37) bs)) (option_map shown_front (conversion_at (b ∷ bs))) ≡ Some (pair front rest) → FrontRead (37 ∷ b ∷ bs) front rest =
    λ v. elim v as (λ v. nat_eq b 37 ≡ v → cond v (Some (pair (Plain 37) bs)) (option_map shown_front (conversion_at (b ∷ bs))) ≡ Some (pair front rest) → FrontRead (37 ∷ b ∷ bs) front rest) [
      | true ↦ λ e f. record {
        part = Percent;
        allowed = tt;
        spelled = ap (λ (x : ℕ). 37 ∷ x ∷ bs) (eqb-true b 37 e) ∙ ap (λ (l : List ℕ). 37 ∷ 37 ∷ l) (some_second (Plain 37) front bs rest f);
        meant = ap front_piece (sym (some_first (Plain 37) front bs rest f));
      }
      | false ↦ λ e f. shown (b ∷ bs) front rest (conversion_at (b ∷ bs)) refl f
    ] in
    by (nat_eq b 37) refl h

-- what is read at the front is a part
pub front_part : (bytes : List ℕ) (front : Front) (rest : List ℕ) → front_of bytes ≡ Some (pair front rest) → FrontRead bytes front rest
front_part [] front rest h = absurd (none_some h)
front_part (b ∷ bs) front rest h =
    let by : (v : Bool) → nat_eq b 37 ≡ v → cond v (behind_percent bs) (Some (pair (Plain b) bs)) ≡ Some (pair front rest) → FrontRead (b ∷ bs) front rest =
    λ v. elim v as (λ v. nat_eq b 37 ≡ v → cond v (behind_percent bs) (Some (pair (Plain b) bs)) ≡ Some (pair front rest) → FrontRead (b ∷ bs) front rest) [
      | true ↦ λ e f. (let read = percent_front bs front rest f in
          record { part = read.part; allowed = read.allowed; spelled = ap (λ (x : ℕ). x ∷ bs) (eqb-true b 37 e) ∙ read.spelled; meant = read.meant })
      | false ↦ λ e f. record {
        part = Byte b;
        allowed = λ is. cc (e, eq-eqb b 37 is);
        spelled = ap (λ (l : List ℕ). b ∷ l) (some_second (Plain b) front bs rest f);
        meant = ap front_piece (sym (some_first (Plain b) front bs rest f));
      }
    ] in
    by (nat_eq b 37) refl h

-- each part is read at the front
pub record PartRead (part : Part) (rest : List ℕ) : Type 0 where
  pub front : Front
  pub read : front_of (part_text part ++ rest) ≡ Some (pair front rest)
  pub meant : front_piece front ≡ part_piece part

-- a conversion does not begin with a second `%`
above_percent : (bytes : List ℕ) → Above 48 bytes → Above 37 bytes
above_percent [] h = tt
above_percent (b ∷ bs) h = omega arith

above_flags : (flags : Flags) (rest : List ℕ) → Above 48 rest → Above 37 (flags_text flags ++ rest)
above_flags NoFlag rest h = above_percent rest h
above_flags Left rest h = omega arith
above_flags Zero rest h = omega arith
above_flags LeftZero rest h = omega arith
above_flags ZeroLeft rest h = omega arith

no_percent : (bytes : List ℕ) (c : Converted) (rest : List ℕ) → Above 37 bytes → conversion_at bytes ≡ Some (pair c rest) → behind_percent bytes ≡ Some (pair (Shown c) rest)
unfolding conversion_at
no_percent [] c rest above h = absurd (none_some h)
no_percent (b ∷ bs) c rest above h =
    ap (λ (v : Bool). cond v (Some (pair (Plain 37) bs)) (option_map shown_front (conversion_at (b ∷ bs)))) (not_equal b 37 (λ e. omega arith))
    ∙ ap (option_map shown_front) h

spelled_above : (s : Spelling) (rest : List ℕ) → IsConversion s → Above 37 (flags_text s.flags ++ (s.width ++ (size_text s.size ++ s.letter ∷ rest)))
spelled_above s rest is =
    above_flags s.flags (s.width ++ (size_text s.size ++ s.letter ∷ rest))
    (above_width s.width (size_text s.size ++ s.letter ∷ rest) is.number (above_size s.size s.letter rest (letter_byte s.letter is.known)))

pub part_front : (part : Part) → IsPart part → (rest : List ℕ) → PartRead part rest
part_front (Byte b) is rest = record { front = Plain b; read = rw (not_equal b 37 is) refl; meant = refl }
part_front Percent is rest = record { front = Plain 37; read = refl; meant = refl }
part_front (Conv s) is rest = record {
  front = Shown (made_of s);
  read = ap front_of (sym (spelling_is s rest)) ∙ no_percent _ (made_of s) rest (spelled_above s rest is) (conversion_read s rest is);
  meant = refl;
}
