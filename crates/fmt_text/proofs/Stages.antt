-- The stages of a conversion: what each reads stands at the front, and what stands at the front is read.
use Rattle.std.proofs.Common.{◌≡◌, ◌+◌, ◌*◌, ◌-◌, ◌<◌, ◌≤◌, ◌++◌, ◌&&◌, ◌||◌, ℕ, nat_eq, nat_le, Bool, true, false, List, [], ◌∷◌, Option, Some, None, cond, refl, sym, ap, ◌∙◌, arith, unwrap_or, codes, Any}
use Rattle.std.specs.List.{list_all}
use Rattle.std.specs.Char.{digit_value}
use Rattle.std.specs.Str.Parse.{digits_value_after}
use Rattle.std.proofs.lemmas.Bool.{eqb-true}
use Rattle.std.proofs.lemmas.List.Folds.{Any-from_list_any}
use Rattle.std.proofs.lemmas.Bool.Decides.{nat_tests}
use Rattle.bt_core.specs.Bytes.{is_digit}
use Rattle.fmt_text.specs.Formats.{Flags, NoFlag, Left, Zero, LeftZero, ZeroLeft, flags_text, has_left, has_zero, Size, NoSize, Char, Short, Long, LongLong, size_text, is_letter}
use Rattle.fmt_text.specs.Reading.{after_flag, Flagged, flagged, flagged_late, flags_at, width_after, after_size}

-- bytes begin with none up to this one
abbrev pub Above : ℕ → List ℕ → Type 0
Above n [] = Unit {0}
Above n (b ∷ bs) = n < b

abbrev pub pair : {A B : Type 0} → A → B → A × B
pair a b = (a, b)

pub not_equal : (a b : ℕ) → (a ≡ b → ⊥) → nat_eq a b ≡ false
not_equal a b h = grind (arith, nat_tests, h)

pub and_left : (a b : Bool) → (a && b) ≡ true → a ≡ true
and_left true b h = refl
and_left false b h = cc

pub and_right : (a b : Bool) → (a && b) ≡ true → b ≡ true
and_right true b h = h
and_right false b h = cc

pub both_true : (a b : Bool) → a ≡ true → b ≡ true → (a && b) ≡ true
both_true true b g h = h
both_true false b g h = cc

pub none_some : {A : Type 0} {x : A} → None ≡ Some x → ⊥
none_some h = cc

le_of_true : (a b : ℕ) → nat_le a b ≡ true → a ≤ b
le_of_true a b h = grind (arith, nat_tests)

true_of_le : (a b : ℕ) → a ≤ b → nat_le a b ≡ true
true_of_le a b h = grind (arith, nat_tests)

-- flags

abbrev flag_bytes : Bool → ℕ → List ℕ → List ℕ
flag_bytes true flag rest = flag ∷ rest
flag_bytes false flag rest = rest

flag_front : (flag : ℕ) (bytes : List ℕ) → bytes ≡ flag_bytes (after_flag flag bytes).0 flag (after_flag flag bytes).1
flag_front flag [] = refl
flag_front flag (b ∷ bs) =
    let found : nat_eq b flag ≡ true → b ∷ bs ≡ flag ∷ bs = λ (e : nat_eq b flag ≡ true). ap (λ (x : ℕ). x ∷ bs) (eqb-true b flag e) in
    elim (nat_eq b flag) as (λ v. (v ≡ true → b ∷ bs ≡ flag ∷ bs) →
    b ∷ bs ≡ flag_bytes (cond {A = Bool × List ℕ} v (true, bs) (false, b ∷ bs)).0 flag (cond {A = Bool × List ℕ} v (true, bs) (false, b ∷ bs)).1)
    [ true ↦ λ f. f refl | false ↦ λ f. refl ] found

pub not_flag : (n flag : ℕ) (bytes : List ℕ) → flag ≤ n → Above n bytes → after_flag flag bytes ≡ pair false bytes
not_flag n flag [] small above = refl
not_flag n flag (b ∷ bs) small above =
    rw (not_equal b flag (λ e. omega arith)) refl

pub record FlagsRead (bytes : List ℕ) (f : Flagged) : Type 0 where
  pub flags : Flags
  pub spelled : bytes ≡ flags_text flags ++ f.rest
  pub left : f.left ≡ has_left flags
  pub zero : f.zero ≡ has_zero flags

flags_from : (p q r : Bool) (pl ql rl : List ℕ) (bytes : List ℕ) → bytes ≡ flag_bytes p 45 pl → pl ≡ flag_bytes q 48 ql → ql ≡ flag_bytes r 45 rl
    → FlagsRead bytes (cond p (flagged true (q, ql)) (flagged_late q (r, rl)))
flags_from true true r pl ql rl bytes e f g = record { flags = LeftZero; spelled = e ∙ ap (λ (l : List ℕ). 45 ∷ l) f; left = refl; zero = refl }
flags_from true false r pl ql rl bytes e f g = record { flags = Left; spelled = e ∙ ap (λ (l : List ℕ). 45 ∷ l) f; left = refl; zero = refl }
flags_from false true true pl ql rl bytes e f g = record { flags = ZeroLeft; spelled = e ∙ (f ∙ ap (λ (l : List ℕ). 48 ∷ l) g); left = refl; zero = refl }
flags_from false true false pl ql rl bytes e f g = record { flags = Zero; spelled = e ∙ (f ∙ ap (λ (l : List ℕ). 48 ∷ l) g); left = refl; zero = refl }
flags_from false false true pl ql rl bytes e f g = record { flags = Left; spelled = e ∙ (f ∙ g); left = refl; zero = refl }
flags_from false false false pl ql rl bytes e f g = record { flags = NoFlag; spelled = e ∙ (f ∙ g); left = refl; zero = refl }

pub flags_front : (bytes : List ℕ) → FlagsRead bytes (flags_at bytes)
flags_front bytes =
    let p = after_flag 45 bytes in
    let q = after_flag 48 p.1 in
    let r = after_flag 45 q.1 in
    flags_from p.0 q.0 r.0 p.1 q.1 r.1 bytes (flag_front 45 bytes) (flag_front 48 p.1) (flag_front 45 q.1)

pub flags_read : (flags : Flags) (rest : List ℕ) → Above 48 rest
    → flags_at (flags_text flags ++ rest) ≡ record { left = has_left flags; zero = has_zero flags; rest = rest }
flags_read NoFlag rest above = rw (not_flag 48 45 rest (omega arith) above, not_flag 48 48 rest (omega arith) above) (rw (not_flag 48 45 rest (omega arith) above) refl)
flags_read Left rest above = rw (not_flag 48 48 rest (omega arith) above) refl
flags_read Zero rest above = rw (not_flag 48 45 rest (omega arith) above) refl
flags_read LeftZero rest above = refl
flags_read ZeroLeft rest above = refl

-- widths

digit_is : (b : ℕ) → is_digit b ≡ true → digit_value b ≡ b - 48
digit_is b h = grind (arith, nat_tests)

value_grows : (n : ℕ) (digits : List ℕ) → n ≤ digits_value_after 10 n digits
value_grows n [] = omega arith
value_grows n (d ∷ ds) = let later = value_grows (n * 10 + digit_value d) ds in omega (arith, later)

pub record WidthRead (n : ℕ) (bytes : List ℕ) (width : ℕ) (rest : List ℕ) : Type 0 where
  pub digits : List ℕ
  pub spelled : bytes ≡ digits ++ rest
  pub all : list_all is_digit digits ≡ true
  pub value : width ≡ digits_value_after 10 n digits
  pub narrow : width ≤ 255

pub some_first : {A B : Type 0} (a c : A) (b d : B) → Some (pair a b) ≡ Some (pair c d) → a ≡ c
some_first {A} {B} a c b d h = ap (λ (o : Option (A × B)). (unwrap_or o (a, b)).0) h

pub some_second : {A B : Type 0} (a c : A) (b d : B) → Some (pair a b) ≡ Some (pair c d) → b ≡ d
some_second {A} {B} a c b d h = ap (λ (o : Option (A × B)). (unwrap_or o (a, b)).1) h

width_ends : (n : ℕ) (bytes : List ℕ) (width : ℕ) (rest : List ℕ) → n ≤ 255 → Some (pair n bytes) ≡ Some (pair width rest) → WidthRead n bytes width rest
width_ends n bytes width rest small h =
    let e = some_first n width bytes rest h in
    record { digits = []; spelled = some_second n width bytes rest h; all = refl; value = sym e; narrow = omega (arith, e, small) }

width_more : (n b width : ℕ) (bs rest : List ℕ) → is_digit b ≡ true → WidthRead (n * 10 + (b - 48)) bs width rest → WidthRead n (b ∷ bs) width rest
width_more n b width bs rest digit later = record {
  digits = b ∷ later.digits;
  spelled = ap (λ (l : List ℕ). b ∷ l) later.spelled;
  all = both_true (is_digit b) (list_all is_digit later.digits) digit later.all;
  value = later.value ∙ ap (λ (m : ℕ). digits_value_after 10 (n * 10 + m) later.digits) (sym (digit_is b digit));
  narrow = later.narrow;
}

pub width_front : (n : ℕ) (bytes : List ℕ) (width : ℕ) (rest : List ℕ) → n ≤ 255 → width_after n bytes ≡ Some (pair width rest) → WidthRead n bytes width rest
width_front n [] width rest small h = width_ends n [] width rest small h
width_front n (b ∷ bs) width rest small h =
    let m = n * 10 + (b - 48) in
    let later : m ≤ 255 → width_after m bs ≡ Some (pair width rest) → WidthRead m bs width rest = λ s f. width_front m bs width rest s f in
    let second : is_digit b ≡ true → (w : Bool) → nat_le m 255 ≡ w → cond w (width_after m bs) None ≡ Some (pair width rest) → WidthRead n (b ∷ bs) width rest =
    λ digit w. elim w as (λ w. nat_le m 255 ≡ w → cond w (width_after m bs) None ≡ Some (pair width rest) → WidthRead n (b ∷ bs) width rest)
    [ true ↦ λ e f. width_more n b width bs rest digit (later (le_of_true m 255 e) f) | false ↦ λ e f. absurd (none_some f) ] in
    let first : (v : Bool) → is_digit b ≡ v → cond v (cond (nat_le m 255) (width_after m bs) None) (Some (pair n (b ∷ bs))) ≡ Some (pair width rest) → WidthRead n (b ∷ bs) width rest =
    λ v. elim v as (λ v. is_digit b ≡ v → cond v (cond (nat_le m 255) (width_after m bs) None) (Some (pair n (b ∷ bs))) ≡ Some (pair width rest) → WidthRead n (b ∷ bs) width rest)
    [ true ↦ λ e f. second e (nat_le m 255) refl f | false ↦ λ e f. width_ends n (b ∷ bs) width rest small f ] in
    first (is_digit b) refl h

pub width_read : (n : ℕ) (digits rest : List ℕ) → list_all is_digit digits ≡ true → digits_value_after 10 n digits ≤ 255 → Above 57 rest
    → width_after n (digits ++ rest) ≡ Some (pair (digits_value_after 10 n digits) rest)
width_read n [] [] all narrow above = refl
width_read n [] (b ∷ bs) all narrow above =
    let e : is_digit b ≡ false = grind (arith, nat_tests) in rw e refl
width_read n (d ∷ ds) rest all narrow above =
    let digit = and_left (is_digit d) (list_all is_digit ds) all in
    let e = digit_is d digit in
    let grown = value_grows (n * 10 + digit_value d) ds in
    let small : n * 10 + (d - 48) ≤ 255 = omega (arith, e, grown, narrow) in
    let later = width_read (n * 10 + digit_value d) ds rest (and_right (is_digit d) (list_all is_digit ds) all) narrow above in
    ap (λ (v : Bool). cond v (cond (nat_le (n * 10 + (d - 48)) 255) (width_after (n * 10 + (d - 48)) (ds ++ rest)) None) (Some (pair n (d ∷ (ds ++ rest))))) digit
    ∙ (ap (λ (v : Bool). cond v (width_after (n * 10 + (d - 48)) (ds ++ rest)) None) (true_of_le (n * 10 + (d - 48)) 255 small)
    ∙ (ap (λ (m : ℕ). width_after (n * 10 + m) (ds ++ rest)) (sym e) ∙ later))

-- length words

pub record SizeRead (bytes rest : List ℕ) : Type 0 where
  pub size : Size
  pub spelled : bytes ≡ size_text size ++ rest

size_from : (h l d : Bool) (b : ℕ) (bs others : List ℕ) → (h ≡ true → b ≡ 104) → (l ≡ true → b ≡ 108) → bs ≡ flag_bytes d b others → SizeRead (b ∷ bs) (cond (h || l) others (b ∷ bs))
size_from true l true b bs others eh el e = record { size = Char; spelled = ap (λ (x : List ℕ). b ∷ x) e ∙ ap (λ (x : ℕ). x ∷ x ∷ others) (eh refl) }
size_from true l false b bs others eh el e = record { size = Short; spelled = ap (λ (x : List ℕ). b ∷ x) e ∙ ap (λ (x : ℕ). x ∷ others) (eh refl) }
size_from false true true b bs others eh el e = record { size = LongLong; spelled = ap (λ (x : List ℕ). b ∷ x) e ∙ ap (λ (x : ℕ). x ∷ x ∷ others) (el refl) }
size_from false true false b bs others eh el e = record { size = Long; spelled = ap (λ (x : List ℕ). b ∷ x) e ∙ ap (λ (x : ℕ). x ∷ others) (el refl) }
size_from false false d b bs others eh el e = record { size = NoSize; spelled = refl }

pub size_front : (bytes : List ℕ) → SizeRead bytes (after_size bytes)
size_front [] = record { size = NoSize; spelled = refl }
size_front (b ∷ bs) =
    size_from (nat_eq b 104) (nat_eq b 108) (after_flag b bs).0 b bs (after_flag b bs).1 (eqb-true b 104) (eqb-true b 108) (flag_front b bs)

-- letters stand above the digits, and none of them begins a length word
pub record IsLetterByte (b : ℕ) : Type 0 where
  pub above : 57 < b
  pub no_h : nat_eq b 104 ≡ false
  pub no_l : nat_eq b 108 ≡ false

letter_cases : (b : ℕ) → is_letter b ≡ true → Any (λ l. nat_eq l b ≡ true) (codes "diuxXsc")
letter_cases b h = Any-from_list_any (λ l. nat_eq l b) (codes "diuxXsc") h

pub letter_byte : (b : ℕ) → is_letter b ≡ true → IsLetterByte b
letter_byte b h = record { above = grind (arith, nat_tests); no_h = grind (arith, nat_tests); no_l = grind (arith, nat_tests) }

pub size_read : (size : Size) (letter : ℕ) (rest : List ℕ) → IsLetterByte letter → after_size (size_text size ++ letter ∷ rest) ≡ letter ∷ rest
size_read NoSize letter rest is = rw (is.no_h, is.no_l) refl
size_read Char letter rest is = refl
size_read Short letter rest is = rw is.no_h refl
size_read Long letter rest is = rw is.no_l refl
size_read LongLong letter rest is = refl
