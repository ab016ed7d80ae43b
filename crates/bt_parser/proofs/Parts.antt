-- Parts between colons, and numbers by their digits.
use Rattle.std.proofs.Common.{◌≡◌, ℕ, suc, ◌+◌, ◌-◌, ◌*◌, ◌^◌, ◌<◌, ◌≤◌, Bool, true, false, cond, ◌&&◌, List, [], ◌∷◌, length, take, drop, Option, Some, None, refl, sym, ◌∙◌, ap, inl, inr, ◌⊎◌, arith}
use Rattle.std.specs.Prelude.{not, nat_lt, nat_le, take_while, if◌then◌else◌}
use Rattle.std.specs.List.{slice_split, onto_first, list_all}
use Rattle.std.specs.Char.{digit_value}
use Rattle.std.specs.Str.Parse.{digits_value_after}
use Rattle.std.proofs.lemmas.List.Splits.{slice_split-cons_yes, slice_split-cons_no, length-slice_split}
use Rattle.std.proofs.lemmas.List.{take_all}
use Rattle.std.proofs.lemmas.List.Sums.{take_while-cons}
use Rattle.std.proofs.lemmas.Bool.{leb-true}
use Rattle.std.proofs.lemmas.Str.{digit_value_digit}
use Rattle.bt_grammar.proofs.AllClasses.{and_first, and_second}
use Rattle.std.proofs.lemmas.Bool.Decides.{leb_tells}
use Rattle.bt_core.specs.Bytes.{is_digit}
use Rattle.bt_core.specs.declared.place.Place.{Place}
use Rattle.bt_grammar.specs.Attach.{is_name, is_name_byte, point_of_parts}
use Rattle.bt_parser.specs.Points.{is_colon, not_colon, limited, with_digit, with_digits, and_more, number_of}

either : (b : Bool) → (b ≡ true) ⊎ (b ≡ false)
either true = inl refl
either false = inr refl

not_of : (x : ℕ) (b : Bool) → is_colon x ≡ b → not_colon x ≡ not b
not_of x b h = ap not h

-- what stands before the first colon, one byte further
run_no : (x : ℕ) (xs : List ℕ) → is_colon x ≡ false → take_while not_colon (x ∷ xs) ≡ x ∷ take_while not_colon xs
run_no x xs h = take_while-cons not_colon x xs ∙ ap (λ b. cond b (x ∷ take_while not_colon xs) []) (not_of x false h)

run_yes : (x : ℕ) (xs : List ℕ) → is_colon x ≡ true → take_while not_colon (x ∷ xs) ≡ []
run_yes x xs h = take_while-cons not_colon x xs ∙ ap (λ b. cond b (x ∷ take_while not_colon xs) []) (not_of x true h)

pub split_none : (bs : List ℕ) → drop (length (take_while not_colon bs)) bs ≡ [] → slice_split is_colon bs ≡ bs ∷ []
split_none [] e = refl
split_none (x ∷ xs) e = elim (either (is_colon x)) [
  | inl h ↦ (let q : x ∷ xs ≡ [] = ap (λ z. drop (length z) (x ∷ xs)) (sym (run_yes x xs h)) ∙ e in cc (q))
  | inr h ↦ (let q : drop (length (take_while not_colon xs)) xs ≡ [] = ap (λ z. drop (length z) (x ∷ xs)) (sym (run_no x xs h)) ∙ e in
      slice_split-cons_no is_colon x xs h ∙ ap (onto_first x) (split_none xs q))
]

pub split_some : (bs : List ℕ) (c : ℕ) (rest : List ℕ) → drop (length (take_while not_colon bs)) bs ≡ c ∷ rest
    → slice_split is_colon bs ≡ take (length (take_while not_colon bs)) bs ∷ slice_split is_colon rest
split_some [] c rest e = cc (e)
split_some (x ∷ xs) c rest e = elim (either (is_colon x)) [
  | inl h ↦ (let q : x ∷ xs ≡ c ∷ rest = ap (λ z. drop (length z) (x ∷ xs)) (sym (run_yes x xs h)) ∙ e in
      let q' : xs ≡ rest = cc (q) in
      slice_split-cons_yes is_colon x xs h ∙ ap (λ z. [] ∷ slice_split is_colon z) q' ∙ ap (λ z. take (length z) (x ∷ xs) ∷ slice_split is_colon rest) (sym (run_yes x xs h)))
  | inr h ↦ (let q : drop (length (take_while not_colon xs)) xs ≡ c ∷ rest = ap (λ z. drop (length z) (x ∷ xs)) (sym (run_no x xs h)) ∙ e in
      slice_split-cons_no is_colon x xs h ∙ ap (onto_first x) (split_some xs c rest q) ∙ ap (λ z. take (length z) (x ∷ xs) ∷ slice_split is_colon rest) (sym (run_no x xs h)))
]

pub cut_none : (bs back : List ℕ) (n : ℕ) → n ≡ length (take_while not_colon bs) → back ≡ drop n bs → length back < 1 → slice_split is_colon bs ≡ bs ∷ []
cut_none bs [] n en eb short = split_none bs (ap (λ z. drop z bs) (sym en) ∙ sym eb)
cut_none bs (c ∷ rest) n en eb short = absurd (omega arith)

pub cut_some : (bs front back : List ℕ) (n : ℕ) → n ≡ length (take_while not_colon bs) → front ≡ take n bs → back ≡ drop n bs → 1 ≤ length back
    → slice_split is_colon bs ≡ front ∷ slice_split is_colon (take (length back - 1) (drop 1 back))
cut_some bs front [] n en ef eb some = absurd (omega arith)
cut_some bs front (c ∷ rest) n en ef eb some =
    let e : slice_split is_colon bs ≡ take (length (take_while not_colon bs)) bs ∷ slice_split is_colon rest = split_some bs c rest (ap (λ z. drop z bs) (sym en) ∙ sym eb) in
    let len : length (c ∷ rest) - 1 ≡ length rest = omega arith in
    let same : take (length (c ∷ rest) - 1) rest ≡ rest = ap (λ z. take z rest) len ∙ take_all (length rest) rest (omega arith) in
    e ∙ ap (λ z. z ∷ slice_split is_colon rest) (ap (λ z. take z bs) (sym en) ∙ sym ef) ∙ ap (λ z. front ∷ slice_split is_colon z) (sym same)

-- more than three parts are no point
too_many_parts : (word first second : List ℕ) (ps : List (List ℕ)) (place : Place) → 0 < length ps → point_of_parts (word ∷ first ∷ second ∷ ps) place ≡ None
too_many_parts word first second [] place h = absurd (omega arith)
too_many_parts word first second (p ∷ ps) place h = refl

pub fourth_part : (word first second rest : List ℕ) (place : Place) → point_of_parts (word ∷ first ∷ second ∷ slice_split is_colon rest) place ≡ None
fourth_part word first second rest place = too_many_parts word first second (slice_split is_colon rest) place (omega (arith, length-slice_split is_colon rest))

-- ---- digits

tell : (n : ℕ) → ((nat_lt n (2 ^ 64) ≡ true) × (n < 2 ^ 64)) ⊎ ((nat_lt n (2 ^ 64) ≡ false) × (2 ^ 64 ≤ n))
tell n = elim (leb_tells (suc n) (2 ^ 64)) [ inl h ↦ inl (h.0, h.1) | inr h ↦ inr (h.0, omega (arith, h.1)) ]

within_limit : (n : ℕ) → n < 2 ^ 64 → limited n ≡ Some n
within_limit n h = elim (tell n) [ inl t ↦ rw (t.0) refl | inr t ↦ (let b : 2 ^ 64 ≤ n = t.1 in absurd (omega (arith, h, b))) ]

over_limit : (n : ℕ) → 2 ^ 64 ≤ n → limited n ≡ None
over_limit n h = elim (tell n) [ inr t ↦ rw (t.0) refl | inl t ↦ (let b : n < 2 ^ 64 = t.1 in absurd (omega (arith, h, b))) ]

after-le : (n : ℕ) (bs : List ℕ) → n ≤ digits_value_after 10 n bs
after-le n [] = omega arith
after-le n (b ∷ bs) = omega (arith, after-le (n * 10 + digit_value b) bs)

digit_is : (b : ℕ) → is_digit b ≡ true → digit_value b ≡ b - 48
digit_is b h =
    let low : 48 ≤ b = leb-true 48 b (and_first (nat_le 48 b) (nat_le b 57) h) in
    let high : b ≤ 57 = leb-true b 57 (and_second (nat_le 48 b) (nat_le b 57) h) in
    omega (arith, digit_value_digit b (low, high))

-- what all the digits behind a number give
abbrev all_of : ℕ → List ℕ → Option ℕ
all_of n bs = if list_all is_digit bs then limited (digits_value_after 10 n bs) else None

if_none : (x : Bool) (o : Option ℕ) → o ≡ None → (if x then o else None) ≡ None
if_none true o h = h
if_none false o h = refl

over : (bs : List ℕ) (m : ℕ) → 2 ^ 64 ≤ m → all_of m bs ≡ None
over bs m big = if_none (list_all is_digit bs) (limited (digits_value_after 10 m bs)) (over_limit (digits_value_after 10 m bs) (omega (arith, big, after-le m bs)))

first_no : (n b : ℕ) (bs : List ℕ) → is_digit b ≡ false → all_of n (b ∷ bs) ≡ None
first_no n b bs h = ap (λ x. if x && list_all is_digit bs then limited (digits_value_after 10 n (b ∷ bs)) else None) h

first_yes : (n b : ℕ) (bs : List ℕ) → is_digit b ≡ true → all_of n (b ∷ bs) ≡ all_of (n * 10 + (b - 48)) bs
first_yes n b bs h = ap (λ x. if x && list_all is_digit bs then limited (digits_value_after 10 n (b ∷ bs)) else None) h
    ∙ ap (λ z. all_of (n * 10 + z) bs) (digit_is b h)

digit_no : (n b : ℕ) → is_digit b ≡ false → with_digit n b ≡ None
digit_no n b h = ap (λ x. if x then limited (n * 10 + (b - 48)) else None) h

digit_yes : (n b : ℕ) → is_digit b ≡ true → with_digit n b ≡ limited (n * 10 + (b - 48))
digit_yes n b h = ap (λ x. if x then limited (n * 10 + (b - 48)) else None) h

digits_rest : (m : ℕ) (bs : List ℕ) → (m < 2 ^ 64 → with_digits m bs ≡ all_of m bs) → and_more (limited m) (λ n. with_digits n bs) ≡ all_of m bs
digits_rest m bs more = elim (tell m) [
  | inl t ↦ ap (λ z. and_more z (λ n. with_digits n bs)) (within_limit m t.1) ∙ more t.1
  | inr t ↦ ap (λ z. and_more z (λ n. with_digits n bs)) (over_limit m t.1) ∙ sym (over bs m t.1)
]

pub digits_are : (n : ℕ) (bs : List ℕ) → n < 2 ^ 64 → with_digits n bs ≡ all_of n bs
digits_are n [] small = sym (within_limit n small)
digits_are n (b ∷ bs) small = elim (either (is_digit b)) [
  | inr h ↦ ap (λ z. and_more z (λ n. with_digits n bs)) (digit_no n b h) ∙ sym (first_no n b bs h)
  | inl h ↦ ap (λ z. and_more z (λ n. with_digits n bs)) (digit_yes n b h) ∙ digits_rest (n * 10 + (b - 48)) bs (digits_are (n * 10 + (b - 48)) bs) ∙ sym (first_yes n b bs h)
]

pub number_is : (bs : List ℕ) → 1 ≤ length bs → with_digits 0 bs ≡ number_of bs
number_is [] some = absurd (omega arith)
number_is (b ∷ bs) some = digits_are 0 (b ∷ bs) (omega arith)

-- ---- names

pub name_is : (bs : List ℕ) → 1 ≤ length bs → list_all is_name_byte bs ≡ is_name bs
name_is [] some = absurd (omega arith)
name_is (b ∷ bs) some = refl
