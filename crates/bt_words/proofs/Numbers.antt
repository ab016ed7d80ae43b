-- Numbers that grow digit by digit.
use Rattle.std.proofs.Common.{◌≡◌, ◌+◌, ◌*◌, ◌-◌, ◌<◌, ◌≤◌, ◌&&◌, ℕ, Bool, true, false, cond, nat_le, suc, List, [], ◌∷◌, Some, None, length, drop, get_or, drop-cons, ap, sym, ◌∙◌, refl, arith}
use Rattle.std.specs.Char.{digit_value}
use Rattle.std.specs.List.{list_all}
use Rattle.std.specs.Str.Parse.{digits_value, digits_value_after}
use Rattle.std.proofs.lemmas.Bool.Decides.{nat_tests}
use Rattle.bt_core.specs.Bytes.{is_digit}
use Rattle.bt_words.specs.Words.{number_in}

digit_is : (b : ℕ) → is_digit b ≡ true → digit_value b ≡ b - 48
digit_is b h = grind (arith, nat_tests)

value_grows : (n : ℕ) (digits : List ℕ) → n ≤ digits_value_after 10 n digits
value_grows n [] = omega arith
value_grows n (d ∷ ds) = let later = value_grows (n * 10 + digit_value d) ds in omega (arith, later)

last_false : (a b c d : Bool) → d ≡ false → (a && (b && (c && d))) ≡ false
last_false true true true d h = h
last_false true true false d h = refl
last_false true false c d h = refl
last_false false b c d h = refl

not_le : (a b : ℕ) → b < a → nat_le a b ≡ false
not_le a b h = grind (arith, nat_tests)

-- a number that is too great at some digit stays so
pub refused : (greatest i value : ℕ) (word : List ℕ) → i < length word → is_digit (get_or word i 0) ≡ true
    → digits_value_after 10 value (drop i word) ≡ digits_value 10 word → greatest < value * 10 + (get_or word i 0 - 48) → None ≡ number_in greatest word
refused greatest i value word within digit left past =
    let b = get_or word i 0 in
    let e = digit_is b digit in
    let grown = value_grows (value * 10 + digit_value b) (drop (suc i) word) in
    let whole : digits_value_after 10 (value * 10 + digit_value b) (drop (suc i) word) ≡ digits_value 10 word =
    sym (ap (digits_value_after 10 value) (drop-cons word i 0 within)) ∙ left in
    let great : greatest < digits_value 10 word = omega (arith, e, grown, whole, past) in
    sym (ap (λ (v : Bool). cond v (Some (digits_value 10 word)) None)
    (last_false (list_all is_digit word) (nat_le 1 (length word)) (nat_le (length word) 10) (nat_le (digits_value 10 word) greatest)
    (not_le (digits_value 10 word) greatest great)))
