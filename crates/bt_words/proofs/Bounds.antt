-- The numbers of what words ask for are within their bounds.
use Rattle.std.proofs.Common.{◌≡◌, ℕ, ◌≤◌, ◌&&◌, Bool, true, false, nat_le, List, [], ◌∷◌, length, map, refl, subst, arith}
use Rattle.std.specs.Prelude.{Option, Some, None, Result, Ok, Err, IfOk, IfSome, if◌then◌else◌, codes, filter, String, string_bytes}
use Rattle.std.specs.List.{list_all, list_any}
use Rattle.std.specs.Str.{bytes_eq}
use Rattle.std.specs.Str.Parse.{digits_value}
use Rattle.std.specs.declared.alloc.Global.{Global}
use Rattle.std.proofs.lemmas.Bool.{leb-true}
use Rattle.bt_core.specs.Bytes.{is_digit}
use Rattle.bt_core.specs.declared.limits.TheConstants.{EVENTS}
use Rattle.bt_words.specs.declared.order.Order.{Order}
use Rattle.bt_words.specs.declared.order.Order.TheVariants.{Check, Code, Vet, Gen, Big}
use Rattle.bt_words.specs.Words.{account_order, are_account_words, are_run_words, is_empty, is_operand, number_in, numbers, of_three, of_two, order_by, order_of, order_of_words, plain_order, verify_order}
use Rattle.bt_words.specs.Words.{HasBounds, run_order, two_numbers}

-- the numbers of the order, where there is one, are within their bounds
abbrev AreSmall : Option Order → Type 0
AreSmall order = IfSome order HasBounds

either_small : (b : Bool) (x y : Option Order) → AreSmall x → AreSmall y → AreSmall (if b then x else y)
either_small true x y p q = p
either_small false x y p q = q

small_if : (a b c : Bool) (value greatest : ℕ) → IfSome (if a && (b && (c && nat_le value greatest)) then Some value else None) (λ n. n ≤ greatest)
small_if false b c value greatest = tt
small_if true false c value greatest = tt
small_if true true false value greatest = tt
small_if true true true value greatest = by (nat_le value greatest) refl
  where
    by : (d : Bool) → nat_le value greatest ≡ d → IfSome (if d then Some value else None) (λ n. n ≤ greatest)
    by true e = leb-true value greatest e
    by false e = tt

number_small : (greatest : ℕ) (word : List ℕ) → IfSome (number_in greatest word) (λ n. n ≤ greatest)
number_small greatest word = small_if (list_all is_digit word) (nat_le 1 (length word)) (nat_le (length word) 10) (digits_value 10 word) greatest

gen_numbers : (a b : Option ℕ) → IfSome a (λ n. n ≤ 2147483647) → IfSome b (λ n. n ≤ EVENTS) → AreSmall (numbers Gen a b)
gen_numbers None b p q = tt
gen_numbers (Some x) None p q = tt
gen_numbers (Some x) (Some n) p q = record { seed = omega (arith, p); count = q }

big_numbers : (a b : Option ℕ) → IfSome a (λ n. n ≤ 2147483647) → IfSome b (λ n. n ≤ EVENTS) → AreSmall (numbers Big a b)
big_numbers None b p q = tt
big_numbers (Some x) None p q = tt
big_numbers (Some x) (Some n) p q = record { seed = omega (arith, p); count = q }

two_small : (read : List ℕ → List ℕ → Option Order) (words : List (List ℕ)) → ((a b : List ℕ) → AreSmall (read a b)) → AreSmall (of_two read words)
two_small read [] p = tt
two_small read (a ∷ []) p = tt
two_small read (a ∷ b ∷ []) p = p a b
two_small read (a ∷ b ∷ c ∷ more) p = tt

run_small : (words : List (List ℕ)) → AreSmall (run_order words)
run_small words = either_small (are_run_words words) (of_two _ (filter is_operand words)) None (two_small _ (filter is_operand words) (λ a b. tt)) tt

account_small : (words : List (List ℕ)) → AreSmall (account_order words)
account_small words = either_small (are_account_words words) (of_two _ (filter is_operand words)) None (two_small _ (filter is_operand words) (λ a b. tt)) tt

three_small : (made : List ℕ → List ℕ → List ℕ → Option Order) (words : List (List ℕ)) → ((a b c : List ℕ) → AreSmall (made a b c)) → AreSmall (of_three made words)
three_small made [] p = tt
three_small made (a ∷ []) p = tt
three_small made (a ∷ b ∷ []) p = tt
three_small made (a ∷ b ∷ c ∷ []) p = p a b c
three_small made (a ∷ b ∷ c ∷ d ∷ more) p = tt

verify_small : (words : List (List ℕ)) → AreSmall (verify_order words)
verify_small words =
    either_small (list_all is_operand words) (of_three _ (filter is_operand words)) None (three_small _ (filter is_operand words) (λ a b c. tt)) tt

plain_small : (command : List ℕ) (operands : List (List ℕ)) → AreSmall (plain_order command operands)
plain_small command operands =
    either_small (bytes_eq command (codes "check")) (of_two (λ script recording. Some (Check script recording)) operands) _ (two_small _ operands (λ a b. tt))
    (either_small (bytes_eq command (codes "code")) (of_two (λ script recording. Some (Code script recording)) operands) _ (two_small _ operands (λ a b. tt))
    (either_small (bytes_eq command (codes "vet")) (of_two (λ script recording. Some (Vet script recording)) operands) _ (two_small _ operands (λ a b. tt))
    (either_small (bytes_eq command (codes "gen")) (of_two (two_numbers Gen) operands) _
    (two_small (two_numbers Gen) operands (λ a b. gen_numbers (number_in 2147483647 a) (number_in EVENTS b) (number_small 2147483647 a) (number_small EVENTS b)))
    (either_small (bytes_eq command (codes "big")) (of_two (two_numbers Big) operands) None
    (two_small (two_numbers Big) operands (λ a b. big_numbers (number_in 2147483647 a) (number_in EVENTS b) (number_small 2147483647 a) (number_small EVENTS b)))
    tt))))

words_small : (words : List (List ℕ)) → AreSmall (order_of_words words)
words_small [] = tt
words_small (command ∷ words) =
    either_small (list_any is_empty words) None (order_by command words) tt
    (either_small (bytes_eq command (codes "run")) (run_order words) _ (run_small words)
    (either_small (bytes_eq command (codes "account")) (account_order words) _ (account_small words)
    (either_small (bytes_eq command (codes "verify")) (verify_order words) _ (verify_small words)
    (either_small (list_all is_operand words) (plain_order command (filter is_operand words)) None (plain_small command (filter is_operand words)) tt))))

pub bounded_order : {E : Type 0} (words : List (String Global)) (answer : Result Order E) → IfOk answer (λ order. order_of words ≡ Some order) → IfOk answer HasBounds
bounded_order words (Ok order) e = subst AreSmall e (words_small (map string_bytes words))
bounded_order words (Err error) e = tt
