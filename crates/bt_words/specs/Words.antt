-- What the words of a command line ask for.
use Rattle.std.specs.Prelude.{◌≡◌, ℕ, ◌<◌, ◌≤◌, ◌^◌, Bool, false, not, ◌&&◌, ◌||◌, ◌==◌, nat_le, List, [], ◌∷◌, length, filter, count_by, codes, map, Option, Some, None, Result, Ok, Err, IsSome, if◌then◌else◌, String, string_bytes}
use Rattle.std.specs.List.{list_all, list_any}
use Rattle.std.specs.Str.{bytes_eq}
use Rattle.std.specs.Str.Parse.{digits_value}
use Rattle.std.specs.declared.alloc.Global.{Global}
use Rattle.bt_core.specs.Bytes.{is_digit}
use Rattle.bt_core.specs.declared.limits.TheConstants.{EVENTS}
use Rattle.bt_words.specs.declared.order.WordsError.{WordsError}
use Rattle.bt_words.specs.declared.order.WordsError.TheVariants.{Usage, Memory}
use Rattle.bt_words.specs.declared.order.Order.{Order}
use Rattle.bt_words.specs.declared.order.Order.TheVariants.{Run, Check, Code, Vet, Account, Verify, Gen, Big}

abbrev pub is_empty : List ℕ → Bool
is_empty word = length word == 0

-- a word that begins with `-` is an option; each other one is an operand
abbrev pub is_option : List ℕ → Bool
is_option [] = false
is_option (b ∷ bs) = b == 45

abbrev pub is_operand : List ℕ → Bool
is_operand word = not (is_option word)

abbrev pub is_serial : List ℕ → Bool
is_serial word = bytes_eq word (codes "--serial")

abbrev pub is_stats : List ℕ → Bool
is_stats word = bytes_eq word (codes "--stats")

abbrev pub is_json : List ℕ → Bool
is_json word = bytes_eq word (codes "--json")

-- behind `run`: operands, and its options
abbrev pub has_place_in_run : List ℕ → Bool
has_place_in_run word = is_operand word || (is_serial word || (is_stats word || is_json word))

-- each option at most once
abbrev pub are_run_words : List (List ℕ) → Bool
are_run_words words =
    list_all has_place_in_run words
    && (nat_le (count_by is_serial words) 1 && (nat_le (count_by is_stats words) 1 && nat_le (count_by is_json words) 1))

-- behind `account`: operands, and its one option
abbrev pub has_place_in_account : List ℕ → Bool
has_place_in_account word = is_operand word || is_serial word

-- the option at most once
abbrev pub are_account_words : List (List ℕ) → Bool
are_account_words words = list_all has_place_in_account words && nat_le (count_by is_serial words) 1

-- the number that 1 to 10 decimal digits spell, if it is at most so great
abbrev pub number_in : ℕ → List ℕ → Option ℕ
number_in greatest word =
    if list_all is_digit word && (nat_le 1 (length word) && (nat_le (length word) 10 && nat_le (digits_value 10 word) greatest))
    then Some (digits_value 10 word) else None

-- two operands, read by a function of both
abbrev pub of_two : (List ℕ → List ℕ → Option Order) → List (List ℕ) → Option Order
of_two read [] = None
of_two read (a ∷ []) = None
of_two read (a ∷ b ∷ []) = read a b
of_two read (a ∷ b ∷ c ∷ more) = None

-- three operands, read by a function of all
abbrev pub of_three : (List ℕ → List ℕ → List ℕ → Option Order) → List (List ℕ) → Option Order
of_three read [] = None
of_three read (a ∷ []) = None
of_three read (a ∷ b ∷ []) = None
of_three read (a ∷ b ∷ c ∷ []) = read a b c
of_three read (a ∷ b ∷ c ∷ d ∷ more) = None

abbrev pub numbers : (ℕ → ℕ → Order) → Option ℕ → Option ℕ → Option Order
numbers made None n = None
numbers made (Some x) None = None
numbers made (Some x) (Some n) = Some (made x n)

abbrev pub two_numbers : (ℕ → ℕ → Order) → List ℕ → List ℕ → Option Order
two_numbers made x n = numbers made (number_in 2147483647 x) (number_in EVENTS n)

abbrev pub run_order : List (List ℕ) → Option Order
run_order words =
    if are_run_words words
    then of_two (λ script recording. Some (Run (nat_le 1 (count_by is_serial words)) (nat_le 1 (count_by is_stats words))
    (nat_le 1 (count_by is_json words)) script recording)) (filter is_operand words)
    else None

abbrev pub account_order : List (List ℕ) → Option Order
account_order words =
    if are_account_words words
    then of_two (λ script recording. Some (Account (nat_le 1 (count_by is_serial words)) script recording)) (filter is_operand words)
    else None

abbrev pub verify_order : List (List ℕ) → Option Order
verify_order words =
    if list_all is_operand words
    then of_three (λ script recording account. Some (Verify script recording account)) (filter is_operand words)
    else None

-- the order of a command that takes two operands and no options
abbrev pub plain_order : List ℕ → List (List ℕ) → Option Order
plain_order command operands =
    if bytes_eq command (codes "check") then of_two (λ script recording. Some (Check script recording)) operands
    else if bytes_eq command (codes "code") then of_two (λ script recording. Some (Code script recording)) operands
    else if bytes_eq command (codes "vet") then of_two (λ script recording. Some (Vet script recording)) operands
    else if bytes_eq command (codes "gen") then of_two (two_numbers Gen) operands
    else if bytes_eq command (codes "big") then of_two (two_numbers Big) operands
    else None

abbrev pub order_by : List ℕ → List (List ℕ) → Option Order
order_by command words =
    if bytes_eq command (codes "run") then run_order words
    else if bytes_eq command (codes "account") then account_order words
    else if bytes_eq command (codes "verify") then verify_order words
    else if list_all is_operand words then plain_order command (filter is_operand words)
    else None

-- the order of words: none of those behind the command is empty
abbrev pub order_of_words : List (List ℕ) → Option Order
order_of_words [] = None
order_of_words (command ∷ words) = if list_any is_empty words then None else order_by command words

-- the order of the words of a call
abbrev pub order_of : List (String Global) → Option Order
order_of words = order_of_words (map string_bytes words)

-- the bounds of the two numbers of a made recording: its seed, and its count of events
pub record AreBounded (x n : ℕ) : Type 0 where
  pub seed : x < 2 ^ 31
  pub count : n ≤ EVENTS

abbrev pub HasBounds : Order → Type 0
HasBounds (Gen x n) = AreBounded x n
HasBounds (Big x n) = AreBounded x n
HasBounds order = Unit {0}

-- an order is the one that there is; words are refused only where there is none, and memory runs out only where there is one
abbrev pub IsAnswer : Option Order → Result Order WordsError → Type 0
IsAnswer there (Ok order) = there ≡ Some order
IsAnswer there (Err Usage) = there ≡ None
IsAnswer there (Err Memory) = IsSome there
