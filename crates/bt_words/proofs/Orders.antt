-- What the rule says of a command that takes two operands.
use Rattle.std.proofs.Common.{◌≡◌, ◌∙◌, ◌==◌, ◌&&◌, ℕ, Bool, cond, true, false, not, List, [], ◌∷◌, Option, Some, None, IsSome, IfOk, Result, Ok, Err, String, Global, drop, map, string_bytes, suc, ap, codes, filter, is_some, length, refl, sym, true≢false, arith, Decides, ◌+◌, ◌<◌, take, take_all}
use Rattle.std.specs.List.{list_all, list_any, slice_index_or}
use Rattle.std.specs.Str.{bytes_eq}
use Rattle.std.proofs.lemmas.Bool.Decides.{nat_tests}
use Rattle.std.proofs.lemmas.Slice.Eq.{bytes_eq-Decides}
use Rattle.clap.proofs.WalkLemmas.{both}
use Rattle.bt_words.specs.declared.order.Order.{Order}
use Rattle.bt_words.specs.declared.order.Order.TheVariants.{Verify}
use Rattle.bt_words.specs.declared.order.WordsError.{WordsError}
use Rattle.bt_words.specs.declared.order.WordsError.TheVariants.{Usage, Memory}
use Rattle.bt_core.specs.Bytes.{is_digit}
use Rattle.bt_core.specs.declared.limits.TheConstants.{EVENTS}
use Rattle.bt_words.specs.Words.{IsAnswer, is_empty, is_operand, number_in, numbers, of_two, of_three, order_by, order_of, plain_order, two_numbers, verify_order}
use Rattle.bt_words.specs.Commands.{AreThreeOperands, AreTwoOperands}

-- the order of operands alone
abbrev pub operands_order : (List ℕ → List ℕ → Option Order) → List (List ℕ) → Option Order
operands_order read words = cond (list_all is_operand words) (of_two read (filter is_operand words)) None

kept : {X : Type 0} (p : X → Bool) (xs : List X) → list_all p xs ≡ true → filter p xs ≡ xs
kept p [] all = refl
kept p (x ∷ xs) all = rw (both (p x) (list_all p xs) all).0 (ap (λ ys. x ∷ ys) (kept p xs (both (p x) (list_all p xs) all).1))

pub operands_are : (read : List ℕ → List ℕ → Option Order) (words : List (List ℕ)) → list_all is_operand words ≡ true → operands_order read words ≡ of_two read words
operands_are read words all = rw all (ap (of_two read) (kept is_operand words all))

not_two : (n : ℕ) → false ≡ (suc (suc (suc n)) == 2)
not_two n = grind (arith, nat_tests)

two_made : (made : List ℕ → List ℕ → Order) (words : List (List ℕ)) → is_some (of_two (λ a b. Some (made a b)) words) ≡ (length words == 2)
two_made made [] = refl
two_made made (a ∷ []) = refl
two_made made (a ∷ b ∷ []) = refl
two_made made (a ∷ b ∷ c ∷ more) = not_two (length more)

pub files_fit : (made : List ℕ → List ℕ → Order) (words : List (List ℕ))
    → (list_all is_operand words && length words == 2) ≡ is_some (operands_order (λ a b. Some (made a b)) words)
files_fit made words = go (list_all is_operand words) refl
  where
    go : (b : Bool) → list_all is_operand words ≡ b → (b && length words == 2) ≡ is_some (cond b (of_two (λ x y. Some (made x y)) (filter is_operand words)) None)
    go true e = sym (ap (λ xs. is_some (of_two (λ x y. Some (made x y)) xs)) (kept is_operand words e) ∙ two_made made words)
    go false e = refl

-- ---- three operands

not_three : (n : ℕ) → false ≡ (suc (suc (suc (suc n))) == 3)
not_three n = grind (arith, nat_tests)

abbrev three : List (List ℕ) → Option Order
three = of_three (λ script recording account. Some (Verify script recording account))

three_made : (words : List (List ℕ)) → is_some (three words) ≡ (length words == 3)
three_made [] = refl
three_made (a ∷ []) = refl
three_made (a ∷ b ∷ []) = refl
three_made (a ∷ b ∷ c ∷ []) = refl
three_made (a ∷ b ∷ c ∷ d ∷ more) = not_three (length more)

pub three_fit : (words : List (List ℕ)) → (list_all is_operand words && length words == 3) ≡ is_some (verify_order words)
three_fit words = go (list_all is_operand words) refl
  where
    go : (b : Bool) → list_all is_operand words ≡ b → (b && length words == 3) ≡ is_some (cond b (three (filter is_operand words)) None)
    go true e = sym (ap (λ xs. is_some (three xs)) (kept is_operand words e) ∙ three_made words)
    go false e = refl

three_length : (words : List (List ℕ)) → IsSome (three words) → length words ≡ 3
three_length [] h = absurd (true≢false (sym h))
three_length (a ∷ []) h = absurd (true≢false (sym h))
three_length (a ∷ b ∷ []) h = absurd (true≢false (sym h))
three_length (a ∷ b ∷ c ∷ []) h = refl
three_length (a ∷ b ∷ c ∷ d ∷ more) h = absurd (true≢false (sym h))

-- behind `verify` stand three operands
pub behind_verify : (words : List (List ℕ)) → IsSome (verify_order words) → AreThreeOperands words
behind_verify words there = go (list_all is_operand words) refl there
  where
    go : (b : Bool) → list_all is_operand words ≡ b → IsSome (cond b (three (filter is_operand words)) None) → AreThreeOperands words
    go true all some = (all, three_length words (rw (kept is_operand words all) at some))
    go false all some = absurd (true≢false (sym some))

-- what they ask for
pub verify_is : (words : List (List ℕ)) (a b c script recording account : List ℕ) → AreThreeOperands words → words ≡ a ∷ b ∷ c ∷ []
    → script ≡ a → recording ≡ b → account ≡ c → verify_order words ≡ Some (Verify script recording account)
verify_is words a b c script recording account are is first second third =
    rw (are.0, first, second, third) (ap three (kept is_operand words are.0) ∙ ap three is)

-- a word that spells a number is an operand
digit_first : (b : ℕ) → is_digit b ≡ true → not (b == 45) ≡ true
digit_first b h = grind (arith, nat_tests)

spells : (greatest : ℕ) (word : List ℕ) → is_some (number_in greatest word) ≡ true → is_operand word ≡ true
spells greatest [] h = refl
spells greatest (x ∷ xs) h = digit_first x (both _ _ (both _ _ (some_if _ _ h)).0).0
  where
    some_if : (b : Bool) (n : ℕ) → is_some (cond b (Some n) None) ≡ true → b ≡ true
    some_if true n e = refl
    some_if false n e = e

both_spell : (made : ℕ → ℕ → Order) (a b : List ℕ) → is_some (two_numbers made a b) ≡ true → (is_operand a ≡ true) × (is_operand b ≡ true)
both_spell made a b h = go (number_in 2147483647 a) refl (number_in EVENTS b) refl h
  where
    go : (x : Option ℕ) → number_in 2147483647 a ≡ x → (n : Option ℕ) → number_in EVENTS b ≡ n → is_some (numbers made x n) ≡ true
        → (is_operand a ≡ true) × (is_operand b ≡ true)
    go (Some x) e (Some n) f t = (spells 2147483647 a (ap is_some e), spells EVENTS b (ap is_some f))
    go (Some x) e None f t = absurd (true≢false (sym t))
    go None e n f t = absurd (true≢false (sym t))

all_operands : (made : ℕ → ℕ → Order) (words : List (List ℕ)) → is_some (of_two (two_numbers made) words) ≡ true → list_all is_operand words ≡ true
all_operands made [] h = refl
all_operands made (a ∷ []) h = absurd (true≢false (sym h))
all_operands made (a ∷ b ∷ []) h =
    let p = both_spell made a b h in
    rw (p.0, p.1) refl
all_operands made (a ∷ b ∷ c ∷ more) h = absurd (true≢false (sym h))

-- so only two operands spell two numbers
pub numbers_fit : (made : ℕ → ℕ → Order) (words : List (List ℕ))
    → is_some (of_two (two_numbers made) words) ≡ is_some (operands_order (two_numbers made) words)
numbers_fit made words = go (list_all is_operand words) refl (is_some (of_two (two_numbers made) words)) refl
  where
    go : (b : Bool) → list_all is_operand words ≡ b → (t : Bool) → is_some (of_two (two_numbers made) words) ≡ t
        → t ≡ is_some (cond b (of_two (two_numbers made) (filter is_operand words)) None)
    go true e t f = sym (ap (λ xs. is_some (of_two (two_numbers made) xs)) (kept is_operand words e) ∙ f)
    go false e true f = absurd (true≢false (sym (all_operands made words f) ∙ e))
    go false e false f = refl

-- ---- a command without options

same : (b : Bool) (o : Option Order) → cond b o o ≡ o
same true o = refl
same false o = refl

abbrev no_one : Option Order
no_one = None

no_order : (command : List ℕ)
    → cond (bytes_eq command (codes "check")) no_one (cond (bytes_eq command (codes "code")) no_one (cond (bytes_eq command (codes "vet")) no_one
    (cond (bytes_eq command (codes "gen")) no_one (cond (bytes_eq command (codes "big")) no_one no_one)))) ≡ no_one
no_order command =
    ap (λ o. cond (bytes_eq command (codes "check")) no_one (cond (bytes_eq command (codes "code")) no_one (cond (bytes_eq command (codes "vet")) no_one
    (cond (bytes_eq command (codes "gen")) no_one o)))) (same (bytes_eq command (codes "big")) no_one)
    ∙ ap (λ o. cond (bytes_eq command (codes "check")) no_one (cond (bytes_eq command (codes "code")) no_one (cond (bytes_eq command (codes "vet")) no_one o)))
    (same (bytes_eq command (codes "gen")) no_one)
    ∙ ap (λ o. cond (bytes_eq command (codes "check")) no_one (cond (bytes_eq command (codes "code")) no_one o)) (same (bytes_eq command (codes "vet")) no_one)
    ∙ ap (λ o. cond (bytes_eq command (codes "check")) no_one o) (same (bytes_eq command (codes "code")) no_one)
    ∙ same (bytes_eq command (codes "check")) no_one

nothing : (o : Option Order) → o ≡ None → IsSome o → ⊥
nothing o none some = true≢false (sym some ∙ ap is_some none)

plain_two : (command : List ℕ) (words : List (List ℕ)) → IsSome (plain_order command words) → length words ≡ 2
plain_two command [] h = absurd (nothing _ (no_order command) h)
plain_two command (a ∷ []) h = absurd (nothing _ (no_order command) h)
plain_two command (a ∷ b ∷ []) h = refl
plain_two command (a ∷ b ∷ c ∷ more) h = absurd (nothing _ (no_order command) h)

-- behind such a command stand two operands, and they alone decide
pub behind : (command : List ℕ) (words : List (List ℕ)) → (command ≡ codes "run" → ⊥) → (command ≡ codes "account" → ⊥)
    → (command ≡ codes "verify" → ⊥) → IsSome (order_by command words) → AreTwoOperands words × (order_by command words ≡ plain_order command words)
behind command words not_run not_account not_verify there =
    go (list_all is_operand words) refl (rw (unlike _ _ not_run, unlike _ _ not_account, unlike _ _ not_verify) at there)
  where
    unlike : (xs ys : List ℕ) → (xs ≡ ys → ⊥) → bytes_eq xs ys ≡ false
    unlike xs ys differ = decided (bytes_eq xs ys) (bytes_eq-Decides xs ys)
      where
        decided : (b : Bool) → Decides b (xs ≡ ys) → b ≡ false
        decided true same = absurd (differ (same.0 refl))
        decided false same = refl

    go : (b : Bool) → list_all is_operand words ≡ b → IsSome (cond b (plain_order command (filter is_operand words)) None)
        → AreTwoOperands words × (order_by command words ≡ plain_order command words)
    go true all some =
        let is = kept is_operand words all in (
          (all, plain_two command words (rw is at some)),
          rw (unlike _ _ not_run, unlike _ _ not_account, unlike _ _ not_verify, all) (ap (plain_order command) is),
        )
    go false all some = absurd (true≢false (sym some))

-- ---- all words

-- words that give an order have a first one, and the order is that of the words behind it
pub first_word : (words : List (String Global)) (command : String Global) (text : List ℕ) → command ≡ slice_index_or words 0 command → text ≡ string_bytes command
    → true ≡ is_some (order_of words) → order_of words ≡ order_by text (drop 1 (map string_bytes words))
first_word [] command text is reads there = absurd (true≢false there)
first_word (w ∷ ws) command text is reads there = go (list_any is_empty (map string_bytes ws)) refl there
  where
    go : (b : Bool) → list_any is_empty (map string_bytes ws) ≡ b → true ≡ is_some (cond b None (order_by (string_bytes w) (map string_bytes ws)))
        → order_of (w ∷ ws) ≡ order_by text (map string_bytes ws)
    go true e some = absurd (true≢false some)
    go false e some = rw (e, reads, is) refl

some_none : (order : Order) → Some order ≡ no_one → ⊥
some_none order e = true≢false (ap is_some e)

pub found_order : (there : Option Order) (r : Result Order WordsError) → IsAnswer there r → IfOk r (λ order. there ≡ Some order)
found_order there (Ok order) h = h
found_order there (Err e) h = tt

pub usage_alone : (there : Option Order) (r : Result Order WordsError) → IsAnswer there r
    → (r ≡ Err Usage → there ≡ None) × (there ≡ None → r ≡ Err Usage)
usage_alone there (Ok order) h = (λ e. cc, λ none. absurd (some_none order (sym h ∙ none)))
usage_alone there (Err Usage) h = (λ e. h, λ none. refl)
usage_alone there (Err Memory) h = (λ e. cc, λ none. absurd (nothing there none h))

-- ---- the words behind the command

pub no_words : (words : List (String Global)) → length words < 1 → false ≡ is_some (order_of words)
no_words [] h = refl
no_words (w ∷ ws) h = absurd (omega arith)

-- none of them is empty, so it is for the command to say whether they fit
pub admitted_words : (words : List (String Global)) (n : ℕ) (command : String Global) (text : List ℕ) (fits : Bool) → n + 1 ≡ length words → command ≡ slice_index_or words 0 command
    → text ≡ string_bytes command → false ≡ list_any is_empty (map string_bytes (take n (drop 1 words))) → fits ≡ is_some (order_by text (map string_bytes (take n (drop 1 words))))
    → fits ≡ is_some (order_of words)
admitted_words [] n command text fits h is reads some suits = absurd (omega (arith, h))
admitted_words (w ∷ ws) n command text fits h is reads some suits =
    let whole : take n ws ≡ ws = take_all n ws (omega (arith, h)) in
    suits
    ∙ (λ i. is_some (order_by ((reads ∙ ap string_bytes is) i) (map string_bytes (whole i))))
    ∙ ap (λ (b : Bool). is_some (cond b None (order_by (string_bytes w) (map string_bytes ws)))) (some ∙ ap (λ l. list_any is_empty (map string_bytes l)) whole)

-- one of them is empty
pub refused_words : (words : List (String Global)) (n : ℕ) (has : Bool) → n + 1 ≡ length words → has ≡ list_any is_empty (map string_bytes (take n (drop 1 words))) → has ≡ true
    → not has ≡ is_some (order_of words)
refused_words [] n has h found there = absurd (omega (arith, h))
refused_words (w ∷ ws) n has h found there =
    ap not there
    ∙ ap (λ (b : Bool). is_some (cond b None (order_by (string_bytes w) (map string_bytes ws))))
    (sym there ∙ found ∙ ap (λ l. list_any is_empty (map string_bytes l)) (take_all n ws (omega (arith, h))))
