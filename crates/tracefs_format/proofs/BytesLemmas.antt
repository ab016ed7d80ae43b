-- Laws of the words on bytes.
use Rattle.std.proofs.Common.{◌≡◌, ℕ, suc, ◌+◌, ◌-◌, ◌*◌, ◌<◌, ◌≤◌, Bool, true, false, cond, not, eqb, ltb, ◌&&◌, List, [], ◌∷◌, ◌++◌, length, take, drop, get_or, Option, Some, None, inl, inr, refl, ap, sym, eq-eqb, ◌∙◌, arith}
use Rattle.std.specs.Prelude.{◌==◌, ◌≢◌, nat_le, position, MatchOption}
use Rattle.std.specs.List.{list_all, prefix_len, fold, slice_split, onto_first}
use Rattle.bt_core.specs.Bytes.{is_digit}
use Rattle.std.proofs.lemmas.List.{take_all, take_more, drop_more, take_at, drop_at, length-append}
use Rattle.std.proofs.lemmas.Bool.{cases_lt, lt-ltb, le-ltb, eqb-true, lt-leb}
use Rattle.std.proofs.Math.Numerals.{one-add, add-one}
use Rattle.std.specs.Option.{option_map, option_or}
use denote.Ref.{Bor}
use Rattle.event_layout.specs.Bytes.{without_front, without_end, longest_beginning, longest_ending, cut_at, before_last, after, decimal_value, number_in}
use Rattle.tracefs_format.specs.Classes.{Finds}

-- ---- the end of bytes

list_all-push : (p : ℕ → Bool) (xs : List ℕ) (y : ℕ) → list_all p (xs ++ y ∷ []) ≡ (list_all p xs && p y)
list_all-push p [] y = elim (p y) as (λ v. (v && true) ≡ (true && v)) [ true ↦ refl | false ↦ refl ]
list_all-push p (x ∷ xs) y = elim (p x) as (λ v. (v && list_all p (xs ++ y ∷ [])) ≡ ((v && list_all p xs) && p y)) [ true ↦ list_all-push p xs y | false ↦ refl ]

pub without_end-all : (p : ℕ → Bool) (xs : List ℕ) → list_all p xs ≡ true → without_end p xs ≡ []
without_end-all p [] h = refl
without_end-all p (x ∷ xs) h = rw h refl

pub without_end-push_yes : (p : ℕ → Bool) (xs : List ℕ) (y : ℕ) → p y ≡ true → without_end p (xs ++ y ∷ []) ≡ without_end p xs
without_end-push_yes p [] y h = rw h refl
without_end-push_yes p (x ∷ xs) y h =
    let same : list_all p (x ∷ xs ++ y ∷ []) ≡ list_all p (x ∷ xs) = list_all-push p (x ∷ xs) y ∙ rw h (elim (list_all p (x ∷ xs)) as (λ v. (v && true) ≡ v) [ true ↦ refl | false ↦ refl ]) in
    rw (same, without_end-push_yes p xs y h) refl

pub without_end-push_no : (p : ℕ → Bool) (xs : List ℕ) (y : ℕ) → p y ≡ false → without_end p (xs ++ y ∷ []) ≡ xs ++ y ∷ []
without_end-push_no p [] y h = rw h refl
without_end-push_no p (x ∷ xs) y h =
    let none : list_all p (x ∷ xs ++ y ∷ []) ≡ false = list_all-push p (x ∷ xs) y ∙ rw h (elim (list_all p (x ∷ xs)) as (λ v. (v && false) ≡ false) [ true ↦ refl | false ↦ refl ]) in
    rw (none, without_end-push_no p xs y h) refl

-- bytes are what stands before the longest ending, and that ending
pub end_parts : (p : ℕ → Bool) (xs : List ℕ) → without_end p xs ++ longest_ending p xs ≡ xs
end_parts p [] = refl
end_parts p (x ∷ xs) = elim (list_all p (x ∷ xs)) as (λ v. cond v [] (x ∷ without_end p xs) ++ cond v (x ∷ xs) (longest_ending p xs) ≡ x ∷ xs)
    [ true ↦ refl | false ↦ ap (λ l. x ∷ l) (end_parts p xs) ]

pub before_last-push : (byte : ℕ) (xs : List ℕ) (y : ℕ) → before_last byte (xs ++ y ∷ []) ≡ cond (eqb y byte) (Some xs) (before_last byte xs)
before_last-push byte [] y = refl
before_last-push byte (x ∷ xs) y = rw (before_last-push byte xs y) (elim (eqb y byte) as (λ v. option_or (option_map (λ front. x ∷ front) (cond v (Some xs) (before_last byte xs))) (cond (eqb x byte) (Some []) None) ≡ cond v (Some (x ∷ xs)) (before_last byte (x ∷ xs))) [ true ↦ refl | false ↦ refl ])

-- a list that isn't empty is all but the last, and the last
last_parts : (xs : List ℕ) → 1 ≤ length xs → xs ≡ take (length xs - 1) xs ++ get_or xs (length xs - 1) 0 ∷ []
last_parts xs h =
    let n : length xs - 1 + 1 ≡ length xs = omega arith in
    let all : take (length xs - 1 + 1) xs ≡ xs = take_all (length xs - 1 + 1) xs (omega arith) in
    sym all ∙ take_more xs (length xs - 1) 0 (omega arith)

pub without_end-last_yes : (p : ℕ → Bool) (xs : List ℕ) → 1 ≤ length xs → p (get_or xs (length xs - 1) 0) ≡ true → without_end p (take (length xs - 1) xs) ≡ without_end p xs
without_end-last_yes p xs h passes = sym (ap (without_end p) (last_parts xs h) ∙ without_end-push_yes p (take (length xs - 1) xs) (get_or xs (length xs - 1) 0) passes)

pub without_end-last_no : (p : ℕ → Bool) (xs : List ℕ) → 1 ≤ length xs → p (get_or xs (length xs - 1) 0) ≡ false → without_end p xs ≡ xs
without_end-last_no p xs h fails = ap (without_end p) (last_parts xs h) ∙ without_end-push_no p (take (length xs - 1) xs) (get_or xs (length xs - 1) 0) fails ∙ sym (last_parts xs h)

pub before_last-last : (byte : ℕ) (xs : List ℕ) → 1 ≤ length xs → before_last byte xs ≡ cond (eqb (get_or xs (length xs - 1) 0) byte) (Some (take (length xs - 1) xs)) (before_last byte (take (length xs - 1) xs))
before_last-last byte xs h = ap (before_last byte) (last_parts xs h) ∙ before_last-push byte (take (length xs - 1) xs) (get_or xs (length xs - 1) 0)

-- what is left of bytes after their front is the longest ending
pub length-without_end : (p : ℕ → Bool) (xs : List ℕ) → length (without_end p xs) ≤ length xs
length-without_end p xs = omega (arith, length-append (without_end p xs) (longest_ending p xs), ap length (end_parts p xs))

pub drop-without_end : (p : ℕ → Bool) (xs : List ℕ) → drop (length (without_end p xs)) xs ≡ longest_ending p xs
drop-without_end p xs = ap (drop (length (without_end p xs))) (sym (end_parts p xs)) ∙ drop_at (without_end p xs) (longest_ending p xs) (length (without_end p xs)) refl

pub take-without_end : (p : ℕ → Bool) (xs : List ℕ) → take (length (without_end p xs)) xs ≡ without_end p xs
take-without_end p xs = ap (take (length (without_end p xs))) (sym (end_parts p xs)) ∙ take_at (without_end p xs) (longest_ending p xs) (length (without_end p xs)) refl

-- bytes are the longest beginning, and what stands after it
pub front_parts : (p : ℕ → Bool) (xs : List ℕ) → longest_beginning p xs ++ without_front p xs ≡ xs
front_parts p [] = refl
front_parts p (x ∷ xs) = elim (p x) as (λ v. cond v (x ∷ longest_beginning p xs) [] ++ cond v (without_front p xs) (x ∷ xs) ≡ x ∷ xs)
    [ true ↦ ap (λ l. x ∷ l) (front_parts p xs) | false ↦ refl ]

pub length-without_front : (p : ℕ → Bool) (xs : List ℕ) → length (without_front p xs) ≤ length xs
length-without_front p xs = omega (arith, length-append (longest_beginning p xs) (without_front p xs), ap length (front_parts p xs))

pub take-without_front : (p : ℕ → Bool) (xs : List ℕ) → take (length xs - length (without_front p xs)) xs ≡ longest_beginning p xs
take-without_front p xs =
    let size : length (longest_beginning p xs) ≡ length xs - length (without_front p xs) = omega (arith, length-append (longest_beginning p xs) (without_front p xs), ap length (front_parts p xs)) in
    ap (take (length xs - length (without_front p xs))) (sym (front_parts p xs)) ∙ take_at (longest_beginning p xs) (without_front p xs) (length xs - length (without_front p xs)) size

-- ---- cuts

abbrev cut_of : List ℕ → ℕ → List ℕ × List ℕ
cut_of xs i = (take i xs, drop (i + 1) xs)

abbrev pub with_first : ℕ → List ℕ × List ℕ → List ℕ × List ℕ
with_first x parts = (x ∷ parts.0, parts.1)

abbrev place_if : Bool → ℕ → Option ℕ
place_if v n = cond v (Some n) None

place_if-cons : (x n : ℕ) (xs : List ℕ) → option_map (with_first x) (option_map (cut_of xs) (place_if (ltb n (length xs)) n)) ≡ option_map (cut_of (x ∷ xs)) (place_if (ltb (1 + n) (suc (length xs))) (1 + n))
place_if-cons x n xs = elim (cases_lt n (length xs)) [
  | inl lt ↦ rw (lt-ltb n (length xs) lt, lt-ltb (1 + n) (suc (length xs)) (omega arith)) (rw (add-one, one-add, add-one) refl)
  | inr le ↦ rw (le-ltb n (length xs) le, le-ltb (1 + n) (suc (length xs)) (omega arith)) refl
]

pub cut_at-position : (byte : ℕ) (xs : List ℕ) → cut_at byte xs ≡ option_map (cut_of xs) (position (λ b. b == byte) xs)
cut_at-position byte [] = refl
cut_at-position byte (x ∷ xs) =
    let n = prefix_len (λ b. not (eqb b byte)) xs in
    let nothing : List ℕ = [] in
    elim (eqb x byte) as (λ v. cond v (Some (nothing, xs)) (option_map (with_first x) (cut_at byte xs)) ≡ option_map (cut_of (x ∷ xs)) (place_if (ltb (cond (not v) (1 + n) 0) (suc (length xs))) (cond (not v) (1 + n) 0))) [
      | true ↦ rw (lt-ltb 0 (suc (length xs)) (omega arith)) refl
      | false ↦ ap (option_map (with_first x)) (cut_at-position byte xs) ∙ place_if-cons x n xs
    ]

pub cut_at-Some : (byte : ℕ) (xs : List ℕ) (i : ℕ) → position (λ b. b == byte) xs ≡ Some i → cut_at byte xs ≡ Some (take i xs, drop (i + 1) xs)
cut_at-Some byte xs i h = cut_at-position byte xs ∙ ap (option_map (cut_of xs)) h

pub cut_at-None : (byte : ℕ) (xs : List ℕ) → position (λ b. b == byte) xs ≡ None → cut_at byte xs ≡ None
cut_at-None byte xs h = cut_at-position byte xs ∙ ap (option_map (cut_of xs)) h

-- the pieces that a list is split in are the one before the first such byte, and those after it
cut_pieces : ℕ → List ℕ → Option (List ℕ × List ℕ) → List (List ℕ)
cut_pieces byte xs None = xs ∷ []
cut_pieces byte xs (Some parts) = parts.0 ∷ slice_split (λ b. b == byte) parts.1

cut_pieces-first : (byte x : ℕ) (xs : List ℕ) (o : Option (List ℕ × List ℕ)) → onto_first x (cut_pieces byte xs o) ≡ cut_pieces byte (x ∷ xs) (option_map (with_first x) o)
unfolding cut_pieces
cut_pieces-first byte x xs None = refl
cut_pieces-first byte x xs (Some parts) = refl

slice_split-cut : (byte : ℕ) (xs : List ℕ) → slice_split (λ b. b == byte) xs ≡ cut_pieces byte xs (cut_at byte xs)
unfolding cut_pieces
slice_split-cut byte [] = refl
slice_split-cut byte (x ∷ xs) =
    let nothing : List ℕ = [] in
    elim (eqb x byte) as (λ v. cond v ([] ∷ slice_split (λ b. b == byte) xs) (onto_first x (slice_split (λ b. b == byte) xs)) ≡ cut_pieces byte (x ∷ xs) (cond v (Some (nothing, xs)) (option_map (with_first x) (cut_at byte xs))))
    [ true ↦ refl | false ↦ ap (onto_first x) (slice_split-cut byte xs) ∙ cut_pieces-first byte x xs (cut_at byte xs) ]

pub slice_split-Some : (byte : ℕ) (xs front rest : List ℕ) → cut_at byte xs ≡ Some (front, rest) → slice_split (λ b. b == byte) xs ≡ front ∷ slice_split (λ b. b == byte) rest
unfolding cut_pieces
slice_split-Some byte xs front rest h = slice_split-cut byte xs ∙ ap (cut_pieces byte xs) h

pub slice_split-None : (byte : ℕ) (xs : List ℕ) → cut_at byte xs ≡ None → slice_split (λ b. b == byte) xs ≡ xs ∷ []
unfolding cut_pieces
slice_split-None byte xs h = slice_split-cut byte xs ∙ ap (cut_pieces byte xs) h

-- ---- labels

pub after-append : (label rest : List ℕ) → after label (label ++ rest) ≡ Some rest
after-append [] rest = refl
after-append (l ∷ label) rest = rw (eq-eqb l l refl) (after-append label rest)

pub after-parts : (label bytes rest : List ℕ) → after label bytes ≡ Some rest → bytes ≡ label ++ rest
after-parts [] bytes rest h = cc
after-parts (l ∷ label) [] rest h = absurd cc
after-parts (l ∷ label) (b ∷ bytes) rest h =
    (elim (eqb b l) as (λ v. eqb b l ≡ v → cond v (after label bytes) None ≡ Some rest → b ∷ bytes ≡ l ∷ (label ++ rest))
    [ true ↦ λ e g. rw (eqb-true b l e, after-parts label bytes rest g) refl | false ↦ λ e g. absurd cc ]) refl h

no_after : (label bytes : List ℕ) → ((rest : List ℕ) → bytes ≢ label ++ rest) → (o : Option (List ℕ)) → after label bytes ≡ o → o ≡ None
no_after label bytes h None e = refl
no_after label bytes h (Some rest) e = absurd (h rest (after-parts label bytes rest e))

pub after-Finds : (label bytes : List ℕ) (r : Option (Bor (List ℕ))) → MatchOption r ((rest : List ℕ) → bytes ≢ label ++ rest) (λ x. bytes ≡ label ++ x.now) → Finds (λ x. x.now) r (after label bytes)
after-Finds label bytes None h = no_after label bytes h (after label bytes) refl
after-Finds label bytes (Some x) h = ap (after label) h ∙ after-append label x.now

-- ---- numbers

-- a number grows with its digits
fold-grows : (a : ℕ) (xs : List ℕ) → a ≤ fold (λ n digit. 10 * n + (digit - 48)) a xs
fold-grows a [] = omega arith
fold-grows a (x ∷ xs) = omega (arith, fold-grows (10 * a + (x - 48)) xs)

number_in-too_large : (greatest : ℕ) (bytes : List ℕ) → greatest < decimal_value bytes → number_in greatest bytes ≡ None
number_in-too_large greatest [] h = refl
number_in-too_large greatest (b ∷ bs) h =
    let much : nat_le (decimal_value (b ∷ bs)) greatest ≡ false = lt-leb (decimal_value (b ∷ bs)) greatest h in
    rw much (elim (list_all is_digit (b ∷ bs)) as (λ v. cond (v && false) (Some (decimal_value (b ∷ bs))) None ≡ None) [ true ↦ refl | false ↦ refl ])

-- where a part of the digits makes a number that is too great, all of them do
pub number_in-past : (greatest i : ℕ) (bytes : List ℕ) (value : ℕ) → i < length bytes → fold (λ n digit. 10 * n + (digit - 48)) value (drop i bytes) ≡ decimal_value bytes → greatest < 10 * value + (get_or bytes i 0 - 48) → number_in greatest bytes ≡ None
number_in-past greatest i bytes value inside so_far much =
    let step : fold (λ n digit. 10 * n + (digit - 48)) value (drop i bytes) ≡ fold (λ n digit. 10 * n + (digit - 48)) (10 * value + (get_or bytes i 0 - 48)) (drop (i + 1) bytes) = ap (fold (λ n digit. 10 * n + (digit - 48)) value) (drop_more bytes i 0 inside) in
    number_in-too_large greatest bytes (omega (arith, fold-grows (10 * value + (get_or bytes i 0 - 48)) (drop (i + 1) bytes), step, so_far))
