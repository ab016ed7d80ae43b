-- What changes that only put leave, where they name few keys.
use Rattle.std.proofs.Common.{◌≡◌, ℕ, suc, ◌+◌, ◌≤◌, ℤ, Bool, true, false, ◌||◌, ◌&&◌, not, cond, List, [], ◌∷◌, ◌++◌, map, length, refl, sym, ap, ◌∙◌, subst, arith, append-nil}
use Rattle.std.specs.declared.cmp.Ordering.TheVariants.{Less, Equal, Greater}
use Rattle.std.specs.Ordering.{match_ordering}
use Rattle.std.specs.List.{filter}
use Rattle.std.proofs.lemmas.Bool.{lt-ltb}
use Rattle.bt_core.specs.declared.limits.TheConstants.{KEYS}
use Rattle.bt_core.specs.declared.map.AggKind.{AggKind}
use Rattle.bt_core.specs.declared.value.Value.{Value}
use Rattle.bt_core.specs.Order.{key_order}
use Rattle.agg_core.specs.Aggregates.{aggregate}
use Rattle.agg_core.specs.Changes.{is_key, Change, Puts, Removes, Clears, Zeroes, Leaves, with_key, put_keys, lives, is_taken, given_to, lost_updates, rows_of}
use Rattle.agg_core.proofs.KeyLaws.{is_key-true}
use Rattle.agg_core.proofs.Running.{ascends-put_keys}
use Rattle.agg_core.proofs.SortedRows.{row_at}
use Rattle.map_rows.proofs.KeySets.{has, has-with_key, key_flip, same_keys}
use Rattle.bt_meaning.specs.Totals.{Addition, addition_keys, numbers_at}
use Rattle.total_laws.specs.Ends.{aggregate_rows}
use Rattle.total_laws.proofs.Given.{named, ascends-entry_keys, has-entry_keys, named-append, numbers_at-append, numbers_at-cons, map_same}
use Rattle.total_laws.proofs.Members.{filter_members}

abbrev pub OnlyPuts : List (Change ℤ) → Type 0
OnlyPuts [] = Unit {0}
OnlyPuts (Puts k v ∷ before) = OnlyPuts before
OnlyPuts (Leaves ∷ before) = OnlyPuts before
OnlyPuts (Removes k ∷ before) = ⊥
OnlyPuts (Clears ∷ before) = ⊥
OnlyPuts (Zeroes ∷ before) = ⊥

-- what a change puts: the key and its number
abbrev pub put_by : Change ℤ → List Addition
put_by (Puts k v) = (k, v) ∷ []
put_by c = []

-- what the changes put, the first one first
abbrev pub all_put : List (Change ℤ) → List Addition
all_put [] = []
all_put (c ∷ before) = all_put before ++ put_by c

or_last : (a b : Bool) → (a || (b || false)) ≡ (b || a)
or_last true true = refl
or_last true false = refl
or_last false true = refl
or_last false false = refl

cond_more : {A : Type 0} (t : Bool) (xs : List A) (x : A) → cond t (xs ++ x ∷ []) xs ≡ xs ++ cond t (x ∷ []) []
cond_more true xs x = refl
cond_more false xs x = sym (append-nil xs)

kept_length : {A : Type 0} (t : Bool) (x : A) (l : List A) (n : ℕ) → length l ≤ n → length (cond t (x ∷ l) l) ≤ suc n
kept_length true x l n le = omega arith
kept_length false x l n le = omega arith

filter_length : {A : Type 0} (p : A → Bool) (xs : List A) → length (filter p xs) ≤ length xs
filter_length p [] = omega arith
filter_length p (x ∷ xs) = kept_length (p x) x (filter p xs) (length xs) (filter_length p xs)

no_fewer : (k : List Value) (ks : List (List Value)) → length ks ≤ length (with_key k ks)
no_fewer k [] = omega arith
no_fewer k (j ∷ js) = let r = no_fewer k js in elim (key_order k j) as (λ o. suc (length js) ≤ length (match_ordering o (k ∷ j ∷ js) (j ∷ js) (j ∷ with_key k js)))
    [ Less ↦ omega arith | Equal ↦ omega arith | Greater ↦ omega arith ]

one_more_key : (k : List Value) (ks : List (List Value)) → has k ks ≡ false → length (with_key k ks) ≡ suc (length ks)
one_more_key k [] gone = refl
one_more_key k (j ∷ js) gone = elim (key_order k j) as (λ o. key_order k j ≡ o → length (match_ordering o (k ∷ j ∷ js) (j ∷ js) (j ∷ with_key k js)) ≡ suc (suc (length js))) [
  | Less ↦ (λ e. refl)
  | Equal ↦ (λ e. absurd (let q : true ≡ false = sym (is_here e) ∙ gone in let r : ⊥ = cc in r))
  | Greater ↦ (λ e. ap suc (one_more_key k js (sym (past e) ∙ gone)))
] refl
  where
    is_here : key_order k j ≡ Equal → has k (j ∷ js) ≡ true
    is_here e = rw e refl

    past : key_order k j ≡ Greater → has k (j ∷ js) ≡ has k js
    past e = rw e refl

pub names_put : (k : List Value) (cs : List (Change ℤ)) → OnlyPuts cs → has k (put_keys cs) ≡ named k (all_put cs)
names_put k [] o = refl
names_put k (Puts j v ∷ cs) o = has-with_key k j (put_keys cs) ∙ ap (λ (t : Bool). is_key k j || t) (names_put k cs o)
    ∙ sym (named-append k (all_put cs) ((j, v) ∷ []) ∙ or_last (named k (all_put cs)) (is_key k j))
names_put k (Leaves ∷ cs) o = names_put k cs o ∙ ap (named k) (sym (append-nil (all_put cs)))
names_put k (Removes j ∷ cs) o = absurd o
names_put k (Clears ∷ cs) o = absurd o
names_put k (Zeroes ∷ cs) o = absurd o

pub put_keys_of : (cs : List (Change ℤ)) → OnlyPuts cs → put_keys cs ≡ addition_keys (all_put cs)
put_keys_of cs o =
    same_keys (put_keys cs) (addition_keys (all_put cs)) (ascends-put_keys cs) (ascends-entry_keys (all_put cs)) (λ k. names_put k cs o ∙ sym (has-entry_keys k (all_put cs)))

-- with fewer than 4,096 keys, or for one of the keys, a put is taken
taken : (before : List (Change ℤ)) (k : List Value) → ((j : List Value) → lives before j ≡ has j (put_keys before)) → length (with_key k (put_keys before)) ≤ KEYS → is_taken before k ≡ true
taken before k live le = by_test (has k (put_keys before)) refl
  where
    by_test : (t : Bool) → has k (put_keys before) ≡ t → is_taken before k ≡ true
    by_test true e = rw (live k ∙ e) refl
    by_test false e = rw (live k ∙ e) (lt-ltb (length (filter (lives before) (put_keys before))) KEYS
        (let l = one_more_key k (put_keys before) e in let m = filter_length (lives before) (put_keys before) in omega arith))

here : (before : List (Change ℤ)) (j k : List Value) → is_taken before j ≡ true → (is_key j k && is_taken before k) ≡ is_key j k
here before j k took = by_test (is_key j k) refl
  where
    by_test : (t : Bool) → is_key j k ≡ t → (t && is_taken before k) ≡ t
    by_test true e = ap (is_taken before) (sym (is_key-true j k e)) ∙ took
    by_test false e = refl

abbrev Few : List (Change ℤ) → Type 0
Few cs = length (put_keys cs) ≤ KEYS

few_before : (cs : List (Change ℤ)) (j : List Value) → length (with_key j (put_keys cs)) ≤ KEYS → Few cs
few_before cs j le = let l = no_fewer j (put_keys cs) in omega arith

live_all : (cs : List (Change ℤ)) → OnlyPuts cs → Few cs → (k : List Value) → lives cs k ≡ has k (put_keys cs)
live_all [] o le k = refl
live_all (Puts j v ∷ cs) o le k = let live = live_all cs o (few_before cs j le) in
    (λ i. (here cs j k (taken cs j live le) ∙ key_flip j k) i || live k i) ∙ sym (has-with_key k j (put_keys cs))
live_all (Leaves ∷ cs) o le k = live_all cs o le k
live_all (Removes j ∷ cs) o le k = absurd o
live_all (Clears ∷ cs) o le k = absurd o
live_all (Zeroes ∷ cs) o le k = absurd o

given_all : (cs : List (Change ℤ)) → OnlyPuts cs → Few cs → (k : List Value) → given_to cs k ≡ numbers_at k (all_put cs)
given_all [] o le k = refl
given_all (Puts j v ∷ cs) o le k = let few = few_before cs j le in
    (λ i. cond ((here cs j k (taken cs j (live_all cs o few) le) ∙ key_flip j k) i) (given_all cs o few k i ++ v ∷ []) (given_all cs o few k i))
    ∙ cond_more (is_key k j) (numbers_at k (all_put cs)) v
    ∙ sym (numbers_at-append k (all_put cs) ((j, v) ∷ []) ∙ ap (λ (l : List ℤ). numbers_at k (all_put cs) ++ l) (numbers_at-cons k (j, v) []))
given_all (Leaves ∷ cs) o le k = given_all cs o le k ∙ ap (numbers_at k) (sym (append-nil (all_put cs)))
given_all (Removes j ∷ cs) o le k = absurd o
given_all (Clears ∷ cs) o le k = absurd o
given_all (Zeroes ∷ cs) o le k = absurd o

none_lost : (cs : List (Change ℤ)) → OnlyPuts cs → Few cs → lost_updates cs ≡ 0
none_lost [] o le = refl
none_lost (Puts j v ∷ cs) o le = let few = few_before cs j le in
    let t : is_taken cs j ≡ true = taken cs j (live_all cs o few) le in
    λ i. none_lost cs o few i + cond (not (t i)) 1 0
none_lost (Leaves ∷ cs) o le = λ i. none_lost cs o le i + 0
none_lost (Removes j ∷ cs) o le = absurd o
none_lost (Clears ∷ cs) o le = absurd o
none_lost (Zeroes ∷ cs) o le = absurd o

-- few keys lose none
pub few_keys : (kind : AggKind) (cs : List (Change ℤ)) → OnlyPuts cs → length (addition_keys (all_put cs)) ≤ KEYS
    → (rows_of (aggregate kind) cs ≡ aggregate_rows kind (all_put cs)) × (lost_updates cs ≡ 0)
few_keys kind cs o le =
    let keys = put_keys_of cs o in let few : length (put_keys cs) ≤ KEYS = subst (λ (l : List (List Value)). length l ≤ KEYS) (sym keys) le in (
      ap (map (row_at (λ k. aggregate kind (given_to cs k)))) (filter_members (lives cs) (put_keys cs) (ascends-put_keys cs) (λ k h. live_all cs o few k ∙ h) ∙ keys)
          ∙ map_same (row_at (λ k. aggregate kind (given_to cs k))) (row_at (λ k. aggregate kind (numbers_at k (all_put cs)))) (addition_keys (all_put cs)) (λ k i. (k, aggregate kind (given_all cs o few k i))),
      none_lost cs o few,
    )
