-- Which keys live, by their last puts.
use Rattle.std.proofs.Common.{◌≡◌, Bool, true, false, not, ◌&&◌, ◌||◌, List, [], ◌∷◌, ◌++◌, refl, ap, ◌∙◌, inl, inr, ⊎_elim, ◌⊎◌}
use Rattle.std.specs.List.{list_any}
use Rattle.std.specs.List.Sorted.{IsStrictlySortedBy}
use Rattle.std.proofs.lemmas.Bool.{and_parts, or_parts, or_right}
use Rattle.std.proofs.lemmas.List.Kept.{IsStrictlySortedBy-filter}
use Rattle.bt_core.specs.declared.value.Value.{Value}
use Rattle.bt_core.specs.Order.{key_order}
use Rattle.agg_core.specs.Changes.{Change, Puts, Removes, Clears, Zeroes, Leaves, is_put_of, is_taken, ends, lives, put_keys, live_keys}
use Rattle.agg_core.specs.Lives.{IsPutForGood}
use Rattle.agg_core.proofs.KeyLaws.{is_key-true, is_key-same}
use Rattle.agg_core.proofs.Running.{ascends-put_keys}
use Rattle.agg_core.proofs.SortedRows.{Ascends}

strictly_sorted : (keys : List (List Value)) → Ascends keys → IsStrictlySortedBy key_order keys
unfolding IsStrictlySortedBy
strictly_sorted [] a = tt
strictly_sorted (k ∷ ks) a = (a.0, strictly_sorted ks a.1)

either_true : (a b : Bool) → (a || b) ≡ true → (a ≡ true) ⊎ (b ≡ true)
either_true true b e = inl refl
either_true false b e = inr e

is_false : (b : Bool) → not b ≡ true → b ≡ false
is_false true e = cc
is_false false e = refl

module _ {V : Type 0} where
  put_here : (c : Change V) (before : List (Change V)) (k : List Value) → is_put_of k c ≡ true → is_taken before k ≡ true → IsPutForGood (c ∷ before) k
  put_here (Puts j v) before k is taken = let same : j ≡ k = is_key-true j k is in
      record { later = []; given = v; before = before; made = ap (λ i. Puts i v ∷ before) same; taken = taken; lasts = refl }
  put_here (Removes j) before k is taken = cc
  put_here Clears before k is taken = cc
  put_here Zeroes before k is taken = cc
  put_here Leaves before k is taken = cc

  pub put-lives : (changes : List (Change V)) (k : List Value) → lives changes k ≡ true → IsPutForGood changes k
  put-lives [] k alive = cc
  put-lives (c ∷ before) k alive = ⊎_elim
      (λ (l : (is_put_of k c && is_taken before k) ≡ true). let two = and_parts (is_put_of k c) (is_taken before k) l in put_here c before k two.0 two.1)
      (λ (r : (not (ends k c) && lives before k) ≡ true).
      let two = and_parts (not (ends k c)) (lives before k) r in
      let put = put-lives before k two.1 in
      let no : ends k c ≡ false = is_false (ends k c) two.0 in
      record {
        later = c ∷ put.later;
        given = put.given;
        before = put.before;
        made = ap (λ l. c ∷ l) put.made;
        taken = put.taken;
        lasts = (λ i. no i || list_any (ends k) put.later) ∙ put.lasts;
      })
      (either_true (is_put_of k c && is_taken before k) (not (ends k c) && lives before k) alive)

  lives-after : (later : List (Change V)) (k : List Value) (v : V) (before : List (Change V)) → is_taken before k ≡ true → list_any (ends k) later ≡ false → lives (later ++ Puts k v ∷ before) k ≡ true
  lives-after [] k v before taken lasts = λ i. (is_key-same k k refl i && taken i) || (true && lives before k)
  lives-after (c ∷ later) k v before taken lasts =
      let two = or_parts (ends k c) (list_any (ends k) later) lasts in
      let rest = lives-after later k v before taken two.1 in
      or_right (is_put_of k c && is_taken (later ++ Puts k v ∷ before) k) (not (ends k c) && lives (later ++ Puts k v ∷ before) k)
      (λ i. not (two.0 i) && rest i)

  pub lives-put_for_good : (changes : List (Change V)) (k : List Value) → IsPutForGood changes k → lives changes k ≡ true
  lives-put_for_good changes k put = ap (λ l. lives l k) put.made ∙ lives-after put.later k put.given put.before put.taken put.lasts

  pub live_keys-sorted : (changes : List (Change V)) → IsStrictlySortedBy key_order (live_keys changes)
  live_keys-sorted changes = IsStrictlySortedBy-filter key_order (lives changes) (put_keys changes) (strictly_sorted (put_keys changes) (ascends-put_keys changes))
