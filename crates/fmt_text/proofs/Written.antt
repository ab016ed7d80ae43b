-- Lists that grow part by part, and lists that are passed item by item.
use Rattle.std.proofs.Common.{◌≡◌, ◌<◌, ◌+◌, ◌++◌, ℕ, List, [], ◌∷◌, length, get_or, take, drop, sym, ap, ◌∙◌, add-one, append_assoc}
use Rattle.std.specs.List.{flat_map}
use Rattle.std.proofs.lemmas.List.{take_more, flat_map_more}
use Rattle.std.proofs.Math.Seq.{drop-cons}

pub two_added : (o one two : List ℕ) (a b : List ℕ) → one ≡ o ++ a → two ≡ one ++ b → two ≡ o ++ (a ++ b)
two_added o one two a b first second = second ∙ ap (λ (l : List ℕ). l ++ b) first ∙ append_assoc o a b

pub three_added : (o one two three : List ℕ) (a b c : List ℕ) → one ≡ o ++ a → two ≡ one ++ b → three ≡ two ++ c
    → three ≡ o ++ (a ++ (b ++ c))
three_added o one two three a b c first second third =
    two_added o two three (a ++ b) c (two_added o one two a b first second) third ∙ ap (λ (l : List ℕ). o ++ l) (append_assoc a b c)

-- what is left from a place on begins with the item there
pub item_first : {A : Type 0} (xs : List A) (i : ℕ) (x : A) → i < length xs → x ≡ get_or xs i x → x ∷ drop (i + 1) xs ≡ drop i xs
item_first {A} xs i x h e = ap (λ (y : A). y ∷ drop (i + 1) xs) e ∙ rw (add-one i) (sym (drop-cons xs i x h))

-- what is made of the items so far, with one item more
pub made_more : {A B : Type 0} (f : A → List B) (xs : List A) (i : ℕ) (x : A) → i < length xs → x ≡ get_or xs i x
    → flat_map f (take i xs) ++ f x ≡ flat_map f (take (i + 1) xs)
made_more {A} f xs i x h e =
    let taken : take i xs ++ x ∷ [] ≡ take (i + 1) xs = ap (λ (y : A). take i xs ++ y ∷ []) e ∙ sym (take_more xs i x h) in
    flat_map_more f [] (take i xs) x ∙ ap (λ (l : List A). flat_map f l) taken
