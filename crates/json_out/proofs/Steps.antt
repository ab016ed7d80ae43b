-- One value more in a list that a loop fills.
use Rattle.std.proofs.Common.{◌≡◌, ℕ, ◌+◌, ◌<◌, ◌≤◌, List, [], ◌∷◌, ◌++◌, map, take, get_or, length, sym, ap, ◌∙◌}
use Rattle.std.proofs.lemmas.List.{map-append, map_more, take_all}
use Rattle.serde_json.specs.Data.{Data}
use Rattle.serde_json.specs.View.{view}
use Rattle.serde_json.specs.declared.value.Value.{Value as Json}

pub next_value : {X : Type 0} (shown : X → Data) (xs : List X) (i : ℕ) (x : X) (old new : List Json) (value : Json) → i < length xs → x ≡ get_or xs i x
    → map view old ≡ map shown (take i xs) → new ≡ old ++ value ∷ [] → view value ≡ shown x → map view new ≡ map shown (take (i + 1) xs)
next_value shown xs i x old new value less same before more is =
    ap (map view) more ∙ map-append view old (value ∷ []) ∙ (λ k. before k ++ (is ∙ ap shown same) k ∷ []) ∙ sym (map_more shown xs i x less)

pub last_value : {X : Type 0} (shown : X → Data) (xs : List X) (i : ℕ) (list : List Json) → length xs ≤ i → map view list ≡ map shown (take i xs) → map view list ≡ map shown xs
last_value shown xs i list past all = all ∙ ap (map shown) (take_all i xs past)
