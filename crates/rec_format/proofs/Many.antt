-- Reading parts and items one after the other, where each step may fail.
use Rattle.std.proofs.Common.{◌≡◌, ℕ, zero, suc, ◌+◌, ◌-◌, ◌<◌, Option, Some, None, Result, Ok, Err, List, [], ◌∷◌, ◌++◌, length, ap, sym, ◌∙◌, append_assoc, arith}
use Rattle.std.specs.List.{flat_map}
use Rattle.std.proofs.lemmas.List.{append-nil}
use Rattle.std.proofs.lemmas.List.Concat.{flat_map-cons}
use Rattle.recordings.specs.declared.error.RecordingError.{RecordingError}
use Rattle.recordings.specs.declared.error.RecordingError.TheVariants as fault

abbrev pub then_read : {A B : Type 0} → Result A RecordingError → (A → Result B RecordingError) → Result B RecordingError
then_read (Ok x) f = f x
then_read (Err e) f = Err e

-- a part that stands there, or else the length of all bytes
abbrev pub whole_part : {P : Type 0} → ℕ → Option (P × List ℕ) → Result (P × List ℕ) RecordingError
whole_part whole None = Err (fault.Truncated whole)
whole_part whole (Some p) = Ok p

-- a value, unless there is a fault
abbrev pub unless_fault : {A : Type 0} → Option RecordingError → A → Result A RecordingError
unless_fault None x = Ok x
unless_fault (Some e) x = Err e

-- items one after the other, each by those before it
pub many : {X : Type 0} → (List X → List ℕ → Result (X × List ℕ) RecordingError) → ℕ → List X → List ℕ → Result (List X × List ℕ) RecordingError
many step zero acc bytes = Ok (acc, bytes)
many step (suc n) acc bytes = then_read (step acc bytes) (λ x. many step n (acc ++ x.0 ∷ []) x.1)

-- each item fits behind those before it
abbrev pub Chain : {X : Type 0} → (List X → X → Type 0) → List X → List X → Type 0
Chain Fits acc [] = Unit {0}
Chain Fits acc (x ∷ xs) = Fits acc x × Chain Fits (acc ++ x ∷ []) xs

many_again : {X : Type 0} (step : List X → List ℕ → Result (X × List ℕ) RecordingError) (spelling : X → List ℕ) (Fits : List X → X → Type 0)
    → ((acc : List X) (x : X) (rest : List ℕ) → Fits acc x → step acc (spelling x ++ rest) ≡ Ok (x, rest))
    → (xs acc : List X) (n : ℕ) (rest : List ℕ) → Chain Fits acc xs → many step (length xs + n) acc (flat_map spelling xs ++ rest) ≡ many step n (acc ++ xs) rest
unfolding many
many_again step spelling Fits law [] acc n rest chain = ap (λ (k : ℕ). many step k acc rest) (omega arith) ∙ ap (λ a. many step n a rest) (sym (append-nil acc))
many_again step spelling Fits law (x ∷ xs) acc n rest chain =
    let count : length (x ∷ xs) + n ≡ suc (length xs + n) = omega arith in
    let bytes : flat_map spelling (x ∷ xs) ++ rest ≡ spelling x ++ (flat_map spelling xs ++ rest) =
    ap (λ (l : List ℕ). l ++ rest) (flat_map-cons spelling x xs) ∙ append_assoc (spelling x) (flat_map spelling xs) rest in
    ap (λ (k : ℕ). many step k acc (flat_map spelling (x ∷ xs) ++ rest)) count
    ∙ ap (many step (suc (length xs + n)) acc) bytes
    ∙ ap (λ r. then_read r (λ y. many step (length xs + n) (acc ++ y.0 ∷ []) y.1)) (law acc x (flat_map spelling xs ++ rest) chain.0)
    ∙ many_again step spelling Fits law xs (acc ++ x ∷ []) n rest chain.1
    ∙ ap (λ a. many step n a rest) (append_assoc acc (x ∷ []) xs)

pub many_all : {X : Type 0} (step : List X → List ℕ → Result (X × List ℕ) RecordingError) (spelling : X → List ℕ) (Fits : List X → X → Type 0)
    → ((acc : List X) (x : X) (rest : List ℕ) → Fits acc x → step acc (spelling x ++ rest) ≡ Ok (x, rest))
    → (xs : List X) (n : ℕ) (bytes rest : List ℕ) → Chain Fits [] xs → length xs ≡ n → bytes ≡ flat_map spelling xs ++ rest → many step n [] bytes ≡ Ok (xs, rest)
unfolding many
many_all step spelling Fits law xs n bytes rest chain counted spelled =
    let count : n ≡ length xs + 0 = omega (arith, counted) in
    ap (λ (k : ℕ). many step k [] bytes) count ∙ ap (many step (length xs + 0) []) spelled ∙ many_again step spelling Fits law xs [] 0 rest chain

pub many_fails : {X : Type 0} (step : List X → List ℕ → Result (X × List ℕ) RecordingError) (spelling : X → List ℕ) (Fits : List X → X → Type 0)
    → ((acc : List X) (x : X) (rest : List ℕ) → Fits acc x → step acc (spelling x ++ rest) ≡ Ok (x, rest))
    → (xs : List X) (n : ℕ) (bytes rest : List ℕ) (e : RecordingError) → Chain Fits [] xs → length xs < n → bytes ≡ flat_map spelling xs ++ rest → step xs rest ≡ Err e → many step n [] bytes ≡ Err e
unfolding many
many_fails step spelling Fits law xs n bytes rest e chain due spelled fails =
    let left : ℕ = n - (length xs + 1) in
    let count : n ≡ length xs + suc left = omega arith in
    ap (λ (k : ℕ). many step k [] bytes) count ∙ ap (many step (length xs + suc left) []) spelled ∙ many_again step spelling Fits law xs [] (suc left) rest chain
    ∙ ap (λ r. then_read r (λ y. many step left (xs ++ y.0 ∷ []) y.1)) fails
