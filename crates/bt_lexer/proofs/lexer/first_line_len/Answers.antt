use Rattle.std.proofs.Common.{◌≤◌, ℕ, Bool, List, [], ◌∷◌, length, arith}
use Rattle.std.specs.Prelude.{take_while}
use Rattle.std.proofs.lemmas.List.Sums.{take_while-cons}
use Rattle.bt_lexer.specs.Bytes.{not_newline}
use Rattle.bt_lexer.proofs.Choices.{decided}
use Rattle.bt_lexer.proofs.lexer.first_line_len.Goals as goal

taken_short : (p : ℕ → Bool) (xs : List ℕ) → length (take_while p xs) ≤ length xs
taken_short p [] = omega arith
taken_short p (x ∷ xs) =
    let rest = taken_short p xs in
    rw (take_while-cons p x xs) (decided (λ (l : List ℕ). length l ≤ length (x ∷ xs)) (p x) _ _ (λ _. omega arith) (λ _. omega arith))

pub returns-in-35-clause-within : goal.returns-in-35-clause-within
returns-in-35-clause-within c = rw c.line_len.ensures (taken_short not_newline c.args.text.now)
