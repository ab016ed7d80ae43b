-- What was written so far, and one piece more.
use Rattle.std.proofs.Common.{◌≡◌, ℕ, ◌+◌, ◌<◌, List, ◌++◌, length, take, get_or, Result, sym, ap, ◌∙◌, append_assoc}
use Rattle.std.specs.Prelude.{OnOk}
use Rattle.std.proofs.lemmas.Result.{on_ok_weaker}
use Rattle.bt_core.specs.declared.value.Value.{Value}
use Rattle.bt_core.specs.KeyBytes.{key_bytes, value_bytes}
use Rattle.bt_core.proofs.KeyBytesLaws.{key_bytes_more}

pub value_pushed : (key : List Value) (i : ℕ) (v : Value) (old now later : List ℕ) → i < length key → v ≡ get_or key i v → now ≡ old ++ key_bytes (take i key) → later ≡ now ++ value_bytes v
    → later ≡ old ++ key_bytes (take (i + 1) key)
value_pushed key i v old now later lt is so_far more =
    more ∙ ap (λ (l : List ℕ). l ++ value_bytes v) so_far ∙ append_assoc old (key_bytes (take i key)) (value_bytes v)
    ∙ ap (λ (l : List ℕ). old ++ l) (ap (λ (x : Value). key_bytes (take i key) ++ value_bytes x) is ∙ sym (key_bytes_more key i v lt))

-- one more piece behind two
pub pushed_behind : {T E : Type 0} (r : Result T E) (old front middle last now later : List ℕ) → now ≡ old ++ (front ++ middle) → OnOk r (later ≡ now ++ last) → OnOk r (later ≡ old ++ (front ++ (middle ++ last)))
pushed_behind r old front middle last now later e h =
    on_ok_weaker r
    (λ (more : later ≡ now ++ last). more ∙ ap (λ (l : List ℕ). l ++ last) e ∙ append_assoc old (front ++ middle) last ∙ ap (λ (l : List ℕ). old ++ l) (append_assoc front middle last))
    h
