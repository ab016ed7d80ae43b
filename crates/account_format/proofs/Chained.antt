-- Steps one after another, by what each of them read.
use Rattle.std.proofs.Common.{◌≡◌, ℕ, ◌≤◌, Bool, Option, Some, None, sym, ap, ◌∙◌}
use Rattle.std.specs.Prelude.{nat_lt}
use Rattle.std.proofs.lemmas.Bool.{le-ltb}
use Rattle.recordings.specs.Fronts.{◌>>=◌, where_true}

pub some_then : {A B : Type 0} (r : Option A) (f : A → Option B) (x : A) (y : Option B) → r ≡ Some x → y ≡ f x → y ≡ (r >>= f)
some_then r f x y read more = more ∙ sym (ap (λ o. o >>= f) read)

pub none_then : {A B : Type 0} (r : Option A) (f : A → Option B) → r ≡ None → None ≡ (r >>= f)
none_then r f none = sym (ap (λ o. o >>= f) none)

-- a number that is not below another
pub not_below : {A : Type 0} (a b : ℕ) (value : A) → b ≤ a → None ≡ where_true (nat_lt a b) value
not_below a b value le = sym (ap (λ (test : Bool). where_true test value) (le-ltb a b le))
