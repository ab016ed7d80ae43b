-- A list with one item more.
use Rattle.std.proofs.Common.{◌≡◌, ◌+◌, List, [], ◌∷◌, ◌++◌, length, sym, ap, subst, arith, length-append}
use Rattle.std.specs.Prelude.{All}
use Rattle.std.proofs.lemmas.List.Elements.{All-append, All-from_recursion}

pub all_more : {A : Type 0} (P : A → Type 0) (xs new : List A) (x : A) → All P xs → P x → new ≡ xs ++ x ∷ [] → All P new
all_more P xs new x all one e = subst (All P) (sym e) (All-append P xs (x ∷ []) all (All-from_recursion P (x ∷ []) (one, tt)))

pub count_more : {A : Type 0} (xs new : List A) (x : A) → new ≡ xs ++ x ∷ [] → length new ≡ length xs + 1
count_more xs new x e = let q = ap length e in let l = length-append xs (x ∷ []) in omega arith
