-- Bytes that are appended one after another.
use Rattle.std.proofs.Common.{ℕ, ◌+◌, List, ◌++◌, length, take, ap, ◌∙◌, append_assoc, arith}
use Rattle.std.specs.Prelude.{Option, Some, None, Result, Ok, Err, OnErr}
use Rattle.std.specs.Io.KnownBytes.{Appends}
use Rattle.std.proofs.lemmas.List.{length-append}
use Rattle.std.proofs.Math.Seq.{take-append-add}
use Rattle.bt_io.specs.Taken.{AppendsPart}

pub Appends-then : (a b c : Option (List ℕ)) (xs ys : List ℕ) → Appends a b xs → Appends b c ys → Appends a c (xs ++ ys)
Appends-then None b c xs ys p q = p
Appends-then (Some x) None c xs ys p q = absurd p
Appends-then (Some x) (Some y) None xs ys p q = absurd q
Appends-then (Some x) (Some y) (Some z) xs ys p q = q ∙ ap (λ (l : List ℕ). l ++ ys) p ∙ append_assoc x xs ys

-- a part of the second bytes comes after the whole of the first
pub AppendsPart-after : {E : Type 0} (a b c : Option (List ℕ)) (xs ys : List ℕ) (r : Result (Unit {0}) E) → Appends a b xs → OnErr r (AppendsPart b c ys) → OnErr r (AppendsPart a c (xs ++ ys))
AppendsPart-after a b c xs ys (Ok u) first second = tt
AppendsPart-after a b c xs ys (Err e) first second = record {
  count = length xs + second.count;
  within = omega (arith, length-append xs ys, second.within);
  appends = rw (take-append-add xs ys second.count) (Appends-then a b c xs (take second.count ys) first second.appends);
}
