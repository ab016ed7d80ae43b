-- A probe for each body of a script, one after another.
use Rattle.std.proofs.Common.{◌≡◌, ℕ, zero, suc, ◌+◌, ◌<◌, ◌≤◌, List, [], ◌∷◌, ◌++◌, length, Some, get_or, refl, sym, ap, ◌∙◌, subst, arith, length-append, inl, inr}
use Rattle.std.specs.Prelude.{◌⊎◌, slice_get}
use Rattle.std.proofs.lemmas.Bool.{cases_lt}
use Rattle.bt_core.specs.declared.map.MapDecl.{MapDecl}
use Rattle.bt_core.specs.declared.map.Shape.{Shape}
use Rattle.typed_tree.specs.declared.body.TypedBody.{TypedBody}
use Rattle.ir_code.specs.declared.probe.IrProbe.{IrProbe}
use Rattle.bt_lower.specs.Bodies.{IsLowered, LoweredSoFar}
use Rattle.bt_lower.proofs.Blocks.{slice_get-append, slice_get-seam}
use Rattle.bt_lower.proofs.Loops.{some-below}

pub item-at : {A : Type 0} (xs : List A) (n : ℕ) (x : A) → n < length xs → x ≡ get_or xs n x → slice_get xs n ≡ Some x
item-at [] n x h e = absurd (omega arith)
item-at (y ∷ ys) zero x h e = ap Some (sym e)
item-at (y ∷ ys) (suc n) x h e = item-at ys n x (omega arith) e

some-same : {A : Type 0} (x y : A) → Some x ≡ Some y → x ≡ y
some-same x y e = cc

module _ (maps : List MapDecl) (formats : List (List Shape)) (bodies : List TypedBody) where
  pub Script-start : LoweredSoFar maps formats bodies 0 []
  Script-start = record { as_many = refl; each = λ n body probe e f. absurd (omega (arith, some-below [] n probe f)) }

  pub Script-next : (many next : ℕ) (body : TypedBody) (probe : IrProbe) (probes new : List IrProbe) → next ≡ many + 1 → slice_get bodies many ≡ Some body → IsLowered maps formats body probe → new ≡ probes ++ probe ∷ [] →
      LoweredSoFar maps formats bodies many probes → LoweredSoFar maps formats bodies next new
  Script-next many next body probe probes new en here made grown l =
      subst (λ (x : List IrProbe). LoweredSoFar maps formats bodies next x) (sym grown) (record {
        as_many = omega (arith, length-append probes (probe ∷ []), l.as_many, en);
        each = λ n b p e f. pick n b p e f (cases_lt n (length probes));
      })
    where
      pick : (n : ℕ) (b : TypedBody) (p : IrProbe) → slice_get bodies n ≡ Some b → slice_get (probes ++ probe ∷ []) n ≡ Some p → (n < length probes) ⊎ (length probes ≤ n) → IsLowered maps formats b p
      pick n b p e f (inl h) = l.each n b p e (sym (slice_get-append probes (probe ∷ []) n h) ∙ f)
      pick n b p e f (inr h) =
          let last : n ≡ length probes = omega (arith, some-below (probes ++ probe ∷ []) n p f, length-append probes (probe ∷ []), h) in
          let at : n ≡ many = last ∙ l.as_many in
          let same_body : body ≡ b = some-same body b (sym here ∙ ap (λ (k : ℕ). slice_get bodies k) (sym at) ∙ e) in
          let same_probe : probe ≡ p = some-same probe p (sym (slice_get-seam probes [] probe) ∙ ap (λ (k : ℕ). slice_get (probes ++ probe ∷ []) k) (sym last) ∙ f) in
          subst (λ (x : TypedBody). IsLowered maps formats x p) same_body (subst (λ (x : IrProbe). IsLowered maps formats body x) same_probe made)
