-- What a number with or without a sign was read of can be written again.
use Rattle.std.proofs.Common.{◌≡◌, ℕ, ℤ, ◌-◌, ◌^◌, ◌<◌, true, List, [], ◌∷◌, ◌++◌, refl, ap, sym, subst, ◌∙◌, inl, inr, arith}
use Rattle.std.specs.Prelude.{decimal, ◌%◌}
use Rattle.std.specs.Int.{w64, cast_unsigned}
use Rattle.std.proofs.Math.Nat.{mod-lt}
use Rattle.bt_lexer.specs.declared.token.TokenKind.TheVariants as kinds
use Rattle.bt_lexer.specs.Numbers.{signed}
use Rattle.ast_text.specs.Words.{number_text}
use Rattle.bt_grammar.specs.declared.class.Class.{Class}
use Rattle.bt_core.specs.declared.operator.BinOp.TheVariants.{Sub}
use Rattle.bt_grammar.specs.declared.class.Class.TheVariants.{NumberLiteral, Operator}
use Rattle.bt_grammar.specs.Classes.{is}
use Rattle.bt_grammar.specs.Form.{Item, Int, Rel, whole}
use Rattle.bt_grammar.specs.Trees.{kind_number, number_at}
use Rattle.bt_grammar.specs.Rules.{rule, a_number}
use Rattle.bt_grammar.proofs.AllClasses.{is_same, is_refl}
use Rattle.read_back_laws.proofs.Lexemes.{Sound, Valid, Honest}
use Rattle.read_back_laws.proofs.LexemesKinds.{sound_valid, decimal_writes}
use Rattle.bt_grammar.proofs.KindClasses.{number_kind}
use Rattle.read_back_laws.proofs.CanonicalWeights.{NoDeeper, item_classes, shallow_one, number_shallow}
use Rattle.read_back_laws.proofs.CanonicalForms.{Lift, Again, lift_kept, lift_map, one_item, written_one}
use Rattle.read_back_laws.proofs.CanonicalValues.{IsInt}
use Rattle.read_back_laws.proofs.CanonicalExprs.{number_lexeme}

number_valid : (n : ℕ) → n < 2 ^ 64 → Valid (kinds.Number (signed n))
number_valid n small = let w = decimal_writes n small in sound_valid (kinds.Number (signed n)) (decimal n, (n, refl, w.0), w.1)

-- the number of a token is one of 64 bits
number_bits : (t : Item) → Honest (t ∷ []) → is NumberLiteral t.class ≡ true → (m : ℕ) × (m < 2 ^ 64) × (number_at t ≡ signed m)
number_bits t h q = let k = number_kind t.kind (sym (is_same NumberLiteral t.class q) ∙ h.0) in of_sound (number_at t) (subst Sound k h.1)
  where
    of_sound : (n : ℤ) → Sound (kinds.Number n) → (m : ℕ) × (m < 2 ^ 64) × (n ≡ signed m)
    of_sound n (bs, (m, e, w), l) = (m, l m w, e)

-- a number whose sign is a token of its own
two_classes : (ts : List Item) (t u : Item) → ts ≡ t ∷ u ∷ [] → is (Operator Sub) t.class ≡ true → is NumberLiteral u.class ≡ true → item_classes ts ≡ (Operator Sub) ∷ NumberLiteral ∷ []
two_classes ts t u e q q' = ap item_classes e ∙ (λ i. is_same (Operator Sub) t.class q i ∷ is_same NumberLiteral u.class q' i ∷ [])

module _ (R : Rel) where
  -- each number of 64 bits is written without a sign
  int_again : (ts : List Item) (m : ℕ) → m < 2 ^ 64 → NoDeeper (item_classes ts) (NumberLiteral ∷ []) → Again R (rule Int) IsInt ts (signed m)
  int_again ts m small shallow = (
    kinds.Number (signed m) ∷ [],
    (number_valid m small, tt),
    shallow,
    λ us are.
        let (u, e, ek, ec) = one_item (kinds.Number (signed m)) us are in
        (signed m, inl (u, sym (ap kind_number ek), (e, is_refl NumberLiteral u.class ec)), (written_one (kinds.Number (signed m)), refl)),
  )

  pub lift_Int : Lift R (rule Int) IsInt
  lift_Int = record { lift = go }
    where
      go : (ts : List Item) (n : ℤ) → Honest ts → whole R (rule Int) ts n → Again R (rule Int) IsInt ts n
      go ts n h (inl (t, e, (et, q))) = let (m, small, em) = number_bits t (subst Honest et h) q in
          subst (λ (z : ℤ). Again R (rule Int) IsInt ts z) (sym (e ∙ em)) (int_again ts m small (shallow_one t ts (kinds.Number (signed m)) et (sym (is_same NumberLiteral t.class q))))
      go ts n h (inr (m, e, (xs, ys, a, b, ets, eb, (t, ea, (ex, q)), (u, eu, (ey, q'))))) =
          subst (λ (z : ℤ). Again R (rule Int) IsInt ts z) (sym e) (int_again ts ((2 ^ 64 - cast_unsigned w64 m) % 2 ^ 64) (mod-lt (2 ^ 64 - cast_unsigned w64 m) (omega arith))
          (subst (λ (l : List Class). NoDeeper l (NumberLiteral ∷ [])) (sym (two_classes ts t u (ets ∙ (λ i. ex i ++ ey i)) q q')) number_shallow))

  -- a number without a sign
  pub lift_number : Lift R a_number (λ n x m. (x ≡ number_text n) × (m ≡ n))
  lift_number = lift_map R (lift_kept R (is NumberLiteral)) (λ t u x k. (number_lexeme t u x k, ap kind_number k.1))
