-- Offers, one call after another.
use Rattle.std.proofs.Common.{◌≡◌, ℕ, ◌-◌, min, List, [], ◌∷◌, ◌++◌, Option, Some, None, sym, ap, ◌∙◌, subst, append_assoc}
use Rattle.std.specs.Prelude.{Result, Ok}
use Rattle.bt_io.specs.declared.sink.TheConstants.{PIECE}
use Rattle.bt_io.specs.Offers.{TellsOffer, AreOffers, OffersUpTo}

AreOffers-snoc : (count : ℕ) (calls : List (ℕ × ℕ)) (left offered taken : ℕ) → AreOffers count calls left → offered ≡ min left PIECE → AreOffers count (calls ++ (offered, taken) ∷ []) (left - taken)
AreOffers-snoc count [] left offered taken are e = (e ∙ ap (λ (n : ℕ). min n PIECE) (sym are), ap (λ (n : ℕ). n - taken) are)
AreOffers-snoc count ((o, t) ∷ calls) left offered taken are e = (are.0, AreOffers-snoc (count - t) calls left offered taken are.1 e)

-- a call that took bytes
pub offers_more : (old mid new : Option (List (ℕ × ℕ))) (count left offered taken rest : ℕ) {E : Type 0} (result : Result ℕ E) → result ≡ Ok taken → OffersUpTo old mid count left → TellsOffer mid new offered result → offered ≡ min left PIECE → left - taken ≡ rest → OffersUpTo old new count rest
offers_more None None None count left offered taken rest result ok before call e r = tt
offers_more None None (Some new) count left offered taken rest result ok before call e r = absurd call
offers_more None (Some mid) new count left offered taken rest result ok before call e r = absurd before
offers_more (Some old) None new count left offered taken rest result ok before call e r = absurd before
offers_more (Some old) (Some mid) None count left offered taken rest result ok before call e r = absurd call
offers_more (Some old) (Some mid) (Some new) count left offered taken rest {E} result ok before call e r =
    let told : new ≡ mid ++ (offered, taken) ∷ [] = subst (λ (x : Result ℕ E). TellsOffer (Some mid) (Some new) offered x) ok call in
    record {
      calls = before.calls ++ (offered, taken) ∷ [];
      grew = told ∙ ap (λ l. l ++ (offered, taken) ∷ []) before.grew ∙ append_assoc old before.calls ((offered, taken) ∷ []);
      are_offers = subst (AreOffers count (before.calls ++ (offered, taken) ∷ [])) r (AreOffers-snoc count before.calls left offered taken before.are_offers e);
    }
