-- What a sink was offered, call by call: of each call that took bytes, how many it was offered and how many it took.
use Rattle.std.specs.Prelude.{◌≡◌, ℕ, ◌-◌, min, List, [], ◌∷◌, ◌++◌, Option, Some, None, Result, MatchResult}
use Rattle.bt_io.specs.declared.sink.TheConstants.{PIECE}

-- a call that was offered so many bytes is told, if it took some, where the sink tells its calls
abbrev pub TellsOffer : {E : Type 0} → Option (List (ℕ × ℕ)) → Option (List (ℕ × ℕ)) → ℕ → Result ℕ E → Type 0
TellsOffer (Some old) (Some new) offered result = MatchResult result (λ taken. new ≡ old ++ (offered, taken) ∷ []) (λ _. new ≡ old)
TellsOffer None None offered result = Unit {0}
TellsOffer old new offered result = ⊥

-- of so many bytes each call was offered all that were left, but at most 4,096, and so many are left after these calls
abbrev pub AreOffers : ℕ → List (ℕ × ℕ) → ℕ → Type 0
AreOffers count [] left = count ≡ left
AreOffers count ((offered, taken) ∷ calls) left = (offered ≡ min count PIECE) × AreOffers (count - taken) calls left

-- the calls grew by such offers
pub record GrowsByOffers (old new : List (ℕ × ℕ)) (count left : ℕ) : Type 0 where
  pub calls : List (ℕ × ℕ)
  pub grew : new ≡ old ++ calls
  pub are_offers : AreOffers count calls left

-- and where the sink tells its calls
abbrev pub OffersUpTo : Option (List (ℕ × ℕ)) → Option (List (ℕ × ℕ)) → ℕ → ℕ → Type 0
OffersUpTo (Some old) (Some new) count left = GrowsByOffers old new count left
OffersUpTo None None count left = Unit {0}
OffersUpTo old new count left = ⊥

-- of so many bytes each call was offered all that were left, but at most 4,096
abbrev pub OffersAllLeft : Option (List (ℕ × ℕ)) → Option (List (ℕ × ℕ)) → ℕ → Type 0
OffersAllLeft old new count = (left : ℕ) × OffersUpTo old new count left
