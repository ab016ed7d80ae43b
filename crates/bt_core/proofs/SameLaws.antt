-- Laws of computations that do the same under the replies that can come.
use Rattle.std.proofs.Common.{refl}
use Rattle.bt_core.specs.declared.step.Reply.{Reply}
use Rattle.bt_core.specs.Interaction.{Interaction, Ended, Asks, Call, and_then}
use Rattle.bt_core.specs.Same.{SameTo, Yields}

pub SameTo-self : {A : Type 0} (comes : Call → Reply → Type 0) (R : A → A → Type 0) → ((a : A) → R a a) → (t : Interaction A) → SameTo comes R t t
SameTo-self comes R r (Ended a) = r a
SameTo-self comes R r (Asks c f) = (refl, λ reply h. SameTo-self comes R r (f reply))

-- the one, and then the other
pub SameTo-and_then : {A B C D : Type 0} (comes : Call → Reply → Type 0) (R : A → B → Type 0) (S : C → D → Type 0) (t : Interaction A) (u : Interaction B) (k : A → Interaction C) (l : B → Interaction D) →
    SameTo comes R t u → ((a : A) (b : B) → R a b → SameTo comes S (k a) (l b)) → SameTo comes S (and_then t k) (and_then u l)
SameTo-and_then comes R S (Ended a) (Ended b) k l p q = q a b p
SameTo-and_then comes R S (Ended a) (Asks d g) k l p q = absurd p
SameTo-and_then comes R S (Asks c f) (Ended b) k l p q = absurd p
SameTo-and_then comes R S (Asks c f) (Asks d g) k l p q = (p.0, λ reply h. SameTo-and_then comes R S (f reply) (g reply) k l (p.1 reply h) q)

-- a function of the end of the other one
pub SameTo-mapped : {A B C : Type 0} (comes : Call → Reply → Type 0) (R : A → B → Type 0) (S : A → C → Type 0) (t : Interaction A) (u : Interaction B) (f : B → C) →
    SameTo comes R t u → ((a : A) (b : B) → R a b → S a (f b)) → SameTo comes S t (and_then u (λ b. Ended (f b)))
SameTo-mapped comes R S (Ended a) (Ended b) f p q = q a b p
SameTo-mapped comes R S (Ended a) (Asks d g) f p q = absurd p
SameTo-mapped comes R S (Asks c h) (Ended b) f p q = absurd p
SameTo-mapped comes R S (Asks c h) (Asks d g) f p q = (p.0, λ reply i. SameTo-mapped comes R S (h reply) (g reply) f (p.1 reply i) q)

-- one computation goes on in two ways that do the same behind each value that it can end with
pub SameTo-after : {A B C : Type 0} (comes : Call → Reply → Type 0) (R : B → C → Type 0) (P : A → Type 0) (t : Interaction A) (k : A → Interaction B) (m : A → Interaction C) →
    Yields comes P t → ((a : A) → P a → SameTo comes R (k a) (m a)) → SameTo comes R (and_then t k) (and_then t m)
SameTo-after comes R P (Ended a) k m y p = p a y
SameTo-after comes R P (Asks c f) k m y p = (refl, λ reply h. SameTo-after comes R P (f reply) k m (y reply h) p)

-- any computation ends with some value
pub Yields-any : {A : Type 0} (comes : Call → Reply → Type 0) (t : Interaction A) → Yields comes (λ (a : A). Unit {0}) t
Yields-any comes (Ended a) = tt
Yields-any comes (Asks c f) = λ reply h. Yields-any comes (f reply)
