-- What was done of one thing after another.
use Rattle.std.proofs.Common.{◌≡◌, ℤ, List, refl, sym, ap, ◌∙◌, subst, Bool, true, false, Ok, Err, Result, SFits, to_z, of_z, w64}
use Rattle.std.specs.Prelude.{MatchResult}
use Rattle.std.proofs.lemmas.Int.{to_z-of_z}
use Rattle.bt_core.specs.declared.memory.Memory.{Memory}
use Rattle.bt_core.specs.declared.step.Step.{Step}
use Rattle.bt_core.specs.Interaction.{Interaction, Ended, Whole, Part, Performed, Left}
use Rattle.bt_core.proofs.InteractionLaws.{Whole-and_then, Part-after, Part-and_then, Performed-none, Whole-Ended, Left-and_then}
use Rattle.walk_meaning.specs.declared.flow.Frame.{Frame}
use Rattle.walk_meaning.specs.Does.{BodyScene, Does, given, looked_at, changed, lifted, bind, choose}
use Rattle.bt_walk.specs.Walked.{Walked}

pub Given-done : {A : Type 0} (a b : A) (scene : BodyScene) (frame after : Frame) (s : List Step) → a ≡ b → frame ≡ after → Whole (given a scene frame) s s (b, after)
unfolding given
Given-done {A} a b scene frame after s e h = Whole-Ended _ _ _ (ap (λ (x : A). (x, frame)) e ∙ ap (λ (x : Frame). (b, x)) h)

pub Looked-done : {A : Type 0} (look : BodyScene → Frame → A) (a : A) (scene : BodyScene) (frame : Frame) (s : List Step) → look scene frame ≡ a → Whole (looked_at look scene frame) s s (a, frame)
unfolding looked_at
Looked-done {A} look a scene frame s e = Whole-Ended _ _ _ (ap (λ (x : A). (x, frame)) e)

pub Changed-done : (change : Frame → Frame) (scene : BodyScene) (frame after : Frame) (s : List Step) (u : Unit {0}) → change frame ≡ after → Whole (changed change scene frame) s s (u, after)
unfolding changed
Changed-done change scene frame after s u e = Whole-Ended _ _ _ (ap (λ (x : Frame). (tt, x)) e)

-- an error leaves the first steps done
pub Stopped : {A E : Type 0} (Q : A → Type 0) (P : Type 0) (r : Result A E) (x : E) → r ≡ Err x → P → MatchResult r Q (λ _. P)
Stopped {A} {E} Q P r x is p = subst (λ (o : Result A E). MatchResult o Q (λ _. P)) (sym is) p

pub Part-none : {A : Type 0} (d : Does A) (scene : BodyScene) (frame : Frame) (old new : List Step) → new ≡ old → Part (d scene frame) old new
Part-none d scene frame old new e = Performed-none _ _ _ e

module _ {A B : Type 0} (d : Does A) (k : A → Does B) (scene : BodyScene) (frame : Frame) (old : List Step) where
  pub Part-first : (new : List Step) → Part (d scene frame) old new → Part (bind d k scene frame) old new
  unfolding bind
  Part-first new p = Part-and_then _ _ _ _ p

  module _ (between : Frame) (mid : List Step) (a : A) (p : Whole (d scene frame) old mid (a, between)) where
    pub Part-next : (new : List Step) → Part (k a scene between) mid new → Part (bind d k scene frame) old new
    unfolding bind
    Part-next new q = Part-after _ _ _ _ _ _ p q

    pub Whole-next : (new : List Step) (w : B × Frame) → Whole (k a scene between) mid new w → Whole (bind d k scene frame) old new w
    unfolding bind
    Whole-next new w q = Whole-and_then _ _ _ _ _ _ _ p q

    pub Walked-next : (new : List Step) (r : Result B Memory) (after : Frame) → Walked (k a) scene between mid new r after → Walked (bind d k) scene frame old new r after
    Walked-next new (Ok b) after q = Whole-next new (b, after) q
    Walked-next new (Err x) after q = Part-next new q

-- what is done and then gives a value, which is told by one call
pub Walked-given : {A : Type 0} (d : Does (Unit {0})) (a : A) (scene : BodyScene) (frame : Frame) (old new : List Step) (done : Result (Unit {0}) Memory) (r : Result A Memory) (after : Frame) →
    MatchResult done (λ _. r ≡ Ok a) (λ e. r ≡ Err e) → Walked d scene frame old new done after → Walked (bind d (λ _. given a)) scene frame old new r after
Walked-given {A} d a scene frame old new (Ok u) r after is w =
    subst (λ (o : Result A Memory). Walked (bind d (λ _. given a)) scene frame old new o after) (sym is) (Whole-next d (λ _. given a) scene frame old after new u w new (a, after) (Given-done a a scene after after new refl refl))
Walked-given {A} d a scene frame old new (Err e) r after is w =
    subst (λ (o : Result A Memory). Walked (bind d (λ _. given a)) scene frame old new o after) (sym is) (Part-first d (λ _. given a) scene frame old new w)

-- what objects were asked, by what is seen
module _ {A : Type 0} (ask : BodyScene → Interaction A) (scene : BodyScene) (frame : Frame) (old new : List Step) where
  pub Lifted-done : (a : A) → Whole (ask scene) old new a → Whole (lifted ask scene frame) old new (a, frame)
  unfolding lifted
  Lifted-done a p = Whole-and_then (ask scene) (λ value. Ended (value, frame)) old new new a (a, frame) p (Whole-Ended _ _ _ refl)

  pub Lifted-begun : Part (ask scene) old new → Part (lifted ask scene frame) old new
  unfolding lifted
  Lifted-begun p = Part-and_then (ask scene) (λ value. Ended (value, frame)) old new p

  pub Lifted-walked : (r : Result A Memory) → Performed (ask scene) old new r → Walked (lifted ask) scene frame old new r frame
  Lifted-walked (Ok a) p = Lifted-done a p
  Lifted-walked (Err x) p = Lifted-begun p

  -- by another name of what is asked
  pub Asked-walked : (t : Interaction A) (r : Result A Memory) → t ≡ ask scene → Performed t old new r → Walked (lifted ask) scene frame old new r frame
  Asked-walked t r e p = Lifted-walked r (subst (λ (x : Interaction A). Performed x old new r) e p)

  pub Asked-done : (t : Interaction A) (a : A) → t ≡ ask scene → Whole t old new a → Whole (lifted ask scene frame) old new (a, frame)
  Asked-done t a e p = Lifted-done a (subst (λ (x : Interaction A). Whole x old new a) e p)

  pub Asked-begun : (t : Interaction A) → t ≡ ask scene → Part t old new → Part (lifted ask scene frame) old new
  Asked-begun t e p = Lifted-begun (subst (λ (x : Interaction A). Part x old new) e p)

pub Number-done : (a x : ℤ) (scene : BodyScene) (frame : Frame) (s : List Step) → SFits w64 x → a ≡ x → Whole (given a scene frame) s s (to_z w64 (of_z w64 x), frame)
Number-done a x scene frame s f e = Given-done _ _ _ _ _ _ (e ∙ sym (to_z-of_z w64 x f)) refl

pub Number-seen : (look : BodyScene → Frame → ℤ) (x : ℤ) (scene : BodyScene) (frame : Frame) (s : List Step) → SFits w64 x → look scene frame ≡ x → Whole (looked_at look scene frame) s s (to_z w64 (of_z w64 x), frame)
Number-seen look x scene frame s f e = Looked-done _ _ _ _ _ (e ∙ sym (to_z-of_z w64 x f))

module _ {A : Type 0} (b : Bool) (one other : Does A) (scene : BodyScene) (frame : Frame) (s t : List Step) where
  pub Whole-yes : (w : A × Frame) → b ≡ true → Whole (one scene frame) s t w → Whole (choose b one other scene frame) s t w
  unfolding choose
  Whole-yes w e p = subst (λ x. Whole (choose x one other scene frame) s t w) (sym e) p

  pub Whole-no : (w : A × Frame) → b ≡ false → Whole (other scene frame) s t w → Whole (choose b one other scene frame) s t w
  unfolding choose
  Whole-no w e p = subst (λ x. Whole (choose x one other scene frame) s t w) (sym e) p

  pub Part-yes : b ≡ true → Part (one scene frame) s t → Part (choose b one other scene frame) s t
  unfolding choose
  Part-yes e p = subst (λ x. Part (choose x one other scene frame) s t) (sym e) p

  pub Part-no : b ≡ false → Part (other scene frame) s t → Part (choose b one other scene frame) s t
  unfolding choose
  Part-no e p = subst (λ x. Part (choose x one other scene frame) s t) (sym e) p

  pub Walked-yes : (r : Result A Memory) (after : Frame) → b ≡ true → Walked one scene frame s t r after → Walked (choose b one other) scene frame s t r after
  unfolding choose
  Walked-yes r after e p = subst (λ x. Walked (choose x one other) scene frame s t r after) (sym e) p

  pub Walked-no : (r : Result A Memory) (after : Frame) → b ≡ false → Walked other scene frame s t r after → Walked (choose b one other) scene frame s t r after
  unfolding choose
  Walked-no r after e p = subst (λ x. Walked (choose x one other) scene frame s t r after) (sym e) p

-- one thing more was done of what is left
pub Left-next : {A B : Type 0} (whole : Interaction (B × Frame)) (d : Does A) (k : A → Does B) (scene : BodyScene) (frame after : Frame) (old mid new : List Step) (a : A) →
    Left whole old mid (bind d k scene frame) → Whole (d scene frame) mid new (a, after) → Left whole old new (k a scene after)
unfolding bind
Left-next whole d k scene frame after old mid new a p q = Left-and_then whole (d scene frame) (λ p. k p.0 scene p.1) old mid new (a, after) p q
