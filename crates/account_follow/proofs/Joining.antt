-- One computation followed through a list, and then another through what is left of it.
use Rattle.std.proofs.Common.{List, [], ◌∷◌, ◌++◌, sym, refl, ap, ◌∙◌, subst}
use Rattle.std.proofs.lemmas.List.{append-nil, append_assoc}
use Rattle.bt_core.specs.declared.step.Reply.TheVariants.{Done}
use Rattle.bt_core.specs.declared.step.Step.{Step}
use Rattle.bt_core.specs.Interaction.{Interaction, Ended, Asks, and_then, Runs}
use Rattle.bt_core.proofs.InteractionLaws.{Runs-and_then}
use Rattle.account_follow.specs.Followed.{Followed}

-- some run of a computation, if no other: each reply is `Done`
pub record SomeRun {A : Type 0} (t : Interaction A) : Type 0 where
  pub made : List Step
  pub value : A
  pub runs : Runs t made value

pub some_run : {A : Type 0} (t : Interaction A) → SomeRun t
some_run (Ended a) = record { made = []; value = a; runs = refl }
some_run (Asks c f) =
    let r = some_run (f Done) in
    record { made = record { actor = 0; object = c.object; stamp = 0; op = c.op; reply = Done } ∷ r.made; value = r.value; runs = (refl, r.runs) }

module _ {A B : Type 0} (t : Interaction A) (k : A → Interaction B) where
  -- the first made all its steps on the list
  pub joined_on : (xs ys strays rest behind : List Step) (f : Followed t xs [] rest) → Followed (k f.value) ys strays behind → Followed (and_then t k) (xs ++ ys) strays behind
  joined_on xs ys strays rest behind f g = record {
    value = g.value;
    runs = subst (λ l. Runs (and_then t k) l g.value) (ap (λ l. l ++ (ys ++ strays)) (append-nil xs) ∙ sym (append_assoc xs ys strays))
        (Runs-and_then t k (xs ++ []) (ys ++ strays) f.value g.value f.runs g.runs);
    off = g.off;
  }

  -- it did not: then the other need not be followed at all
  pub joined_off : (xs : List Step) (s : Step) (ss rest : List Step) (f : Followed t xs (s ∷ ss) rest) → Followed (and_then t k) xs (s ∷ (ss ++ (some_run (k f.value)).made)) rest
  joined_off xs s ss rest f =
      let r = some_run (k f.value) in record {
        value = r.value;
        runs = subst (λ l. Runs (and_then t k) l r.value) (append_assoc xs (s ∷ ss) r.made) (Runs-and_then t k (xs ++ s ∷ ss) r.made f.value r.value f.runs r.runs);
        off = f.off;
      }

-- a value is made of the value
pub followed_mapped : {A B : Type 0} (t : Interaction A) (f : A → B) (xs strays rest : List Step) → Followed t xs strays rest → Followed (and_then t (λ a. Ended (f a))) xs strays rest
followed_mapped t f xs strays rest g = record {
  value = f g.value;
  runs = subst (λ l. Runs (and_then t (λ a. Ended (f a))) l (f g.value)) (append-nil (xs ++ strays)) (Runs-and_then t (λ a. Ended (f a)) (xs ++ strays) [] g.value (f g.value) g.runs refl);
  off = g.off;
}
