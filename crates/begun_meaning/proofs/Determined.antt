-- A list that a run can make is determined by the actors and stamps of its steps, and by a list of them without replies and items.
use Rattle.std.proofs.Common.{◌≡◌, ℕ, List, [], ◌∷◌, ◌++◌, map, sym, refl, ap, ◌∙◌, subst}
use Rattle.std.proofs.lemmas.List.{append-nil, append_assoc, map-append}
use mathlib.Core.Logic.{dite}
use native.Mathlib.Decide.{ℕ_discrete}
use Rattle.bt_core.specs.declared.step.Step.{Step}
use Rattle.bt_core.specs.Interaction.{Call, call_of, Begins}
use Rattle.bt_core.specs.Steps.{of_actor, on_object, operations, RepliesFollow}
use Rattle.bt_core.proofs.StepLists.{of_actor-own, of_actor-other}
use Rattle.bt_core.proofs.InteractionLaws.{Begins-nil}
use Rattle.bt_meaning.specs.Replays.{Replay, cpus_of, answers_of}
use Rattle.step_entries.specs.Blank.{without_item, blank}
use Rattle.step_entries.proofs.BlankLists.{operations_alike}
use Rattle.begun_meaning.specs.Begun.{MayFollow, IsBegun, program_of}
use Rattle.begun_meaning.proofs.BlindReplies.{replies_alike}
use Rattle.step_entries.proofs.Computations.{next_is_one, step_is}
use Rattle.begun_meaning.proofs.Cuts.{AtEach-front}

module _ (p : Replay) where
  -- replies that follow are the same where the lists are the same but for items and replies
  alike_from : (bs cs xs ys : List Step) → RepliesFollow (answers_of p) (bs ++ xs) → RepliesFollow (answers_of p) (cs ++ ys) → map without_item bs ≡ map without_item cs
      → map blank xs ≡ map blank ys → map without_item (bs ++ xs) ≡ map without_item (cs ++ ys)
  alike_from bs cs [] [] h g e f = ap (map without_item) (append-nil bs) ∙ e ∙ ap (map without_item) (sym (append-nil cs))
  alike_from bs cs [] (y ∷ ys) h g e f = absurd (let q : ⊥ = cc in q)
  alike_from bs cs (x ∷ xs) [] h g e f = absurd (let q : ⊥ = cc in q)
  alike_from bs cs (x ∷ xs) (y ∷ ys) h g e f =
      let head : blank x ≡ blank y = cc in
      let tail : map blank xs ≡ map blank ys = cc in
      let o : x.object ≡ y.object = ap (λ (s : Step). s.object) head in
      let r : x.reply ≡ y.reply =
      h bs x xs refl
      ∙ ap (λ q. answers_of p q (operations (on_object q bs)) x.op) o
      ∙ replies_alike p.maps (cpus_of p) y.object (operations (on_object y.object bs)) (operations (on_object y.object cs)) x.op y.op (operations_alike y.object bs cs e) (ap (λ (s : Step). s.op) head)
      ∙ sym (g cs y ys refl) in
      let same : without_item x ≡ without_item y = (λ i. record { actor = (head i).actor; object = (head i).object; stamp = (head i).stamp; op = (head i).op; reply = r i }) in
      ap (map without_item) (sym (append_assoc bs (x ∷ []) xs))
      ∙ alike_from (bs ++ x ∷ []) (cs ++ y ∷ []) xs ys
      (subst (RepliesFollow (answers_of p)) (sym (append_assoc bs (x ∷ []) xs)) h)
      (subst (RepliesFollow (answers_of p)) (sym (append_assoc cs (y ∷ []) ys)) g)
      (map-append without_item bs (x ∷ []) ∙ (λ i. e i ++ same i ∷ []) ∙ sym (map-append without_item cs (y ∷ []))) tail
      ∙ ap (map without_item) (append_assoc cs (y ∷ []) ys)

  pub alike : (xs ys : List Step) → RepliesFollow (answers_of p) xs → RepliesFollow (answers_of p) ys → map blank xs ≡ map blank ys → map without_item xs ≡ map without_item ys
  alike xs ys h g f = alike_from [] [] xs ys h g refl f

  -- ---- lists that can be made

  pub begun_replies : (xs : List Step) → IsBegun p xs → RepliesFollow (answers_of p) xs
  begun_replies xs h before s after e = (h before s after e).reply

  pub begun_front : (xs ys : List Step) → IsBegun p (xs ++ ys) → IsBegun p xs
  begun_front xs ys h = AtEach-front (MayFollow p) xs ys h

  pub begun_last : (xs : List Step) (s : Step) → IsBegun p (xs ++ s ∷ []) → MayFollow p xs s
  begun_last xs s h = h xs s [] refl

  -- what an actor made of one is the beginning of its program
  begins_from : (a : ℕ) (bs xs : List Step) → IsBegun p (bs ++ xs) → Begins (program_of p a) (of_actor a bs) → Begins (program_of p a) (of_actor a (bs ++ xs))
  begins_from a bs [] h g = subst (λ l. Begins (program_of p a) (of_actor a l)) (sym (append-nil bs)) g
  begins_from a bs (x ∷ xs) h g =
      let more : Begins (program_of p a) (of_actor a (bs ++ x ∷ [])) = dite (ℕ_discrete x.actor a)
      (λ own. subst (Begins (program_of p a)) (sym (of_actor-own a bs x [] own))
      (subst (λ n. Begins (program_of p n) (of_actor n bs ++ x ∷ [])) own (h bs x xs refl).asked))
      (λ ne. subst (Begins (program_of p a)) (sym (of_actor-other a bs x [] ne ∙ append-nil (of_actor a bs))) g) in
      subst (λ l. Begins (program_of p a) (of_actor a l)) (append_assoc bs (x ∷ []) xs)
      (begins_from a (bs ++ x ∷ []) xs (subst (IsBegun p) (sym (append_assoc bs (x ∷ []) xs)) h) more)

  pub begun_begins : (a : ℕ) (xs : List Step) → IsBegun p xs → Begins (program_of p a) (of_actor a xs)
  begun_begins a xs h = begins_from a [] xs h (Begins-nil (program_of p a))

  -- two lists that can be made and are told alike are one
  one_from : (bs xs ys : List Step) → IsBegun p (bs ++ xs) → IsBegun p (bs ++ ys) → map blank xs ≡ map blank ys → xs ≡ ys
  one_from bs [] [] h g f = refl
  one_from bs [] (y ∷ ys) h g f = absurd (let q : ⊥ = cc in q)
  one_from bs (x ∷ xs) [] h g f = absurd (let q : ⊥ = cc in q)
  one_from bs (x ∷ xs) (y ∷ ys) h g f =
      let head : blank x ≡ blank y = cc in
      let tail : map blank xs ≡ map blank ys = cc in
      let a : x.actor ≡ y.actor = ap (λ (s : Step). s.actor) head in
      let mx = h bs x xs refl in
      let my = g bs y ys refl in
      let c : call_of x ≡ call_of y = next_is_one (program_of p y.actor) (of_actor y.actor bs) x y [] []
      (subst (λ n. Begins (program_of p n) (of_actor n bs ++ x ∷ [])) a mx.asked) my.asked in
      let r : x.reply ≡ y.reply = mx.reply ∙ ap (λ (d : Call). answers_of p d.object (operations (on_object d.object bs)) d.op) c ∙ sym my.reply in
      let same : x ≡ y = step_is x y a (ap (λ (s : Step). s.stamp) head) c r in
      let rest = one_from (bs ++ x ∷ []) xs ys (subst (IsBegun p) (sym (append_assoc bs (x ∷ []) xs)) h)
      (subst (IsBegun p) (ap (λ s. bs ++ s ∷ ys) (sym same) ∙ sym (append_assoc bs (x ∷ []) ys)) g) tail in
      λ i. same i ∷ rest i

  pub only_one : (xs ys : List Step) → IsBegun p xs → IsBegun p ys → map blank xs ≡ map blank ys → xs ≡ ys
  only_one xs ys h g f = one_from [] xs ys h g f
