-- Lists that are the same but for items: replies, stamps and order that are right in the one are right in the other.
use Rattle.std.proofs.Common.{◌≡◌, ℕ, suc, max, ◌||◌, ◌==◌, Bool, cond, List, [], ◌∷◌, ◌++◌, map, sym, refl, ap, ◌∙◌}
use Rattle.std.specs.List.{filter}
use Rattle.bt_core.specs.declared.map.MapDecl.{MapDecl}
use Rattle.bt_core.specs.declared.step.Reply.TheVariants.{Done}
use Rattle.bt_core.specs.declared.step.Step.{Step}
use Rattle.bt_core.specs.Steps.{is_of, is_on, on_object, operations, AtEach, RepliesFollow}
use Rattle.agg_core.specs.Answers.{answer}
use Rattle.weave.specs.Lists.{greatest}
use Rattle.weave.specs.Order.{comes_before}
use Rattle.step_entries.specs.Blank.{blank, without_item}
use Rattle.step_entries.proofs.BlankLists.{filter_through, operations_alike}
use Rattle.begun_meaning.specs.Begun.{clock_after}
use Rattle.begun_meaning.specs.Parts.{IsStampedAfter, NotBeforeLast}
use Rattle.begun_meaning.proofs.BlindReplies.{replies_alike}

-- a cut of the one list, by a cut of the other
record CutAlike (xs before : List Step) (s : Step) (after : List Step) : Type 0 where
  front : List Step
  step : Step
  back : List Step
  cut : xs ≡ front ++ step ∷ back
  fronts : map without_item front ≡ map without_item before
  steps : without_item step ≡ without_item s
  backs : map without_item back ≡ map without_item after

cut_alike : (xs before : List Step) (s : Step) (after : List Step) → map without_item xs ≡ map without_item (before ++ s ∷ after) → CutAlike xs before s after
cut_alike [] [] s after e = absurd (let q : ⊥ = cc in q)
cut_alike [] (b ∷ bs) s after e = absurd (let q : ⊥ = cc in q)
cut_alike (x ∷ xs) [] s after e = record { front = []; step = x; back = xs; cut = refl; fronts = refl; steps = cc; backs = cc }
cut_alike (x ∷ xs) (b ∷ bs) s after e =
    let head : without_item x ≡ without_item b = cc in
    let tail : map without_item xs ≡ map without_item (bs ++ s ∷ after) = cc in
    let r = cut_alike xs bs s after tail in
    record { front = x ∷ r.front; step = r.step; back = r.back; cut = ap (λ l. x ∷ l) r.cut; fronts = (λ i. head i ∷ r.fronts i); steps = r.steps; backs = r.backs }

none_alike : (xs : List Step) → map without_item xs ≡ [] → xs ≡ []
none_alike [] e = refl
none_alike (x ∷ xs) e = absurd (let q : ⊥ = cc in q)

-- ---- clocks

seen_stamps : (xs : List Step) → greatest (map without_item xs) ≡ greatest xs
seen_stamps [] = refl
seen_stamps (x ∷ xs) = ap (λ n. max x.stamp n) (seen_stamps xs)

greatest_alike : (xs ys : List Step) → map without_item xs ≡ map without_item ys → greatest xs ≡ greatest ys
greatest_alike xs ys e = sym (seen_stamps xs) ∙ ap greatest e ∙ seen_stamps ys

part_alike : (test : Step → Bool) → ((s : Step) → test (without_item s) ≡ test s) → (xs ys : List Step) → map without_item xs ≡ map without_item ys
    → greatest (filter test xs) ≡ greatest (filter test ys)
part_alike test same xs ys e =
    greatest_alike (filter test xs) (filter test ys) (sym (filter_through without_item test same xs) ∙ ap (filter test) e ∙ filter_through without_item test same ys)

clock_alike : (main : ℕ) (xs ys : List Step) (actor : ℕ) → map without_item xs ≡ map without_item ys → clock_after main xs actor ≡ clock_after main ys actor
clock_alike main xs ys actor e =
    λ i. cond (actor == main) (greatest_alike xs ys e i) (part_alike (λ s. is_of main s || is_of actor s) (λ s. refl) xs ys e i)

pub stamp_alike : (main : ℕ) (xs ys : List Step) (s t : Step) → map without_item xs ≡ map without_item ys → without_item s ≡ without_item t → IsStampedAfter main xs s → IsStampedAfter main ys t
stamp_alike main xs ys s t e f stamped =
    ap (λ (z : Step). z.stamp) (sym f) ∙ stamped
    ∙ (λ i. suc (max (clock_alike main xs ys (f i).actor e i) (part_alike (is_on (f i).object) (λ z. refl) xs ys e i)))

pub order_alike : (xs ys : List Step) (s t : Step) → map without_item xs ≡ map without_item ys → without_item s ≡ without_item t → NotBeforeLast xs s → NotBeforeLast ys t
order_alike xs ys s t e f order earlier last q =
    let r = cut_alike xs earlier last [] (e ∙ ap (map without_item) q) in
    (λ i. comes_before (sym f i) (sym r.steps i)) ∙ order r.front r.step (r.cut ∙ ap (λ l. r.front ++ r.step ∷ l) (none_alike r.back r.backs))

-- ---- at each step

module _ (xs ys : List Step) (e : map without_item xs ≡ map without_item ys) where
  pub replies_too : (maps : List MapDecl) (cpus : ℕ) → RepliesFollow (answer maps cpus) xs → RepliesFollow (answer maps cpus) ys
  replies_too maps cpus h before s after q =
      let r = cut_alike xs before s after (e ∙ ap (map without_item) q) in
      ap (λ (z : Step). z.reply) (sym r.steps) ∙ h r.front r.step r.back r.cut
      ∙ ap (λ o. answer maps cpus o (operations (on_object o r.front)) r.step.op) (ap (λ (z : Step). z.object) r.steps)
      ∙ replies_alike maps cpus s.object (operations (on_object s.object r.front)) (operations (on_object s.object before)) r.step.op s.op (operations_alike s.object r.front before r.fronts)
      (ap (λ (z : Step). z.op) r.steps)

  pub stamps_too : (main : ℕ) → AtEach (IsStampedAfter main) xs → AtEach (IsStampedAfter main) ys
  stamps_too main h before s after q =
      let r = cut_alike xs before s after (e ∙ ap (map without_item) q) in stamp_alike main r.front before r.step s r.fronts r.steps (h r.front r.step r.back r.cut)

  pub order_too : AtEach NotBeforeLast xs → AtEach NotBeforeLast ys
  order_too h before s after q =
      let r = cut_alike xs before s after (e ∙ ap (map without_item) q) in order_alike r.front before r.step s r.fronts r.steps (h r.front r.step r.back r.cut)

-- ---- entries

abbrev unreplied : Step → Step
unreplied s = record { actor = s.actor; object = s.object; stamp = s.stamp; op = s.op; reply = Done }

twice : (xs : List Step) → map unreplied (map without_item xs) ≡ map blank xs
twice [] = refl
twice (x ∷ xs) = ap (λ l. blank x ∷ l) (twice xs)

pub told_alike : (xs ys : List Step) → map without_item xs ≡ map without_item ys → map blank xs ≡ map blank ys
told_alike xs ys e = sym (twice xs) ∙ ap (map unreplied) e ∙ twice ys
