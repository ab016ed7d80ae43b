-- One entry more is made as a step.
use Rattle.std.proofs.Common.{◌≡◌, ◌+◌, ℕ, zero, suc, max, ◌<◌, List, [], ◌∷◌, ◌++◌, length, map, take, get_or, slice_set, sym, refl, ap, ◌∙◌, subst, arith}
use Rattle.std.proofs.lemmas.List.{append_assoc, length-set, take_more_set}
use Rattle.std.proofs.Math.Seq.{map-set_same}
use Rattle.std.specs.List.{AllByRecursion}
use Rattle.std.specs.Prelude.{All}
use Rattle.bt_core.specs.Kinds.{IsFineDecl}
use Rattle.bt_core.specs.Ports.{IsReplyOf}
use Rattle.turn_lock.specs.History.{Each}
use Rattle.bt_core.specs.declared.step.Reply.{Reply}
use Rattle.bt_core.specs.declared.step.Step.{Step}
use Rattle.bt_core.specs.Steps.{AtEach, on_object, operations, RepliesFollow}
use Rattle.bt_core.proofs.StepLists.{AtEach-snoc}
use Rattle.weave.specs.Lists.{greatest}
use Rattle.step_entries.specs.Blank.{blank}
use Rattle.begun_meaning.specs.Begun.{clock_after}
use Rattle.begun_meaning.specs.Parts.{IsStampedAfter, NotBeforeLast}
use Rattle.run_objects.specs.declared.objects.Objects.{Objects}
use Rattle.run_objects.specs.Objects.{IsAnswer, Stand}
use Rattle.run_objects.specs.Worlds.{World, answers, IsOwn}
use Rattle.run_objects.proofs.KindLemmas.{answer_is_of_its_kind}
use Rattle.account_replay.specs.declared.replay.Replaying.{Replaying}
use Rattle.account_replay.specs.Clocks.{TellClocks}
use Rattle.account_replay.specs.Replaying.{CanBeMade, IsReplaying, IsWrongNext, taken, with_reply, world_of}

all_at : (P : Step → Type 0) (l : List Step) (i : ℕ) (d : Step) → i < length l → AllByRecursion P l → P (get_or l i d)
all_at P [] i d lt h = absurd (omega arith)
all_at P (s ∷ ss) zero d lt h = h.0
all_at P (s ∷ ss) (suc i) d lt h = all_at P ss i d (omega arith) h.1

all_set : (P : Step → Type 0) (l : List Step) (i : ℕ) (s : Step) → P s → AllByRecursion P l → AllByRecursion P (slice_set l i s)
all_set P [] i s one h = tt
all_set P (x ∷ xs) zero s one h = (one, h.1)
all_set P (x ∷ xs) (suc i) s one h = (h.0, all_set P xs i s one h.1)

module _ (r : Replaying) (is : IsReplaying r) (lt : r.at < length r.entries) (d : Step) where
  abbrev next : Step
  next = get_or r.entries r.at d

  pub can_be_made : CanBeMade (world_of r) next
  can_be_made = all_at (CanBeMade (world_of r)) r.entries r.at d lt is.can

  module _ (objects : Objects) (clock : ℕ) (q : Reply × ℕ) (clock_is : clock ≡ clock_after r.cpus (taken r) next.actor)
      (answer : IsAnswer (world_of r) (taken r) objects next.object next.op clock q) where
    stamp_is : q.1 ≡ suc (max (clock_after r.cpus (taken r) next.actor) (greatest (on_object next.object (taken r))))
    stamp_is = answer.stamp ∙ ap (λ n. suc (max n (greatest (on_object next.object (taken r))))) clock_is

    pub wrong_stamp : (q.1 ≡ next.stamp → ⊥) → IsWrongNext r.cpus (taken r) next
    wrong_stamp other stamped order = other (stamp_is ∙ sym stamped)

    module _ (right : q.1 ≡ next.stamp) where
      abbrev step : Step
      step = with_reply q.0 next

      more : take (r.at + 1) (slice_set r.entries r.at step) ≡ taken r ++ step ∷ []
      more = take_more_set r.entries r.at step lt

      stands : Stand (world_of r) (taken r ++ step ∷ []) objects
      stands = subst (λ n. Stand (world_of r) (taken r ++ record { actor = next.actor; object = next.object; stamp = n; op = next.op; reply = q.0 } ∷ []) objects) right (answer.stand next.actor)

      pub one_more : (new : Replaying) → world_of new ≡ world_of r → new.cpus ≡ r.cpus → new.at ≡ r.at + 1 → new.entries ≡ slice_set r.entries r.at step → new.objects ≡ objects
          → ((s : Step) → s.actor ≡ next.actor → s.stamp ≡ q.1 → TellClocks r.cpus (taken r ++ s ∷ []) new.clocks) → NotBeforeLast (taken r) next → IsReplaying new
      one_more new world cpus at entries objects_are noted order =
          let front : taken new ≡ taken r ++ step ∷ [] = (λ i. take (at i) (entries i)) ∙ more in record {
            within = (let n = ap length entries ∙ length-set r.entries r.at step in omega arith);
            can = subst (λ (z : World × List Step). AllByRecursion (CanBeMade z.0) z.1) (λ i. (sym world i, sym entries i))
                (all_set (CanBeMade (world_of r)) r.entries r.at step (let c = can_be_made in record { actor = c.actor; own = c.own }) is.can);
            stand = subst (λ (z : (World × List Step) × Objects). Stand z.0.0 z.0.1 z.1) (λ i. ((sym world i, sym front i), sym objects_are i)) stands;
            clocks = subst (λ (z : ℕ × List Step). TellClocks z.0 z.1 new.clocks) (λ i. (sym cpus i, sym front i)) (noted step refl (sym right));
            replies = subst (λ (z : World × List Step). RepliesFollow (answers z.0) z.1) (λ i. (sym world i, sym front i))
                (AtEach-snoc (λ before s. s.reply ≡ answers (world_of r) s.object (operations (on_object s.object before)) s.op) (taken r) step is.replies answer.reply);
            stamps = subst (λ (z : ℕ × List Step). AtEach (IsStampedAfter z.0) z.1) (λ i. (sym cpus i, sym front i))
                (AtEach-snoc (IsStampedAfter r.cpus) (taken r) step is.stamps (sym right ∙ stamp_is));
            order = subst (AtEach NotBeforeLast) (sym front) (AtEach-snoc NotBeforeLast (taken r) step is.order order);
          }

      pub told_same : map blank (slice_set r.entries r.at step) ≡ map blank r.entries
      told_same = map-set_same blank r.entries r.at step d refl

-- what is wrong with a step is told by its entry
pub wrong_alike : (main : ℕ) (before : List Step) (s t : Step) → blank s ≡ blank t → IsWrongNext main before s → IsWrongNext main before t
wrong_alike main before s t e wrong stamped order = wrong (subst (IsStampedAfter main before) (sym e) stamped) (subst (NotBeforeLast before) (sym e) order)

-- ---- replies of their kinds

each_snoc : (P : Step → Type 0) (xs : List Step) (x : Step) → Each P xs → P x → Each P (xs ++ x ∷ [])
each_snoc P [] x e p = (p, tt)
each_snoc P (y ∷ ys) x e p = (e.0, each_snoc P ys x e.1 p)

kinds_from : (w : World) → All IsFineDecl w.maps → (before steps : List Step) → Each (λ (s : Step). IsOwn w s.object s.op) before → AllByRecursion (CanBeMade w) steps
    → RepliesFollow (answers w) (before ++ steps) → AllByRecursion (λ (s : Step). IsReplyOf w.maps s.object s.op s.reply) steps
kinds_from w fine before [] own can h = tt
kinds_from w fine before (x ∷ xs) own can h = (
  subst (IsReplyOf w.maps x.object x.op) (sym (h before x xs refl)) (answer_is_of_its_kind w x.object x.op before fine own can.0.own),
  kinds_from w fine (before ++ x ∷ []) xs (each_snoc (λ (s : Step). IsOwn w s.object s.op) before x own can.0.own) can.1
      (subst (RepliesFollow (answers w)) (sym (append_assoc before (x ∷ []) xs)) h),
)

-- each reply that follows is of the kind that its operation has
pub kinds_follow : (w : World) (steps : List Step) → All IsFineDecl w.maps → AllByRecursion (CanBeMade w) steps → RepliesFollow (answers w) steps
    → AllByRecursion (λ (s : Step). IsReplyOf w.maps s.object s.op s.reply) steps
kinds_follow w steps fine can h = kinds_from w fine [] steps tt can h
