-- One actor more was followed through a list.
use Rattle.std.proofs.Common.{◌≡◌, ◌↔◌, ◌+◌, ℕ, ◌<◌, Bool, List, [], ◌∷◌, ◌++◌, length, map, slice_index_or, slice_set, sym, refl, ap, ◌∙◌, subst, arith}
use Rattle.std.proofs.lemmas.List.{get_or-set_same, get_or-set_other, length-append, length-set}
use Rattle.std.proofs.Math.ListN.{get_or-append}
use Rattle.std.proofs.Math.Seq.{get_or-append_seam}
use Rattle.std.specs.List.{AllByRecursion}
use mathlib.Core.Logic.{dite}
use native.Mathlib.Decide.{ℕ_discrete}
use Rattle.bt_ast.specs.declared.attached.Attached.{Attached}
use Rattle.bt_core.specs.declared.map.MapDecl.{MapDecl}
use Rattle.bt_core.specs.declared.step.Step.{Step}
use Rattle.bt_core.specs.Ports.{IsReplyOf}
use Rattle.recordings.specs.declared.recording.Recording.{Recording}
use Rattle.actor_plan.specs.Plans.{Plan}
use Rattle.actor_plan.specs.Programs.{actor_program}
use Rattle.actor_plan.specs.Ready.{IsReady}
use Rattle.step_entries.specs.Blank.{blank_of, without_item}
use Rattle.account_follow.specs.declared.follow.Reached.{Reached}
use Rattle.account_follow.specs.Followed.{IsFollowed}
use Rattle.account_follow.proofs.Others.{followed_kept, replies_kept, without_twice}
use Rattle.bt_meaning.specs.Replays.{Replay, begin_of, cpus_of}
use Rattle.account_steps.specs.Stops.{AreReached, ArePassed, IsPassed}
use Rattle.account_follow.specs.Settings.{setting_for}
use Rattle.account_steps.specs.Plans.{CanFollow, HaveOwnReplies, HavePlans}

-- an actor's program can be run through a port
pub ready : (r : Recording) (attached : Attached) (maps : List MapDecl) (plans : ℕ → Plan) → CanFollow r attached maps plans → (actor : ℕ) (plan : Plan) → plan ≡ plans actor
    → IsReady plan r attached (setting_for r attached maps actor)
ready r attached maps plans can actor plan e = subst (λ (q : Plan). IsReady q r attached (setting_for r attached maps actor)) (sym e) (let of = can.plans_are actor in record {
  valid = can.replay.valid;
  bodies = of.bodies;
  served = record { actor = sym of.actor_is; actors = sym of.actors; maps = of.served };
  ticks = refl;
  takes_few = of.takes_few;
  few_at_events = can.replay.few_at_events;
  few_begin = can.replay.few_begin;
  few_end = can.replay.few_end;
})

-- where the items of one actor changed, nothing but items did
pub same_but_items : (b : ℕ) (xs ys : List Step) → map (blank_of b) xs ≡ map (blank_of b) ys → map without_item xs ≡ map without_item ys
same_but_items b xs ys e = sym (twice xs) ∙ ap (map without_item) e ∙ twice ys
  where
    twice : (zs : List Step) → map without_item (map (blank_of b) zs) ≡ map without_item zs
    twice [] = refl
    twice (z ∷ zs) = λ i. without_twice b z i ∷ twice zs i

own_replies : (maps : List MapDecl) (by : ℕ → Type 0) (list : List Step) → HaveOwnReplies maps list → AllByRecursion (λ (s : Step). by s.actor → IsReplyOf maps s.object s.op s.reply) list
own_replies maps by [] h = tt
own_replies maps by (x ∷ xs) h = ((λ own. h.0), own_replies maps by xs h.1)

all_replies : (maps : List MapDecl) (list : List Step) → AllByRecursion (λ (s : Step). Unit {0} → IsReplyOf maps s.object s.op s.reply) list → HaveOwnReplies maps list
all_replies maps [] h = tt
all_replies maps (x ∷ xs) h = (h.0 tt, all_replies maps xs h.1)

pub actors_replies : (maps : List MapDecl) (a : ℕ) (list : List Step) → HaveOwnReplies maps list → AllByRecursion (λ (s : Step). s.actor ≡ a → IsReplyOf maps s.object s.op s.reply) list
actors_replies maps a list h = own_replies maps (λ by. by ≡ a) list h

pub replies_stay : (maps : List MapDecl) (b : ℕ) (old new : List Step) → map (blank_of b) new ≡ map (blank_of b) old → HaveOwnReplies maps old → HaveOwnReplies maps new
replies_stay maps b old new e h = all_replies maps new (replies_kept b maps (λ by. Unit {0}) old new e (own_replies maps (λ by. Unit {0}) old h))

-- bodies of which one kept its plan
pub plans_stay : {B : Type 0} (plan_of : B → Plan) (plans : ℕ → Plan) (cpus : ℕ) (bodies : List B) (k : ℕ) (b : B) → HavePlans plan_of plans cpus bodies → k < length bodies → plan_of b ≡ plans k
    → HavePlans plan_of plans cpus (slice_set bodies k b)
plans_stay plan_of plans cpus bodies k b have lt e = record {
  count = length-set bodies k b ∙ have.count;
  each = λ actor d within. dite (ℕ_discrete actor k)
      (λ q. ap (λ n. plan_of (slice_index_or (slice_set bodies k b) n d)) q ∙ ap plan_of (get_or-set_same bodies k b d lt) ∙ e ∙ ap plans (sym q))
      (λ ne. ap plan_of (get_or-set_other bodies k actor b d ne) ∙ have.each actor d (let n = length-set bodies k b in omega arith));
}

module _ (plans : ℕ → Plan) (exits : Bool) (r : Recording) (attached : Attached) where
  abbrev pub AreFollowed : List Step → List Reached → ℕ → Type 0
  AreFollowed list each count = (a : ℕ) (d : Reached) → a < count → IsFollowed (actor_program (plans a) exits r attached) a list (slice_index_or each a d).at (slice_index_or each a d).on_list

  pub followed_more : (old new : List Step) (each : List Reached) (n : ℕ) (reached : Reached) → length each ≡ n → map (blank_of n) new ≡ map (blank_of n) old → AreFollowed old each n
      → IsFollowed (actor_program (plans n) exits r attached) n new reached.at reached.on_list → AreFollowed new (each ++ reached ∷ []) (n + 1)
  followed_more old new each n reached size same so one a d lt = dite (ℕ_discrete a n)
      (λ e. subst (λ (z : ℕ × Reached). IsFollowed (actor_program (plans z.0) exits r attached) z.0 new z.1.at z.1.on_list)
      (λ i. (sym e i, sym (ap (λ k. slice_index_or (each ++ reached ∷ []) k d) (e ∙ sym size) ∙ get_or-append_seam each reached [] d) i)) one)
      (λ ne. subst (λ (z : Reached). IsFollowed (actor_program (plans a) exits r attached) a new z.at z.on_list)
      (sym (get_or-append each (reached ∷ []) d a (omega arith)))
      (followed_kept n a ne old new same (actor_program (plans a) exits r attached) (slice_index_or each a d).at (slice_index_or each a d).on_list (so a d (omega arith))))

-- ---- all actors

passed_too : (each : List Reached) (whole : Reached) (place : ℕ) → ArePassed (length each) each place ↔ ArePassed (length each) (each ++ whole ∷ []) place
passed_too each whole place = (
  (λ passed a d lt. subst (λ z. IsPassed z place) (sym (get_or-append each (whole ∷ []) d a lt)) (passed a d lt)),
  λ passed a d lt. subst (λ z. IsPassed z place) (get_or-append each (whole ∷ []) d a lt) (passed a d lt),
)

pub all_reached : (p : Replay) (list : List Step) (each : List Reached) (whole begin cpus : Reached) → length each ≡ cpus_of p
    → AreFollowed p.plan p.exits p.recording p.attached list (each ++ whole ∷ []) (cpus_of p + 1) → IsFollowed (begin_of p) (cpus_of p) list begin.at begin.on_list
    → ((place : ℕ) → IsPassed cpus place ↔ ArePassed (length each) each place) → AreReached p list (each ++ whole ∷ []) begin cpus
all_reached p list each whole begin cpus size followed begun together = record {
  count = length-append each (whole ∷ []) ∙ (let n = size in omega arith);
  followed = λ actor d le. followed actor d (omega arith);
  begun = begun;
  together = λ place. subst (λ (n : ℕ). IsPassed cpus place ↔ ArePassed n (each ++ whole ∷ []) place) size
      ((λ passed. (passed_too each whole place).0 ((together place).0 passed)), λ passed. (together place).1 ((passed_too each whole place).1 passed));
}
