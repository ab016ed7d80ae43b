-- What was followed for one actor stays where another's items change.
use Rattle.std.proofs.Common.{◌≡◌, ◌≢◌, ℕ, true, false, cond, [], ◌∷◌, refl, Bool, List, length, map, sym, ap, ◌∙◌, subst, arith}
use Rattle.std.proofs.lemmas.List.{length-map}
use Rattle.std.specs.List.{AllByRecursion}
use Rattle.bt_core.specs.declared.map.MapDecl.{MapDecl}
use Rattle.bt_core.specs.declared.step.Step.{Step}
use Rattle.bt_core.specs.Interaction.{Interaction}
use Rattle.bt_core.specs.Ports.{IsReplyOf}
use Rattle.bt_core.specs.Steps.{is_of}
use Rattle.step_entries.specs.Blank.{blank_of, blank_op, without_item}
use Rattle.step_entries.proofs.BlankLists.{at_blank}
use Rattle.step_entries.proofs.OthersItems.{front_same, back_same, actor_same}
use Rattle.account_follow.specs.Followed.{Followed, IsFollowed}
use Rattle.account_follow.proofs.FollowLemmas.{reply_alike}

module _ (b a : ℕ) (ne : a ≢ b) (old new : List Step) (same : map (blank_of b) new ≡ map (blank_of b) old) where
  pub followed_kept : {A : Type 0} (t : Interaction A) (at : ℕ) (on : Bool) → IsFollowed t a old at on → IsFollowed t a new at on
  followed_kept t at on f = record {
    strays = f.strays;
    followed = subst (λ (z : List Step × List Step). Followed t z.0 f.strays z.1) (λ i. (sym (front_same b a ne old new same at) i, sym (back_same b a ne old new same at) i)) f.followed;
    none = f.none;
    within = (let k = sym (length-map new (blank_of b)) ∙ ap length same ∙ length-map old (blank_of b) in let w = f.within in omega arith);
    last_own = λ n d e. actor_same b old new same n d ∙ f.last_own n d e;
  }

-- ---- replies of their kinds, where the items of one actor change

pub without_twice : (a : ℕ) (s : Step) → without_item (blank_of a s) ≡ without_item s
without_twice a s = by_test (is_of a s)
  where
    by_test : (b : Bool) → without_item (cond b (without_item s) s) ≡ without_item s
    by_test true = λ i. record { actor = s.actor; object = s.object; stamp = s.stamp; op = at_blank blank_op (λ one other. refl) s.op i; reply = s.reply }
    by_test false = refl

module _ (a : ℕ) (maps : List MapDecl) (by : ℕ → Type 0) where
  pub replies_kept : (old new : List Step) → map (blank_of a) new ≡ map (blank_of a) old
      → AllByRecursion (λ (s : Step). by s.actor → IsReplyOf maps s.object s.op s.reply) old → AllByRecursion (λ (s : Step). by s.actor → IsReplyOf maps s.object s.op s.reply) new
  replies_kept [] [] e h = tt
  replies_kept [] (y ∷ ys) e h = absurd (let q : ⊥ = cc in q)
  replies_kept (x ∷ xs) [] e h = absurd (let q : ⊥ = cc in q)
  replies_kept (x ∷ xs) (y ∷ ys) e h =
      let head : blank_of a y ≡ blank_of a x = cc in
      let tail : map (blank_of a) ys ≡ map (blank_of a) xs = cc in
      let same : without_item x ≡ without_item y = sym (without_twice a x) ∙ ap without_item (sym head) ∙ without_twice a y in (
        λ own. subst (IsReplyOf maps y.object y.op) (ap (λ (s : Step). s.reply) same)
            (reply_alike maps x.reply x.object y.object x.op y.op (ap (λ (s : Step). s.object) same) (ap (λ (s : Step). s.op) same)
            (h.0 (subst by (ap (λ (s : Step). s.actor) (sym same)) own))),
        replies_kept xs ys tail h.1,
      )
