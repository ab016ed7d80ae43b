-- The main actor's program: BEGIN followed through a list, and END behind it.
use Rattle.std.proofs.Common.{◌≡◌, ◌↔◌, ◌+◌, ℕ, nat_lt, Bool, true, false, cond, IsTrue, List, [], ◌∷◌, ◌++◌, length, map, take, drop}
use Rattle.std.proofs.Common.{sym, refl, ap, ◌∙◌, subst, arith}
use Rattle.std.proofs.lemmas.List.{append-nil, length-map}
use Rattle.bt_ast.specs.declared.attached.Attached.{Attached}
use Rattle.bt_core.specs.declared.step.Step.{Step}
use Rattle.bt_core.specs.Interaction.{Interaction, Ended, Runs, Whole, and_then}
use Rattle.bt_core.specs.Ports.{Fixed, Setting}
use Rattle.bt_core.specs.Steps.{of_actor}
use Rattle.bt_core.proofs.InteractionLaws.{Runs-and_then}
use Rattle.recordings.specs.declared.recording.Recording.{Recording}
use Rattle.std.proofs.lemmas.Bool.Decides.{nat_tests}
use Rattle.actor_plan.specs.declared.outcome.Outcome.{Outcome}
use Rattle.actor_plan.specs.Plans.{Plan}
use Rattle.actor_plan.specs.Programs.{actor_program, begin_program, cpu_program, end_program, main_program}
use Rattle.step_entries.specs.Blank.{blank_of}
use Rattle.step_entries.proofs.OthersItems.{actor_same}
use Rattle.account_follow.specs.Followed.{AreStrays, Followed, IsFollowed}
use Rattle.account_follow.specs.Following.{Seen, IsFollowing, blanks_in, front_in, steps_in}
use Rattle.account_follow.proofs.Joining.{joined_off}

not_below : (n : ℕ) → nat_lt n n ≡ false
not_below n = grind (arith, nat_tests)

-- the program of a plan of the main actor
main_is : (plan : Plan) (exits : Bool) (r : Recording) (attached : Attached) → plan.actor ≡ length r.cpus → actor_program plan exits r attached ≡ main_program plan r attached
unfolding actor_program
main_is plan exits r attached e =
    ap (λ (b : Bool). cond b (cpu_program plan exits r attached) (main_program plan r attached)) (ap (λ n. nat_lt n (length r.cpus)) e ∙ not_below (length r.cpus))

-- the first computation strayed: so does the whole
pub strayed_first : {A B : Type 0} (t : Interaction A) (k : A → Interaction B) (a : ℕ) (list : List Step) (at : ℕ) (on : Bool)
    → on ≡ false → IsFollowed t a list at on → IsFollowed (and_then t k) a list at on
strayed_first t k a list at on off f = by_strays f.strays refl
  where
    off_list : IsTrue on → ⊥
    off_list onto = let z : false ≡ true = sym off ∙ onto in let q : ⊥ = cc in q

    by_strays : (ss : List Step) → ss ≡ f.strays → IsFollowed (and_then t k) a list at on
    by_strays [] e = absurd (off_list (f.none.1 (sym e)))
    by_strays (s ∷ ss) e =
        let g : Followed t (of_actor a (take at list)) (s ∷ ss) (of_actor a (drop at list)) =
        subst (λ l. Followed t (of_actor a (take at list)) l (of_actor a (drop at list))) (sym e) f.followed in
        record {
          strays = _;
          followed = joined_off t k (of_actor a (take at list)) s ss (of_actor a (drop at list)) g;
          none = ((λ onto. absurd (off_list onto)), (λ q. absurd (let r : ⊥ = cc in r)));
          within = f.within;
          last_own = f.last_own;
        }

module _ {A B C : Type 0} (t : Interaction A) (u : Interaction B) (g : A → B → C) (a : ℕ) (old new : List Step) (begun : ℕ) (on : Bool)
    (f : IsFollowed t a old begun on) (onto : IsTrue on) where
  made_here : Runs t (of_actor a (take begun old)) f.followed.value
  made_here = subst (λ l. Runs t l f.followed.value) (ap (λ l. of_actor a (take begun old) ++ l) (f.none.0 onto) ∙ append-nil (of_actor a (take begun old))) f.followed.runs

  -- and then the second one was followed, from there on
  pub followed_both : (at : ℕ) (strays : List Step) (b : B) → Whole u (of_actor a (take begun old) ++ []) (of_actor a (take at new) ++ strays) b → AreStrays strays (of_actor a (drop at new))
      → Followed (and_then t (λ x. and_then u (λ y. Ended (g x y)))) (of_actor a (take at new)) strays (of_actor a (drop at new))
  followed_both at strays b w off = record {
    value = g f.followed.value b;
    runs = subst (λ l. Runs (and_then t (λ x. and_then u (λ y. Ended (g x y)))) l (g f.followed.value b))
        (ap (λ l. l ++ w.made) (sym (append-nil (of_actor a (take begun old)))) ∙ sym w.grew)
        (Runs-and_then t (λ x. and_then u (λ y. Ended (g x y))) (of_actor a (take begun old)) w.made f.followed.value (g f.followed.value b) made_here
        (subst (λ l. Runs (and_then u (λ y. Ended (g f.followed.value y))) l (g f.followed.value b)) (append-nil w.made)
        (Runs-and_then u (λ y. Ended (g f.followed.value y)) w.made [] b (g f.followed.value b) w.runs refl)));
    off = off;
  }

  -- what was followed first stays, where nothing before its place changes
  pub first_kept : take begun new ≡ take begun old → map (blank_of a) new ≡ map (blank_of a) old
      → IsFollowed t a new begun on
  first_kept front same = record {
    strays = [];
    followed = record {
      value = f.followed.value;
      runs = subst (λ l. Runs t l f.followed.value) (ap (of_actor a) (sym front) ∙ sym (append-nil (of_actor a (take begun new)))) made_here;
      off = tt;
    };
    none = ((λ q. refl), (λ q. onto));
    within = (let k = sym (length-map new (blank_of a)) ∙ ap length same ∙ length-map old (blank_of a) in let w = f.within in omega arith);
    last_own = λ n d e. actor_same a old new same n d ∙ f.last_own n d e;
  }

module _ (plan : Plan) (exits : Bool) (r : Recording) (attached : Attached) (main : plan.actor ≡ length r.cpus) where
  -- the whole program, by BEGIN and END
  by_parts : (P : Interaction Outcome → Type 0) → P (main_program plan r attached) → P (actor_program plan exits r attached)
  by_parts P h = subst P (sym (main_is plan exits r attached main)) h

  pub main_strayed : (a : ℕ) (list : List Step) (at : ℕ) (on : Bool) → on ≡ false → IsFollowed (begin_program plan r attached) a list at on
      → IsFollowed (actor_program plan exits r attached) a list at on
  main_strayed a list at on off f = by_parts (λ t. IsFollowed t a list at on) (strayed_first (begin_program plan r attached) _ a list at on off f)

-- what no step of a port changes
abbrev pub fixed_in : Seen → Fixed (ℕ × List Step × List Step)
fixed_in w = record { setting = w.setting; home = (w.from, front_in w, blanks_in w) }

-- BEGIN was followed, and then END by a port that began at its place
module _ (plan : Plan) (exits : Bool) (r : Recording) (attached : Attached) (main : plan.actor ≡ length r.cpus)
    (a : ℕ) (old : List Step) (begun : ℕ) (on : Bool) (f : IsFollowed (begin_program plan r attached) a old begun on) (onto : IsTrue on)
    (setting : Setting) (own : setting.actor ≡ a) (p w : Seen) (is : p ≡ record { setting = setting; list = old; from = begun; at = begun; strays = [] })
    (kept : fixed_in w ≡ fixed_in p) where
  stays : fixed_in w ≡ fixed_in (record { setting = setting; list = old; from = begun; at = begun; strays = [] })
  stays = kept ∙ ap fixed_in is

  actor_is : w.setting.actor ≡ a
  actor_is = ap (λ (z : Fixed (ℕ × List Step × List Step)). z.setting.actor) stays ∙ own

  front : take begun w.list ≡ take begun old
  front = ap (λ n. take n w.list) (sym (ap (λ (z : Fixed (ℕ × List Step × List Step)). z.home.0) stays)) ∙ ap (λ (z : Fixed (ℕ × List Step × List Step)). z.home.1) stays

  pub blanks_stay : map (blank_of a) w.list ≡ map (blank_of a) old
  blanks_stay = subst (λ (z : ℕ × ℕ). map (blank_of z.0) w.list ≡ map (blank_of z.1) old) (λ i. (actor_is i, own i)) (ap (λ (z : Fixed (ℕ × List Step × List Step)). z.home.2) stays)

  pub begin_stays : IsFollowed (begin_program plan r attached) a w.list begun on
  begin_stays = first_kept (begin_program plan r attached) (end_program plan r attached) (λ first last. first) a old w.list begun on f onto front blanks_stay

  pub main_followed : (ended : ℕ) → Whole (end_program plan r attached) (steps_in p) (steps_in w) ended → IsFollowing w → (all : Bool) → IsTrue all ↔ (w.strays ≡ [])
      → IsFollowed (actor_program plan exits r attached) a w.list w.at all
  main_followed ended made follows all none = by_parts plan exits r attached main (λ t. IsFollowed t a w.list w.at all) (record {
    strays = w.strays;
    followed = followed_both (begin_program plan r attached) (end_program plan r attached) (λ first last. record { to_end = true; instructions = first + last }) a old w.list begun on f onto
        w.at w.strays ended from_there (subst (λ b. AreStrays w.strays (of_actor b (drop w.at w.list))) actor_is follows.strays);
    none = none;
    within = follows.within;
    last_own = λ n d e. follows.last_own n d e ∙ actor_is;
  })
    where
      from_there : Whole (end_program plan r attached) (of_actor a (take begun old) ++ []) (of_actor a (take w.at w.list) ++ w.strays) ended
      from_there = subst (λ (z : List Step × List Step). Whole (end_program plan r attached) z.0 z.1 ended)
          (λ i. ((ap steps_in is ∙ ap (λ b. of_actor b (take begun old) ++ []) own) i, ap (λ b. of_actor b (take w.at w.list) ++ w.strays) actor_is i)) made
