-- The runs of bodies, one after the other.
use Rattle.std.proofs.Common.{◌≡◌, ℕ, ◌+◌, ◌<◌, ◌≤◌, List, ◌∷◌, drop, length, get_or, map, sym, ap, ◌∙◌, subst, add_assoc, zero-add, add-zero}
use Rattle.std.specs.Prelude.{All}
use Rattle.std.proofs.lemmas.List.{at_drop_more, at_drop_all}
use Rattle.bt_core.specs.declared.context.Context.{Context}
use Rattle.bt_core.specs.declared.step.Step.{Step}
use Rattle.bt_core.specs.Interaction.{Interaction, and_then, Ended, Left, Whole, Part}
use Rattle.bt_core.proofs.InteractionLaws.{Left-here, Left-and_then, Left-is, Left-Part, Left-Whole, Part-and_then, Whole-Ended, and_then_assoc, and_then-Ended, value_under-Runs}
use Rattle.actor_plan.specs.declared.limits.TheConstants.{RUN_INSTRUCTIONS}
use Rattle.actor_plan.specs.Plans.{Plan, CanRun, IsBodyFor, TakesFew}
use Rattle.actor_plan.specs.Programs.{in_turn}

-- a body that may be run at this context and payload
pub can_run : (plan now : Plan) (which : List ℕ) (i d : ℕ) (context : Context) (payload : List ℕ) → now ≡ plan → i < length which → All (IsBodyFor plan (length payload)) which
    → context.payload_len ≡ length payload → CanRun now (get_or which i d) context payload
can_run plan now which i d context payload same lt known counts =
    let fits = known i d lt in
    subst (λ (p : Plan). CanRun p (get_or which i d) context payload) (sym same) (record { known = fits.0; long = fits.1; counted = counts })

-- a run takes few instructions
pub takes_few : (plan now : Plan) (body : ℕ) (context : Context) (payload : List ℕ) (old new : List Step) (count : ℕ) → now ≡ plan → TakesFew plan → Whole (now.run body context payload) old new count → count ≤ RUN_INSTRUCTIONS
takes_few plan now body context payload old new count same few whole =
    let run = subst (λ (p : Plan). Whole (p.run body context payload) old new count) same whole in
    few body context payload (map (λ (s : Step). s.reply) run.made) count (value_under-Runs (plan.run body context payload) run.made count run.runs)

module _ (run : ℕ → Interaction ℕ) where
  -- the runs of bodies behind others that took so many instructions
  abbrev pub counted : ℕ → List ℕ → Interaction ℕ
  counted total bodies = and_then (in_turn run bodies) (λ rest. Ended (total + rest))

  pub none_yet : (bodies : List ℕ) (old : List Step) → Left (in_turn run bodies) old old (counted 0 bodies)
  none_yet bodies old = Left-is (in_turn run bodies) (in_turn run bodies) (counted 0 bodies) old old (Left-here (in_turn run bodies) old)
      (sym (ap (and_then (in_turn run bodies)) (λ i n. Ended (zero-add n i)) ∙ and_then-Ended (in_turn run bodies)))

  one_more : (total body : ℕ) (bodies : List ℕ) → counted total (body ∷ bodies) ≡ and_then (run body) (λ n. counted (total + n) bodies)
  one_more total body bodies =
      and_then_assoc (run body) (λ n. and_then (in_turn run bodies) (λ m. Ended (n + m))) (λ r. Ended (total + r))
      ∙ ap (and_then (run body)) (λ k n. (and_then_assoc (in_turn run bodies) (λ m. Ended (n + m)) (λ r. Ended (total + r))
      ∙ ap (and_then (in_turn run bodies)) (λ j m. Ended (sym (add_assoc total n m) j))) k)

  module _ (bodies : List ℕ) (i total d : ℕ) (old mid : List Step) (left : Left (in_turn run bodies) old mid (counted total (drop i bodies))) where
    abbrev pub rest : ℕ → Interaction ℕ
    rest n = counted (total + n) (drop (i + 1) bodies)

    next : i < length bodies → Left (in_turn run bodies) old mid (and_then (run (get_or bodies i d)) rest)
    next lt = Left-is (in_turn run bodies) (counted total (drop i bodies)) (and_then (run (get_or bodies i d)) rest) old mid left
        (at_drop_more (counted total) bodies i d lt ∙ one_more total (get_or bodies i d) (drop (i + 1) bodies))

    pub one_body : (now : ℕ → Interaction ℕ) (n : ℕ) (new : List Step) → i < length bodies → now ≡ run → Whole (now (get_or bodies i d)) mid new n → Left (in_turn run bodies) old new (rest n)
    one_body now n new lt same whole =
        Left-and_then (in_turn run bodies) (run (get_or bodies i d)) rest old mid new n (next lt) (subst (λ (r : ℕ → Interaction ℕ). Whole (r (get_or bodies i d)) mid new n) same whole)

    pub body_stops : (now : ℕ → Interaction ℕ) (new : List Step) → i < length bodies → now ≡ run → Part (now (get_or bodies i d)) mid new → Part (in_turn run bodies) old new
    body_stops now new lt same part =
        Left-Part (in_turn run bodies) (and_then (run (get_or bodies i d)) rest) old mid new (next lt)
        (Part-and_then (run (get_or bodies i d)) rest mid new (subst (λ (r : ℕ → Interaction ℕ). Part (r (get_or bodies i d)) mid new) same part))

    pub all_done : length bodies ≤ i → Whole (in_turn run bodies) old mid total
    all_done le = Left-Whole (in_turn run bodies) (counted total (drop i bodies)) old mid mid total left
        (subst (λ t. Whole t mid mid total) (sym (at_drop_all (counted total) bodies i le)) (Whole-Ended (total + 0) total mid (add-zero total)))
