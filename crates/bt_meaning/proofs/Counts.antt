-- The instructions that a list took are those of its actors.
use Rattle.std.proofs.Common.{◌≡◌, ℕ, ◌+◌, ◌<◌, nat_lt, Bool, true, false, if◌then◌else◌, List, [], ◌++◌, map, refl, ap, ◌∙◌, subst, arith, append-nil}
use Rattle.std.proofs.lemmas.List.{take-append-drop}
use Rattle.bt_core.specs.declared.step.Step.{Step}
use Rattle.bt_core.specs.Interaction.{Interaction, Ended, and_then, Runs, value_under}
use Rattle.bt_core.specs.Steps.{of_actor}
use Rattle.bt_core.proofs.InteractionLaws.{Runs-and_then, value_under-Runs}
use Rattle.weave.specs.Woven.{begin_steps, end_steps}
use Rattle.weave.proofs.Less.{is_less, not_less}
use Rattle.actor_plan.specs.declared.outcome.Outcome.{Outcome}
use Rattle.actor_plan.specs.Programs.{actor_program, main_program}
use Rattle.bt_meaning.specs.Instructions.{actor_instructions, outcome_count, reply_of}
use Rattle.bt_meaning.specs.Replays.{PlansAreOwn, Replay, begin_of, cpu_of, cpus_of, end_of}
use Rattle.bt_meaning.proofs.ThreeParts.{HasLimits}

module _ (p : Replay) (own : PlansAreOwn p) (begun : ℕ) (steps : List Step) (has : HasLimits p begun steps) where
  abbrev n : ℕ
  n = cpus_of p

  abbrev under : Interaction Outcome → ℕ → ℕ
  under t actor = outcome_count (value_under t (map reply_of (of_actor actor steps)))

  program_by : (actor : ℕ) (b : Bool) → nat_lt actor n ≡ b
      → actor_instructions p steps actor ≡ under (if b then cpu_of p actor else main_program (p.plan actor) p.recording p.attached) actor
  unfolding actor_program
  program_by actor b e = ap (λ (t : Bool). under (if t then cpu_of p actor else main_program (p.plan actor) p.recording p.attached) actor)
      (ap (λ (a : ℕ). nat_lt a n) (own actor) ∙ e)

  -- a CPU's
  pub cpu_count : (cpu : ℕ) (lt : cpu < n) → actor_instructions p steps cpu ≡ (has.each_cpu cpu lt).value.instructions
  cpu_count cpu lt = let w = has.each_cpu cpu lt in
      program_by cpu true (is_less cpu n lt) ∙ ap outcome_count (value_under-Runs (cpu_of p cpu) (of_actor cpu steps) w.value w.runs)

  -- the main actor's: those of BEGIN and of END
  pub main_count : actor_instructions p steps n ≡ has.begin.value + has.end.value
  main_count =
      let value : Outcome = record { to_end = true; instructions = has.begin.value + has.end.value } in
      let first = begin_steps n begun steps in
      let last = end_steps n begun steps in
      let rest : Runs (and_then (end_of p) (λ ended. Ended (record { to_end = true; instructions = has.begin.value + ended }))) (last ++ []) value =
      Runs-and_then (end_of p) (λ ended. Ended (record { to_end = true; instructions = has.begin.value + ended })) last [] has.end.value value has.end.runs refl in
      let whole : Runs (main_program (p.plan n) p.recording p.attached) (first ++ (last ++ [])) value =
      Runs-and_then (begin_of p) (λ count. and_then (end_of p) (λ ended. Ended (record { to_end = true; instructions = count + ended })))
      first (last ++ []) has.begin.value value has.begin.runs rest in
      let all : first ++ (last ++ []) ≡ of_actor n steps = ap (λ l. first ++ l) (append-nil last) ∙ take-append-drop begun (of_actor n steps) in
      program_by n false (not_less n n (omega arith))
      ∙ ap outcome_count (value_under-Runs (main_program (p.plan n) p.recording p.attached) (of_actor n steps) value
      (subst (λ (l : List Step). Runs (main_program (p.plan n) p.recording p.attached) l value) all whole))
