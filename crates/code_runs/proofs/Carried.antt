-- Interleavings of the one are interleavings of the other.
use Rattle.std.proofs.Common.{ℕ, ◌<◌, List, ◌++◌, subst}
use Rattle.std.specs.List.{AllByRecursion}
use Rattle.bt_core.specs.declared.step.Reply.{Reply}
use Rattle.bt_core.specs.declared.step.Step.{Step}
use Rattle.bt_core.specs.Steps.{is_of, of_actor}
use Rattle.actor_plan.specs.Plans.{Plan}
use Rattle.bt_core.specs.Same.{SameTo}
use Rattle.bt_meaning.specs.Interleavings.{IsInterleaving, IsReplayed}
use Rattle.bt_meaning.specs.Replays.{Replay, cpus_of, begin_of, cpu_of, end_of}
use Rattle.bt_meaning.proofs.Eachs.{each_front, each_back, each_kept}
use Rattle.code_runs.specs.Agree.{Comes, AskSame}
use Rattle.code_runs.proofs.SameRuns.{HasKind, same_whole}
use Rattle.code_runs.proofs.SamePrograms.{EndAlike}

-- the same with other plans
abbrev pub with_plans : Replay → (ℕ → Plan) → Replay
with_plans p plans = record { recording = p.recording; attached = p.attached; exits = p.exits; maps = p.maps; plan = plans }

module _ (holds : Reply → Type 0) (p : Replay) (one other : ℕ → Plan) where
  -- the programs of all actors ask the same
  pub record SamePrograms : Type 0 where
    pub begin : AskSame holds p.maps (begin_of (with_plans p one)) (begin_of (with_plans p other))
    pub cpus : (cpu : ℕ) → cpu < cpus_of p → SameTo (Comes holds p.maps) EndAlike (cpu_of (with_plans p one) cpu) (cpu_of (with_plans p other) cpu)
    pub end : AskSame holds p.maps (end_of (with_plans p one)) (end_of (with_plans p other))

  module _ (same : SamePrograms) (steps : List Step) (kinds : AllByRecursion (HasKind holds p.maps) steps) where
    module _ (i : IsInterleaving (with_plans p one) steps) where
      pub whole_kinds : AllByRecursion (HasKind holds p.maps) (i.first ++ (i.middle ++ i.last))
      whole_kinds = subst (AllByRecursion (HasKind holds p.maps)) i.parts kinds

      pub rest_kinds : AllByRecursion (HasKind holds p.maps) (i.middle ++ i.last)
      rest_kinds = each_back (HasKind holds p.maps) i.first (i.middle ++ i.last) whole_kinds

      pub middle_kinds : AllByRecursion (HasKind holds p.maps) i.middle
      middle_kinds = each_front (HasKind holds p.maps) i.middle i.last rest_kinds

      abbrev pub carried : IsInterleaving (with_plans p other) steps
      carried = record {
        first = i.first;
        middle = i.middle;
        last = i.last;
        parts = i.parts;
        begin_is_main = i.begin_is_main;
        begin = same_whole holds p.maps (λ a b. Unit {0}) (begin_of (with_plans p one)) (begin_of (with_plans p other)) i.first i.begin.value same.begin
            (each_front (HasKind holds p.maps) i.first (i.middle ++ i.last) whole_kinds) i.begin.runs;
        middle_is_cpus = i.middle_is_cpus;
        each_cpu = λ cpu low. same_whole holds p.maps EndAlike (cpu_of (with_plans p one) cpu) (cpu_of (with_plans p other) cpu) (of_actor cpu i.middle) (i.each_cpu cpu low).value
            (same.cpus cpu low) (each_kept (HasKind holds p.maps) (is_of cpu) i.middle middle_kinds) (i.each_cpu cpu low).runs;
        end_is_main = i.end_is_main;
        end = same_whole holds p.maps (λ a b. Unit {0}) (end_of (with_plans p one)) (end_of (with_plans p other)) i.last i.end.value same.end
            (each_back (HasKind holds p.maps) i.middle i.last rest_kinds) i.end.runs;
        replies = i.replies;
      }

    pub replayed : IsReplayed (with_plans p one) steps → IsReplayed (with_plans p other) steps
    replayed r = record { interleaving = carried r.interleaving; woven = r.woven }
