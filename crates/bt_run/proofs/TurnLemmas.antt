-- From one turn to the next.
use Rattle.std.proofs.Common.{◌≡◌, ℕ, suc, max, ◌+◌, ◌<◌, ◌≤◌, nat_lt, Bool, true, false, cond, List, [], ◌∷◌, ◌++◌, length, replicate, get_or, take, sym, refl, ap, ◌∙◌, subst, arith, eq-eqb}
use Rattle.std.specs.Prelude.{All}
use Rattle.std.proofs.lemmas.List.{take_all, drop_all, get_or-replicate, length-replicate}
use Rattle.bt_core.specs.declared.step.Step.{Step}
use Rattle.bt_core.specs.Kinds.{IsFineDecl}
use Rattle.turn_lock.specs.History.{Each}
use Rattle.bt_core.specs.Steps.{is_of, of_actor, on_object}
use Rattle.weave.specs.Lists.{greatest}
use Rattle.weave.specs.Woven.{begin_steps, main_clock, actor_clock}
use Rattle.weave.proofs.Among.{Has, each_has, each_from, has_middle, has_front, filter_all}
use Rattle.run_objects.specs.declared.objects.Objects.{Objects}
use Rattle.bt_run.specs.declared.port.Turn.{Turn}
use Rattle.run_objects.specs.Worlds.{World}
use Rattle.run_objects.specs.Objects.{Stand}
use Rattle.bt_run.specs.Runs.{IsCpuTurn, IsTurnBy, IsRunOf, first_turn}

all_own : (a : ℕ) (ss : List Step) → Each (λ s. s.actor ≡ a) ss → of_actor a ss ≡ ss
all_own a ss by = filter_all (is_of a) ss (each_from _ ss (λ s h. eq-eqb s.actor a (each_has _ ss s by h)))

filter_least : (a : ℕ) (ss : List Step) → greatest (of_actor a ss) ≤ greatest ss
filter_least a [] = omega arith
filter_least a (s ∷ ss) = with_cond (is_of a s) s (of_actor a ss) (greatest ss) (filter_least a ss)
  where
    with_cond : (b : Bool) (s : Step) (l : List Step) (n : ℕ) → greatest l ≤ n → greatest (cond b (s ∷ l) l) ≤ max s.stamp n
    with_cond true s l n le = omega arith
    with_cond false s l n le = omega arith

both_ways : (b : Bool) (n m : ℕ) → n ≡ m → cond b n m ≡ m
both_ways true n m e = e
both_ways false n m e = refl

module _ (world : World) (objects : Objects) where
  module _ (lasts : List ℕ) (top : ℕ) (steps : List Step) where
    pub run_first : IsRunOf world objects lasts top steps (first_turn world.cpus) → 0 < world.cpus → IsRunOf world objects lasts top steps (record { among = true; begun = length steps; floor = top; actor = 0; start = length steps })
    run_first run some =
        let own : Each (λ s. s.actor ≡ world.cpus) steps = run.turn_is.own in
        let all : of_actor world.cpus steps ≡ steps = all_own world.cpus steps own in
        let here : (before : List Step) (s : Step) (after : List Step) → steps ≡ before ++ s ∷ after → s.actor ≡ world.cpus = λ before s after e. each_has _ steps s own (subst (λ l. Has l s) (sym e) (has_middle before after s)) in
        let ahead : (before : List Step) (s : Step) (after : List Step) → steps ≡ before ++ s ∷ after → of_actor world.cpus before ≡ before = λ before s after e.
        all_own world.cpus before (each_from _ before (λ z h. each_has _ steps z own (subst (λ l. Has l z) (sym e) (has_front before (s ∷ after) z h)))) in
        let clock : (n : ℕ) (before : List Step) (s : Step) (after : List Step) → steps ≡ before ++ s ∷ after → actor_clock world.cpus n steps before s ≡ greatest before = λ n before s after e.
        ap (λ (b : Bool). cond b (main_clock world.cpus n before) (max (greatest (begin_steps world.cpus n steps)) (greatest (of_actor s.actor before)))) (eq-eqb s.actor world.cpus (here before s after e))
        ∙ both_ways (nat_lt (length (of_actor world.cpus before)) n) (greatest (of_actor world.cpus before)) (greatest before) (ap greatest (ahead before s after e)) in record {
          fine = run.fine;
          stand = run.stand;
          possible = run.possible;
          count = run.count;
          lasts_are = run.lasts_are;
          top_is = run.top_is;
          actors = run.actors;
          replies = run.replies;
          stamps = λ before s after e. run.stamps before s after e ∙ ap (λ n. suc (max n (greatest (on_object s.object before)))) (clock 0 before s after e ∙ sym (clock (length steps) before s after e));
          between = λ before s after e ne. absurd (ne (here before s after e));
          turn_is = record {
            start = omega arith;
            own = subst (Each _) (sym (drop_all (length steps) steps (omega arith))) tt;
            by = record { actor = some; floor = run.top_is ∙ ap greatest (sym (ap (take (length steps)) all ∙ take_all (length steps) steps (omega arith))); begun = ap length all };
          };
        }

    pub run_turn : (turn : Turn) (cpu : ℕ) → IsRunOf world objects lasts top steps turn → turn.among ≡ true → cpu < world.cpus → IsRunOf world objects lasts top steps (record { among = turn.among; begun = turn.begun; floor = turn.floor; actor = cpu; start = length steps })
    run_turn turn cpu run among within = let by : IsCpuTurn world.cpus turn steps = subst (λ b. IsTurnBy b world.cpus turn steps) among run.turn_is.by in record {
      fine = run.fine;
      stand = run.stand;
      possible = run.possible;
      count = run.count;
      lasts_are = run.lasts_are;
      top_is = run.top_is;
      actors = run.actors;
      replies = run.replies;
      stamps = run.stamps;
      between = run.between;
      turn_is = record {
        start = omega arith;
        own = subst (Each _) (sym (drop_all (length steps) steps (omega arith))) tt;
        by = subst (λ b. IsTurnBy b world.cpus (record { among = turn.among; begun = turn.begun; floor = turn.floor; actor = cpu; start = length steps }) steps) (sym among) (record { actor = within; floor = by.floor; begun = by.begun });
      };
    }

    pub run_end : (turn : Turn) → IsRunOf world objects lasts top steps turn → turn.among ≡ true → IsRunOf world objects lasts top steps (record { among = false; begun = turn.begun; floor = top; actor = world.cpus; start = length steps })
    run_end turn run among = let by : IsCpuTurn world.cpus turn steps = subst (λ b. IsTurnBy b world.cpus turn steps) among run.turn_is.by in
        let least = filter_least world.cpus steps in let t = run.top_is in let b = by.begun in record {
          fine = run.fine;
          stand = run.stand;
          possible = run.possible;
          count = run.count;
          lasts_are = run.lasts_are;
          top_is = run.top_is;
          actors = run.actors;
          replies = run.replies;
          stamps = run.stamps;
          between = run.between;
          turn_is = record {
            start = omega arith;
            own = subst (Each _) (sym (drop_all (length steps) steps (omega arith))) tt;
            by = record { actor = refl; floor = omega arith; begun = omega arith };
          };
        }

-- ---- a run that begins

none : (before : List Step) (s : Step) (after : List Step) → [] ≡ before ++ s ∷ after → ⊥
none [] s after e = let n : 0 ≡ suc (length after) = ap length e in absurd (omega arith)
none (b ∷ before) s after e = let n : 0 ≡ suc (length (before ++ s ∷ after)) = ap length e in absurd (omega arith)

pub new_run : (w : World) (objects : Objects) (lasts : List ℕ) → All IsFineDecl w.maps → Stand w [] objects → lasts ≡ replicate (w.cpus + 1) 0
    → IsRunOf w objects lasts 0 [] (first_turn w.cpus)
new_run w objects lasts fine stand zeros = record {
  fine = fine;
  stand = stand;
  possible = tt;
  count = ap length zeros ∙ length-replicate (w.cpus + 1) 0;
  lasts_are = λ a d lt.
      let long : length lasts ≡ w.cpus + 1 = ap length zeros ∙ length-replicate (w.cpus + 1) 0 in
      ap (λ (l : List ℕ). get_or l a d) zeros ∙ get_or-replicate (w.cpus + 1) a 0 d (omega arith);
  top_is = refl;
  actors = tt;
  replies = λ before s after e. absurd (none before s after e);
  stamps = λ before s after e. absurd (none before s after e);
  between = λ before s after e. absurd (none before s after e);
  turn_is = record { start = omega arith; own = tt; by = record { actor = refl; floor = refl; begun = omega arith } };
}
