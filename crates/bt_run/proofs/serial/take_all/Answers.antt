use Rattle.std.proofs.Common.{◌≡◌, ℕ, ◌+◌, ◌∙◌, Bool, true, List, [], ◌∷◌, Option, Some, None, length, map, refl, sym, ap, arith}
use Rattle.std.specs.Prelude.{replicate, MatchOption}
use Rattle.std.proofs.lemmas.Option.{MatchOption-at_some, MatchOption-at_none}
use Rattle.std.proofs.lemmas.List.{length-replicate}
use Rattle.bt_meaning.specs.declared.schedule.Scheduled.{Scheduled}
use Rattle.bt_meaning.specs.Serial.{taken, unstamped}
use Rattle.run_output.specs.Jobs.{cpus_in, plans_by, replay_with}
use Rattle.bt_run.specs.Counts.{taken_count}
use Rattle.bt_run.proofs.TakeLemmas.{loop_steps, loop_counts}
use Rattle.bt_run.proofs.serial.take_all.Goals as goal

none_yet : (m n : ℕ) → m ≡ n → 0 + m ≡ n
none_yet m n e = omega arith

none_left : (t c all : ℕ) → c ≡ 0 → t + c ≡ all → t ≡ all
none_left t c all z e = omega arith

-- what a schedule gave
abbrev Gave : Option Scheduled → List Scheduled → List Scheduled → Type 0
Gave next old new = MatchOption next ((old ≡ []) × (new ≡ [])) (λ item. old ≡ item ∷ new)

came : (next : Option Scheduled) (old new : List Scheduled) (item : Scheduled) → next ≡ Some item → Gave next old new → old ≡ item ∷ new
came next old new item is gave = MatchOption-at_some ((old ≡ []) × (new ≡ [])) (λ item. old ≡ item ∷ new) item is gave

none_came : (next : Option Scheduled) (old new : List Scheduled) → next ≡ None → Gave next old new → old ≡ []
none_came next old new is gave = (MatchOption-at_none ((old ≡ []) × (new ≡ [])) (λ item. old ≡ item ∷ new) is gave).0

pub loop-item-init : goal.loop-item-init
loop-item-init c =
    let P = replay_with c.args.job.now (plans_by c.args.job.now c.args.codes.now) in
    let all : c.in_ok-going.going.items ≡ replicate (cpus_in c.args.job.now) true =
    c.in_ok-going.ensures.items_if_clones_equal (λ y h. h) ∙ ap (λ (n : ℕ). replicate n true) c.len.ensures in
    record {
      left = ap (λ (g : List Bool). taken P c.args.schedule.now g (map unstamped c.args.port.now.steps)) all;
      counted = none_yet _ _ (ap (λ (g : List Bool). taken_count P c.args.schedule.now g (map unstamped c.args.port.now.steps)) all);
      long = ap length all ∙ length-replicate (cpus_in c.args.job.now) true;
      world = c.requires.world;
      among = c.requires.among;
      begun = refl;
    }

pub take_next-requires-clause-can : goal.take_next-requires-clause-can
take_next-requires-clause-can c = c.requires.can

pub take_next-requires-clause-can_run : goal.take_next-requires-clause-can_run
take_next-requires-clause-can_run c = c.requires.can_run

pub take_next-requires-clause-among : goal.take_next-requires-clause-among
take_next-requires-clause-among c = c.loop-item.invariant.among

pub take_next-requires-clause-world : goal.take_next-requires-clause-world
take_next-requires-clause-world c = c.loop-item.invariant.world

pub take_next-requires-clause-long : goal.take_next-requires-clause-long
take_next-requires-clause-long c = c.loop-item.invariant.long

pub returns-clause-serial : goal.returns-clause-serial
returns-clause-serial c =
    let P = replay_with c.args.job.now (plans_by c.args.job.now c.args.codes.now) in
    sym c.loop-item.invariant.left
    ∙ ap (λ (l : List Scheduled). taken P l c.loop-item.going.items (map unstamped c.loop-item.port.steps)) (none_came _ c.loop-item.schedule c.next.new.self c.in_default.is c.next.ensures)

pub returns-clause-counted : goal.returns-clause-counted
returns-clause-counted c =
    let P = replay_with c.args.job.now (plans_by c.args.job.now c.args.codes.now) in
    none_left c.loop-item.total _ _
    (ap (λ (l : List Scheduled). taken_count P l c.loop-item.going.items (map unstamped c.loop-item.port.steps)) (none_came _ c.loop-item.schedule c.next.new.self c.in_default.is c.next.ensures)) c.loop-item.invariant.counted

pub returns-clause-world : goal.returns-clause-world
returns-clause-world c = c.loop-item.invariant.world

pub returns-clause-among : goal.returns-clause-among
returns-clause-among c = c.loop-item.invariant.among

pub returns-clause-begun : goal.returns-clause-begun
returns-clause-begun c = c.loop-item.invariant.begun

pub loop-item-smaller : goal.loop-item-smaller
loop-item-smaller c = let e = ap length (came _ c.loop-item.schedule c.next.new.self c.in-Some.item c.in-Some.is c.next.ensures) in omega (arith, e)

pub loop-item-preserved : goal.loop-item-preserved
loop-item-preserved c = let i = c.loop-item.invariant in let t = c.in_ok-count.ensures in
    record {
      left = loop_steps c.args.job.now (plans_by c.args.job.now c.args.codes.now) c.loop-item.schedule c.next.new.self c.in-Some.item c.in_ok-count.count c.loop-item.going.items _ (map unstamped c.loop-item.port.steps) _ _ (came _ c.loop-item.schedule c.next.new.self c.in-Some.item c.in-Some.is c.next.ensures) t.next i.left;
      counted = loop_counts c.args.job.now (plans_by c.args.job.now c.args.codes.now) c.loop-item.schedule c.next.new.self c.in-Some.item c.in_ok-count.count c.loop-item.total _ c.loop-item.going.items _ (map unstamped c.loop-item.port.steps) _ _ (came _ c.loop-item.schedule c.next.new.self c.in-Some.item c.in-Some.is c.next.ensures) t.next c.in_ok-total.ensures.both i.counted;
      long = t.long;
      world = t.world;
      among = t.among;
      begun = t.begun ∙ i.begun;
    }
