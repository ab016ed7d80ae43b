-- Runs on one thread: an exit at a tick, an exit behind a count, and the CPU that runs a tick.
use Rattle.std.specs.Prelude.{ℕ, ℤ, ◌==◌, ◌+ℤ◌, pos, if◌then◌else◌, Bool, true, false, List, [], ◌∷◌, codes}
use Rattle.std.specs.Ordering.{int_eq}
use Rattle.bt_core.specs.declared.item.Item.TheVariants.{Printf}
use Rattle.bt_core.specs.declared.map.AggKind.TheVariants.{Count}
use Rattle.bt_core.specs.declared.map.MapDecl.{MapDecl}
use Rattle.bt_core.specs.declared.map.MapKind.TheVariants.{Aggs, Ints}
use Rattle.bt_core.specs.declared.map.Shape.TheVariants as shapes
use Rattle.bt_core.specs.declared.step.ObjectId.TheVariants.{Shared, Clock, Cpu, Out}
use Rattle.bt_core.specs.declared.step.Op.TheVariants.{Add, Get, Set, Check, Stop, Emit}
use Rattle.bt_core.specs.declared.step.Reply.{Reply}
use Rattle.bt_core.specs.declared.step.Reply.TheVariants.{Done, Stopped, Value}
use Rattle.bt_core.specs.declared.step.Step.{Step}
use Rattle.bt_core.specs.declared.value.Value.TheVariants.{Int}
use Rattle.bt_core.specs.Interaction.{Interaction, Ended, Asks}
use Rattle.bt_meaning.specs.Replays.{Replay}
use Rattle.meaning_tests.specs.Written.{attached_with, tick_at, cpu_with, recording_of, counts, counts_decl, counts_one, step, adds, crosses, stops}

abbrev pub checks : ℕ → Bool → Step
checks actor stopped = step actor Clock Check (Stopped stopped)

-- ---- tracepoint:t:e { @ = count(); } interval:s:1 { exit(); }
-- with events of one CPU at 0.5 and 1.5 seconds, and ticks at 1 to 5 seconds

abbrev pub stopped_by_tick : Replay
stopped_by_tick = record {
  recording = recording_of 5000000000 (cpu_with 0 (500000000 ∷ 1500000000 ∷ []) ∷ []);
  attached = attached_with (tick_at 1 1000000000 ∷ tick_at 1 2000000000 ∷ tick_at 1 3000000000 ∷ tick_at 1 4000000000 ∷ tick_at 1 5000000000 ∷ []);
  exits = true;
  maps = counts_decl ∷ [];
  plan = λ actor. record {
    actor = actor;
    actors = 2;
    maps = counts_decl ∷ [];
    sizes = 0 ∷ 0 ∷ [];
    run = λ body context payload. if body == 0 then counts_one actor [] 5 else stops 7;
  };
}

-- the second event is not taken any more
abbrev pub until_tick : List Step
until_tick = checks 0 false ∷ adds 0 ∷ checks 0 false ∷ crosses 0 0 true ∷ step 0 Clock Stop Done ∷ checks 0 true ∷ []

-- ---- tracepoint:t:e { @n = count(); @i++; if (@i == 2) { exit(); } } END { printf("bye\n"); }
-- with five events of one CPU; @n is the first map, and @i the second

abbrev pub n_and_i : List MapDecl
n_and_i =
    record { name = codes "@n"; kind = Aggs Count; key_shape = [] } ∷ record { name = codes "@i"; kind = Ints; key_shape = [] } ∷ []

abbrev pub number_in : Reply → ℤ
number_in (Value (Int n)) = n
number_in reply = pos 0

abbrev pub gets : (ℤ → Interaction ℕ) → Interaction ℕ
gets rest = Asks (record { object = Shared (record { 0 = 1 }) 0; op = Get [] }) (λ reply. rest (number_in reply))

abbrev pub sets : ℤ → Interaction ℕ → Interaction ℕ
sets n rest = Asks (record { object = Shared (record { 0 = 1 }) 0; op = Set [] (Int n) }) (λ reply. rest)

abbrev pub counts_to_two : ℕ → Interaction ℕ
counts_to_two actor = Asks (record { object = Cpu actor; op = Add counts [] (pos 1) })
    (λ reply. gets (λ n. sets (n +ℤ pos 1) (gets (λ m. if int_eq m (pos 2) then stops 7 else Ended 7))))

abbrev pub says_bye : Interaction ℕ
says_bye = Asks (record { object = Out; op = Emit (Printf 0 []) }) (λ reply. Ended 2)

abbrev pub stopped_by_count : Replay
stopped_by_count = record {
  recording = recording_of 2000000000 (cpu_with 0 (1 ∷ 2 ∷ 3 ∷ 4 ∷ 5 ∷ []) ∷ []);
  attached = record { bodies = []; by_format = (0 ∷ []) ∷ []; ticks = []; begin = []; end = 1 ∷ [] };
  exits = true;
  maps = n_and_i;
  plan = λ actor. record {
    actor = actor;
    actors = 2;
    maps = n_and_i;
    sizes = 0 ∷ 0 ∷ [];
    run = λ body context payload. if body == 0 then counts_to_two actor else says_bye;
  };
}

abbrev pub get : ℤ → Step
get n = step 0 (Shared (record { 0 = 1 }) 0) (Get []) (Value (Int n))

abbrev pub set : ℤ → Step
set n = step 0 (Shared (record { 0 = 1 }) 0) (Set [] (Int n)) Done

abbrev pub until_count : List Step
until_count =
    checks 0 false ∷ adds 0 ∷ get (pos 0) ∷ set (pos 1) ∷ get (pos 1)
    ∷ checks 0 false ∷ adds 0 ∷ get (pos 1) ∷ set (pos 2) ∷ get (pos 2) ∷ step 0 Clock Stop Done
    ∷ checks 0 true ∷ step 1 Out (Emit (Printf 0 [])) Done ∷ []

-- ---- interval:s:1 { @[cpu] = count(); }
-- with two CPUs that have no events, whose numbers are 4 and 9, and ticks at 1 and 2 seconds

abbrev pub by_cpu_decl : MapDecl
by_cpu_decl = record { name = codes "@"; kind = Aggs Count; key_shape = shapes.Int ∷ [] }

abbrev pub counted_by_cpu : Replay
counted_by_cpu = record {
  recording = recording_of 2000000000 (cpu_with 4 [] ∷ cpu_with 9 [] ∷ []);
  attached = attached_with (tick_at 0 1000000000 ∷ tick_at 0 2000000000 ∷ []);
  exits = false;
  maps = by_cpu_decl ∷ [];
  plan = λ actor. record {
    actor = actor;
    actors = 3;
    maps = by_cpu_decl ∷ [];
    sizes = 0 ∷ [];
    run = λ body context payload. counts_one actor (Int (pos context.cpu) ∷ []) 5;
  };
}

-- the second CPU is always the last
abbrev pub by_second : List Step
by_second =
    crosses 0 0 false ∷ crosses 1 0 true ∷ step 1 (Cpu 1) (Add counts (Int (pos 9) ∷ []) (pos 1)) Done
    ∷ crosses 0 1 false ∷ crosses 1 1 true ∷ step 1 (Cpu 1) (Add counts (Int (pos 9) ∷ []) (pos 1)) Done ∷ []
