-- Events of two CPUs that are counted, and ticks that print the counts:
--     tracepoint:t:e { @ = count(); } interval:s:1 { print(@); }
-- and the same with `print(@); clear(@);`. Each CPU has events at 0.5 and 1.5 seconds; the ticks stand at 1 and 2 seconds.
use Rattle.std.specs.Prelude.{ℕ, zero, suc, true, false, List, [], ◌∷◌, ◌++◌}
use Rattle.bt_ast.specs.declared.attached.Attached.{Attached}
use Rattle.bt_core.specs.declared.step.Step.{Step}
use Rattle.bt_core.specs.Interaction.{Interaction, Ended}
use Rattle.recordings.specs.declared.recording.Recording.{Recording}
use Rattle.bt_meaning.specs.Replays.{Replay}
use Rattle.meaning_tests.specs.Written.{attached_with, tick_at, cpu_with, recording_of, counts_decl, counts_one, prints, clears, adds, crosses, reads, clears_of, emits}

abbrev pub two_cpus : Recording
two_cpus = recording_of 2000000000 (cpu_with 0 (500000000 ∷ 1500000000 ∷ []) ∷ cpu_with 1 (500000000 ∷ 1500000000 ∷ []) ∷ [])

-- at each event and each tick
abbrev pub two_ticks : Attached
two_ticks = attached_with (tick_at 1 1000000000 ∷ tick_at 1 2000000000 ∷ [])

-- body 0 is run at events and body 1 at ticks, and there are no others
abbrev pub runs_of : Interaction ℕ → Interaction ℕ → ℕ → Interaction ℕ
runs_of at_event at_tick zero = at_event
runs_of at_event at_tick (suc zero) = at_tick
runs_of at_event at_tick (suc (suc body)) = Ended 0

-- the bodies have layouts of these sizes, and a count takes so many instructions
abbrev pub replaying : List ℕ → ℕ → Interaction ℕ → Replay
replaying sizes count at_tick = record {
  recording = two_cpus;
  attached = two_ticks;
  exits = false;
  maps = counts_decl ∷ [];
  plan = λ actor. record {
    actor = actor;
    actors = 3;
    maps = counts_decl ∷ [];
    sizes = sizes;
    run = λ body context payload. runs_of (counts_one actor [] count) at_tick body;
  };
}

abbrev pub printing : Replay
printing = replaying (0 ∷ 0 ∷ []) 5 (prints 3 (Ended 20))

abbrev pub printing_and_clearing : Replay
printing_and_clearing = replaying (0 ∷ 0 ∷ []) 5 (prints 3 (clears 3 30))

-- ---- prints

-- an actor reads the three tables and prints the sum
abbrev pub prints_of : ℕ → ℕ → ℕ → ℕ → List Step
prints_of actor first second sum = reads actor 0 first ∷ reads actor 1 second ∷ reads actor 2 0 ∷ emits actor sum ∷ []

abbrev pub clears_by : ℕ → List Step
clears_by actor = clears_of actor 0 ∷ clears_of actor 1 ∷ clears_of actor 2 ∷ []

-- the second events come behind the first print
abbrev pub first_two : List Step
first_two =
    adds 0 ∷ adds 1 ∷ crosses 0 0 false ∷ crosses 1 0 true ∷ (prints_of 1 1 1 2
    ++ adds 0 ∷ adds 1 ∷ crosses 0 1 false ∷ crosses 1 1 true ∷ prints_of 1 2 2 4)

-- one of them comes before it
abbrev pub first_three : List Step
first_three =
    adds 0 ∷ adds 1 ∷ crosses 0 0 false ∷ adds 0 ∷ crosses 1 0 true ∷ (prints_of 1 2 1 3
    ++ adds 1 ∷ crosses 0 1 false ∷ crosses 1 1 true ∷ prints_of 1 2 2 4)

-- ---- prints and clears

abbrev pub two_and_two : List Step
two_and_two =
    adds 0 ∷ adds 1 ∷ crosses 0 0 false ∷ crosses 1 0 true ∷ (prints_of 1 1 1 2
    ++ (clears_by 1 ++ adds 0 ∷ adds 1 ∷ crosses 0 1 false ∷ crosses 1 1 true ∷ (prints_of 1 1 1 2 ++ clears_by 1)))

abbrev pub three_and_one : List Step
three_and_one =
    adds 0 ∷ adds 1 ∷ crosses 0 0 false ∷ adds 0 ∷ crosses 1 0 true ∷ (prints_of 1 2 1 3
    ++ (clears_by 1 ++ adds 1 ∷ crosses 0 1 false ∷ crosses 1 1 true ∷ (prints_of 1 0 1 1 ++ clears_by 1)))

-- an event is counted between the read of its table and the clear of it, and is lost
abbrev pub two_and_one : List Step
two_and_one =
    adds 0 ∷ adds 1 ∷ crosses 0 0 false ∷ crosses 1 0 true ∷ (prints_of 1 1 1 2
    ++ adds 0 ∷ (clears_by 1 ++ adds 1 ∷ crosses 0 1 false ∷ crosses 1 1 true ∷ (prints_of 1 0 1 1 ++ clears_by 1)))
